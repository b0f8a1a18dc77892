use Rattle.directions.proofs.Rounds.{facts}
use Rattle.directions.proofs.rings_stand.Goals as goal

pub returns-clause-facts : goal.returns-clause-facts
returns-clause-facts c = facts
