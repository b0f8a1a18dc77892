use Rattle.directions.proofs.Rounds.{never_joined}
use Rattle.directions.proofs.first_blocks_stay_apart.Goals as goal

pub returns : goal.returns
returns c = never_joined
