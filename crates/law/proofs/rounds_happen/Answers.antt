use Rattle.law.proofs.Witnesses.{rounds_happen_lem}
use Rattle.law.proofs.rounds_happen.Goals as goal

pub returns : goal.returns
returns c = rounds_happen_lem
