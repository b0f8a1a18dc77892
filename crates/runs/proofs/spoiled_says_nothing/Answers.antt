use Rattle.runs.proofs.Spoils.{spoiled_says_nothing_lem}
use Rattle.runs.proofs.spoiled_says_nothing.Goals as goal

pub returns : goal.returns
returns c = spoiled_says_nothing_lem
