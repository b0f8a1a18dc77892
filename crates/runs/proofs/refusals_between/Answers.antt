use Rattle.runs.proofs.Refusing.{refusals_between_lem}
use Rattle.runs.proofs.refusals_between.Goals as goal

pub returns : goal.returns
returns c = refusals_between_lem
