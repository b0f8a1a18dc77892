use Rattle.law.proofs.Truths.{refusals_never}
use Rattle.law.proofs.refusals_never_arise.Goals as goal

pub returns : goal.returns
returns c = refusals_never
