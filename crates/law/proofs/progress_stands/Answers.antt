use Rattle.law.proofs.ProgressRounds.{progress}
use Rattle.law.proofs.Truths.{refusals_never}
use Rattle.law.proofs.progress_stands.Goals as goal

pub returns : goal.returns
returns c = progress refusals_never
