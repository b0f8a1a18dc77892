use Rattle.runs.proofs.Progressing.{progress_lem}
use Rattle.runs.proofs.progress_stands.Goals as goal

pub returns : goal.returns
returns c = progress_lem
