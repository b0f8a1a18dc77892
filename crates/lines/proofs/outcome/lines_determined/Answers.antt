use Rattle.lines.proofs.Functions.{lines_determined_lem}
use Rattle.lines.proofs.outcome.lines_determined.Goals as goal

pub returns : goal.returns
returns c = lines_determined_lem
