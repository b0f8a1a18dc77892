use Rattle.std.proofs.Common.{arith}
use Rattle.std.proofs.lemmas.List.Sums.{prefix_len-le-length}
use Rattle.lines.proofs.character.suffix_at.Goals as goal

pub returns : goal.returns
returns c = grind (arith, prefix_len-le-length)
