use Rattle.std.proofs.Common.{◌≡◌, ◌++◌, map, take}
use Rattle.writing.specs.Laying.{laid_octet}
use Rattle.writing.proofs.laying.lay.Given as goal

abbrev pub invariant-loop-character : goal.invariant-loop-character
invariant-loop-character l = l.string.items ≡ l.initial.string.items ++ map laid_octet (take l.character-index l.part)
