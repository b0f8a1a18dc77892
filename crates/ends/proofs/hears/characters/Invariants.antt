use Rattle.std.proofs.Common.{◌≡◌, map, take}
use Rattle.octets.specs.Parity.{character}
use Rattle.ends.proofs.hears.characters.Given as goal

abbrev pub invariant-loop-octet : goal.invariant-loop-octet
invariant-loop-octet l = l.characters.items ≡ map character (take l.octet-index l.fn.octets)
