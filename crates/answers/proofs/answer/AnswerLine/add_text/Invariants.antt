-- What was added so far.
use Rattle.std.proofs.Common.{◌≡◌, ◌++◌, map, take}
use Rattle.std.specs.List.{flat_map}
use Rattle.octets.specs.Parity.{character}
use Rattle.answers.specs.Printed.{escaped}
use Rattle.answers.specs.Room.{cut}
use Rattle.answers.proofs.answer.AnswerLine.add_text.Given as goal

abbrev pub invariant-loop-octet : goal.invariant-loop-octet
invariant-loop-octet l = l.self ≡ cut (l.initial.self ++ flat_map escaped (map character (take l.octet-index l.text)))
