-- What was added so far.
use Rattle.std.proofs.Common.{◌≡◌, ◌++◌, map, take}
use Rattle.octets.specs.Parity.{character}
use Rattle.answers.specs.Room.{cut}
use Rattle.answers.proofs.answer.AnswerLine.add_characters.Given as goal

abbrev pub invariant-loop-octet : goal.invariant-loop-octet
invariant-loop-octet g l = l.self ≡ cut (l.initial.self ++ map character (take l.octet-index l.octets))
