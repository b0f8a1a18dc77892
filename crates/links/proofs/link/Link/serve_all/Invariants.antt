use Rattle.std.proofs.Common.{map, ◌≡◌, List, length, ◌++◌, take}
use Rattle.calls.specs.declared.call.Answer.{Answer}
use Rattle.links.specs.Links.{sight, ServedAt}
use Rattle.links.specs.Turns.{InTurn, some_of}
use Rattle.links.proofs.link.Link.serve_all.Given as goal

abbrev pub invariant-loop-request : goal.invariant-loop-request
invariant-loop-request g l =
    (ys : List Answer) × (l.answers.items ≡ l.initial.answers.items ++ map some_of ys) × (length ys ≡ l.request-index) ×
    InTurn (ServedAt g.P.AirPath.strings g.Q.AirPath.strings g.P.AirPath.puts g.P.AirPath.takes g.Q.AirPath.puts g.Q.AirPath.takes)
    (sight g.P.AirPath.sees g.Q.AirPath.sees l.initial.self) l.initial.buffer (take l.request-index l.requests) ys (sight g.P.AirPath.sees g.Q.AirPath.sees l.self) l.buffer
