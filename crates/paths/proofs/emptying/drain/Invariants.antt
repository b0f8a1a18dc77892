use Rattle.std.proofs.Common.{◌≡◌, length}
use Rattle.paths.specs.Draining.{Handing}
use Rattle.paths.proofs.emptying.drain.Given as goal

abbrev pub invariant-loop-buffer : goal.invariant-loop-buffer
invariant-loop-buffer g l = (length l.buffer ≡ 256) × Handing g.P.AirPath.takes (g.P.AirPath.sees l.initial.path) (g.P.AirPath.sees l.path)

abbrev pub decreases-loop-buffer : goal.decreases-loop-buffer
decreases-loop-buffer g l = length (g.P.AirPath.strings (g.P.AirPath.sees l.path))
