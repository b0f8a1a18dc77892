use Rattle.std.proofs.Common.{◌≡◌, ℕ, true, List, Ok, Err, Option, Result, refl, rules}
use Rattle.std.specs.Prelude.{is_ok}
use Rattle.paths.specs.declared.fault.PathFault.{PathFault}
use Rattle.paths.specs.Meaning.{Takes}
use Rattle.paths.specs.Draining.{Handing, started, handed}
use Rattle.paths.proofs.emptying.drain.Goals as goal

-- One string more.
one_more : {V : Type 0} (takes : V → Option (List ℕ) → V → Type 0) (u v w : V) (b b' : List ℕ) (r : Result ℕ PathFault) → is_ok r ≡ true → Handing takes u v → Takes takes v b w b' r → Handing takes u w
one_more takes u v w b b' (Ok n) e h t = handed h t.taken
one_more takes u v w b b' (Err f) e h t = cc

pub loop-buffer-init : goal.loop-buffer-init
loop-buffer-init g c = (refl, started)

pub loop-buffer-preserved : goal.loop-buffer-preserved
loop-buffer-preserved g c = (search rules, one_more g.P.AirPath.takes _ _ _ _ _ c.take.result (search rules) c.loop-buffer.invariant.1 c.take.ensures.exact)
