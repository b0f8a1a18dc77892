-- A call at an end, by the definition of that call, and the deed that it is.
-- Assumes nothing.
use Rattle.std.specs.Prelude.{◌≡◌, ℕ, List, length, Option, Result}
use Rattle.calls.specs.declared.fault.LinkFault.{LinkFault}
use Rattle.calls.specs.declared.types.Label.{Label}
use Rattle.calls.specs.declared.types.Outcome.{Outcome}
use Rattle.calls.specs.declared.types.Ticked.{Ticked}
use Rattle.calls.specs.declared.types.Heard.{Heard}
use Rattle.calls.specs.declared.call.Call.{Call}
use Rattle.calls.specs.declared.call.Call.TheVariants as call
use Rattle.calls.specs.declared.call.Answer.{Answer}
use Rattle.calls.specs.declared.call.Answer.TheVariants as answer
use Rattle.ends.specs.Model.{Ways, Model}
use Rattle.ends.specs.Calls.{Submits, Withdraws, Ticks, Hears, Collects, Tells}
use Rattle.runs.specs.Links.{Put, Place, Strings, Deed, submit, withdraw, tick, hear, collect, outcome}

-- what a call answers and leaves, each by its own definition: the end, the path that it puts on, the one that it hears, and a buffer
abbrev pub Served : {V U : Type 0} → (V → List ℕ → V → Type 0) → (U → Option (List ℕ) → U → Type 0) → Ways →
    Model → V → U → List ℕ → Call → Answer → Model → V → U → List ℕ → Type 0
Served puts takes w m v u b (call.Submit l t) a m' v' u' b' =
    (r : Result ℕ LinkFault) × (a ≡ answer.Submit r) × (length l.0 ≡ 2) × Submits w m l t.now r m' × (v' ≡ v) × (u' ≡ u) × (b' ≡ b)
Served puts takes w m v u b (call.Withdraw n) a m' v' u' b' =
    (r : Result (Unit {0}) LinkFault) × (a ≡ answer.Withdraw r) × Withdraws w m n r m' × (v' ≡ v) × (u' ≡ u) × (b' ≡ b)
Served puts takes w m v u b (call.Tick time draw) a m' v' u' b' =
    (r : Result Ticked LinkFault) × (a ≡ answer.Tick r) × Ticks puts w m time draw r m' v v' × (u' ≡ u) × (b' ≡ b)
Served puts takes w m v u b call.Hear a m' v' u' b' =
    (r : Result Heard LinkFault) × (a ≡ answer.Hear r) × Hears takes w m r m' u u' × (v' ≡ v) × (b' ≡ b)
Served puts takes w m v u b call.Collect a m' v' u' b' =
    (r : Result (Label × ℕ) LinkFault) × (a ≡ answer.Collect r) × Collects m b r m' b' × (v' ≡ v) × (u' ≡ u)
Served puts takes w m v u b call.Outcome a m' v' u' b' =
    (r : Result (ℕ × Outcome) LinkFault) × (a ≡ answer.Outcome r) × Tells m r m' × (v' ≡ v) × (u' ≡ u) × (b' ≡ b)

-- a deed is this call with this answer, and, where it collects, this buffer before and after
abbrev pub IsDeed : Call → Answer → List ℕ → List ℕ → Deed → Type 0
IsDeed (call.Submit l t) a b b' d = (r : Result ℕ LinkFault) × (a ≡ answer.Submit r) × (d ≡ submit l t.now r)
IsDeed (call.Withdraw n) a b b' d = (r : Result (Unit {0}) LinkFault) × (a ≡ answer.Withdraw r) × (d ≡ withdraw n r)
IsDeed (call.Tick time draw) a b b' d =
    (r : Result Ticked LinkFault) × (p : Put) × (k : Option Place) × (a ≡ answer.Tick r) × (d ≡ tick time draw r p k)
IsDeed call.Hear a b b' d =
    (r : Result Heard LinkFault) × (dropped : Strings) × (x : Option (List ℕ)) × (k : Option Place) × (a ≡ answer.Hear r) × (d ≡ hear r dropped x k)
IsDeed call.Collect a b b' d = (r : Result (Label × ℕ) LinkFault) × (a ≡ answer.Collect r) × (d ≡ collect b r b')
IsDeed call.Outcome a b b' d = (r : Result (ℕ × Outcome) LinkFault) × (a ≡ answer.Outcome r) × (d ≡ outcome r)
