-- A call served is a step of a run. Assumes nothing.
use Rattle.std.proofs.Common.{◌≡◌, ℕ, List, Ok, Err, Option, Some, None, Result, refl, sym, ap, subst, inl, inr}
use Rattle.calls.specs.declared.fault.LinkFault.{LinkFault}
use Rattle.calls.specs.declared.types.Heard.{Heard}
use Rattle.calls.specs.declared.types.Ticked.{Ticked}
use Rattle.calls.specs.declared.types.Ticked.TheVariants as ticked
use Rattle.calls.specs.declared.call.Side.{Side}
use Rattle.calls.specs.declared.call.Side.TheVariants.{Aircraft, Ground}
use Rattle.calls.specs.declared.call.Call.{Call}
use Rattle.calls.specs.declared.call.Call.TheVariants as call
use Rattle.calls.specs.declared.call.Answer.{Answer}
use Rattle.ends.specs.declared.types.Plan.{Plan}
use Rattle.ends.specs.declared.types.Plan.TheVariants as plan
use Rattle.ends.specs.Model.{Ways, Model}
use Rattle.ends.specs.Sending.{plan_of}
use Rattle.ends.specs.Calls.{PutsBoth, TakesBoth, Ticks, Sends, BlockPut, ResponsePut, Hears}
use Rattle.law.specs.Links as law
use Rattle.runs.specs.Links.{ways_of, Strings, Put, unput, put, Adds, Answers, Takes, Deed, submit, withdraw, tick, hear, collect, outcome, block_put, acknowledged, Serves, submits, withdraws, ticks, hears, collects, tells, at, link, Step, at_air, at_ground}
use Rattle.links.specs.Served.{Served, IsDeed}
use Rattle.links.specs.Links.{Sight, seen, Steps, ServedAt}

module _ {V : Type 0} (strings : V → List (List ℕ)) (puts : V → List ℕ → V → Type 0) (w : Ways) (m m' : Model) (v v' : V) where
  -- a put, of the strings that wait
  added : (s : List ℕ) → PutsBoth strings puts v s v' → (p : Put) × Adds p (strings v) s (strings v')
  added s h = (put s h.1.copies, (refl, h.1.joined, h.1.each))

  block_added : (i a identifier : ℕ) → BlockPut (PutsBoth strings puts) w m i a identifier v v' → (p : Put) × BlockPut (Adds p) w m i a identifier (strings v) (strings v')
  block_added i a identifier h = let x = added _ h.put in (x.0, record { cell = h.cell; there = h.there; sound = h.sound; put = x.1 })

  response_added : ResponsePut (PutsBoth strings puts) w m v v' → (p : Put) × ResponsePut (Adds p) w m (strings v) (strings v')
  response_added h = let x = added _ h.put in (x.0, record { sound = h.sound; put = x.1 })

  answers_block : (p : Put) (r : Ticked) → r ≡ ticked.Block → Answers (Ok r) p
  answers_block p r e = subst (λ (y : Ticked). Answers (Ok y) p) (sym e) tt

  answers_response : (p : Put) (r : Ticked) → r ≡ ticked.Response → Answers (Ok r) p
  answers_response p r e = subst (λ (y : Ticked). Answers (Ok y) p) (sym e) tt

  answers_nothing : (r : Ticked) → r ≡ ticked.Nothing → Answers (Ok r) unput
  answers_nothing r e = subst (λ (y : Ticked). Answers (Ok y) unput) (sym e) refl

  sends_seen : (time draw : ℕ) (r : Ticked) (p : Plan) → Sends (PutsBoth strings puts) w m p time draw r m' v v' →
      (q : Put) × Sends (Adds q) w m p time draw r m' (strings v) (strings v') × Answers (Ok r) q
  sends_seen time draw r (plan.Fresh b) h = let x = block_added _ _ _ h.1 in (x.0, (h.0, x.1, h.2), answers_block x.0 r h.0)
  sends_seen time draw r (plan.Again b) h = let x = block_added _ _ _ h.1 in (x.0, (h.0, x.1, h.2), answers_block x.0 r h.0)
  sends_seen time draw r plan.Response h = let x = response_added h.1 in (x.0, (h.0, x.1, h.2), answers_response x.0 r h.0)
  sends_seen time draw r plan.Nothing h = (unput, (h.0, ap strings h.1, h.2), answers_nothing r h.0)

  ticks_seen : (time draw : ℕ) (r : Result Ticked LinkFault) → Ticks (PutsBoth strings puts) w m time draw r m' v v' →
      (q : Put) × Ticks (Adds q) w m time draw r m' (strings v) (strings v') × Answers r q
  ticks_seen time draw (Ok r) h = let x = sends_seen time draw r (plan_of m time) h.1 in (x.0, (h.0, x.1), x.2)
  ticks_seen time draw (Err f) h = (unput, (h.0, ap strings h.1, h.2), refl)

module _ {V : Type 0} (strings : V → List (List ℕ)) (takes : V → Option (List ℕ) → V → Type 0) (w : Ways) (m m' : Model) (v v' : V) where
  hears_seen : (r : Result Heard LinkFault) → Hears (TakesBoth strings takes) w m r m' v v' →
      (dropped : Strings) × (x : Option (List ℕ)) × Hears (Takes dropped x) w m r m' (strings v) (strings v')
  hears_seen r (inl h) = (h.1.1.dropped, Some h.0, inl (h.0, (refl, h.1.1.next), h.2))
  hears_seen r (inr h) = (strings v, None, inr ((refl, (refl, h.0.1)), h.1, h.2))

-- a call served at an end is a deed, and the relation of the law
module _ {V U : Type 0} (sv : V → List (List ℕ)) (su : U → List (List ℕ)) (puts : V → List ℕ → V → Type 0) (takes : U → Option (List ℕ) → U → Type 0)
    (w : Ways) (m m' : Model) (v v' : V) (u u' : U) (b b' : List ℕ) (a : Answer) where
  same_paths : (d : Deed) → v' ≡ v → u' ≡ u → Serves w m (su u) (sv v) d m' (su u) (sv v) → Serves w m (su u) (sv v) d m' (su u') (sv v')
  same_paths d ev eu h =
      subst (λ (y : V). Serves w m (su u) (sv v) d m' (su u') (sv y)) (sym ev) (subst (λ (y : U). Serves w m (su u) (sv v) d m' (su y) (sv v)) (sym eu) h)

  serves : (c : Call) → Served (PutsBoth sv puts) (TakesBoth su takes) w m v u b c a m' v' u' b' →
      (d : Deed) × IsDeed c a b b' d × Serves w m (su u) (sv v) d m' (su u') (sv v')
  serves (call.Submit l t) (r, e, two, h, ev, eu, eb) = (submit l t.now r, (r, e, refl), same_paths _ ev eu (submits two h))
  serves (call.Withdraw n) (r, e, h, ev, eu, eb) = (withdraw n r, (r, e, refl), same_paths _ ev eu (withdraws h))
  serves (call.Tick time draw) (r, e, h, eu, eb) =
      let x = ticks_seen sv puts w m m' v v' time draw r h in (
        tick time draw r x.0 (block_put r m),
        (r, x.0, block_put r m, e, refl),
        subst (λ (y : U). Serves w m (su u) (sv v) (tick time draw r x.0 (block_put r m)) m' (su y) (sv v')) (sym eu) (ticks x.1 x.2),
      )
  serves call.Hear (r, e, h, ev, eb) =
      let x = hears_seen su takes w m m' u u' r h in (
        hear r x.0 x.1 (acknowledged m m'),
        (r, x.0, x.1, acknowledged m m', e, refl),
        subst (λ (y : V). Serves w m (su u) (sv v) (hear r x.0 x.1 (acknowledged m m')) m' (su u') (sv y)) (sym ev) (hears x.2),
      )
  serves call.Collect (r, e, h, ev, eu) = (collect b r b', (r, e, refl), same_paths _ ev eu (collects h))
  serves call.Outcome (r, e, h, ev, eu, eb) = (outcome r, (r, e, refl), same_paths _ ev eu (tells h))

module _ {V U : Type 0} (sv : V → List (List ℕ)) (su : U → List (List ℕ))
    (pv : V → List ℕ → V → Type 0) (tv : V → Option (List ℕ) → V → Type 0) (pu : U → List ℕ → U → Type 0) (tu : U → Option (List ℕ) → U → Type 0)
    (s s' : Sight V U) (b b' : List ℕ) (c : Call) (a : Answer) where
  pub steps : (x : Side) → ServedAt sv su pv tv pu tu x s b c a s' b' → Steps sv su x c a b b' s s'
  steps Aircraft (h, e) =
      let x = serves sv su pv tu (ways_of law.air) s.aircraft s'.aircraft s.down s'.down s.up s'.up b b' a c h in
      (x.0, x.1, subst (λ (g : Model). Step (seen sv su s) (at law.air x.0) (link s'.aircraft g (sv s'.down) (su s'.up))) (sym e) (at_air x.2))
  steps Ground (h, e) =
      let x = serves su sv pu tv (ways_of law.ground) s.ground s'.ground s.up s'.up s.down s'.down b b' a c h in
      (x.0, x.1, subst (λ (g : Model). Step (seen sv su s) (at law.ground x.0) (link g s'.ground (sv s'.down) (su s'.up))) (sym e) (at_ground x.2))

  -- and where the side is known by another name
  pub steps_at : (x y : Side) → x ≡ y → ServedAt sv su pv tv pu tu y s b c a s' b' → Steps sv su x c a b b' s s'
  steps_at x y e h = subst (λ (z : Side). Steps sv su z c a b b' s s') (sym e) (steps y h)
