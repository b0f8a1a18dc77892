-- Making a link begins a run. Assumes nothing.
use Rattle.std.proofs.Common.{◌≡◌, ℕ, List, [], length, Option, Ok, Err, Result, MatchResult, sym, subst, inr, ◌∙◌}
use Rattle.std.specs.Result.{IsErr, IsErrAnd}
use Rattle.paths.specs.Draining.{Drained}
use Rattle.calls.specs.declared.fault.LinkFault.{LinkFault}
use Rattle.calls.specs.declared.fault.LinkFault.TheVariants as fault
use Rattle.calls.specs.declared.types.Settings.{Settings}
use Rattle.calls.specs.declared.types.Setting.{Setting}
use Rattle.calls.specs.Setting.{Good, FirstBad}
use Rattle.ends.specs.Model.{Model, new_model}
use Rattle.runs.specs.Links.{link, Run, begin, Accepted}
use Rattle.runs.proofs.Transfer.{truth_and_order_lem}
use Rattle.runs.proofs.Waitings.{waiting_come_out_lem}
use Rattle.runs.proofs.Progressing.{progress_lem}
use Rattle.runs.proofs.Refusing.{refusals_between_lem}
use Rattle.links.specs.Links.{Sight, seen, Made, Unmade}
use Rattle.links.specs.Laws.{LinkLaw}

pub link_law : LinkLaw
link_law = record { truth = truth_and_order_lem; waiting = waiting_come_out_lem; progress = progress_lem; refusals = refusals_between_lem }

-- a new end of good settings, by another name of them
pub ready : (q e : Settings) (m : Model) → e ≡ q → length e.registration ≡ 7 → length e.flight ≡ 6 → Good e × (m ≡ new_model e) → Accepted q × (m ≡ new_model q)
ready q e m same seven six h = subst (λ (x : Settings). Accepted x × (m ≡ new_model x)) same (record { good = h.0; seven = seven; six = six }, h.1)

module _ {V U : Type 0} (sv : V → List (List ℕ)) (su : U → List (List ℕ)) (tv : V → Option (List ℕ) → V → Type 0) (tu : U → Option (List ℕ) → U → Type 0) (a g : Settings) (v : V) (u : U) (s : Sight V U) where
  pub makes : Accepted a × (s.aircraft ≡ new_model a) → Accepted g × (s.ground ≡ new_model g) → Drained tv v s.down → sv s.down ≡ [] → Drained tu u s.up → su s.up ≡ [] → Made sv su tv tu a g v u s
  makes x y d e d' e' = record { aircraft = x.1; ground = y.1; good = (x.0, y.0); down = (d, e); up = (d', e') }

  pub begins : a.registration ≡ g.registration → Made sv su tv tu a g v u s → Run [] (seen sv su s)
  begins e h =
      subst (λ (y : Model). Run [] (link y s.ground (sv s.down) (su s.up))) (sym h.aircraft)
      (subst (λ (y : Model). Run [] (link (new_model a) y (sv s.down) (su s.up))) (sym h.ground)
      (subst (λ (y : List (List ℕ)). Run [] (link (new_model a) (new_model g) y (su s.up))) (sym h.down.1)
      (subst (λ (y : List (List ℕ)). Run [] (link (new_model a) (new_model g) [] y)) (sym h.up.1) (begin h.good.0 h.good.1 e))))

-- the aircraft's settings are good, the ground's are not
pub second_bad : {X : Type 0} (made : X → Type 0) (r : Result X LinkFault) (f : LinkFault) (a b g h : Settings) → IsErr r → IsErrAnd r (λ y. y ≡ f) → b ≡ a → Good b → h ≡ g →
    (k : Setting) × (f ≡ fault.Setting k) × FirstBad h k → MatchResult r made (Unmade a g)
second_bad made (Ok l) f a b g h i j ea good eg bad = cc
second_bad made (Err y) f a b g h i j ea good eg bad =
    (bad.0, j ∙ bad.1, inr (subst Good ea good, subst (λ (x : Settings). FirstBad x bad.0) eg bad.2))
