-- Calls served in turn make a run. Assumes nothing.
use Rattle.std.proofs.Common.{◌≡◌, map, Some, ap, ◌∙◌, append_assoc, ℕ, ◌+◌, ◌<◌, ◌≤◌, List, [], ◌∷◌, ◌++◌, length, take, get_or, Option, sym, subst}
use Rattle.std.proofs.lemmas.List.{take_more, take_all, map-append}
use Rattle.calls.specs.declared.call.Side.{Side}
use Rattle.calls.specs.declared.call.Call.{Call}
use Rattle.calls.specs.declared.call.Answer.{Answer}
use Rattle.runs.specs.Links.{◌then◌, same, onward}
use Rattle.links.specs.declared.request.Request.{Request}
use Rattle.links.specs.Links.{Sight, ServedAt}
use Rattle.links.specs.Turns.{some_of, InTurn, none_served, one_more, none_logged, one_logged, RunsOn}
use Rattle.links.proofs.Stepping.{steps}

module _ {V U : Type 0} (sv : V → List (List ℕ)) (su : U → List (List ℕ))
    (pv : V → List ℕ → V → Type 0) (tv : V → Option (List ℕ) → V → Type 0) (pu : U → List ℕ → U → Type 0) (tu : U → Option (List ℕ) → U → Type 0) where
  pub goes_on : (s : Sight V U) (b : List ℕ) (s' : Sight V U) (b' : List ℕ) (qs : List Request) (ys : List Answer) → InTurn (ServedAt sv su pv tv pu tu) s b qs ys s' b' → RunsOn sv su s qs ys s'
  goes_on s b s' b' qs ys none_served h r = (h, r, none_logged, same)
  goes_on s b s'' b'' qs ys (one_more {s' = s'} {b' = b'} {q = q} {a = a} t x) h r =
      let before = goes_on s b s' b' _ _ t h r in
      let step = steps sv su pv tv pu tu s' s'' b' b'' q.call a q.side x in
      (_, before.1 then step.2, one_logged q a b' b'' step.0 before.2 step.1, onward before.3 step.2)

-- one call more of a list
pub turn_more : {S : Type 0} (serves : Side → S → List ℕ → Call → Answer → S → List ℕ → Type 0) (s s' s'' : S) (b b' b'' : List ℕ) (qs : List Request) (ys : List Answer) (i : ℕ) (d : Request) (a : Answer) →
    i < length qs → InTurn serves s b (take i qs) ys s' b' → serves (get_or qs i d).side s' b' (get_or qs i d).call a s'' b'' → InTurn serves s b (take (i + 1) qs) (ys ++ a ∷ []) s'' b''
turn_more serves s s' s'' b b' b'' qs ys i d a short t x = subst (λ (z : List Request). InTurn serves s b z (ys ++ a ∷ []) s'' b'') (sym (take_more qs i d short)) (one_more t x)

-- all calls of a list
pub turns_all : {S : Type 0} (serves : Side → S → List ℕ → Call → Answer → S → List ℕ → Type 0) (s s' : S) (b b' : List ℕ) (qs : List Request) (ys : List Answer) (i : ℕ) →
    length qs ≤ i → InTurn serves s b (take i qs) ys s' b' → InTurn serves s b qs ys s' b'
turns_all serves s s' b b' qs ys i long t = subst (λ (z : List Request). InTurn serves s b z ys s' b') (take_all i qs long) t

-- one answer more behind those that stand there
pub answers_more : (before so_far : List (Option Answer)) (ys : List Answer) (a : Answer) → so_far ≡ before ++ map some_of ys → so_far ++ Some a ∷ [] ≡ before ++ map some_of (ys ++ a ∷ [])
answers_more before so_far ys a e =
    ap (λ (z : List (Option Answer)). z ++ Some a ∷ []) e ∙ append_assoc before (map some_of ys) (Some a ∷ []) ∙
    ap (λ (z : List (Option Answer)). before ++ z) (sym (map-append some_of ys (a ∷ [])))
