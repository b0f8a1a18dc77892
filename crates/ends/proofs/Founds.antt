-- The first message whose cell passes a test. Assumes nothing.
use Rattle.std.proofs.Common.{◌≡◌, ℕ, zero, suc, ◌<◌, ◌≤◌, Bool, true, false, List, [], ◌∷◌, length, Some, None, Option, MatchOption, refl, sym, ap, ◌∙◌, subst, arith}
use Rattle.std.specs.List.{slice_get}
use Rattle.std.specs.Option.{option_map}
use Rattle.stores.specs.Held.{Stored, stored, record_at, text_at}
use Rattle.ends.specs.declared.types.Cell.{Cell}
use Rattle.ends.specs.declared.finding.Found.{Found}
use Rattle.ends.specs.Sending.{place_where, later}
use Rattle.ends.specs.Finding.{found_in, found_at, Finds}

-- the cell, if there is one, passes the test
abbrev pub passes : (Cell → Bool) → Option Cell → Bool
passes p None = false
passes p (Some c) = p c

pub passed : (o : Option Cell) (Post : Cell → Bool → Type 0) (p : Cell → Bool) → ((c : Cell) (r : Bool) → Post c r → r ≡ p c) → (b : Bool) → MatchOption o (b ≡ false) (λ c. Post c b) → passes p o ≡ b
passed None Post p fits b h = sym h
passed (Some c) Post p fits b h = sym (fits c b h)

pub place_none : (p : Cell → Bool) (cs : List (Stored Cell)) → ((k : ℕ) → k < length cs → passes p (record_at k cs) ≡ false) → place_where p cs ≡ None
place_none p [] h = refl
place_none p (c ∷ cs) h = rw (h 0 (omega arith)) (ap later (place_none p cs (λ k l. h (suc k) (omega arith))))

pub place_some : (p : Cell → Bool) (cs : List (Stored Cell)) (i : ℕ) → ((k : ℕ) → k < i → passes p (record_at k cs) ≡ false) → passes p (record_at i cs) ≡ true → place_where p cs ≡ Some i
place_some p [] i h w = cc
place_some p (c ∷ cs) zero h w = rw w
place_some p (c ∷ cs) (suc i) h w = rw (h 0 (omega arith)) (ap later (place_some p cs i (λ k l. h (suc k) (omega arith)) w))

pub not_later : (o : Option ℕ) → later o ≡ None → o ≡ None
not_later None h = refl
not_later (Some j) h = cc

pub later_zero : (o : Option ℕ) → later o ≡ Some 0 → ⊥
later_zero None h = cc
later_zero (Some j) h = cc

pub later_suc : (o : Option ℕ) (k : ℕ) → later o ≡ Some (suc k) → o ≡ Some k
later_suc None k h = cc
later_suc (Some j) k h = cc

-- at the first place that passes there is a message, and it passes
pub record PlaceFound (p : Cell → Bool) (cs : List (Stored Cell)) (k : ℕ) : Type 0 where
  pub cell : Stored Cell
  pub there : slice_get cs k ≡ Some cell
  pub inside : k < length cs
  pub is : p cell.«record» ≡ true

pub place_there : (p : Cell → Bool) (cs : List (Stored Cell)) (k : ℕ) → place_where p cs ≡ Some k → PlaceFound p cs k
place_there p [] k e = cc
place_there p (c ∷ cs) zero e = go (p c.«record») refl
  where
    go : (b : Bool) → p c.«record» ≡ b → PlaceFound p (c ∷ cs) zero
    go true u = record { cell = c; there = refl; inside = omega arith; is = u }
    go false u = absurd (later_zero (place_where p cs) (rw u at e))
place_there p (c ∷ cs) (suc k) e = go (λ q. place_there p cs k q) (p c.«record») refl
  where
    go : (place_where p cs ≡ Some k → PlaceFound p cs k) → (b : Bool) → p c.«record» ≡ b → PlaceFound p (c ∷ cs) (suc k)
    go rest true u = let q = rw u at e in cc
    go rest false u =
        let o = rest (later_suc (place_where p cs) k (rw u at e)) in
        record { cell = o.cell; there = o.there; inside = omega (arith, o.inside); is = o.is }

-- a message by its record and its text
pub both : (cs : List (Stored Cell)) (i : ℕ) (r : Cell) (t : List ℕ) → record_at i cs ≡ Some r → text_at i cs ≡ Some t → slice_get cs i ≡ Some (stored r t)
both [] i r t e h = cc
both (c ∷ cs) zero r t e h =
    let k : c.«record» ≡ r = cc in
    let l : c.text ≡ t = cc in
    ap (λ (x : Cell). Some (stored x c.text)) k ∙ ap (λ (x : List ℕ). Some (stored r x)) l
both (c ∷ cs) (suc i) r t e h = both cs i r t e h

-- the message that was found stands in the cells
pub record There (i : ℕ) (cells : List (Stored Cell)) (f : Found) : Type 0 where
  pub cell : Stored Cell
  pub there : slice_get cells i ≡ Some cell
  pub is : found_in i cell ≡ f

pub found_there : (i : ℕ) (cells : List (Stored Cell)) (f : Found) → found_at i cells ≡ Some f → There i cells f
found_there i cells f e = go (slice_get cells i) refl e where
  go : (o : Option (Stored Cell)) → slice_get cells i ≡ o → option_map (found_in i) o ≡ Some f → There i cells f
  go None q h = cc
  go (Some c) q h = record { cell = c; there = q; is = cc }

-- the message at the first place that passes
pub first_found : (p : Cell → Bool) (cs : List (Stored Cell)) (i : ℕ) (r : Option Found) → r ≡ found_at i cs → passes p (record_at i cs) ≡ true → ((k : ℕ) → 0 ≤ k → k < i → passes p (record_at k cs) ≡ false) →
    MatchOption r (place_where p cs ≡ None) (λ f. Finds (place_where p cs) cs f)
first_found p cs i r e there before = go (slice_get cs i) refl
  where
    place : place_where p cs ≡ Some i
    place = place_some p cs i (λ k l. before k (omega arith) l) there

    go : (o : Option (Stored Cell)) → slice_get cs i ≡ o → MatchOption r (place_where p cs ≡ None) (λ f. Finds (place_where p cs) cs f)
    go None q =
        let h : passes p (option_map (λ (c : Stored Cell). c.«record») None) ≡ true = subst (λ (o : Option (Stored Cell)). passes p (option_map (λ (c : Stored Cell). c.«record») o) ≡ true) q there in
        cc
    go (Some c) q =
        let here : found_at i cs ≡ Some (found_in i c) = ap (option_map (found_in i)) q in
        subst (λ (o : Option Found). MatchOption o (place_where p cs ≡ None) (λ f. Finds (place_where p cs) cs f)) (sym (e ∙ here))
        (record { first = place; there = here })
