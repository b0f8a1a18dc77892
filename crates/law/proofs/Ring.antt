-- Positions and identifiers: the identifier of a position is the position modulo the ring's size; in a window shorter than
-- the ring, equal identifiers are equal positions.
-- Assumes nothing.
use Rattle.std.proofs.Common.{◌≡◌, ℕ, suc, ◌+◌, ◌*◌, ◌/◌, ◌%◌, ◌<◌, ◌≤◌, Bool, true, false, cond, eqb, sym, refl, ap, ◌∙◌, mod-lt, mod-eq_of_lt, mul-le-mul_left, arith, eq-eqb, ne_eqb, eqb-true}
use mathlib.Core.Option.{Option, none, some}
use native.Mathlib.Nat.{div-add-mod, mod_self, suc-mod}
use native.Mathlib.Decide.{dec_le, ℕ_discrete}
use borrow.Author.Tests.{eqb-false}
use Rattle.law.specs.Directions.{next, after, fresh, cost, is_next}

-- p ≤ q < p + N, with one identifier: one position
pub window : (N p q : ℕ) → p ≤ q → q < p + N → p % N ≡ q % N → p ≡ q
window N p q low high e =
    let u = div-add-mod p N in
    let v = div-add-mod q N in
    elim (dec_le (suc (p / N)) (q / N)) [
      | yes l ↦ let w : N * suc (p / N) ≤ N * (q / N) = mul-le-mul_left N l in absurd (omega arith)
      | no l ↦ let w : N * (q / N) ≤ N * (p / N) = mul-le-mul_left N (omega arith) in omega arith
    ]

-- the next identifier is that of the next position
pub next_is : (N p : ℕ) → 1 ≤ N → next N (p % N) ≡ suc p % N
next_is N p pos = go (eqb (suc (p % N)) N) refl
  where
    go : (t : Bool) → eqb (suc (p % N)) N ≡ t → cond t 0 (suc (p % N)) ≡ suc p % N
    go true e = sym (suc-mod p N ∙ ap (λ (j : ℕ). j % N) (eqb-true (suc (p % N)) N e) ∙ mod_self N)
    go false e =
        let f = eqb-false (suc (p % N)) N e in
        let l : p % N < N = mod-lt p pos in
        let g : suc (p % N) < N = omega arith in
        sym (suc-mod p N ∙ mod-eq_of_lt g)

-- o names position p: nothing yet at the position before the first, else the identifier of p
pub data Names (N : ℕ) : Option ℕ → ℕ → Type 0 where
  not_yet : {p : ℕ} → suc p ≡ N → Names N none p
  names : {i p : ℕ} → N ≤ p → i ≡ p % N → Names N (some i) p

pub after_is : {N : ℕ} {o : Option ℕ} {p : ℕ} → 1 ≤ N → Names N o p → after N o ≡ suc p % N
after_is {N} pos (not_yet {p = p} e) = sym (ap (λ (j : ℕ). j % N) e ∙ mod_self N)
after_is {N} pos (names {p = p} l e) = ap (next N) e ∙ next_is N p pos

-- a new block's identifier is that of its position
pub fresh_is : {N : ℕ} {o : Option ℕ} {p : ℕ} (m : Bool) → 1 ≤ N → Names N o p → fresh N m o ≡ (p + cost m) % N
fresh_is {N} {o} {p} false pos w = after_is pos w ∙ ap (λ (j : ℕ). j % N) (omega arith)
fresh_is {N} {o} {p} true pos w = ap (next N) (after_is pos w) ∙ next_is N (suc p) pos ∙ ap (λ (j : ℕ). j % N) (omega arith)

-- the position after the last accepted has the next identifier
pub is_next_yes : {N : ℕ} {o : Option ℕ} {r : ℕ} → 1 ≤ N → N ≤ r → Names N o r → is_next N o (suc r % N) ≡ true
is_next_yes {N} pos l (not_yet {p = r} e) = absurd (omega arith)
is_next_yes {N} pos l (names {i = i} {p = r} m e) = eq-eqb (suc r % N) (next N i) (sym (next_is N r pos) ∙ ap (next N) (sym e))

-- a position two or more past the last accepted, in a window shorter than the ring, has not
pub is_next_no : {N : ℕ} {o : Option ℕ} {r : ℕ} (q : ℕ) → 1 ≤ N → suc r < q → q < r + N → Names N o r → is_next N o (q % N) ≡ false
is_next_no {N} q pos l m (not_yet {p = r} e) = refl
is_next_no {N} q pos l m (names {i = i} {p = r} u e) =
    ne_eqb (q % N) (next N i) (λ f.
    let g : suc r % N ≡ q % N = sym (next_is N r pos) ∙ ap (next N) (sym e) ∙ sym f in
    let k = window N (suc r) q (omega arith) (omega arith) g in
    absurd (omega arith))

-- a position from r on that o does not name comes after r
pub names_new : {N : ℕ} {o : Option ℕ} {r : ℕ} (q : ℕ) → N ≤ q → r ≤ q → Names N o r → (o ≡ some (q % N) → ⊥) → r < q
names_new q n l (not_yet {p = r} e) f = omega arith
names_new {N} q n l (names {p = r} m e) f = elim (ℕ_discrete r q) [
  | yes g ↦ absurd (f (ap {B = Option ℕ} some (e ∙ ap (λ (j : ℕ). j % N) g)))
  | no g ↦ omega arith
]
