-- An identifier's character is the ring's first and its index. Assumes nothing.
use Rattle.std.proofs.Common.{◌≡◌, ℕ, suc, ◌+◌, ◌<◌, ◌≤◌, Bool, true, false, cond, eqb, Some, None, refl, arith, le-ltb, lt-ltb, eq-eqb, ne_eqb, eqb-true, le-leb}
use mathlib.Core.Option.{Option, none, some}
use borrow.Author.Tests.{eqb-false}
use Rattle.std.specs.declared.option.Option as std
use Rattle.directions.specs.Rings.{RingRule, member, next}
use Rattle.ends.specs.Sending as sending
use Rattle.ends.specs.Hearing as hearing
use Rattle.law.specs.Directions as law

-- c is the character of index i
pub record Is (r : RingRule) (c i : ℕ) : Type 0 where
  pub within : i < r.size
  pub is : c ≡ r.first + i

-- the same, or neither is there
pub data Same (r : RingRule) : std.Option ℕ → Option ℕ → Type 0 where
  no_one : Same r None none
  one : {c i : ℕ} → Is r c i → Same r (Some c) (some i)

module _ (r : RingRule) (two : 2 ≤ r.size) where
  pub first_is : Is r r.first 0
  first_is = record { within = omega (arith, two); is = omega arith }

  pub next_is : (c i : ℕ) → Is r c i → Is r (next r c) (law.next r.size i)
  next_is c i h = go (eqb (suc i) r.size) refl
    where
      go : (b : Bool) → eqb (suc i) r.size ≡ b → Is r (next r c) (cond b 0 (suc i))
      go true e =
          let d = eqb-true (suc i) r.size e in
          let w = h.is in
          let t = le-ltb (c + 1) (r.first + r.size) (omega (arith, d, w)) in
          record { within = omega (arith, two); is = rw t (omega arith) }
      go false e =
          let d = eqb-false (suc i) r.size e in
          let w = h.is in
          let v = h.within in
          let t = lt-ltb (c + 1) (r.first + r.size) (omega (arith, d, w, v)) in
          record { within = omega (arith, d, v); is = rw t (omega (arith, w)) }

  pub after_is : {o : std.Option ℕ} {p : Option ℕ} → Same r o p → Is r (sending.after r o) (law.after r.size p)
  after_is no_one = first_is
  after_is (one {c = c} {i = i} h) = next_is c i h

  pub fresh_is : (m : Bool) {o : std.Option ℕ} {p : Option ℕ} → Same r o p →
      Is r (cond m (next r (sending.after r o)) (sending.after r o)) (law.fresh r.size m p)
  fresh_is true {o = o} {p = p} s = next_is (sending.after r o) (law.after r.size p) (after_is s)
  fresh_is false s = after_is s

  pub last_is : {o : std.Option ℕ} {p : Option ℕ} → Same r o p → (i : ℕ) × Is r (sending.or_else o r.first) i
  last_is no_one = (0, first_is)
  last_is (one {i = i} h) = (i, h)

-- equal characters are equal indices
pub same_index : (r : RingRule) (c d i j : ℕ) → Is r c i → Is r d j → eqb c d ≡ eqb i j
same_index r c d i j h k = go (eqb i j) refl
  where
    go : (b : Bool) → eqb i j ≡ b → eqb c d ≡ b
    go true e = let x = eqb-true i j e in let u = h.is in let v = k.is in eq-eqb c d (omega (arith, x, u, v))
    go false e = let x = eqb-false i j e in let u = h.is in let v = k.is in ne_eqb c d (λ y. omega (arith, x, u, v, y))

-- told whether it is the next, ends and model agree
pub is_next_same : (r : RingRule) → 2 ≤ r.size → {o : std.Option ℕ} {p : Option ℕ} (c i : ℕ) → Same r o p → Is r c i →
    hearing.is_next r o c ≡ law.is_next r.size p i
is_next_same r two c i no_one h = refl
is_next_same r two c i (one {c = d} {i = j} k) h = same_index r c (next r d) i (law.next r.size j) h (next_is r two d j k)

-- the character of an index is an identifier, and every identifier has an index
pub is_member : (r : RingRule) (c i : ℕ) → Is r c i → member r c ≡ true
is_member r c i h =
    let u = h.is in
    let v = h.within in
    rw (le-leb r.first c (omega (arith, u)), lt-ltb c (r.first + r.size) (omega (arith, u, v)))
