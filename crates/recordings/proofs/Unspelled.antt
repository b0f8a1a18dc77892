-- Where digits spell no string, some two of them spell no octet. Assumes nothing.
use Rattle.std.proofs.Common.{◌≡◌, ℕ, zero, suc, ◌+◌, ◌*◌, ◌/◌, ◌%◌, ◌<◌, ◌≤◌, Bool, true, false, ◌&&◌, ◌||◌, ◌==◌, List, length, get_or, map, None, refl, sym, subst, inl, inr, ◌⊎◌, arith}
use Rattle.std.specs.Prelude.{nat_lt, slice_index}
use Rattle.std.specs.List.{range_with_len}
use Rattle.std.specs.Char.{digit_value}
use Rattle.std.proofs.lemmas.Bool.{cases_lt}
use Rattle.std.proofs.lemmas.Bool.Decides.{nat_tests}
use Rattle.std.proofs.lemmas.List.FromFn.{length-map-range_with_len, get_or-map-range_with_len}
use Rattle.recordings.specs.Recorded.{hex_digit, Digit, Spells}
use Rattle.recordings.specs.Steps.{Decoded}
use Rattle.recordings.proofs.Back.{digit_is}

-- c is a hex digit, or not
abbrev is_digit : ℕ → Bool
is_digit c = nat_lt (digit_value c) 16 && (c == hex_digit true (digit_value c) || c == hex_digit false (digit_value c))

digit_or : (c : ℕ) → ((digit_value c < 16) × Digit c (digit_value c)) ⊎ ((v : ℕ) → v < 16 → Digit c v → ⊥)
digit_or c = go (is_digit c) refl
  where
    capital : (b : Bool) → (c == hex_digit true (digit_value c)) ≡ b → is_digit c ≡ true → Digit c (digit_value c)
    capital true h e = inl (grind (arith, nat_tests))
    capital false h e = inr (grind (arith, nat_tests))

    go : (b : Bool) → is_digit c ≡ b → ((digit_value c < 16) × Digit c (digit_value c)) ⊎ ((v : ℕ) → v < 16 → Digit c v → ⊥)
    go true e = inl (grind (arith, nat_tests), capital (c == hex_digit true (digit_value c)) refl e)
    go false e = inr (λ v small d. none v small d (digit_is c v small d))
      where
        none : (v : ℕ) → v < 16 → Digit c v → digit_value c ≡ v → ⊥
        none v small (inl d) k = grind (arith, nat_tests)
        none v small (inr d) k = grind (arith, nat_tests)

-- the octet that two digits spell, if they spell one
abbrev spelled : ℕ → ℕ → ℕ
spelled c d = 16 * digit_value c + digit_value d

spells_or : (c d : ℕ) → Spells c d (spelled c d) ⊎ ((o : ℕ) → Spells c d o → ⊥)
spells_or c d = elim (digit_or c) [ inl h ↦ low h | inr n ↦ inr (λ o s. n (o / 16) (let w = s.small in omega arith) s.high) ]
  where
    low : (digit_value c < 16) × Digit c (digit_value c) → Spells c d (spelled c d) ⊎ ((o : ℕ) → Spells c d o → ⊥)
    low h = elim (digit_or d) [
      | inl k ↦ inl (
          let a : digit_value c ≡ spelled c d / 16 = omega (arith, h.0, k.0) in
          let b : digit_value d ≡ spelled c d % 16 = omega (arith, h.0, k.0) in
          record { small = omega (arith, h.0, k.0); high = subst (Digit c) a h.1; low = subst (Digit d) b k.1 })
      | inr n ↦ inr (λ o s. n (o % 16) (omega arith) s.low)
    ]

module _ (digits : List ℕ) where
  -- the octet that pair i spells, if it spells one
  abbrev octet_at : ℕ → ℕ
  octet_at i = spelled (slice_index digits (2 * i)) (slice_index digits (1 + 2 * i))

  -- the two digits of some pair spell no octet
  pub record Unspelled (count : ℕ) : Type 0 where
    pub place : ℕ
    pub below : place < count
    pub none : (o : ℕ) → Spells (slice_index digits (2 * place)) (slice_index digits (1 + 2 * place)) o → ⊥

  -- each of the first n pairs spells an octet, or one spells none
  pub all_or : (n : ℕ) → ((i : ℕ) → i < n → Spells (slice_index digits (2 * i)) (slice_index digits (1 + 2 * i)) (octet_at i)) ⊎ Unspelled n
  all_or zero = inl (λ i l. absurd (omega arith))
  all_or (suc n) = elim (all_or n) [
    | inr u ↦ inr (record { place = u.place; below = omega (arith, u.below); none = u.none })
    | inl all ↦ elim (spells_or (slice_index digits (2 * n)) (slice_index digits (1 + 2 * n))) [
      | inr none ↦ inr (record { place = n; below = omega arith; none = none })
      | inl s ↦ inl (λ i l. elim (cases_lt i n) [
        | inl h ↦ all i h
        | inr h ↦ let e : n ≡ i = omega arith in subst (λ (j : ℕ). Spells (slice_index digits (2 * j)) (slice_index digits (1 + 2 * j)) (octet_at j)) e s
      ])
    ]
  ]

  pub unspelled_place : (count : ℕ) → length digits ≡ 2 * count → count ≤ 511 → Decoded digits None → Unspelled count
  unspelled_place count long short none = elim (all_or count) [
    | inr u ↦ u
    | inl all ↦
        let string = map octet_at (range_with_len 0 count) in
        let size : length string ≡ count = length-map-range_with_len octet_at 0 count in
        absurd (none string (record {
          short = omega (arith, size);
          long = omega (arith, size);
          spelled = λ i l.
              let below : i < count = omega (arith, size) in
              let is : get_or string i 0 ≡ octet_at i = get_or-map-range_with_len octet_at 0 count i i 0 below (omega arith) in
              subst (Spells (slice_index digits (2 * i)) (slice_index digits (1 + 2 * i))) (sym is) (all i below);
        }))
  ]
