-- Characters that keep the rules of their places are those of sound fields. Assumes nothing.
use Rattle.std.proofs.Common.{◌≡◌, ℕ, zero, suc, ◌+◌, ◌-◌, ◌<◌, ◌≤◌, Bool, true, false, ◌||◌, eqb, List, [], ◌∷◌, ◌++◌, map, sym, ap, ◌∙◌, add-zero, suc-add, arith}
use Rattle.std.specs.List.{range_with_len}
use Rattle.std.proofs.lemmas.List.FromFn.{map-range_with_len_more}
use Rattle.std.proofs.lemmas.List.{map-append}
use Rattle.std.proofs.lemmas.Bool.Decides.{nat_tests}
use Rattle.directions.specs.Rings.{Cyclic}
use Rattle.directions.specs.TextRules.{OpeningLaws}
use Rattle.blocks.specs.Fields.{Head, Fields, response, message, headed, tailed, suffix, acknowledgment_character}
use Rattle.blocks.specs.Legal.{Way}
use Rattle.blocks.specs.Places.{Kept, possible, is_response, acknowledgment_of}
use Rattle.blocks.proofs.Strings.{chars}

-- the laws of the two rings and the text rule
pub record Lawful (w : Way) : Type 0 where
  pub own : Cyclic w.own
  pub other : Cyclic w.other
  pub text : OpeningLaws w.text

-- the characters g are those of a block of n octets
pub record Shaped (w : Way) (n : ℕ) (g : ℕ → ℕ) : Type 0 where
  pub start : g 0 ≡ 1
  pub least : 17 ≤ n
  pub most : n ≤ 238
  pub fits : possible w (is_response (g 10) (g 11)) n ≡ true
  pub kept : Kept w n g 1 (n - 3)

-- what holds at each of the places 1 to 12
pub twelve : (P : ℕ → Type 0) → P 1 → P 2 → P 3 → P 4 → P 5 → P 6 → P 7 → P 8 → P 9 → P 10 → P 11 → P 12 → (p : ℕ) → 1 ≤ p → p < 13 → P p
twelve P a b c d e f g h i j k l zero u v = absurd (omega arith)
twelve P a b c d e f g h i j k l (suc zero) u v = a
twelve P a b c d e f g h i j k l (suc (suc zero)) u v = b
twelve P a b c d e f g h i j k l (suc (suc (suc zero))) u v = c
twelve P a b c d e f g h i j k l (suc (suc (suc (suc zero)))) u v = d
twelve P a b c d e f g h i j k l (suc (suc (suc (suc (suc zero))))) u v = e
twelve P a b c d e f g h i j k l (suc (suc (suc (suc (suc (suc zero)))))) u v = f
twelve P a b c d e f g h i j k l (suc (suc (suc (suc (suc (suc (suc zero))))))) u v = g
twelve P a b c d e f g h i j k l (suc (suc (suc (suc (suc (suc (suc (suc zero)))))))) u v = h
twelve P a b c d e f g h i j k l (suc (suc (suc (suc (suc (suc (suc (suc (suc zero))))))))) u v = i
twelve P a b c d e f g h i j k l (suc (suc (suc (suc (suc (suc (suc (suc (suc (suc zero)))))))))) u v = j
twelve P a b c d e f g h i j k l (suc (suc (suc (suc (suc (suc (suc (suc (suc (suc (suc zero))))))))))) u v = k
twelve P a b c d e f g h i j k l (suc (suc (suc (suc (suc (suc (suc (suc (suc (suc (suc (suc zero)))))))))))) u v = l
twelve P a b c d e f g h i j k l (suc (suc (suc (suc (suc (suc (suc (suc (suc (suc (suc (suc (suc p))))))))))))) u v = absurd (omega arith)

-- the fields that characters make
abbrev pub head_at : (ℕ → ℕ) → Head
head_at g = record { address = map g (range_with_len 2 7); acknowledgment = acknowledgment_of (g 9); identifier = g 12 }

abbrev pub fields_if : Bool → (ℕ → ℕ) → ℕ → Fields
fields_if true g n = response (head_at g)
fields_if false g n = message (head_at g) (g 10 ∷ g 11 ∷ []) (eqb (g (n - 4)) 3) (map g (range_with_len 14 (n - 4 - 14)))

abbrev pub fields_at : (ℕ → ℕ) → ℕ → Fields
fields_at g n = fields_if (is_response (g 10) (g 11)) g n

pub counting_cat : (a k m : ℕ) → range_with_len a (k + m) ≡ range_with_len a k ++ range_with_len (a + k) m
counting_cat a zero m = rw (native.Mathlib.Nat.zero-add, add-zero)
counting_cat a (suc k) m = rw suc-add (ap (λ (xs : List ℕ). a ∷ xs) (counting_cat (a + 1) k m ∙ ap (λ (b : ℕ). range_with_len (a + 1) k ++ range_with_len b m) (let e : a + 1 + k ≡ a + suc k = omega arith in e)))

module _ (g : ℕ → ℕ) where
  acknowledged : acknowledgment_character (acknowledgment_of (g 9)) ≡ g 9
  acknowledged = grind (arith, nat_tests)

  -- the head lies at places 1 to 12
  pub head_laid : (a b : ℕ) (rest : List ℕ) → g 1 ≡ 50 → a ≡ g 10 → b ≡ g 11 → headed (head_at g) (a ∷ b ∷ []) rest ≡ map g (range_with_len 1 12) ++ rest
  head_laid a b rest m ea eb = rw (acknowledged, ea, eb, m)

  -- and the rest from place 13 on
  pub all_laid : (n : ℕ) → 17 ≤ n → chars g n ≡ map g (range_with_len 1 12) ++ map g (range_with_len 13 (n - 16))
  all_laid n h =
      let e : n - 4 ≡ 12 + (n - 16) = omega arith in
      ap (λ (k : ℕ). map g (range_with_len 1 k)) e ∙ ap (map g) (counting_cat 1 12 (n - 16)) ∙ map-append g (range_with_len 1 12) (range_with_len 13 (n - 16))

  suffixed : (p : ℕ) → (eqb (g p) 3 || eqb (g p) 23) ≡ true → suffix (eqb (g p) 3) ≡ g p
  suffixed p h = grind (arith, nat_tests)

  -- text and suffix
  pub tail_laid : (k p : ℕ) → 14 + suc k ≡ p → g 13 ≡ 2 → (eqb (g p) 3 || eqb (g p) 23) ≡ true →
      tailed (eqb (g p) 3) (map g (range_with_len 14 (suc k))) ≡ map g (range_with_len 13 (suc (suc (suc k))))
  tail_laid k p e h f =
      let m : map g (range_with_len 14 (suc k + 1)) ≡ map g (range_with_len 14 (suc k)) ++ g p ∷ [] = map-range_with_len_more g 14 (suc k) p e in
      let q : suc k + 1 ≡ suc (suc k) = omega arith in
      rw (suffixed p f, ← h) (ap (λ (xs : List ℕ). g 13 ∷ xs) (sym m ∙ ap (λ (j : ℕ). map g (range_with_len 14 j)) q))
