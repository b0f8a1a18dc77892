-- How the tests of fields go on from place to place. Assumes nothing.
use Rattle.std.proofs.Common.{◌≡◌, ℕ, suc, ◌+◌, ◌-◌, ◌<◌, ◌≤◌, true, false, ltb, List, ◌∷◌, length, Some, Option, sym, ◌∙◌, subst, inl, inr, arith, lit≤}
use Rattle.std.proofs.lemmas.Bool.{cases_lt, lt-ltb}
use Rattle.std.proofs.lemmas.Bool.Decides.{nat_tests}
use Rattle.blocks.specs.Fields.{Fields, response, message, head_of}
use Rattle.std.specs.Option.{unwrap_or}
use Rattle.blocks.specs.Legal.{Way, at, address_allows, head_allows, label_allows, TextKept, Sound}
use Rattle.blocks.proofs.Steps.{range_more}
use Rattle.writing.specs.Writing.{HeadGood, HeadBad}
use Rattle.blocks.specs.Scans.{FirstFault}
use Rattle.writing.specs.Laying.{Lengths, LabelTested}

-- the address characters are as their rule asks, at the indices before i
abbrev pub AddressGood : List ℕ → ℕ → Type 0
AddressGood a i = (j : ℕ) → j < i → address_allows j (at (50 ∷ a) j) (at a j) ≡ true

-- what the scan of an address tells
module _ (xs a : List ℕ) (is : xs ≡ a) (long : length xs ≡ 7) where
  abbrev Scan : Option ℕ → Type 0
  Scan first = FirstFault (λ i b c t. t ≡ address_allows i b c) 50 xs first

  pub address_kept : (first : Option ℕ) → Scan first → AddressGood a (unwrap_or first 7)
  address_kept first f j h =
      sym (subst (λ (ys : List ℕ). true ≡ address_allows j (at (50 ∷ ys) j) (at ys j)) is
      (f.kept j (subst (λ (n : ℕ). j < unwrap_or first n) (sym long) h)))

  pub address_bad : (i : ℕ) → Scan (Some i) → (i < 7) × (address_allows i (at (50 ∷ a) i) (at a i) ≡ false)
  address_bad i f = (omega (arith, f.broken.0, long), sym (subst (λ (ys : List ℕ). false ≡ address_allows i (at (50 ∷ ys) i) (at ys i)) is f.broken.1))

module _ (w : Way) (f : Fields) where
  -- places 2 to 8 are the address's
  pub address_place : (p : ℕ) → 2 ≤ p → p < 9 →
      head_allows w f p ≡ address_allows (p - 2) (at (50 ∷ (head_of f).address) (p - 2)) (at (head_of f).address (p - 2))
  address_place p l u = grind (arith, nat_tests)

  pub good_address : (i : ℕ) → i ≤ 7 → AddressGood (head_of f).address i → HeadGood w f (2 + i)
  good_address i h g q l u =
      elim (cases_lt q 2) [
        | inl s ↦ let a : ltb q 2 ≡ true = lt-ltb q 2 s in rw a
        | inr s ↦ address_place q s (omega arith) ∙ g (q - 2) (omega arith)
      ]

  pub good_more : (p : ℕ) → HeadGood w f p → head_allows w f p ≡ true → HeadGood w f (suc p)
  good_more p g h = range_more (λ (q : ℕ). head_allows w f q ≡ true) 1 p g h

  pub bad_address : (i : ℕ) → i < 7 → AddressGood (head_of f).address i →
      address_allows i (at (50 ∷ (head_of f).address) i) (at (head_of f).address i) ≡ false → HeadBad w f (2 + i)
  bad_address i h g b =
      let e : i ≡ 2 + i - 2 = omega arith in
      record {
        from = omega arith;
        until = omega arith;
        before = good_address i (omega arith) g;
        bad = address_place (2 + i) (omega arith) (omega arith) ∙
            subst (λ (j : ℕ). address_allows j (at (50 ∷ (head_of f).address) j) (at (head_of f).address j) ≡ false) e b;
      }

  -- the places after the address
  pub good_nine : AddressGood (head_of f).address 7 → HeadGood w f 9
  good_nine g = good_address 7 (lit≤ tt) g

  pub good_label : HeadGood w f 10 → label_allows f 0 ≡ true → label_allows f 1 ≡ true → HeadGood w f 12
  good_label g a b = good_more 11 (good_more 10 g a) b

  pub bad_label : (i : ℕ) → HeadGood w f 10 → LabelTested f (Some i) → HeadBad w f (10 + i)
  bad_label i g t =
      elim t [
        | inl h ↦ subst (λ (j : ℕ). HeadBad w f (10 + j)) (sym h.0) (record { from = lit≤ tt; until = lit≤ tt; before = g; bad = h.1 })
        | inr h ↦ subst (λ (j : ℕ). HeadBad w f (10 + j)) (sym h.0) (record { from = lit≤ tt; until = lit≤ tt; before = good_more 10 g h.1; bad = h.2 })
      ]

-- tested fields are sound
pub sound_fields : (w : Way) (f : Fields) → Lengths f → HeadGood w f 13 → TextKept w f → Sound w f
sound_fields w (response h) l g t = record { sized = l.address; head = λ p a b. g p a (omega arith); text = t }
sound_fields w (message h label last text) l g t = record { sized = (l.address, l.label); head = λ p a b. g p a (omega arith); text = t }
