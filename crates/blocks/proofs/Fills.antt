-- Each place has a character that is allowed after any other, so a string that keeps its rules so far goes on to a legal block.
-- Assumes nothing.
use Rattle.std.proofs.Common.{◌≡◌, ℕ, suc, ◌+◌, ◌-◌, ◌<◌, ◌≤◌, Bool, true, false, cond, eqb, ltb, leb, List, length, take, sym, refl, ap, ◌∙◌, subst, inl, inr, arith}
use Rattle.std.proofs.lemmas.Bool.{cases_lt, le-leb, lt-leb}
use Rattle.std.proofs.lemmas.Bool.Decides.{nat_tests}
use Rattle.octets.specs.Parity.{character, octet}
use Rattle.octets.proofs.Laws.{octet_character}
use Rattle.directions.specs.Rings.{RingRule, member, Cyclic}
use Rattle.blocks.specs.Legal.{Way, at, text_allows, is_text}
use Rattle.blocks.specs.Places.{ch, Kept, place_rule, Octets}
use Rattle.blocks.proofs.Strings.{string_of, string_length, string_at, front_same}
use Rattle.blocks.proofs.Shapes.{Lawful, twelve}

first_held : (r : RingRule) → Cyclic r → member r r.first ≡ true
first_held r l = let m = l.many in grind (arith, nat_tests)

module _ (w : Way) (l : Lawful w) where
  -- a text character that is allowed at an index after any other
  abbrev pub text_filler : ℕ → ℕ
  text_filler i = cond (ltb i w.text.opening) (l.text.fillable i).0 65

  text_fills : (i before : ℕ) → text_allows w.text i before (text_filler i) ≡ true
  text_fills i before = go (ltb i w.text.opening) refl
    where
      go : (t : Bool) → ltb i w.text.opening ≡ t →
          cond t (w.text.allows i before (cond t (l.text.fillable i).0 65)) (is_text (cond t (l.text.fillable i).0 65)) ≡ true
      go true e = (l.text.fillable i).1 before (Rattle.std.proofs.lemmas.Bool.ltb-true i w.text.opening e)
      go false e = refl

  -- a character that is allowed at a place of a block of n octets after any other
  abbrev pub filler : ℕ → ℕ → ℕ
  filler n p =
      cond (ltb p 13)
      (cond (eqb p 1) 50 (cond (ltb p 9) 65 (cond (eqb p 9) 21 (cond (eqb p 12) w.own.first 49))))
      (cond (eqb n 17) 3 (cond (eqb p 13) 2 (cond (ltb p (n - 4)) (text_filler (p - 14)) 3)))

  -- an n that some block has
  abbrev pub Usable : ℕ → Type 0
  Usable n = ((n ≡ 17 → ⊥) → 18 < n)

  head_fills : (n p : ℕ) → 1 ≤ p → p < 13 → (before : ℕ) → place_rule w n p before (filler n p) ≡ true
  head_fills n p a b =
      twelve (λ (q : ℕ). (before : ℕ) → place_rule w n q before (filler n q) ≡ true)
      (λ _. refl) (λ _. refl) (λ _. refl) (λ _. refl) (λ _. refl) (λ _. refl) (λ _. refl) (λ _. refl) (λ _. refl) (λ _. refl) (λ _. refl)
      (λ _. first_held w.own l.own) p a b

  rest_fills : (n p : ℕ) → Usable n → 13 ≤ p → p < n - 3 → (before : ℕ) → place_rule w n p before (filler n p) ≡ true
  rest_fills n p us a b before = let t = text_fills (p - 14) before in grind (arith, nat_tests)

  fills : (n p : ℕ) → Usable n → 1 ≤ p → p < n - 3 → (before : ℕ) → place_rule w n p before (filler n p) ≡ true
  fills n p us a b before =
      elim (cases_lt p 13) [ inl h ↦ head_fills n p a h before | inr h ↦ rest_fills n p us h b before ]

  module _ (s : List ℕ) (start : at s 0 ≡ 1) (os : Octets s) (j : ℕ) (within : j + 3 < length s) where
    -- the string up to place j, and then fillers of a block of n octets
    abbrev pub filled : ℕ → ℕ → ℕ
    filled n p = cond (leb p j) (ch s p) (filler n p)

    pub up_to : (n p : ℕ) → p ≤ j → filled n p ≡ ch s p
    up_to n p h = let t : leb p j ≡ true = le-leb p j h in rw t

    past : (n p : ℕ) → j < p → filled n p ≡ filler n p
    past n p h = let t : leb p j ≡ false = lt-leb p j h in rw t

    pub started : (n : ℕ) → filled n 0 ≡ 1
    started n = up_to n 0 (omega arith) ∙ ap character start

    -- the rules are kept on past j
    pub filled_kept : (n : ℕ) → Usable n → Kept w n (ch s) 1 (suc j) → Kept w n (filled n) 1 (n - 3)
    filled_kept n us k p a b =
        elim (cases_lt j p) [
          | inl h ↦ subst (λ (z : ℕ). place_rule w n p (filled n (p - 1)) z ≡ true) (sym (past n p h)) (fills n p us a b (filled n (p - 1)))
          | inr h ↦
              subst (λ (z : ℕ). place_rule w n p (filled n (p - 1)) z ≡ true) (sym (up_to n p h))
              (subst (λ (z : ℕ). place_rule w n p z (ch s p) ≡ true) (sym (up_to n (p - 1) (omega arith))) (k p a (omega arith)))
        ]

    -- the octets up to j are those of the string
    pub agrees : (n : ℕ) → j < n - 3 → 4 ≤ n → (k : ℕ) → k ≤ suc j → take k (string_of (filled n) n) ≡ take k s
    agrees n h u k le =
        front_same s (string_of (filled n) n) k (omega arith) (omega (arith, string_length (filled n) n u))
        (λ p q. string_at (filled n) n p (started n) (omega arith) ∙ ap octet (up_to n p (omega arith)) ∙
        (let o = os p (inl (omega arith)) in octet_character (at s p) o.1 o.0))
