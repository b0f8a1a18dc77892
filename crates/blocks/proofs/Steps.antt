-- From place to place: what holds of a range of places, and how the rules of a string are kept one after the other.
-- Assumes nothing.
use Rattle.std.proofs.Common.{◌≡◌, ℕ, suc, ◌-◌, ◌<◌, ◌≤◌, Bool, true, ◌||◌, eqb, List, subst, inl, inr, arith}
use Rattle.std.proofs.lemmas.Bool.{cases_lt}
use Rattle.std.proofs.lemmas.Bool.Decides.{nat_tests}
use Rattle.blocks.specs.Legal.{Way, address_allows, text_allows}
use Rattle.blocks.specs.Places.{ch, Kept, place_rule, possible, HeadBroken}
use Rattle.blocks.specs.declared.fault.BlockFault.{BlockFault}

-- one more place at the end of a range
pub range_more : (P : ℕ → Type 0) (a b : ℕ) → ((p : ℕ) → a ≤ p → p < b → P p) → P b → (p : ℕ) → a ≤ p → p < suc b → P p
range_more P a b below here p l u =
    elim (cases_lt p b) [ inl h ↦ below p l h | inr h ↦ let e : b ≡ p = omega arith in subst P e here ]

-- the rule of a text character
pub text_rule : (w : Way) (n p before c : ℕ) → 14 ≤ p → p < n - 4 → (n ≡ 17 → ⊥) → place_rule w n p before c ≡ text_allows w.text (p - 14) before c
text_rule w n p before c h u ne = grind (arith, nat_tests)

pub suffix_rule : (w : Way) (n p before c : ℕ) → p ≡ n - 4 → 18 < n → place_rule w n p before c ≡ (eqb c 3 || eqb c 23)
suffix_rule w n p before c e h = grind (arith, nat_tests)

pub start_rule : (w : Way) (n before c : ℕ) → 18 < n → place_rule w n 13 before c ≡ eqb c 2
start_rule w n before c h = grind (arith, nat_tests)

-- no block has 18 octets
pub usable : (w : Way) (response : Bool) (n : ℕ) → possible w response n ≡ true → (n ≡ 17 → ⊥) → 18 < n
usable w response n f ne = grind (arith, nat_tests)

module _ (w : Way) (n : ℕ) (s : List ℕ) where
  -- one part behind another
  pub kept_on : (a b c : ℕ) → Kept w n (ch s) a b → Kept w n (ch s) b c → Kept w n (ch s) a c
  kept_on a b c k h p l u = elim (cases_lt p b) [ inl v ↦ k p l v | inr v ↦ h p v u ]

  -- places 2 to 8 are the address's
  pub address_rule : (p before c : ℕ) → 2 ≤ p → p < 9 → place_rule w n p before c ≡ address_allows (p - 2) before c
  address_rule p before c l u = grind (arith, nat_tests)

-- a part is kept, and the next is broken
pub broken_on : (w : Way) (s : List ℕ) (a b c d : ℕ) (f : BlockFault) → a ≤ b → c ≤ d → Kept w 17 (ch s) a b → HeadBroken w s b c f → HeadBroken w s a d f
broken_on w s a b c d f l m k (p, e, u, x) =
    let v = x.from in
    (p, e, omega arith, record { from = omega arith; kept = kept_on w 17 s a b p k x.kept; broken = x.broken })
