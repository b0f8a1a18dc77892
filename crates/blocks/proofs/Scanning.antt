-- The first fault of a field under one rule, and under another; and that of a part of a string. Assumes nothing.
use Rattle.std.proofs.Common.{◌≡◌, ℕ, zero, suc, ◌+◌, ◌-◌, ◌<◌, ◌≤◌, Bool, true, false, List, ◌∷◌, length, take, drop, Some, None, Option, sym, ap, ◌∙◌, subst, add-zero, arith, length-drop}
use Rattle.std.proofs.lemmas.List.{get_or-take, get_or-drop, length-take-le}
use Rattle.octets.specs.Parity.{character}
use Rattle.std.specs.Option.{unwrap_or}
use Rattle.blocks.specs.Legal.{at}
use Rattle.blocks.specs.Places.{ch}
use Rattle.blocks.specs.Scans.{FirstFault, OfOctets}

pub fault_by : {R S : ℕ → ℕ → ℕ → Bool → Type 0} {before : ℕ} {xs : List ℕ} {first : Option ℕ} → ((i b c : ℕ) (t : Bool) → R i b c t → S i b c t) →
    FirstFault R before xs first → FirstFault S before xs first
fault_by {first = None} f h = record { kept = λ i u. f i _ _ _ (h.kept i u); broken = tt }
fault_by {first = Some i} f h = record { kept = λ i u. f i _ _ _ (h.kept i u); broken = (h.broken.0, f i _ _ _ h.broken.1) }

-- xs are the m octets of a string from place a + 1 on
module _ (allows : ℕ → ℕ → ℕ → Bool) (s xs : List ℕ) (a m : ℕ) (within : suc a + m ≤ length s) (is : xs ≡ take m (drop (suc a) s)) where
  part_long : length xs ≡ m
  part_long = let e = length-drop (suc a) s in ap length is ∙ length-take-le m (drop (suc a) s) (omega (arith, e))

  part_at : (i : ℕ) → i < m → at xs i ≡ at s (suc a + i)
  part_at i h = ap (λ (ys : List ℕ). at ys i) is ∙ get_or-take m (drop (suc a) s) i 0 h ∙ get_or-drop (suc a) s i 0

  before_at : (i : ℕ) → i < m → at (at s a ∷ xs) i ≡ at s (a + i)
  before_at zero h = ap (at s) (sym (add-zero a))
  before_at (suc i) h = part_at i (omega arith) ∙ ap (at s) (let e : suc a + i ≡ a + suc i = omega arith in e)

  rule_at : (i p : ℕ) (t : Bool) → i < m → p ≡ suc a + i → OfOctets allows i (at (at s a ∷ xs) i) (at xs i) t → allows (p - suc a) (ch s (p - 1)) (ch s p) ≡ t
  rule_at i p t h e r =
      let j : i ≡ p - suc a = omega arith in
      let b : at (at s a ∷ xs) i ≡ at s (p - 1) = before_at i h ∙ ap (at s) (let k : a + i ≡ p - 1 = omega arith in k) in
      let c : at xs i ≡ at s p = part_at i h ∙ ap (at s) (sym e) in
      subst (λ (k : ℕ). allows k (ch s (p - 1)) (ch s p) ≡ t) j
      (subst (λ (x : ℕ). allows i (character x) (ch s p) ≡ t) b (subst (λ (x : ℕ). allows i (character (at (at s a ∷ xs) i)) (character x) ≡ t) c (sym r)))

  -- up to the first fault the places keep the rule
  pub part_kept : {first : Option ℕ} → FirstFault (OfOctets allows) (at s a) xs first → (p : ℕ) → suc a ≤ p → p < suc a + unwrap_or first m →
      allows (p - suc a) (ch s (p - 1)) (ch s p) ≡ true
  part_kept {first = None} f p l u = rule_at (p - suc a) p true (omega arith) (omega arith) (f.kept (p - suc a) (omega (arith, part_long)))
  part_kept {first = Some i} f p l u = let h = f.broken.0 in rule_at (p - suc a) p true (omega (arith, part_long)) (omega arith) (f.kept (p - suc a) (omega arith))

  -- and there it is broken
  pub part_broken : {i : ℕ} → FirstFault (OfOctets allows) (at s a) xs (Some i) → (i < m) × ((p : ℕ) → p ≡ suc a + i → allows (p - suc a) (ch s (p - 1)) (ch s p) ≡ false)
  part_broken {i} f = let h : i < m = omega (arith, f.broken.0, part_long) in (h, λ p e. rule_at i p false h e f.broken.1)
