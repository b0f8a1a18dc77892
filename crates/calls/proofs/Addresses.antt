-- An address in which no character is out of place is a good one. Assumes nothing.
use Rattle.std.proofs.Common.{◌≡◌, ℕ, zero, suc, ◌<◌, true, false, List, ◌∷◌, length, Some, None, Option, sym, refl, arith}
use Rattle.std.specs.Option.{is_none}
use Rattle.blocks.specs.Legal.{at, address_allows}
use Rattle.blocks.specs.Scans.{FirstFault}
use Rattle.calls.specs.Setting.{address_good}

pub address_tested : (a : List ℕ) → length a ≡ 7 → (r : Option ℕ) → FirstFault (λ i before c allowed. allowed ≡ address_allows i before c) 50 a r → is_none r ≡ address_good a
address_tested a seven None f =
    let k : (i : ℕ) → i < 7 → address_allows i (at (50 ∷ a) i) (at a i) ≡ true = λ i h. sym (f.kept i (omega (arith, seven, h))) in
    rw (k 0 (omega arith), k 1 (omega arith), k 2 (omega arith), k 3 (omega arith), k 4 (omega arith), k 5 (omega arith), k 6 (omega arith)) refl
address_tested a seven (Some i) f = sym (go i f.kept f.broken)
  where
    go : (i : ℕ) → ((j : ℕ) → j < i → true ≡ address_allows j (at (50 ∷ a) j) (at a j)) → (i < length a) × (false ≡ address_allows i (at (50 ∷ a) i) (at a i)) → address_good a ≡ false
    go zero k b = rw (sym b.1) refl
    go (suc zero) k b = rw (sym (k 0 (omega arith)), sym b.1) refl
    go (suc (suc zero)) k b = rw (sym (k 0 (omega arith)), sym (k 1 (omega arith)), sym b.1) refl
    go (suc (suc (suc zero))) k b = rw (sym (k 0 (omega arith)), sym (k 1 (omega arith)), sym (k 2 (omega arith)), sym b.1) refl
    go (suc (suc (suc (suc zero)))) k b = rw (sym (k 0 (omega arith)), sym (k 1 (omega arith)), sym (k 2 (omega arith)), sym (k 3 (omega arith)), sym b.1) refl
    go (suc (suc (suc (suc (suc zero))))) k b = rw (sym (k 0 (omega arith)), sym (k 1 (omega arith)), sym (k 2 (omega arith)), sym (k 3 (omega arith)), sym (k 4 (omega arith)), sym b.1) refl
    go (suc (suc (suc (suc (suc (suc zero)))))) k b = rw (sym (k 0 (omega arith)), sym (k 1 (omega arith)), sym (k 2 (omega arith)), sym (k 3 (omega arith)), sym (k 4 (omega arith)), sym (k 5 (omega arith)), sym b.1) refl
    go (suc (suc (suc (suc (suc (suc (suc j))))))) k b = let h = b.0 in absurd (omega (arith, h, seven))
