-- Both layouts find the first string of a run again. Assumes nothing.
use Rattle.std.specs.Prelude.{◌≡◌, ℕ, suc, ◌+◌, ◌<◌, Bool, true, false, cond, not, ◌&&◌, List, [], ◌∷◌, ◌++◌, length, ◌==◌, nat_le, refl}
use Rattle.std.proofs.Common.{ap, ◌∙◌, arith}
use Rattle.std.proofs.Math.Nat.{div-add-mod}
use Rattle.std.proofs.lemmas.Bool.{and_parts, eqb-true}
use Rattle.lines.specs.Layout.{Lawful, holds}
use Rattle.lines.specs.Layouts.{framed, spelled, suffix_at, is_suffix}

pub framed_lawful : Lawful framed
framed_lawful = record { head_long = λ s. refl; found = λ s rest h. div-add-mod (length s) 256 }

-- What follows a string that has a suffix does not move its first.
suffix_stays : (s rest : List ℕ) → suffix_at s < length s → suffix_at (s ++ rest) ≡ suffix_at s
suffix_stays [] rest h = absurd (omega arith)
suffix_stays (x ∷ s) rest h = go (is_suffix x) h (suffix_stays s rest)
  where
    go : (t : Bool) → cond (not t) (1 + suffix_at s) 0 < suc (length s) → (suffix_at s < length s → suffix_at (s ++ rest) ≡ suffix_at s) → cond (not t) (1 + suffix_at (s ++ rest)) 0 ≡ cond (not t) (1 + suffix_at s) 0
    go true h e = refl
    go false h e = ap (λ (n : ℕ). 1 + n) (e (omega arith))

spelled_found : (s rest : List ℕ) → holds spelled s ≡ true → suffix_at (s ++ rest) + 4 ≡ length s
spelled_found s rest h =
    let k = (and_parts (nat_le 1 (length s) && nat_le (length s) 256) (suffix_at s + 4 == length s) h).1 in
    let e = eqb-true (suffix_at s + 4) (length s) k in
    ap (λ (n : ℕ). n + 4) (suffix_stays s rest (omega arith)) ∙ e

pub spelled_lawful : Lawful spelled
spelled_lawful = record { head_long = λ s. refl; found = spelled_found }
