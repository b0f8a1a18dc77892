-- A message with another stage. Assumes nothing.
use Rattle.std.proofs.Common.{◌≡◌, ℕ, zero, suc, List, [], ◌∷◌, Some, None, sym, refl, ap}
use Rattle.stores.specs.Held.{Stored, stored, record_at, with_record}
use Rattle.ends.specs.declared.types.Cell.{Cell}
use Rattle.ends.specs.declared.types.Stage.{Stage}
use Rattle.ends.specs.Sending.{staged, stage_at}

pub stage_set : (cs : List (Stored Cell)) (i : ℕ) (r : Cell) (s : Stage) → record_at i cs ≡ Some r → with_record i (staged r s) cs ≡ stage_at i s cs
stage_set [] i r s e = refl
stage_set (c ∷ cs) zero r s e =
    let k : c.«record» ≡ r = cc in
    ap (λ (x : Cell). stored (staged x s) c.text ∷ cs) (sym k)
stage_set (c ∷ cs) (suc i) r s e = ap (λ (x : List (Stored Cell)). c ∷ x) (stage_set cs i r s e)

pub stage_past : (cs : List (Stored Cell)) (i : ℕ) (s : Stage) → record_at i cs ≡ None → cs ≡ stage_at i s cs
stage_past [] i s e = refl
stage_past (c ∷ cs) zero s e = cc
stage_past (c ∷ cs) (suc i) s e = ap (λ (x : List (Stored Cell)). c ∷ x) (stage_past cs i s e)
