-- Where a number was found, its unsettled message stands. Assumes nothing.
use Rattle.std.proofs.Common.{◌≡◌, ℕ, suc, Bool, true, false, cond, ◌&&◌, eqb, List, [], ◌∷◌, Some, None, sym, refl, subst, eqb-true}
use Rattle.std.specs.declared.option.Option as std
use Rattle.stores.specs.Held.{Stored}
use Rattle.calls.specs.declared.types.Label.{Label}
use Rattle.ends.specs.declared.types.Cell.{Cell}
use Rattle.ends.specs.declared.types.Stage.{Stage}
use Rattle.ends.specs.declared.types.Stage.TheVariants.{Unsettled, Settled}
use Rattle.ends.specs.Sending.{place_of_number, later}
use Rattle.ends.specs.Sending as sending
use Rattle.runs.proofs.Firsts.{cell_of}
use Rattle.runs.proofs.Withdrawals.{Stands, stands_here, stands_later}

-- a message with this number stands at a place
pub record Found (n k : ℕ) (cs : List (Stored Cell)) : Type 0 where
  pub label : Label
  pub text : List ℕ
  pub acknowledged : ℕ
  pub gone : Bool
  pub stands : Stands n label text acknowledged gone k cs

found_later : {n k : ℕ} {c : Stored Cell} {cs : List (Stored Cell)} → Found n k cs → Found n (suc k) (c ∷ cs)
found_later F = record { label = F.label; text = F.text; acknowledged = F.acknowledged; gone = F.gone; stands = stands_later F.stands }

-- it was found further on
found_past : {n : ℕ} {cs : List (Stored Cell)} (c : Stored Cell) (p : std.Option ℕ) → ((j : ℕ) → p ≡ Some j → Found n j cs) → (j : ℕ) → later p ≡ Some j → Found n j (c ∷ cs)
found_past c None ih j q = cc
found_past {n = n} {cs = cs} c (Some i) ih j q =
    let y : suc i ≡ j = cc in
    subst (λ (x : ℕ). Found n x (c ∷ cs)) y (found_later (ih i refl))

pub found : (n : ℕ) (cs : List (Stored Cell)) (k : ℕ) → place_of_number n cs ≡ Some k → Found n k cs
found n [] k e = cc
found n (c ∷ cs) k e = go (eqb c.«record».number n) c.«record».stage refl (place_of_number n cs) (found n cs) k e
  where
    go : (b : Bool) (s : Stage) → eqb c.«record».number n ≡ b → (p : std.Option ℕ) → ((j : ℕ) → p ≡ Some j → Found n j cs) → (j : ℕ) →
        cond (b && sending.unsettled s) (Some 0) (later p) ≡ Some j → Found n j (cell_of c.«record».number c.«record».label s c.text ∷ cs)
    go true (Unsettled a g) d p ih j q =
        let y : ◌≡◌ {A = ℕ} 0 j = cc in
        subst (λ (i : ℕ). Found n i (cell_of c.«record».number c.«record».label (Unsettled a g) c.text ∷ cs)) y
        (subst (λ (i : ℕ). Found n 0 (cell_of i c.«record».label (Unsettled a g) c.text ∷ cs)) (sym (eqb-true c.«record».number n d))
        (record { label = c.«record».label; text = c.text; acknowledged = a; gone = g; stands = stands_here }))
    go true (Settled o) d p ih j q = found_past (cell_of c.«record».number c.«record».label (Settled o) c.text) p ih j q
    go false s d p ih j q = found_past (cell_of c.«record».number c.«record».label s c.text) p ih j q
