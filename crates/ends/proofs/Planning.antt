-- What a tick is to send, by the first unsettled message. Assumes nothing.
use Rattle.std.proofs.Common.{◌≡◌, ℕ, zero, suc, ◌+◌, ◌<◌, Bool, true, false, cond, leb, List, [], ◌∷◌, length, Some, None, Option, MatchOption, sym, refl, ap, ◌∙◌, subst, arith, zero-add}
use Rattle.std.specs.List.{slice_get}
use Rattle.stores.specs.Held.{Stored}
use Rattle.ends.specs.declared.types.Cell.{Cell}
use Rattle.ends.specs.declared.types.Stage.{Stage}
use Rattle.ends.specs.declared.types.Stage.TheVariants.{Unsettled, Settled}
use Rattle.ends.specs.declared.types.Plan.{Plan}
use Rattle.ends.specs.declared.types.Plan.TheVariants.{Again}
use Rattle.ends.specs.declared.finding.Found.{Found}
use Rattle.ends.specs.Steps.{Planned}
use Rattle.ends.specs.Model.{Model}
use Rattle.ends.specs.Sending.{unsettled, later, current_place, otherwise, plan_of_cell, plan_from, plan_of}
use Rattle.ends.specs.Finding.{Finds}
use Rattle.ends.proofs.Founds.{found_there, not_later, later_zero, later_suc}

plan_none : (m : Model) (t : ℕ) (cs : List (Stored Cell)) (i : ℕ) → current_place cs ≡ None → plan_from m t i cs ≡ otherwise m.inbox.owed
plan_none m t [] i e = refl
plan_none m t (c ∷ cs) i e =
    elim (unsettled c.«record».stage) as (λ b. cond b (Some 0) (later (current_place cs)) ≡ None →
    cond b (plan_of_cell m t i c.«record».stage) (plan_from m t (suc i) cs) ≡ otherwise m.inbox.owed) [
      | true ↦ (λ e. cc)
      | false ↦ (λ e. plan_none m t cs (suc i) (not_later (current_place cs) e))
    ] e

plan_some : (m : Model) (t : ℕ) (cs : List (Stored Cell)) (i k : ℕ) (c : Stored Cell) → current_place cs ≡ Some k → slice_get cs k ≡ Some c → plan_from m t i cs ≡ plan_of_cell m t (k + i) c.«record».stage
plan_some m t [] i k c e h = cc
plan_some m t (d ∷ cs) i zero c e h = go (unsettled d.«record».stage) refl
  where
    go : (b : Bool) → unsettled d.«record».stage ≡ b → plan_from m t i (d ∷ cs) ≡ plan_of_cell m t (0 + i) c.«record».stage
    go false u = absurd (later_zero (current_place cs) (rw u at e))
    go true u = let k : d ≡ c = cc in rw (u, k, zero-add i)
plan_some m t (d ∷ cs) i (suc k) c e h = go (λ q. plan_some m t cs (suc i) k c q h) (unsettled d.«record».stage) refl
  where
    go : (current_place cs ≡ Some k → plan_from m t (suc i) cs ≡ plan_of_cell m t (k + suc i) c.«record».stage) → (b : Bool) → unsettled d.«record».stage ≡ b →
        plan_from m t i (d ∷ cs) ≡ plan_of_cell m t (suc k + i) c.«record».stage
    go rest true u = let q = rw u at e in cc
    go rest false u =
        let n : k + suc i ≡ suc k + i = omega arith in
        rw (u, ← n) (rest (later_suc (current_place cs) k (rw u at e)))

plan_found : (m : Model) (t : ℕ) (f : Found) → Finds (current_place m.outbox.cells) m.outbox.cells f → plan_of_cell m t f.place f.cell.stage ≡ plan_of m t
plan_found m t f h =
    let p = found_there f.place m.outbox.cells f h.there in
    let n : f.place + 0 ≡ f.place = omega arith in
    sym (plan_some m t m.outbox.cells 0 f.place p.cell h.first p.there ∙
    ap (λ (j : ℕ). plan_of_cell m t j p.cell.«record».stage) n ∙ ap (λ (x : Found). plan_of_cell m t f.place x.cell.stage) p.is)

-- the plan by the current message, if there is one
pub plan_by_found : (m : Model) (t : ℕ) (o : Option Found) (p : Plan) → MatchOption o (current_place m.outbox.cells ≡ None) (λ f. Finds (current_place m.outbox.cells) m.outbox.cells f) →
    MatchOption o (p ≡ otherwise m.inbox.owed) (λ f. p ≡ plan_of_cell m t f.place f.cell.stage) → p ≡ plan_of m t
plan_by_found m t None p h e = e ∙ sym (plan_none m t m.outbox.cells 0 h)
plan_by_found m t (Some f) p h e = e ∙ plan_found m t f h

-- the cell that a plan names is there
planned_otherwise : (b : Bool) (n : ℕ) → Planned (otherwise b) n
planned_otherwise true n = tt
planned_otherwise false n = tt

planned_cell : (m : Model) (t i n : ℕ) (s : Stage) → i < n → Planned (plan_of_cell m t i s) n
planned_cell m t i n (Unsettled a false) h = h
planned_cell m t i n (Unsettled a true) h =
    elim (leb m.clock.due t) as (λ b. Planned (cond b (Again (record { place = i; index = a })) (otherwise m.inbox.owed)) n) [ true ↦ h | false ↦ planned_otherwise m.inbox.owed n ]
planned_cell m t i n (Settled o) h = planned_otherwise m.inbox.owed n

planned_from : (m : Model) (t : ℕ) (cs : List (Stored Cell)) (i n : ℕ) → i + length cs ≡ n → Planned (plan_from m t i cs) n
planned_from m t [] i n e = planned_otherwise m.inbox.owed n
planned_from m t (c ∷ cs) i n e =
    elim (unsettled c.«record».stage) as (λ b. Planned (cond b (plan_of_cell m t i c.«record».stage) (plan_from m t (suc i) cs)) n) [
      | true ↦ planned_cell m t i n c.«record».stage (omega arith)
      | false ↦ planned_from m t cs (suc i) n (omega arith)
    ]

pub planned : (m : Model) (t : ℕ) (p : Plan) → p ≡ plan_of m t → Planned p (length m.outbox.cells)
planned m t p e =
    subst (λ (q : Plan). Planned q (length m.outbox.cells)) (sym e) (planned_from m t m.outbox.cells 0 (length m.outbox.cells) (omega arith))
