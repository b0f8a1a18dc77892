-- What an acknowledgment does, by the first unsettled message. Assumes nothing.
use Rattle.std.proofs.Common.{◌≡◌, ℕ, zero, suc, Bool, true, false, cond, List, [], ◌∷◌, length, Some, None, sym, refl, ap, ◌∙◌}
use Rattle.std.specs.List.{slice_get}
use Rattle.stores.specs.Held.{Stored}
use Rattle.ends.specs.declared.types.Cell.{Cell}
use Rattle.ends.specs.declared.finding.Found.{Found}
use Rattle.ends.specs.Sending.{unsettled, later, current_place, is_out, current_out, advanced, block_count, stage_at, acknowledged_cells, with_outbox, with_cells}
use Rattle.ends.specs.Model.{Outbox, Model}
use Rattle.ends.specs.Finding.{Finds}
use Rattle.ends.proofs.Founds.{found_there, not_later, later_zero, later_suc}

out_none : (cs : List (Stored Cell)) → current_place cs ≡ None → current_out cs ≡ false
out_none [] e = refl
out_none (c ∷ cs) e =
    elim (unsettled c.«record».stage) as (λ b. cond b (Some 0) (later (current_place cs)) ≡ None → cond b (is_out c.«record».stage) (current_out cs) ≡ false) [
      | true ↦ (λ h. cc)
      | false ↦ (λ h. out_none cs (not_later (current_place cs) h))
    ] e

-- the cells after an acknowledgment that names the current block, at its place
record At-place (cs : List (Stored Cell)) (k : ℕ) (r : Stored Cell) : Type 0 where
  pub out : current_out cs ≡ is_out r.«record».stage
  pub cells : (room : ℕ) → is_out r.«record».stage ≡ true → acknowledged_cells room cs ≡ stage_at k (advanced (block_count room (length r.text)) r.«record».stage) cs

at_place : (cs : List (Stored Cell)) (k : ℕ) (r : Stored Cell) → current_place cs ≡ Some k → slice_get cs k ≡ Some r → At-place cs k r
at_place [] k r e h = cc
at_place (c ∷ cs) zero r e h = go (unsettled c.«record».stage) refl
  where
    go : (b : Bool) → unsettled c.«record».stage ≡ b → At-place (c ∷ cs) zero r
    go false u = absurd (later_zero (current_place cs) (rw u at e))
    go true u = let k : c ≡ r = cc in record { out = rw (u, k); cells = λ room o. rw (u, k, o) }
at_place (c ∷ cs) (suc k) r e h = go (λ q. at_place cs k r q h) (unsettled c.«record».stage) refl
  where
    go : (current_place cs ≡ Some k → At-place cs k r) → (b : Bool) → unsettled c.«record».stage ≡ b → At-place (c ∷ cs) (suc k) r
    go rest true u = let q = rw u at e in cc
    go rest false u =
        let p = rest (later_suc (current_place cs) k (rw u at e)) in
        record { out = rw u p.out; cells = λ room o. rw u (ap (λ (x : List (Stored Cell)). c ∷ x) (p.cells room o)) }

-- a sending half with nothing spent
abbrev pub reset : Outbox → Outbox
reset o = record { numbered = o.numbered; cells = o.cells; put = o.put; spent = 0; passing = o.passing }

-- the end after an acknowledgment that names the identifier last put, with room for so many characters in a block
abbrev after : ℕ → Model → Model
after room m = with_outbox m (reset (with_cells m.outbox (acknowledged_cells room m.outbox.cells)))

abbrev pub acknowledged_by : ℕ → Model → Model
acknowledged_by room m = cond (current_out m.outbox.cells) (after room m) m

pub kept_none : (room : ℕ) (m : Model) → current_place m.outbox.cells ≡ None → m ≡ acknowledged_by room m
kept_none room m e = rw (out_none m.outbox.cells e)

pub kept_at : (room : ℕ) (m : Model) (f : Found) → Finds (current_place m.outbox.cells) m.outbox.cells f → is_out f.cell.stage ≡ false → m ≡ acknowledged_by room m
kept_at room m f h o =
    let t = found_there f.place m.outbox.cells f h.there in
    let i : is_out t.cell.«record».stage ≡ is_out f.cell.stage = ap (λ (x : Found). is_out x.cell.stage) t.is in
    rw ((at_place m.outbox.cells f.place t.cell h.first t.there).out ∙ i ∙ o)

pub moved_at : (room : ℕ) (m : Model) (f : Found) → Finds (current_place m.outbox.cells) m.outbox.cells f → is_out f.cell.stage ≡ true →
    with_outbox m (reset (with_cells m.outbox (stage_at f.place (advanced (block_count room f.length) f.cell.stage) m.outbox.cells))) ≡ acknowledged_by room m
moved_at room m f h o =
    let cs = m.outbox.cells in
    let t = found_there f.place cs f h.there in
    let p = at_place cs f.place t.cell h.first t.there in
    let i : is_out t.cell.«record».stage ≡ is_out f.cell.stage = ap (λ (x : Found). is_out x.cell.stage) t.is in
    rw (p.out ∙ i ∙ o, p.cells room (i ∙ o))
    (ap (λ (x : Found). with_outbox m (reset (with_cells m.outbox (stage_at f.place (advanced (block_count room x.length) x.cell.stage) cs)))) (sym t.is))
