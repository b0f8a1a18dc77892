-- The first unsettled outgoing message: what a tick plans, and what a new block does to the cells. Assumes nothing.
use Rattle.std.proofs.Common.{◌≡◌, ℕ, zero, suc, ◌+◌, ◌<◌, ◌≤◌, Bool, true, false, cond, eqb, ◌⊎◌, List, [], ◌∷◌, length, Some, None, sym, refl, ap, ◌∙◌, inl, inr, arith, eq-eqb, ne_eqb}
use borrow.Author.Tests.{eqb-false}
use Rattle.std.specs.List.{slice_get}
use Rattle.stores.specs.Held.{Stored, stored}
use Rattle.calls.specs.declared.types.Label.{Label}
use Rattle.ends.specs.declared.types.Cell.{Cell}
use Rattle.ends.specs.declared.types.Stage.{Stage}
use Rattle.ends.specs.declared.types.Stage.TheVariants.{Unsettled, Settled}
use Rattle.calls.specs.declared.types.Outcome.{Outcome}
use Rattle.ends.specs.Model.{Model}
use Rattle.ends.specs.Sending.{block_count, stage_at, plan_of_cell, plan_from, otherwise}
use Rattle.law.specs.Senders.{Status, unsettled, idle, out}
use Rattle.runs.specs.Links.{current_of}
use Rattle.runs.specs.History.{status_of, called_in}
use Rattle.runs.proofs.Cells.{course_of, phase_by, phase_of, AllUnbegun, Orderly, Between, Celled, here, there, below_uncalled}
use Rattle.runs.proofs.Courses.{Restaged, restaged, restaged_same}
use Rattle.runs.proofs.Senders.{settled_not}

-- a cell, by its parts
abbrev pub cell_of : ℕ → Label → Stage → List ℕ → Stored Cell
cell_of n l s t = stored (record { number = n; label = l; stage = s }) t

-- message n of a cell, with a blocks acknowledged, is the first unsettled one; o: its current block has gone out
pub record First (room lo : ℕ) (cs : List (Stored Cell)) : Type 0 where
  pub place : ℕ
  pub number : ℕ
  pub label : Label
  pub text : List ℕ
  pub acknowledged : ℕ
  pub gone : Bool
  pub from : lo ≤ number
  pub there_is : slice_get cs place ≡ Some (cell_of number label (Unsettled acknowledged gone) text)
  pub current : current_of cs ≡ Some (number, acknowledged)
  pub fits : acknowledged < block_count room (length text)
  pub phase : (m : Bool) → phase_of room m cs ≡ phase_by room (cell_of number label (Unsettled acknowledged gone) text) (Unsettled acknowledged gone) m (idle m)
  pub plan : (m : Model) (time base : ℕ) → plan_from m time base cs ≡ plan_of_cell m time (base + place) (Unsettled acknowledged gone)
  -- the oldest: whatever has a smaller number is settled
  pub oldest : (s : Status) (j : ℕ) → j < number → Celled j cs ⊎ (s ≡ unsettled → ⊥) → called_in cs s j ≡ unsettled → ⊥
  pub open_yet : (s : Status) → called_in cs s number ≡ unsettled
  pub celled : Celled number cs
  -- once its block has gone out
  pub phase_after : (m : Bool) → phase_of room m (stage_at place (Unsettled acknowledged true) cs) ≡ out (course_of room (cell_of number label (Unsettled acknowledged true) text) acknowledged)
  pub called_after : (s : Status) (j : ℕ) → called_in (stage_at place (Unsettled acknowledged true) cs) s j ≡ called_in cs s j
  pub orderly_after : Orderly room (stage_at place (Unsettled acknowledged true) cs)
  pub restaged_after : Restaged cs (stage_at place (Unsettled acknowledged true) cs)

-- no message is unsettled
pub record All-settled (room : ℕ) (cs : List (Stored Cell)) : Type 0 where
  pub current : current_of cs ≡ None
  pub phase : (m : Bool) → phase_of room m cs ≡ idle m
  pub plan : (m : Model) (time base : ℕ) → plan_from m time base cs ≡ otherwise m.inbox.owed
  pub settled : (s : Status) (j : ℕ) → Celled j cs ⊎ (s ≡ unsettled → ⊥) → called_in cs s j ≡ unsettled → ⊥

-- a test on a number beside a settled cell
beside : (n : ℕ) (l : Label) (t : List ℕ) (y : Outcome) (cs : List (Stored Cell)) (s : Status) (j : ℕ) →
    (Celled j cs ⊎ (s ≡ unsettled → ⊥) → called_in cs s j ≡ unsettled → ⊥) →
    (b : Bool) → eqb j n ≡ b → Celled j (cell_of n l (Settled y) t ∷ cs) ⊎ (s ≡ unsettled → ⊥) → cond b (status_of y) (called_in cs s j) ≡ unsettled → ⊥
beside n l t y cs s j ih true e h = settled_not y
beside n l t y cs s j ih false e (inl (here d)) = absurd (eqb-false j n e d)
beside n l t y cs s j ih false e (inl (there d)) = ih (inl d)
beside n l t y cs s j ih false e (inr d) = ih (inr d)

-- no cell has a number below the first
not_below : (lo hi j : ℕ) (cs : List (Stored Cell)) → Between lo hi cs → j < lo → Celled j cs → ⊥
not_below lo hi j [] b h x = elim x [ ]
not_below lo hi j (c ∷ cs) b h (here d) = let g = b.0 in absurd (omega (arith, h, d, g))
not_below lo hi j (c ∷ cs) b h (there d) = let g = b.0 in not_below (suc c.«record».number) hi j cs b.2 (omega (arith, h, g)) d

module _ (room : ℕ) (n : ℕ) (l : Label) (t : List ℕ) (cs : List (Stored Cell)) where
  here_first : (hi a : ℕ) (o : Bool) → Between (suc n) hi cs → a < block_count room (length t) → AllUnbegun cs → First room n (cell_of n l (Unsettled a o) t ∷ cs)
  here_first hi a o B f u = record {
    place = 0;
    number = n;
    label = l;
    text = t;
    acknowledged = a;
    gone = o;
    from = omega arith;
    there_is = refl;
    current = refl;
    fits = f;
    phase = λ m. phase_on m a o;
    plan = λ m time base. ap (λ (k : ℕ). plan_of_cell m time k (Unsettled a o)) (omega arith);
    oldest = λ s j h w e. before s j h w e;
    open_yet = λ s. rw (eq-eqb n n refl) refl;
    celled = here refl;
    phase_after = λ m. refl;
    called_after = λ s j. refl;
    orderly_after = (f, u);
    restaged_after = restaged (restaged_same cs);
  }
    where
      phase_on : (m : Bool) (a : ℕ) (o : Bool) → phase_of room m (cell_of n l (Unsettled a o) t ∷ cs) ≡ phase_by room (cell_of n l (Unsettled a o) t) (Unsettled a o) m (idle m)
      phase_on m zero false = refl
      phase_on m (suc a) false = refl
      phase_on m a true = refl

      before : (s : Status) (j : ℕ) → j < n → Celled j (cell_of n l (Unsettled a o) t ∷ cs) ⊎ (s ≡ unsettled → ⊥) → called_in (cell_of n l (Unsettled a o) t ∷ cs) s j ≡ unsettled → ⊥
      before s j h (inl (here d)) e = absurd (omega (arith, h, d))
      before s j h (inl (there d)) e = not_below (suc n) hi j cs B (omega (arith, h)) d
      before s j h (inr d) e =
          d (sym (below_uncalled (suc n) hi j cs s B (omega (arith, h))) ∙
          sym (ap (λ (b : Bool). cond b unsettled (called_in cs s j)) (ne_eqb j n (λ z. omega (arith, h, z)))) ∙ e)

  later_first : (y : Outcome) → First room (suc n) cs → First room n (cell_of n l (Settled y) t ∷ cs)
  later_first y F =
      let g = F.from in
      record {
        place = suc F.place;
        number = F.number;
        label = F.label;
        text = F.text;
        acknowledged = F.acknowledged;
        gone = F.gone;
        from = omega (arith, g);
        there_is = F.there_is;
        current = F.current;
        fits = F.fits;
        phase = F.phase;
        plan = λ m time base. F.plan m time (suc base) ∙ ap (λ (k : ℕ). plan_of_cell m time k (Unsettled F.acknowledged F.gone)) (omega arith);
        oldest = λ s j h w e. beside n l t y cs s j (F.oldest s j h) (eqb j n) refl w e;
        open_yet = λ s. rw (ne_eqb F.number n (λ z. omega (arith, g, z))) (F.open_yet s);
        celled = there F.celled;
        phase_after = F.phase_after;
        called_after = λ s j. ap (λ (x : Status). cond (eqb j n) (status_of y) x) (F.called_after s j);
        orderly_after = F.orderly_after;
        restaged_after = restaged F.restaged_after;
      }

  later_settled : (y : Outcome) → All-settled room cs → All-settled room (cell_of n l (Settled y) t ∷ cs)
  later_settled y N = record {
    current = N.current;
    phase = N.phase;
    plan = λ m time base. N.plan m time (suc base);
    settled = λ s j w e. beside n l t y cs s j (N.settled s j) (eqb j n) refl w e;
  }

  step : (hi : ℕ) (s : Stage) → Between (suc n) hi cs → Orderly room (cell_of n l s t ∷ cs) → (Orderly room cs → First room (suc n) cs ⊎ All-settled room cs) →
      First room n (cell_of n l s t ∷ cs) ⊎ All-settled room (cell_of n l s t ∷ cs)
  step hi (Unsettled a o) B w ih = inl (here_first hi a o B w.0 w.1)
  step hi (Settled y) B w ih = elim (ih w) [ inl F ↦ inl (later_first y F) | inr N ↦ inr (later_settled y N) ]

none_settled : (room : ℕ) → All-settled room []
none_settled room = record { current = refl; phase = λ m. refl; plan = λ m time base. refl; settled = λ s j w e. elim w [ inl x ↦ elim x [ ] | inr d ↦ d e ] }

lower : (room lo n : ℕ) (cs : List (Stored Cell)) → lo ≤ n → First room n cs → First room lo cs
lower room lo n cs h F =
    let g = F.from in
    record {
      place = F.place;
      number = F.number;
      label = F.label;
      text = F.text;
      acknowledged = F.acknowledged;
      gone = F.gone;
      from = omega (arith, g, h);
      there_is = F.there_is;
      current = F.current;
      fits = F.fits;
      phase = F.phase;
      plan = F.plan;
      oldest = F.oldest;
      open_yet = F.open_yet;
      celled = F.celled;
      phase_after = F.phase_after;
      called_after = F.called_after;
      orderly_after = F.orderly_after;
      restaged_after = F.restaged_after;
    }

pub first_of : (room lo hi : ℕ) (cs : List (Stored Cell)) → Between lo hi cs → Orderly room cs → First room lo cs ⊎ All-settled room cs
first_of room lo hi [] b o = inr (none_settled room)
first_of room lo hi (c ∷ cs) b o =
    let h = b.0 in
    elim (step room c.«record».number c.«record».label c.text cs hi c.«record».stage b.2 o (first_of room (suc c.«record».number) hi cs b.2)) [
      | inl F ↦ inl (lower room lo c.«record».number (c ∷ cs) h F)
      | inr N ↦ inr N
    ]
