-- A withdrawal: what it does to the cells. Assumes nothing.
use Rattle.std.proofs.Common.{◌≡◌, ℕ, zero, suc, ◌<◌, ◌≤◌, Bool, true, false, cond, eqb, List, [], ◌∷◌, sym, refl, ap, ◌∙◌, arith, ne_eqb, eqb-true}
use borrow.Author.Tests.{clash}
use Rattle.stores.specs.Held.{Stored}
use Rattle.calls.specs.declared.types.Label.{Label}
use Rattle.ends.specs.declared.types.Cell.{Cell}
use Rattle.ends.specs.declared.types.Stage.{Stage}
use Rattle.ends.specs.declared.types.Stage.TheVariants.{Unsettled, Settled}
use Rattle.calls.specs.declared.types.Outcome.{Outcome}
use Rattle.ends.specs.Sending.{begun, stage_at}
use Rattle.law.specs.Senders.{Text, Status, unsettled, Course, number_of, Phase, idle, ready, out, Begun, between, current}
use Rattle.runs.specs.Strings.{cuts}
use Rattle.runs.specs.History.{status_at, status_of, called_in}
use Rattle.runs.proofs.Cells.{course_from, phase_by, phase_of, AllUnbegun, Orderly, OrderlyBy, Between}
use Rattle.runs.proofs.Courses.{idle_unbegun, Restaged, no_cells, restaged, restaged_same}
use Rattle.runs.proofs.Counting.{unbegun_orderly}
use Rattle.runs.proofs.Firsts.{cell_of}
use Rattle.runs.proofs.Cuts.{Counted}

-- stages set at a place

pub stage_restaged : (k : ℕ) (s : Stage) (cs : List (Stored Cell)) → Restaged cs (stage_at k s cs)
stage_restaged k s [] = no_cells
stage_restaged zero s (c ∷ cs) = restaged (restaged_same cs)
stage_restaged (suc k) s (c ∷ cs) = restaged (stage_restaged k s cs)

stage_unbegun : (k : ℕ) (x : Outcome) (cs : List (Stored Cell)) → AllUnbegun cs → AllUnbegun (stage_at k (Settled x) cs)
stage_unbegun k x [] u = tt
stage_unbegun zero x (c ∷ cs) u = (tt, u.1)
stage_unbegun (suc k) x (c ∷ cs) u = (u.0, stage_unbegun k x cs u.1)

pub stage_orderly : (room k : ℕ) → Counted room → (x : Outcome) (cs : List (Stored Cell)) → Orderly room cs → Orderly room (stage_at k (Settled x) cs)
stage_orderly room k C x [] o = tt
stage_orderly room zero C x (c ∷ cs) o = go c.«record».stage o
  where
    go : (s : Stage) → OrderlyBy room c s cs (Orderly room cs) → Orderly room cs
    go (Unsettled a y) w = unbegun_orderly room C cs w.1
    go (Settled y) w = w
stage_orderly room (suc k) C x (c ∷ cs) o = go c.«record».stage o (stage_orderly room k C x cs)
  where
    go : (s : Stage) → OrderlyBy room c s cs (Orderly room cs) → (Orderly room cs → Orderly room (stage_at k (Settled x) cs)) → OrderlyBy room c s (stage_at k (Settled x) cs) (Orderly room (stage_at k (Settled x) cs))
    go (Unsettled a y) w ih = (w.0, stage_unbegun k x cs w.1)
    go (Settled y) w ih = ih w

-- message n stands in the cell at place k, with a blocks acknowledged; g: its current block has gone out
pub data Stands (n : ℕ) (l : Label) (t : List ℕ) (a : ℕ) (g : Bool) : ℕ → List (Stored Cell) → Type 0 where
  stands_here : {cs : List (Stored Cell)} → Stands n l t a g zero (cell_of n l (Unsettled a g) t ∷ cs)
  stands_later : {c : Stored Cell} {k : ℕ} {cs : List (Stored Cell)} → Stands n l t a g k cs → Stands n l t a g (suc k) (c ∷ cs)

pub stands_from : {n a : ℕ} {l : Label} {t : List ℕ} {g : Bool} {k : ℕ} {cs : List (Stored Cell)} (lo hi : ℕ) → Stands n l t a g k cs → Between lo hi cs → lo ≤ n
stands_from lo hi stands_here b = b.0
stands_from lo hi (stands_later {c = c} q) b =
    let f = stands_from (suc c.«record».number) hi q b.2 in
    let h = b.0 in
    omega (arith, f, h)

-- what the numbers are called after it
pub called_settled : {n a : ℕ} {l : Label} {t : List ℕ} {g : Bool} {k : ℕ} {cs : List (Stored Cell)} (lo hi : ℕ) → Stands n l t a g k cs → Between lo hi cs → (x : Outcome) (s : Status) (j : ℕ) →
    called_in (stage_at k (Settled x) cs) s j ≡ cond (eqb j n) (status_of x) (called_in cs s j)
called_settled {n = n} lo hi (stands_here {cs = cs}) b x s j = go (eqb j n)
  where
    go : (t : Bool) → cond t (status_of x) (called_in cs s j) ≡ cond t (status_of x) (cond t unsettled (called_in cs s j))
    go true = refl
    go false = refl
called_settled {n = n} lo hi (stands_later {c = c} {cs = cs} q) b x s j =
    ap (λ (y : Status). cond (eqb j c.«record».number) (status_at c.«record».stage) y) (called_settled (suc c.«record».number) hi q b.2 x s j) ∙
    go (eqb j c.«record».number) refl
  where
    go : (t : Bool) → eqb j c.«record».number ≡ t →
        cond t (status_at c.«record».stage) (cond (eqb j n) (status_of x) (called_in cs s j)) ≡ cond (eqb j n) (status_of x) (cond t (status_at c.«record».stage) (called_in cs s j))
    go true e =
        let d = eqb-true j c.«record».number e in
        let f = stands_from (suc c.«record».number) hi q b.2 in
        rw (ne_eqb j n (λ z. omega (arith, d, f, z))) refl
    go false e = refl

-- a message that is begun is the first unsettled one

pub none_begun : {n a : ℕ} {l : Label} {t : List ℕ} {g : Bool} {k : ℕ} {cs : List (Stored Cell)} → Stands n l t a g k cs → AllUnbegun cs → begun (Unsettled a g) ≡ true → ⊥
none_begun {a = a} {g = g} stands_here u e =
    clash (sym (ap (λ (y : Bool). begun (Unsettled 0 y)) u.0.1) ∙ sym (ap (λ (b : ℕ). begun (Unsettled b g)) u.0.0) ∙ e)
none_begun (stands_later q) u e = none_begun q u.1 e

-- what follows an unsettled cell does not matter to the phase
unsettled_first : (room : ℕ) (m : Bool) (c : Stored Cell) (a : ℕ) (g : Bool) (p q : Phase) → phase_by room c (Unsettled a g) m p ≡ phase_by room c (Unsettled a g) m q
unsettled_first room m c zero false p q = refl
unsettled_first room m c (suc a) false p q = refl
unsettled_first room m c a true p q = refl

module _ (room : ℕ) (m : Bool) where
  pub begun_phase : {n a : ℕ} {l : Label} {t : List ℕ} {g : Bool} {k : ℕ} {cs : List (Stored Cell)} → Stands n l t a g k cs → Orderly room cs → begun (Unsettled a g) ≡ true →
      phase_of room m cs ≡ phase_by room (cell_of n l (Unsettled a g) t) (Unsettled a g) m (idle m)
  begun_phase {n = n} {a = a} {l = l} {t = t} {g = g} (stands_here {cs = cs}) o e = unsettled_first room m (cell_of n l (Unsettled a g) t) a g (phase_of room m cs) (idle m)
  begun_phase {n = n} {a = a} {l = l} {t = t} {g = g} (stands_later {c = c} {cs = cs} q) o e = go c.«record».stage o (λ w. begun_phase q w e)
    where
      go : (s : Stage) → OrderlyBy room c s cs (Orderly room cs) → (Orderly room cs → phase_of room m cs ≡ phase_by room (cell_of n l (Unsettled a g) t) (Unsettled a g) m (idle m)) →
          phase_by room c s m (phase_of room m cs) ≡ phase_by room (cell_of n l (Unsettled a g) t) (Unsettled a g) m (idle m)
      go (Unsettled b y) w ih = absurd (none_begun q w.1 e)
      go (Settled y) w ih = ih w

  pub begun_after : {n a : ℕ} {l : Label} {t : List ℕ} {g : Bool} {k : ℕ} {cs : List (Stored Cell)} → Stands n l t a g k cs → Orderly room cs → begun (Unsettled a g) ≡ true → (x : Outcome) →
      phase_of room m (stage_at k (Settled x) cs) ≡ idle m
  begun_after (stands_here {cs = cs}) o e x = idle_unbegun room m cs o.1
  begun_after (stands_later {c = c} {k = k} {cs = cs} q) o e x = go c.«record».stage o (λ w. begun_after q w e x)
    where
      go : (s : Stage) → OrderlyBy room c s cs (Orderly room cs) → (Orderly room cs → phase_of room m (stage_at k (Settled x) cs) ≡ idle m) → phase_by room c s m (phase_of room m (stage_at k (Settled x) cs)) ≡ idle m
      go (Unsettled b y) w ih = absurd (none_begun q w.1 e)
      go (Settled y) w ih = ih w

  -- one that is not begun leaves the phase
  pub unbegun_after : {n : ℕ} {l : Label} {t : List ℕ} {k : ℕ} {cs : List (Stored Cell)} → Stands n l t 0 false k cs → Orderly room cs → (x : Outcome) →
      phase_of room m (stage_at k (Settled x) cs) ≡ phase_of room m cs
  unbegun_after (stands_here {cs = cs}) o x = idle_unbegun room m cs o.1
  unbegun_after (stands_later {c = c} {k = k} {cs = cs} q) o x = go c.«record».stage o (λ w. unbegun_after q w x)
    where
      go : (s : Stage) → OrderlyBy room c s cs (Orderly room cs) → (Orderly room cs → phase_of room m (stage_at k (Settled x) cs) ≡ phase_of room m cs) →
          phase_by room c s m (phase_of room m (stage_at k (Settled x) cs)) ≡ phase_by room c s m (phase_of room m cs)
      go (Unsettled b y) w ih = unsettled_first room m c b y (phase_of room m (stage_at k (Settled x) cs)) (phase_of room m cs)
      go (Settled y) w ih = ih w

-- a message that is not begun is not under way

pub course_number : (n : ℕ) (l : List ℕ) (ds ts : List Text) (a : ℕ) → number_of (course_from n l ds ts a) ≡ n
course_number n l ds [] a = refl
course_number n l ds (t ∷ us) zero = refl
course_number n l ds (t ∷ us) (suc a) = course_number n l (t ∷ ds) us a

begun_ready : {n : ℕ} {z : Course} → Begun (ready z) n → number_of z ≡ n
begun_ready between = refl

begun_out : {n : ℕ} {z : Course} → Begun (out z) n → number_of z ≡ n
begun_out current = refl

not_idle : {n : ℕ} {m : Bool} → Begun (idle m) n → ⊥
not_idle x = elim x [ ]

pub not_begun : (room : ℕ) (m : Bool) {n : ℕ} {l : Label} {t : List ℕ} {k : ℕ} {cs : List (Stored Cell)} (lo hi : ℕ) → Stands n l t 0 false k cs → Between lo hi cs → Begun (phase_of room m cs) n → ⊥
not_begun room m lo hi stands_here b x = not_idle x
not_begun room m {n = n} lo hi (stands_later {c = c} {cs = cs} q) b x = go c.«record».stage (not_begun room m (suc c.«record».number) hi q b.2) x
  where
    above : c.«record».number < n
    above = stands_from (suc c.«record».number) hi q b.2

    go : (s : Stage) → (Begun (phase_of room m cs) n → ⊥) → Begun (phase_by room c s m (phase_of room m cs)) n → ⊥
    go (Unsettled zero false) ih y = not_idle y
    go (Unsettled (suc a) false) ih y =
        let e = sym (course_number c.«record».number c.«record».label.0 [] (cuts room c.text) (suc a)) ∙ begun_ready y in
        absurd (omega (arith, e, above))
    go (Unsettled a true) ih y =
        let e = sym (course_number c.«record».number c.«record».label.0 [] (cuts room c.text) a) ∙ begun_out y in
        absurd (omega (arith, e, above))
    go (Settled o) ih y = ih y
