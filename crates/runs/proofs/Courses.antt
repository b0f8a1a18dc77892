-- A message under way, taken apart; cells whose stages alone differ. Assumes nothing.
use Rattle.std.proofs.Common.{◌≡◌, ℕ, zero, suc, ◌+◌, ◌<◌, Bool, true, false, eqb, List, [], ◌∷◌, length, sym, refl, ap, ◌∙◌, arith, eq-eqb, ne_eqb}
use borrow.Author.Tests.{clash}
use Rattle.stores.specs.Held.{Stored, stored}
use Rattle.ends.specs.declared.types.Cell.{Cell}
use Rattle.ends.specs.declared.types.Stage.{Stage}
use Rattle.ends.specs.declared.types.Stage.TheVariants.{Unsettled, Settled}
use Rattle.calls.specs.declared.types.Label.{Label}
use Rattle.law.specs.Senders.{Text, Message, Course, course, idle, ended}
use Rattle.runs.specs.Strings.{pieces}
use Rattle.runs.proofs.Cells.{course_from, phase_by, phase_of, Unbegun, AllUnbegun, Between, Holds, Celled, here, there}

-- the text at an index
abbrev pub text_at : List Text → ℕ → Text
text_at [] a = []
text_at (t ∷ us) zero = t
text_at (t ∷ us) (suc a) = text_at us a

pub piece_at : (f : ℕ → List ℕ) (k n a : ℕ) → a < n → text_at (pieces f k n) a ≡ f (k + a)
piece_at f k zero a h = absurd (omega (arith, h))
piece_at f k (suc n) zero h = ap f (omega arith)
piece_at f k (suc n) (suc a) h = piece_at f (suc k) n a (omega (arith, h)) ∙ ap f (omega arith)

-- a course taken apart: blocks done, and blocks left
pub record Apart (n : ℕ) (l : List ℕ) (ds ts : List Text) (a : ℕ) : Type 0 where
  pub done : List Text
  pub left : List Text
  pub is : course_from n l ds ts a ≡ course n l done (text_at ts a) left
  pub count : length done ≡ length ds + a
  pub rest : suc a + length left ≡ length ts

pub apart : (n : ℕ) (l : List ℕ) (ds ts : List Text) (a : ℕ) → a < length ts → Apart n l ds ts a
apart n l ds [] a h = absurd (omega (arith, h))
apart n l ds (t ∷ us) zero h = record { done = ds; left = us; is = refl; count = omega arith; rest = omega arith }
apart n l ds (t ∷ us) (suc a) h =
    let A = apart n l (t ∷ ds) us a (omega (arith, h)) in
    let p = A.count in
    let q = A.rest in
    record { done = A.done; left = A.left; is = A.is; count = omega (arith, p); rest = omega (arith, q) }

-- the course one block further
abbrev pub further : Course → Course
further (course n l ds t []) = course n l ds t []
further (course n l ds t (u ∷ us)) = course n l (t ∷ ds) u us

pub course_further : (n : ℕ) (l : List ℕ) (ds ts : List Text) (a : ℕ) → suc a < length ts → course_from n l ds ts (suc a) ≡ further (course_from n l ds ts a)
course_further n l ds [] a h = absurd (omega (arith, h))
course_further n l ds (t ∷ []) a h = absurd (omega (arith, h))
course_further n l ds (t ∷ u ∷ us) zero h = refl
course_further n l ds (t ∷ u ∷ us) (suc a) h = course_further n l (t ∷ ds) (u ∷ us) a (omega (arith, h))

-- it is the last block exactly when nothing is left
pub last_block : {n : ℕ} {l : List ℕ} {ds ts : List Text} {a : ℕ} (A : Apart n l ds ts a) → ended A.left ≡ eqb (a + 1) (length ts)
last_block {ts = ts} {a = a} A = go A.left A.rest
  where
    go : (us : List Text) → suc a + length us ≡ length ts → ended us ≡ eqb (a + 1) (length ts)
    go [] e = sym (eq-eqb (a + 1) (length ts) (omega (arith, e)))
    go (u ∷ us) e = sym (ne_eqb (a + 1) (length ts) (λ y. omega (arith, e, y)))

-- where no message is begun, the sender is idle
pub idle_unbegun : (room : ℕ) (m : Bool) (cs : List (Stored Cell)) → AllUnbegun cs → phase_of room m cs ≡ idle m
idle_unbegun room m [] u = refl
idle_unbegun room m (c ∷ cs) u = go c.«record».stage u.0 (idle_unbegun room m cs u.1)
  where
    go : (s : Stage) → Unbegun s → phase_of room m cs ≡ idle m → phase_by room c s m (phase_of room m cs) ≡ idle m
    go (Unsettled zero false) w ih = refl
    go (Unsettled (suc a) false) w ih = let e = w.0 in absurd (omega (arith, e))
    go (Unsettled a true) w ih = absurd (clash (sym w.1))
    go (Settled o) w ih = ih

-- cells that differ in their stages alone
pub data Restaged : List (Stored Cell) → List (Stored Cell) → Type 0 where
  no_cells : Restaged [] []
  restaged : {n : ℕ} {l : Label} {s s' : Stage} {t : List ℕ} {cs cs' : List (Stored Cell)} → Restaged cs cs' →
      Restaged (stored (record { number = n; label = l; stage = s }) t ∷ cs) (stored (record { number = n; label = l; stage = s' }) t ∷ cs')

pub restaged_same : (cs : List (Stored Cell)) → Restaged cs cs
restaged_same [] = no_cells
restaged_same (c ∷ cs) = restaged (restaged_same cs)

pub restaged_between : (lo hi : ℕ) {cs cs' : List (Stored Cell)} → Restaged cs cs' → Between lo hi cs → Between lo hi cs'
restaged_between lo hi no_cells u = tt
restaged_between lo hi (restaged {n = n} q) u = (u.0, u.1, restaged_between (suc n) hi q u.2)

pub restaged_holds : (room : ℕ) (g : List Message) {cs cs' : List (Stored Cell)} → Restaged cs cs' → Holds room g cs → Holds room g cs'
restaged_holds room g no_cells u = tt
restaged_holds room g (restaged q) u =
    (record { two = u.0.two; label = u.0.label; long = u.0.long; text = u.0.text }, u.1, restaged_holds room g q u.2)

pub restaged_celled : {n : ℕ} {cs cs' : List (Stored Cell)} → Restaged cs cs' → Celled n cs → Celled n cs'
restaged_celled no_cells x = elim x [ ]
restaged_celled (restaged q) (here e) = here e
restaged_celled (restaged q) (there h) = there (restaged_celled q h)
