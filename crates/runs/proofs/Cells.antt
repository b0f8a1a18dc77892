-- The outgoing cells of an end, and what they say of its sender. Assumes nothing.
use Rattle.std.proofs.Common.{◌≡◌, ℕ, zero, suc, ◌*◌, ◌<◌, ◌≤◌, Bool, true, false, cond, eqb, List, [], ◌∷◌, ◌++◌, length, sym, refl, ap, ◌∙◌, subst, arith, ne_eqb, eqb-true}
use mathlib.Core.Option.{some}
use Rattle.stores.specs.Held.{Stored}
use Rattle.blocks.specs.Legal.{at, is_label, is_text}
use Rattle.ends.specs.declared.types.Cell.{Cell}
use Rattle.ends.specs.declared.types.Stage.{Stage}
use Rattle.ends.specs.declared.types.Stage.TheVariants.{Unsettled, Settled}
use Rattle.ends.specs.Sending.{block_count}
use Rattle.law.specs.Senders.{Text, Message, message, numbered, nth, Status, unsettled, Course, course, Phase, idle, ready, out}
use Rattle.runs.specs.History.{status_at, called_in}
use Rattle.runs.specs.Strings.{cuts}

-- a message under way, by its texts and how many of them are acknowledged
abbrev pub course_from : ℕ → List ℕ → List Text → List Text → ℕ → Course
course_from n l ds [] a = course n l ds [] []
course_from n l ds (t ∷ us) zero = course n l ds t us
course_from n l ds (t ∷ us) (suc a) = course_from n l (t ∷ ds) us a

abbrev pub course_of : ℕ → Stored Cell → ℕ → Course
course_of room c a = course_from c.«record».number c.«record».label.0 [] (cuts room c.text) a

-- the phase that the first unsettled cell tells
abbrev pub phase_by : ℕ → Stored Cell → Stage → Bool → Phase → Phase
phase_by room c (Unsettled zero false) m later = idle m
phase_by room c (Unsettled (suc a) false) m later = ready (course_of room c (suc a))
phase_by room c (Unsettled a true) m later = out (course_of room c a)
phase_by room c (Settled o) m later = later

abbrev pub phase_of : ℕ → Bool → List (Stored Cell) → Phase
phase_of room m [] = idle m
phase_of room m (c ∷ cs) = phase_by room c c.«record».stage m (phase_of room m cs)

-- no block of an unsettled message has gone out
abbrev pub Unbegun : Stage → Type 0
Unbegun (Unsettled a o) = (a ≡ 0) × (o ≡ false)
Unbegun (Settled o) = Unit {0}

abbrev pub AllUnbegun : List (Stored Cell) → Type 0
AllUnbegun [] = Unit {0}
AllUnbegun (c ∷ cs) = Unbegun c.«record».stage × AllUnbegun cs

-- only the first unsettled message can be begun, and it has blocks left
abbrev pub OrderlyBy : ℕ → Stored Cell → Stage → List (Stored Cell) → Type 0 → Type 0
OrderlyBy room c (Unsettled a o) cs later = (a < block_count room (length c.text)) × AllUnbegun cs
OrderlyBy room c (Settled o) cs later = later

abbrev pub Orderly : ℕ → List (Stored Cell) → Type 0
Orderly room [] = Unit {0}
Orderly room (c ∷ cs) = OrderlyBy room c c.«record».stage cs (Orderly room cs)

-- numbers rise strictly, from lo to hi
abbrev pub Between : ℕ → ℕ → List (Stored Cell) → Type 0
Between lo hi [] = Unit {0}
Between lo hi (c ∷ cs) = (lo ≤ c.«record».number) × (c.«record».number ≤ hi) × Between (suc c.«record».number) hi cs

-- label and text of a cell are legal
pub record GoodCell (room : ℕ) (c : Stored Cell) : Type 0 where
  pub two : length c.«record».label.0 ≡ 2
  pub label : (i : ℕ) → i < 2 → is_label (at c.«record».label.0 i) ≡ true
  pub long : length c.text ≤ 16 * room
  pub text : (i : ℕ) → i < length c.text → is_text (at c.text i) ≡ true

-- each cell is good and holds the message that bears its number
abbrev pub Holds : ℕ → List Message → List (Stored Cell) → Type 0
Holds room g [] = Unit {0}
Holds room g (c ∷ cs) =
    GoodCell room c × (numbered g c.«record».number ≡ some (message c.«record».label.0 (cuts room c.text))) × Holds room g cs

-- a number is in a cell
pub data Celled (n : ℕ) : List (Stored Cell) → Type 0 where
  here : {c : Stored Cell} {cs : List (Stored Cell)} → n ≡ c.«record».number → Celled n (c ∷ cs)
  there : {c : Stored Cell} {cs : List (Stored Cell)} → Celled n cs → Celled n (c ∷ cs)

-- a new cell at the end

module _ (room : ℕ) (b : Stored Cell) (f : b.«record».stage ≡ Unsettled 0 false) where
  pub phase_add : (m : Bool) (cs : List (Stored Cell)) → phase_of room m (cs ++ b ∷ []) ≡ phase_of room m cs
  phase_add m [] = rw f refl
  phase_add m (c ∷ cs) = ap (λ (p : Phase). phase_by room c c.«record».stage m p) (phase_add m cs)

  pub unbegun_add : (cs : List (Stored Cell)) → AllUnbegun cs → AllUnbegun (cs ++ b ∷ [])
  unbegun_add [] u = (subst Unbegun (sym f) (refl, refl), tt)
  unbegun_add (c ∷ cs) u = (u.0, unbegun_add cs u.1)

  pub orderly_add : (cs : List (Stored Cell)) → 1 ≤ block_count room (length b.text) → Orderly room cs → Orderly room (cs ++ b ∷ [])
  orderly_add [] one u = subst (λ (s : Stage). OrderlyBy room b s [] (Unit {0})) (sym f) (one, tt)
  orderly_add (c ∷ cs) one u = go c.«record».stage (orderly_add cs one) u
    where
      go : (s : Stage) → (Orderly room cs → Orderly room (cs ++ b ∷ [])) → OrderlyBy room c s cs (Orderly room cs) →
          OrderlyBy room c s (cs ++ b ∷ []) (Orderly room (cs ++ b ∷ []))
      go (Unsettled a o) ih w = (w.0, unbegun_add cs w.1)
      go (Settled o) ih w = ih w

  pub called_add : (cs : List (Stored Cell)) (s : Status) (n : ℕ) → (n ≡ b.«record».number → s ≡ unsettled) →
      called_in (cs ++ b ∷ []) s n ≡ called_in cs s n
  called_add [] s n u = go (eqb n b.«record».number) refl
    where
      go : (t : Bool) → eqb n b.«record».number ≡ t → cond t (status_at b.«record».stage) s ≡ s
      go true e = ap status_at f ∙ sym (u (eqb-true n b.«record».number e))
      go false e = refl
  called_add (c ∷ cs) s n u = ap (λ (x : Status). cond (eqb n c.«record».number) (status_at c.«record».stage) x) (called_add cs s n u)

pub between_add : (lo hi : ℕ) (cs : List (Stored Cell)) (b : Stored Cell) → lo ≤ suc hi → b.«record».number ≡ suc hi → Between lo hi cs → Between lo (suc hi) (cs ++ b ∷ [])
between_add lo hi [] b h e u = (omega (arith, h, e), omega (arith, e), tt)
between_add lo hi (c ∷ cs) b h e u =
    let v = u.1 in
    (u.0, omega (arith, v), between_add (suc c.«record».number) hi cs b (omega (arith, v)) e u.2)

-- a longer list bears the same numbers
pub nth_add : (g more : List Message) (k : ℕ) (m : Message) → nth g k ≡ some m → nth (g ++ more) k ≡ some m
nth_add [] more k m e = cc
nth_add (x ∷ g) more zero m e = e
nth_add (x ∷ g) more (suc k) m e = nth_add g more k m e

pub numbered_add : (g more : List Message) (n : ℕ) (m : Message) → numbered g n ≡ some m → numbered (g ++ more) n ≡ some m
numbered_add g more zero m e = e
numbered_add g more (suc k) m e = nth_add g more k m e

pub nth_last : (g : List Message) (m : Message) → nth (g ++ m ∷ []) (length g) ≡ some m
nth_last [] m = refl
nth_last (x ∷ g) m = nth_last g m

pub holds_more : (room : ℕ) (g more : List Message) (cs : List (Stored Cell)) → Holds room g cs → Holds room (g ++ more) cs
holds_more room g more [] h = tt
holds_more room g more (c ∷ cs) h =
    (h.0, numbered_add g more c.«record».number (message c.«record».label.0 (cuts room c.text)) h.1, holds_more room g more cs h.2)

pub holds_add : (room : ℕ) (g : List Message) (cs : List (Stored Cell)) (b : Stored Cell) → GoodCell room b →
    numbered g b.«record».number ≡ some (message b.«record».label.0 (cuts room b.text)) → Holds room g cs → Holds room g (cs ++ b ∷ [])
holds_add room g [] b good e h = (good, e, tt)
holds_add room g (c ∷ cs) b good e h = (h.0, h.1, holds_add room g cs b good e h.2)

pub celled_add : (n : ℕ) (cs : List (Stored Cell)) (b : Stored Cell) → Celled n cs → Celled n (cs ++ b ∷ [])
celled_add n [] b x = elim x [ ]
celled_add n (c ∷ cs) b (here e) = here e
celled_add n (c ∷ cs) b (there h) = there (celled_add n cs b h)

pub celled_last : (cs : List (Stored Cell)) (b : Stored Cell) → Celled b.«record».number (cs ++ b ∷ [])
celled_last [] b = here refl
celled_last (c ∷ cs) b = there (celled_last cs b)

-- a number below all cells is in none
pub below_uncalled : (lo hi n : ℕ) (cs : List (Stored Cell)) (s : Status) → Between lo hi cs → n < lo → called_in cs s n ≡ s
below_uncalled lo hi n [] s u h = refl
below_uncalled lo hi n (c ∷ cs) s u h =
    let v = u.0 in
    rw (ne_eqb n c.«record».number (λ e. omega (arith, v, h, e))) (below_uncalled (suc c.«record».number) hi n cs s u.2 (omega (arith, v, h)))
