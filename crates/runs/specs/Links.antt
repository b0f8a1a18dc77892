-- A link of two ends: what waits on its paths, the calls at its ends, its runs.
-- Assumes nothing.
use Rattle.std.specs.Prelude.{◌≡◌, ℕ, Bool, false, cond, ◌&&◌, List, [], ◌∷◌, ◌++◌, length, Some, None, Ok, Err, Option, Result, ◌==◌}
use Rattle.directions.specs.TextRules.{down_ring, up_ring, down_text, up_text}
use Rattle.blocks.specs.Legal.{Way}
use Rattle.paths.specs.Meaning.{Arrives, Each}
use Rattle.stores.specs.Held.{Stored}
use Rattle.calls.specs.declared.fault.LinkFault.{LinkFault}
use Rattle.calls.specs.declared.types.Settings.{Settings}
use Rattle.calls.specs.declared.types.Label.{Label}
use Rattle.ends.specs.declared.types.Cell.{Cell}
use Rattle.ends.specs.declared.types.Stage.{Stage}
use Rattle.ends.specs.declared.types.Stage.TheVariants.{Unsettled, Settled}
use Rattle.calls.specs.declared.types.Outcome.{Outcome}
use Rattle.calls.specs.declared.types.Ticked.{Ticked}
use Rattle.calls.specs.declared.types.Ticked.TheVariants as ticked
use Rattle.calls.specs.declared.types.Heard.{Heard}
use Rattle.ends.specs.Model.{Ways, Model, new_model}
use Rattle.calls.specs.Setting.{Good}
use Rattle.ends.specs.Calls.{Submits, Withdraws, Ticks, Hears, Collects, Tells}
use Rattle.law.specs.Links.{Side, air, ground}

-- the two directions: downlinks and uplinks
abbrev pub down_way : Way
down_way = record { own = down_ring; other = up_ring; text = down_text }

abbrev pub up_way : Way
up_way = record { own = up_ring; other = down_ring; text = up_text }

-- the aircraft sends down and hears up, the ground end the reverse
abbrev pub ways_of : Side → Ways
ways_of air = record { out = down_way; inn = up_way }
ways_of ground = record { out = up_way; inn = down_way }

-- what waits on a path: strings, oldest first
abbrev pub Strings : Type 0
Strings = List (List ℕ)

-- a link: aircraft end, ground end, what waits on the down path and on the up path
pub data Link : Type 0 where
  link : Model → Model → Strings → Strings → Link

-- a block: the number of its message, and its index from 0
abbrev pub Place : Type 0
Place = ℕ × ℕ

-- the current block of a stage, of the message with that number: the first one that is not acknowledged
abbrev pub block_at : ℕ → Stage → Option Place → Option Place
block_at n (Unsettled a out) later = Some (n, a)
block_at n (Settled o) later = later

-- the current block: the one of the oldest unsettled message
abbrev pub current_of : List (Stored Cell) → Option Place
current_of [] = None
current_of (c ∷ cs) = block_at c.«record».number c.«record».stage (current_of cs)

abbrev pub current : Model → Option Place
current m = current_of m.outbox.cells

-- whether two are the same block
abbrev pub same_block : Option Place → Option Place → Bool
same_block None y = false
same_block (Some x) None = false
same_block (Some x) (Some y) = x.0 == y.0 && x.1 == y.1

-- the block that a tick put: the current one, where it answers block
abbrev pub block_put : Result Ticked LinkFault → Model → Option Place
block_put (Ok ticked.Block) m = current m
block_put (Ok ticked.Response) m = None
block_put (Ok ticked.Nothing) m = None
block_put (Err f) m = None

-- the block that a hear acknowledged: the current one before, where it is not the current one after
abbrev pub acknowledged : Model → Model → Option Place
acknowledged m m' = cond (same_block (current m) (current m')) None (current m)

-- what a tick did to its path: nothing, or it put this string, and these copies joined
pub data Put : Type 0 where
  unput : Put
  put : List ℕ → Strings → Put

-- any copies may join, each the string or spoiled; without a put nothing does
abbrev pub Adds : Put → Strings → List ℕ → Strings → Type 0
Adds unput before s after = ⊥
Adds (put t copies) before s after = (t ≡ s) × (after ≡ before ++ copies) × Each (Arrives s) copies

-- only a tick that sends makes a put
abbrev pub Answers : Result Ticked LinkFault → Put → Type 0
Answers (Ok ticked.Block) p = Unit {0}
Answers (Ok ticked.Response) p = Unit {0}
Answers (Ok ticked.Nothing) p = p ≡ unput
Answers (Err f) p = p ≡ unput

-- any strings may be dropped from the front; the next is taken, or nothing is left
abbrev pub Leaves : Strings → Option (List ℕ) → Strings → Strings → Type 0
Leaves dropped (Some s) before after = before ≡ dropped ++ s ∷ after
Leaves dropped None before after = (before ≡ dropped) × (after ≡ [])

abbrev pub Takes : Strings → Option (List ℕ) → Strings → Option (List ℕ) → Strings → Type 0
Takes dropped x before y after = (x ≡ y) × Leaves dropped y before after

-- one call, its answer and what the path did
pub data Deed : Type 0 where
  submit : Label → List ℕ → Result ℕ LinkFault → Deed
  withdraw : ℕ → Result (Unit {0}) LinkFault → Deed
  -- time, draw, answer, what was put, and which block that was
  tick : ℕ → ℕ → Result Ticked LinkFault → Put → Option Place → Deed
  -- answer, strings dropped, the one taken, and which block of this end that acknowledged
  hear : Result Heard LinkFault → Strings → Option (List ℕ) → Option Place → Deed
  -- the buffer before, the answer, the buffer after
  collect : List ℕ → Result (Label × ℕ) LinkFault → List ℕ → Deed
  outcome : Result (ℕ × Outcome) LinkFault → Deed

-- one call at an end, by the definition of that call: the end, the path that it hears and the one that it puts on, before and after
pub data Serves (w : Ways) : Model → Strings → Strings → Deed → Model → Strings → Strings → Type 0 where
  submits : {m m' : Model} {i o : Strings} {l : Label} {t : List ℕ} {r : Result ℕ LinkFault} →
      length l.0 ≡ 2 → Submits w m l t r m' → Serves w m i o (submit l t r) m' i o
  withdraws : {m m' : Model} {i o : Strings} {n : ℕ} {r : Result (Unit {0}) LinkFault} →
      Withdraws w m n r m' → Serves w m i o (withdraw n r) m' i o
  ticks : {m m' : Model} {i o o' : Strings} {time draw : ℕ} {r : Result Ticked LinkFault} {p : Put} →
      Ticks (Adds p) w m time draw r m' o o' → Answers r p → Serves w m i o (tick time draw r p (block_put r m)) m' i o'
  hears : {m m' : Model} {i i' o : Strings} {r : Result Heard LinkFault} {dropped : Strings} {x : Option (List ℕ)} →
      Hears (Takes dropped x) w m r m' i i' → Serves w m i o (hear r dropped x (acknowledged m m')) m' i' o
  collects : {m m' : Model} {i o : Strings} {before after : List ℕ} {r : Result (Label × ℕ) LinkFault} →
      Collects m before r m' after → Serves w m i o (collect before r after) m' i o
  tells : {m m' : Model} {i o : Strings} {r : Result (ℕ × Outcome) LinkFault} →
      Tells m r m' → Serves w m i o (outcome r) m' i o

-- a call at one end of a link
pub data Event : Type 0 where
  at : Side → Deed → Event

pub data Step : Link → Event → Link → Type 0 where
  at_air : {a a' g : Model} {d d' u u' : Strings} {x : Deed} →
      Serves (ways_of air) a u d x a' u' d' → Step (link a g d u) (at air x) (link a' g d' u')
  at_ground : {a g g' : Model} {d d' u u' : Strings} {x : Deed} →
      Serves (ways_of ground) g d u x g' d' u' → Step (link a g d u) (at ground x) (link a g' d' u')

-- settings that were accepted: seven characters of registration and six of flight, each within its limits
pub record Accepted (s : Settings) : Type 0 where
  pub good : Good s
  pub seven : length s.registration ≡ 7
  pub six : length s.flight ≡ 6

infixl 20 ◌then◌
-- a run: two ends just made, with one registration, over empty paths; then steps; its history, newest first
pub data Run : List Event → Link → Type 0 where
  begin : {a g : Settings} → Accepted a → Accepted g → a.registration ≡ g.registration → Run [] (link (new_model a) (new_model g) [] [])
  ◌then◌ : {h : List Event} {l l' : Link} {x : Event} → Run h l → Step l x l' → Run (x ∷ h) l'

-- a run goes on to another
pub data Onward (h : List Event) (l : Link) (r : Run h l) : (h' : List Event) (l' : Link) → Run h' l' → Type 0 where
  same : Onward h l r h l r
  onward : {h' : List Event} {l' l'' : Link} {x : Event} {r' : Run h' l'} →
      Onward h l r h' l' r' → (s : Step l' x l'') → Onward h l r (x ∷ h') l'' (r' then s)
