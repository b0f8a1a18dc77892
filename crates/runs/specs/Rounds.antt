-- Clean rounds, and exact progress in them.
-- Assumes nothing.
use Rattle.std.specs.Prelude.{◌≡◌, ℕ, zero, suc, ◌+◌, ◌≤◌, min, Bool, true, false, cond, ◌&&◌, List, [], ◌∷◌, length, Some, None, Ok, Err, Option, Result, ◌==◌, ◌≢◌}
use Rattle.calls.specs.declared.fault.LinkFault.{LinkFault}
use Rattle.calls.specs.declared.types.Label.{Label}
use Rattle.calls.specs.declared.types.Ticked.{Ticked}
use Rattle.calls.specs.declared.types.Heard.{Heard}
use Rattle.calls.specs.declared.types.Heard.TheVariants as heard
use Rattle.calls.specs.Faults.{number_of}
use Rattle.ends.specs.Model.{Model}
use Rattle.ends.specs.Sending.{current_out}
use Rattle.law.specs.Senders.{Status}
use Rattle.law.specs.Links.{Side}
use Rattle.law.specs.Truth.{other}
use Rattle.law.specs.Rounds.{left_at, total}
use Rattle.runs.specs.Links.{Link, Place, unput, put, Deed, submit, withdraw, tick, hear, collect, outcome, Event, at, Step, Run}
use Rattle.runs.specs.History.{Message, size, calls, submissions, numbered, called, end_of}

-- a tick that is not refused and whose put, if it makes one, adds exactly one intact copy
pub data CleanTick (x : Side) (time : ℕ) : Link → Link → Type 0 where
  puts_one : {l l' : Link} {draw : ℕ} {t : Ticked} {s : List ℕ} {b : Option Place} →
      Step l (at x (tick time draw (Ok t) (put s (s ∷ [])) b)) l' → CleanTick x time l l'
  puts_none : {l l' : Link} {draw : ℕ} {t : Ticked} {b : Option Place} →
      Step l (at x (tick time draw (Ok t) unput b)) l' → CleanTick x time l l'

-- a collect that hands out a message; one that answers 2
pub data HandsOutOne (y : Side) : Link → Link → Type 0 where
  hands_out : {l l' : Link} {label : Label} {n : ℕ} {before after : List ℕ} →
      Step l (at y (collect before (Ok (label, n)) after)) l' → HandsOutOne y l l'

pub data FindsNone (y : Side) : Link → Link → Type 0 where
  finds_none : {l l' : Link} {f : LinkFault} {before after : List ℕ} →
      number_of f ≡ 2 → Step l (at y (collect before (Err f) after)) l' → FindsNone y l l'

-- a hear that answers 2, with nothing dropped: nothing waited
pub data Silent (y : Side) : Link → Link → Type 0 where
  silent : {l l' : Link} {f : LinkFault} {b : Option Place} → number_of f ≡ 2 → Step l (at y (hear (Err f) [] None b)) l' → Silent y l l'

-- collect until one answers 2
pub data Collecting (y : Side) : Link → Link → Type 0 where
  collected_all : {l l' : Link} → FindsNone y l l' → Collecting y l l'
  collects : {l l' l'' : Link} → HandsOutOne y l l' → Collecting y l' l'' → Collecting y l l''

-- hear until one answers 2, nothing dropped, and collect after each hear that completed a message; a collect that answers 2
-- does no harm
pub data Draining (y : Side) : Link → Link → Type 0 where
  drained : {l l' : Link} → Silent y l l' → Draining y l l'
  drains : {l l' l'' : Link} {r : Result Heard LinkFault} {s : List ℕ} {b : Option Place} →
      Step l (at y (hear r [] (Some s) b)) l' → (r ≢ Ok heard.Complete) → Draining y l' l'' → Draining y l l''
  drains_last : {l l' l'' l''' : Link} {s : List ℕ} {b : Option Place} →
      Step l (at y (hear (Ok heard.Complete) [] (Some s) b)) l' → HandsOutOne y l' l'' → Draining y l'' l''' → Draining y l l'''
  spare : {l l' l'' : Link} → FindsNone y l l' → Draining y l' l'' → Draining y l l''
  spare_after : {l l' l'' : Link} → Draining y l l' → FindsNone y l' l'' → Draining y l l''

-- one more block acknowledged, or none
abbrev pub tally : Option Place → ℕ → ℕ
tally None n = n
tally (Some b) n = suc n

-- hear until one answers 2, nothing dropped; so many blocks were acknowledged
pub data Listening (x : Side) : Link → ℕ → Link → Type 0 where
  listened : {l l' : Link} → Silent x l l' → Listening x l 0 l'
  listens : {l l' l'' : Link} {r : Result Heard LinkFault} {s : List ℕ} {b : Option Place} {n : ℕ} →
      Step l (at x (hear r [] (Some s) b)) l' → Listening x l' n l'' → Listening x l (tally b n) l''

-- a time at or past the due time of the current block, if that has gone out; any other has no due time
abbrev pub OnTime : ℕ → Model → Type 0
OnTime time m = current_out m.outbox.cells ≡ true → m.clock.due ≤ time

-- a clean round with x as the sender, in which x's hears acknowledged n blocks: tick at the sender, at or past its due time;
-- at the receiver collect, then hear, until one answers 2; tick there; hear at the sender until one answers 2
pub data Round (x : Side) : Link → ℕ → Link → Type 0 where
  round : {l₀ l₁ l₂ l₃ l₄ l₅ : Link} {n time time' : ℕ} →
      OnTime time (end_of x l₀) → CleanTick x time l₀ l₁ → Collecting (other x) l₁ l₂ → Draining (other x) l₂ l₃ →
      CleanTick (other x) time' l₃ l₄ → Listening x l₄ n l₅ → Round x l₀ n l₅

-- r clean rounds on end
pub data Rounds (x : Side) : ℕ → Link → ℕ → Link → Type 0 where
  no_round : {l : Link} → Rounds x zero l 0 l
  one_more : {r k n : ℕ} {l l' l'' : Link} → Round x l k l' → Rounds x r l' n l'' → Rounds x (suc r) l (k + n) l''

-- the block that a call acknowledged
abbrev pub acknowledged_by : Deed → Option Place
acknowledged_by (submit l t r) = None
acknowledged_by (withdraw n r) = None
acknowledged_by (tick time draw r p b) = None
acknowledged_by (hear r ds x b) = b
acknowledged_by (collect before r after) = None
acknowledged_by (outcome r) = None

-- is it block i of message n?
abbrev pub is_block : ℕ → ℕ → Option Place → Bool
is_block n i None = false
is_block n i (Some k) = n == k.0 && i == k.1

-- block i of message n counts 1 while none of these calls has acknowledged it
abbrev pub missing : List Deed → ℕ → ℕ → ℕ
missing [] n i = 1
missing (e ∷ h) n i = cond (is_block n i (acknowledged_by e)) 0 (missing h n i)

-- how many blocks a message has, if there is one
abbrev pub size_at : Side → Option Message → ℕ
size_at x None = 0
size_at x (Some m) = size x m

-- the unacknowledged blocks of message n; a settled one has none to count
abbrev pub blocks_left : Side → List Deed → Status → ℕ → ℕ
blocks_left x h s n = left_at s (total (missing h n) (size_at x (numbered (submissions h) n)))

-- the unacknowledged blocks of side x's unsettled messages, numbered from 1
abbrev pub unacknowledged : Side → List Event → Link → ℕ
unacknowledged x h l = total (λ j. blocks_left x (calls x h) (called x h l (suc j)) (suc j)) (length (submissions (calls x h)))

-- exact progress: r clean rounds acknowledge min (r, u) blocks, u being unacknowledged as the first begins
abbrev pub Progress : Type 0
Progress = (x : Side) (h : List Event) (l l' : Link) (r k : ℕ) → Run h l → Rounds x r l k l' → k ≡ min r (unacknowledged x h l)
