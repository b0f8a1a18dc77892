-- Clean rounds, and exact progress in them.
-- Assumes nothing.
use Rattle.std.specs.Prelude.{◌≡◌, ℕ, zero, suc, ◌+◌, min, Bool, true, false, cond, ◌&&◌, List, [], ◌∷◌, length, ◌==◌, ◌≢◌}
use Rattle.std.proofs.Math.Option.{Option, none, some}
use Rattle.law.specs.Directions.{Direction, Sound}
use Rattle.law.specs.Senders.{Message, size, Status, unsettled, delivered, not_delivered, in_doubt, idle, ready, out, Sender, sender, numbered}
use Rattle.law.specs.Receivers.{complete}
use Rattle.law.specs.Links.{Packet, Doing, submitted, withdrew, sent, responded, rested, heard, silent, collected, bare, told, refused, took, Answer, Side, Event, at, Link, Step, Run}
use Rattle.law.specs.Truth.{other, sender_of, called, calls, submissions}

-- a tick whose put, if it makes one, adds exactly one intact copy
pub data CleanTick (dn up : Direction) (x : Side) (due : Bool) : Link → Link → Type 0 where
  put_block : {l l' : Link} {n i : ℕ} {p : Packet} → Step dn up l (at x (sent due n i p (p ∷ []))) l' → CleanTick dn up x due l l'
  put_response : {l l' : Link} {p : Packet} → Step dn up l (at x (responded due p (p ∷ []))) l' → CleanTick dn up x due l l'
  put_nothing : {l l' : Link} → Step dn up l (at x (rested due)) l' → CleanTick dn up x due l l'

-- collect until one finds nothing
pub data Collecting (dn up : Direction) (y : Side) : Link → Link → Type 0 where
  collected_all : {l l' : Link} → Step dn up l (at y bare) l' → Collecting dn up y l l'
  collects : {l l' l'' : Link} {m : Message} → Step dn up l (at y (collected m)) l' → Collecting dn up y l' l'' → Collecting dn up y l l''

-- hear until one finds nothing, nothing dropped, and collect after each hear that completed a message; a collect that
-- finds nothing does no harm
pub data Draining (dn up : Direction) (y : Side) : Link → Link → Type 0 where
  drained : {l l' : Link} → Step dn up l (at y (silent 0)) l' → Draining dn up y l l'
  drains : {l l' l'' : Link} {a : Answer} {k : Option (ℕ × ℕ)} →
      Step dn up l (at y (heard 0 a k)) l' → (a ≢ took complete) → Draining dn up y l' l'' → Draining dn up y l l''
  drains_last : {l l' l'' l''' : Link} {m : Message} {k : Option (ℕ × ℕ)} →
      Step dn up l (at y (heard 0 (took complete) k)) l' → Step dn up l' (at y (collected m)) l'' → Draining dn up y l'' l''' → Draining dn up y l l'''
  spare : {l l' l'' : Link} → Step dn up l (at y bare) l' → Draining dn up y l' l'' → Draining dn up y l l''
  spare_after : {l l' l'' : Link} → Draining dn up y l l' → Step dn up l' (at y bare) l'' → Draining dn up y l l''

-- one more block acknowledged, or none
abbrev pub tally : Option (ℕ × ℕ) → ℕ → ℕ
tally none n = n
tally (some b) n = suc n

-- hear until one finds nothing, nothing dropped; so many blocks were acknowledged
pub data Listening (dn up : Direction) (x : Side) : Link → ℕ → Link → Type 0 where
  listened : {l l' : Link} → Step dn up l (at x (silent 0)) l' → Listening dn up x l 0 l'
  listens : {l l' l'' : Link} {a : Answer} {k : Option (ℕ × ℕ)} {n : ℕ} →
      Step dn up l (at x (heard 0 a k)) l' → Listening dn up x l' n l'' → Listening dn up x l (tally k n) l''

-- a tick is at or past the due time: the current block, if it has gone out, is due; any other has no due time
abbrev pub OnTime : Bool → Sender → Type 0
OnTime due (sender g c (idle m) p s) = Unit {0}
OnTime due (sender g c (ready z) p s) = Unit {0}
OnTime due (sender g c (out z) p s) = due ≡ true

-- a clean round with x as the sender, in which x's hears acknowledged n blocks: tick at the sender, at or past its due
-- time; at the receiver collect, then hear, until nothing waits; tick there; hear at the sender until nothing waits
pub data Round (dn up : Direction) (x : Side) : Link → ℕ → Link → Type 0 where
  round : {l₀ l₁ l₂ l₃ l₄ l₅ : Link} {n : ℕ} {b b' : Bool} →
      OnTime b (sender_of x l₀) → CleanTick dn up x b l₀ l₁ → Collecting dn up (other x) l₁ l₂ → Draining dn up (other x) l₂ l₃ →
      CleanTick dn up (other x) b' l₃ l₄ → Listening dn up x l₄ n l₅ → Round dn up x l₀ n l₅

-- r clean rounds on end
pub data Rounds (dn up : Direction) (x : Side) : ℕ → Link → ℕ → Link → Type 0 where
  no_round : {l : Link} → Rounds dn up x zero l 0 l
  one_more : {r k n : ℕ} {l l' l'' : Link} → Round dn up x l k l' → Rounds dn up x r l' n l'' → Rounds dn up x (suc r) l (k + n) l''

-- the block (number, index) that a call acknowledged
abbrev pub acknowledged_by : Doing → Option (ℕ × ℕ)
acknowledged_by (submitted m) = none
acknowledged_by (withdrew n) = none
acknowledged_by (sent b n i p ps) = none
acknowledged_by (responded b p ps) = none
acknowledged_by (rested b) = none
acknowledged_by (heard n a k) = k
acknowledged_by (silent n) = none
acknowledged_by (collected m) = none
acknowledged_by bare = none
acknowledged_by (told n s) = none
acknowledged_by refused = none

-- is it block i of message n?
abbrev pub is_block : ℕ → ℕ → Option (ℕ × ℕ) → Bool
is_block n i none = false
is_block n i (some k) = n == k.0 && i == k.1

-- block i of message n counts 1 while none of these calls has acknowledged it
abbrev pub missing : List Doing → ℕ → ℕ → ℕ
missing [] n i = 1
missing (e ∷ h) n i = cond (is_block n i (acknowledged_by e)) 0 (missing h n i)

-- how many blocks a message has, if there is one
abbrev pub size_at : Option Message → ℕ
size_at none = 0
size_at (some m) = size m

-- the sum of f 0 to f (n - 1)
abbrev pub total : (ℕ → ℕ) → ℕ → ℕ
total f zero = 0
total f (suc n) = total f n + f n

-- a message that is settled has no block to count
abbrev pub left_at : Status → ℕ → ℕ
left_at unsettled k = k
left_at delivered k = 0
left_at not_delivered k = 0
left_at in_doubt k = 0

-- the unacknowledged blocks of message n
abbrev pub blocks_left : List Doing → (ℕ → Status) → ℕ → ℕ
blocks_left h c n = left_at (c n) (total (missing h n) (size_at (numbered (submissions h) n)))

-- the unacknowledged blocks of side x's unsettled messages, numbered from 1
abbrev pub unacknowledged : Side → List Event → Link → ℕ
unacknowledged x h l = total (λ j. blocks_left (calls x h) (called x l) (suc j)) (length (submissions (calls x h)))

-- exact progress: r clean rounds acknowledge min (r, u) blocks, u being unacknowledged as the first begins
abbrev pub Progress : Type 0
Progress = (dn up : Direction) → Sound dn → Sound up → (x : Side) (h : List Event) (l l' : Link) (r k : ℕ) →
    Run dn up h l → Rounds dn up x r l k l' → k ≡ min r (unacknowledged x h l)
