-- A link: two ends, each sender and receiver, over two paths that keep order, may repeat, spoil and lose; its steps and runs.
-- Assumes nothing.
use Rattle.std.specs.Prelude.{◌≡◌, ℕ, Bool, true, false, List, [], ◌∷◌, ◌++◌, length, ◌≢◌}
use Rattle.std.proofs.Math.Option.{Option, none, some}
use Rattle.law.specs.Directions.{Direction}
use Rattle.law.specs.Senders.{Message, Status, unsettled, Sender, sender, new_sender, Course, number_of, index_of, Block, Submits, Withdraws, Sends, Quiet, Counts}
use Rattle.law.specs.Receivers.{Part, Receiver, receiver, new_receiver, Took, Takes, owes}

-- what a string on a path says: nothing, or an acknowledgment (or none) and a block (or none)
pub data Packet : Type 0 where
  spoiled : Packet
  packet : Option ℕ → Option Block → Packet

-- what joins a path where a string is put: any copies of it, each intact or spoiled
pub data Copies (p : Packet) : List Packet → Type 0 where
  no_more : Copies p []
  intact : {ps : List Packet} → Copies p ps → Copies p (p ∷ ps)
  spoilt : {ps : List Packet} → Copies p ps → Copies p (spoiled ∷ ps)

-- the strings that an end passes by: they say nothing to it
pub data Passed : Packet → Type 0 where
  unreadable : Passed spoiled

-- an end: a sender, a receiver, and whether an acknowledgment is owed
pub data End : Type 0 where
  an_end : Sender → Receiver → Bool → End

-- a new end owes nothing
abbrev pub new_end : End
new_end = an_end new_sender new_receiver false

-- what a sender calls message n
abbrev pub called_by : Sender → ℕ → Status
called_by (sender g c ph p s) n = c n

-- what an end calls message n
abbrev pub called_at : End → ℕ → Status
called_at (an_end s r w) n = called_by s n

-- the acknowledgment that goes with a string: the identifier last accepted, if one is owed
abbrev pub acknowledgment : Bool → Receiver → Option ℕ
acknowledgment true (receiver o pt ms) = o
acknowledgment false r = none

-- what a hear answers: the string is passed by, is a response, or holds a block
pub data Answer : Type 0 where
  passed response : Answer
  took : Took → Answer

-- what an end does with a string taken: the acknowledgment counts first, also where the block is refused
pub data Hears (out inn : Direction) : End → Packet → Answer → Option (ℕ × ℕ) → End → Type 0 where
  passes : {e : End} {p : Packet} → Passed p → Hears out inn e p passed none e
  hears_response : {s s' : Sender} {r : Receiver} {w : Bool} {a : Option ℕ} {k : Option (ℕ × ℕ)} →
      Counts s a k s' → Hears out inn (an_end s r w) (packet a none) response k (an_end s' r w)
  hears_block : {s s' : Sender} {r r' : Receiver} {w : Bool} {a : Option ℕ} {k : Option (ℕ × ℕ)} {b : Block} {x : Took} →
      Counts s a k s' → Takes inn r b x r' → Hears out inn (an_end s r w) (packet a (some b)) (took x) k (an_end s' r' (owes x w))

-- what one call was, and what the path did: copies that joined, strings dropped from the front
pub data Doing : Type 0 where
  -- an accepted submit; an accepted withdraw of a number
  submitted : Message → Doing
  withdrew : ℕ → Doing
  -- a tick, told whether the current block is due, that put block (number, index), or a response, or nothing
  sent : Bool → ℕ → ℕ → Packet → List Packet → Doing
  responded : Bool → Packet → List Packet → Doing
  rested : Bool → Doing
  -- a hear that dropped so many, took one, and what that acknowledged; a hear that dropped all and found nothing
  heard : ℕ → Answer → Option (ℕ × ℕ) → Doing
  silent : ℕ → Doing
  -- a collect that handed out a message, or found none
  collected : Message → Doing
  bare : Doing
  -- an outcome that said what a number is called; a refused call that changed nothing
  told : ℕ → Status → Doing
  refused : Doing

-- one call at an end: the end, the path that it hears and the path that it puts on, before and after
pub data Move (out inn : Direction) : End → List Packet → List Packet → Doing → End → List Packet → List Packet → Type 0 where
  submit : {s s' : Sender} {r : Receiver} {w : Bool} {i o : List Packet} {m : Message} →
      Submits s m s' → Move out inn (an_end s r w) i o (submitted m) (an_end s' r w) i o
  withdraw : {s s' : Sender} {r : Receiver} {w : Bool} {i o : List Packet} {n : ℕ} →
      Withdraws out.ring s n s' → Move out inn (an_end s r w) i o (withdrew n) (an_end s' r w) i o
  tick_block : {s s' : Sender} {r : Receiver} {w due : Bool} {i o ps : List Packet} {z : Course} {b : Block} →
      Sends out due s z b s' → Copies (packet (acknowledgment w r) (some b)) ps →
      Move out inn (an_end s r w) i o (sent due (number_of z) (index_of z) (packet (acknowledgment w r) (some b)) ps)
      (an_end s' r false) i (o ++ ps)
  tick_response : {s : Sender} {r : Receiver} {due : Bool} {i o ps : List Packet} →
      Quiet due s → Copies (packet (acknowledgment true r) none) ps →
      Move out inn (an_end s r true) i o (responded due (packet (acknowledgment true r) none) ps) (an_end s r false) i (o ++ ps)
  tick_nothing : {s : Sender} {r : Receiver} {due : Bool} {i o : List Packet} →
      Quiet due s → Move out inn (an_end s r false) i o (rested due) (an_end s r false) i o
  hear : {e e' : End} {i o : List Packet} {p : Packet} {x : Answer} {k : Option (ℕ × ℕ)} (gone : List Packet) →
      Hears out inn e p x k e' → Move out inn e (gone ++ (p ∷ i)) o (heard (length gone) x k) e' i o
  hear_nothing : {e : End} {i o : List Packet} → Move out inn e i o (silent (length i)) e [] o
  collect : {s : Sender} {w : Bool} {i o : List Packet} {a : Option ℕ} {pt : Part} {m : Message} {ms : List Message} →
      Move out inn (an_end s (receiver a pt (m ∷ ms)) w) i o (collected m) (an_end s (receiver a pt ms) w) i o
  collect_nothing : {s : Sender} {w : Bool} {i o : List Packet} {a : Option ℕ} {pt : Part} →
      Move out inn (an_end s (receiver a pt []) w) i o bare (an_end s (receiver a pt []) w) i o
  outcome : {e : End} {i o : List Packet} {n : ℕ} {x : Status} →
      called_at e n ≡ x → (x ≢ unsettled) → Move out inn e i o (told n x) e i o
  refuse : {e : End} {i o : List Packet} → Move out inn e i o refused e i o

-- the two ends of a link
pub data Side : Type 0 where
  air ground : Side

-- a call at one end
pub data Event : Type 0 where
  at : Side → Doing → Event

-- a link: aircraft end, ground end, what waits on the down path and on the up path
pub data Link : Type 0 where
  link : End → End → List Packet → List Packet → Link

-- a new link
abbrev pub new_link : Link
new_link = link new_end new_end [] []

-- one call at one end of a link, over a direction down and one up
pub data Step (dn up : Direction) : Link → Event → Link → Type 0 where
  at_air : {a a' g : End} {d d' u u' : List Packet} {x : Doing} →
      Move dn up a u d x a' u' d' → Step dn up (link a g d u) (at air x) (link a' g d' u')
  at_ground : {a g g' : End} {d d' u u' : List Packet} {x : Doing} →
      Move up dn g d u x g' d' u' → Step dn up (link a g d u) (at ground x) (link a g' d' u')

infixl 20 ◌then◌
-- a run: from a new link by steps; its history, newest first
pub data Run (dn up : Direction) : List Event → Link → Type 0 where
  begin : Run dn up [] new_link
  ◌then◌ : {h : List Event} {l l' : Link} {x : Event} → Run dn up h l → Step dn up l x l' → Run dn up (x ∷ h) l'

-- a run goes on to another
pub data Onward (dn up : Direction) (h : List Event) (l : Link) (r : Run dn up h l) : (h' : List Event) (l' : Link) → Run dn up h' l' → Type 0 where
  same : Onward dn up h l r h l r
  onward : {h' : List Event} {l' l'' : Link} {x : Event} {r' : Run dn up h' l'} →
      Onward dn up h l r h' l' r' → (s : Step dn up l' x l'') → Onward dn up h l r (x ∷ h') l'' (r' then s)
