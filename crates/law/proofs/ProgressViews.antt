-- What a call of one side does, seen from the sending side of a round. Assumes nothing.
use Rattle.std.proofs.Common.{◌≡◌, ℕ, Bool, true, false, List, [], ◌∷◌, ◌++◌, length, drop, refl}
use mathlib.Core.Option.{Option, none, some}
use Rattle.law.specs.Directions.{Direction}
use Rattle.law.specs.Senders.{Message, Sender, Course, Block, Sends, Quiet}
use Rattle.law.specs.Receivers.{Receiver, receiver}
use Rattle.law.specs.Links.{Packet, packet, End, an_end, acknowledgment, Answer, Hears, Doing, submitted, withdrew, sent, responded, rested, heard, silent, collected, bare, told, refused, Move, submit, withdraw, tick_block, tick_response, tick_nothing, hear, hear_nothing, collect, collect_nothing, outcome, refuse, Side, air, ground, at, Link, link, Step, at_air, at_ground}
use Rattle.law.specs.Truth.{other, end_of, waiting_in}

-- the direction of a side's blocks
abbrev pub way : Direction → Direction → Side → Direction
way dn up air = dn
way dn up ground = up

-- what waits on the path that a side puts on
abbrev pub put_by : Side → Link → List Packet
put_by air (link a g d u) = d
put_by ground (link a g d u) = u

-- a call at side x: its move, and the other end as it was
pub record Near (dn up : Direction) (x : Side) (l : Link) (v : Doing) (l' : Link) : Type 0 where
  pub moved : Move (way dn up x) (way dn up (other x)) (end_of x l) (put_by (other x) l) (put_by x l) v (end_of x l') (put_by (other x) l') (put_by x l')
  pub kept : end_of (other x) l' ≡ end_of (other x) l

pub near : {dn up : Direction} (x : Side) {l : Link} {v : Doing} {l' : Link} → Step dn up l (at x v) l' → Near dn up x l v l'
near air (at_air m) = record { moved = m; kept = refl }
near ground (at_ground m) = record { moved = m; kept = refl }

-- a call at the other side: its move, and this end as it was
pub record Far (dn up : Direction) (x : Side) (l : Link) (v : Doing) (l' : Link) : Type 0 where
  pub moved : Move (way dn up (other x)) (way dn up x) (end_of (other x) l) (put_by x l) (put_by (other x) l) v (end_of (other x) l') (put_by x l') (put_by (other x) l')
  pub kept : end_of x l' ≡ end_of x l

pub far : {dn up : Direction} (x : Side) {l : Link} {v : Doing} {l' : Link} → Step dn up l (at (other x) v) l' → Far dn up x l v l'
far air (at_ground m) = record { moved = m; kept = refl }
far ground (at_air m) = record { moved = m; kept = refl }

-- a tick that put a block: one intact copy where the doing says so
pub record Sent (out : Direction) (due : Bool) (p : Packet) (ps : List Packet) (e : End) (i o : List Packet) (e' : End) (i' o' : List Packet) : Type 0 where
  pub s : Sender
  pub s' : Sender
  pub r : Receiver
  pub w : Bool
  pub z : Course
  pub b : Block
  pub before : e ≡ an_end s r w
  pub after : e' ≡ an_end s' r false
  pub sends : Sends out due s z b s'
  pub is : p ≡ packet (acknowledgment w r) (some b)
  pub in_same : i' ≡ i
  pub joined : o' ≡ o ++ ps

pub record Responded (due : Bool) (p : Packet) (ps : List Packet) (e : End) (i o : List Packet) (e' : End) (i' o' : List Packet) : Type 0 where
  pub s : Sender
  pub r : Receiver
  pub before : e ≡ an_end s r true
  pub after : e' ≡ an_end s r false
  pub quiet : Quiet due s
  pub is : p ≡ packet (acknowledgment true r) none
  pub in_same : i' ≡ i
  pub joined : o' ≡ o ++ ps

pub record Rested (due : Bool) (e : End) (i o : List Packet) (e' : End) (i' o' : List Packet) : Type 0 where
  pub s : Sender
  pub r : Receiver
  pub before : e ≡ an_end s r false
  pub after : e' ≡ an_end s r false
  pub quiet : Quiet due s
  pub in_same : i' ≡ i
  pub joined : o' ≡ o

pub record Heard (out inn : Direction) (n : ℕ) (a : Answer) (k : Option (ℕ × ℕ)) (e : End) (i o : List Packet) (e' : End) (i' o' : List Packet) : Type 0 where
  pub gone : List Packet
  pub p : Packet
  pub count : n ≡ length gone
  pub waited : i ≡ gone ++ (p ∷ i')
  pub hears : Hears out inn e p a k e'
  pub joined : o' ≡ o

pub record Silent (n : ℕ) (e : End) (i o : List Packet) (e' : End) (i' o' : List Packet) : Type 0 where
  pub count : n ≡ length i
  pub same : e' ≡ e
  pub left : i' ≡ []
  pub joined : o' ≡ o

-- an end after a collect
abbrev pub uncovered : End → End
uncovered (an_end s (receiver a pt ms) w) = an_end s (receiver a pt (drop 1 ms)) w

pub record Collected (m : Message) (e : End) (i o : List Packet) (e' : End) (i' o' : List Packet) : Type 0 where
  pub handed : waiting_in e ≡ m ∷ waiting_in e'
  pub after : e' ≡ uncovered e
  pub in_same : i' ≡ i
  pub joined : o' ≡ o

pub record Bare (e : End) (i o : List Packet) (e' : End) (i' o' : List Packet) : Type 0 where
  pub nothing : waiting_in e ≡ []
  pub same : e' ≡ e
  pub in_same : i' ≡ i
  pub joined : o' ≡ o

-- what a move means, by what was done; the calls that no round has say nothing here
abbrev pub Meaning : (out inn : Direction) → Doing → End → List Packet → List Packet → End → List Packet → List Packet → Type 0
Meaning out inn (submitted m) e i o e' i' o' = Unit {0}
Meaning out inn (withdrew n) e i o e' i' o' = Unit {0}
Meaning out inn (sent due n k p ps) e i o e' i' o' = Sent out due p ps e i o e' i' o'
Meaning out inn (responded due p ps) e i o e' i' o' = Responded due p ps e i o e' i' o'
Meaning out inn (rested due) e i o e' i' o' = Rested due e i o e' i' o'
Meaning out inn (heard n a k) e i o e' i' o' = Heard out inn n a k e i o e' i' o'
Meaning out inn (silent n) e i o e' i' o' = Silent n e i o e' i' o'
Meaning out inn (collected m) e i o e' i' o' = Collected m e i o e' i' o'
Meaning out inn bare e i o e' i' o' = Bare e i o e' i' o'
Meaning out inn (told n x) e i o e' i' o' = Unit {0}
Meaning out inn refused e i o e' i' o' = Unit {0}

pub meaning : {out inn : Direction} {e : End} {i o : List Packet} {v : Doing} {e' : End} {i' o' : List Packet} →
    Move out inn e i o v e' i' o' → Meaning out inn v e i o e' i' o'
meaning (submit x) = tt
meaning (withdraw x) = tt
meaning (tick_block {s} {s'} {r} {w} {z = z} {b = b} x c) =
    record { s = s; s' = s'; r = r; w = w; z = z; b = b; before = refl; after = refl; sends = x; is = refl; in_same = refl; joined = refl }
meaning (tick_response {s} {r} q c) = record { s = s; r = r; before = refl; after = refl; quiet = q; is = refl; in_same = refl; joined = refl }
meaning (tick_nothing {s} {r} q) = record { s = s; r = r; before = refl; after = refl; quiet = q; in_same = refl; joined = refl }
meaning (hear {p = p} gone x) = record { gone = gone; p = p; count = refl; waited = refl; hears = x; joined = refl }
meaning hear_nothing = record { count = refl; same = refl; left = refl; joined = refl }
meaning collect = record { handed = refl; after = refl; in_same = refl; joined = refl }
meaning collect_nothing = record { nothing = refl; same = refl; in_same = refl; joined = refl }
meaning (outcome x y) = tt
meaning refuse = tt
