-- What is read off a run, and what holds of every run: truth of outcomes, order of messages.
-- Assumes nothing.
use Rattle.std.specs.Prelude.{◌≡◌, ℕ, suc, ◌<◌, ◌≤◌, Bool, ◌⊎◌, ◌↔◌, List, [], ◌∷◌, ◌++◌}
use Rattle.std.proofs.Math.Option.{Option, some}
use Rattle.law.specs.Directions.{Direction, Sound}
use Rattle.law.specs.Senders.{Message, size, Status, unsettled, delivered, not_delivered, in_doubt, Sender, numbered}
use Rattle.law.specs.Receivers.{receiver, stray, seventeenth}
use Rattle.law.specs.Links.{Packet, Doing, submitted, withdrew, sent, responded, rested, heard, silent, collected, bare, told, refused, took, Answer, Side, air, ground, Event, at, End, an_end, called_by, Link, link, Step, Run, Onward}

-- the other side
abbrev pub other : Side → Side
other air = ground
other ground = air

-- the end at a side
abbrev pub end_of : Side → Link → End
end_of air (link a g d u) = a
end_of ground (link a g d u) = g

-- the sender of an end
abbrev pub sender_in : End → Sender
sender_in (an_end s r w) = s

-- the completed messages that wait at an end
abbrev pub waiting_in : End → List Message
waiting_in (an_end s (receiver o pt ms) w) = ms

-- the sender at a side
abbrev pub sender_of : Side → Link → Sender
sender_of x l = sender_in (end_of x l)

-- what message n of a side is called
abbrev pub called : Side → Link → ℕ → Status
called x l n = called_by (sender_of x l) n

-- calls of side x, with one of side y more
abbrev pub keep : Side → Side → Doing → List Doing → List Doing
keep air air e h = e ∷ h
keep air ground e h = h
keep ground air e h = h
keep ground ground e h = e ∷ h

-- the calls of one side, newest first
abbrev pub calls : Side → List Event → List Doing
calls x [] = []
calls x (at y e ∷ h) = keep x y e (calls x h)

-- a message that comes in by a call, one that goes out, or none
pub data Passing : Type 0 where
  comes_in goes_out : Message → Passing
  none_passes : Passing

-- submits bring one in, collects hand one out
abbrev pub passing : Doing → Passing
passing (submitted m) = comes_in m
passing (withdrew n) = none_passes
passing (sent b n i p ps) = none_passes
passing (responded b p ps) = none_passes
passing (rested b) = none_passes
passing (heard n a k) = none_passes
passing (silent n) = none_passes
passing (collected m) = goes_out m
passing bare = none_passes
passing (told n s) = none_passes
passing refused = none_passes

-- those that came in, with one call more
abbrev pub add_in : Passing → List Message → List Message
add_in (comes_in m) ms = ms ++ (m ∷ [])
add_in (goes_out m) ms = ms
add_in none_passes ms = ms

-- the messages submitted, in order
abbrev pub submissions : List Doing → List Message
submissions [] = []
submissions (e ∷ h) = add_in (passing e) (submissions h)

-- those that went out, with one call more
abbrev pub add_out : Passing → List Message → List Message
add_out (comes_in m) ms = ms
add_out (goes_out m) ms = ms ++ (m ∷ [])
add_out none_passes ms = ms

-- the messages that collects handed out, in order
abbrev pub handed_out : List Doing → List Message
handed_out [] = []
handed_out (e ∷ h) = add_out (passing e) (handed_out h)

-- the messages completed at a side: those handed out, then those that wait
abbrev pub completed : Side → List Event → Link → List Message
completed y h l = handed_out (calls y h) ++ waiting_in (end_of y l)

-- collects until one finds nothing, and the messages that they hand out
pub data HandsOut (dn up : Direction) (y : Side) : Link → List Message → Link → Type 0 where
  no_more_out : {l l' : Link} → Step dn up l (at y bare) l' → HandsOut dn up y l [] l'
  one_out : {l l' l'' : Link} {m : Message} {ms : List Message} →
      Step dn up l (at y (collected m)) l' → HandsOut dn up y l' ms l'' → HandsOut dn up y l (m ∷ ms) l''

-- those that wait are those that collects would hand out, if called until one finds nothing
abbrev pub WaitingComeOut : Type 0
WaitingComeOut = (dn up : Direction) (y : Side) (l : Link) →
    ((ms : List Message) (l' : Link) → HandsOut dn up y l ms l' → ms ≡ waiting_in (end_of y l)) ×
    ((l' : Link) × HandsOut dn up y l (waiting_in (end_of y l)) l')

-- a call is among those made
pub data Made (e : Doing) : List Doing → Type 0 where
  now_made : {h : List Doing} → Made e (e ∷ h)
  made : {f : Doing} {h : List Doing} → Made e h → Made e (f ∷ h)

-- message n was withdrawn
abbrev pub Withdrawn : List Doing → ℕ → Type 0
Withdrawn h n = Made (withdrew n) h

-- a tick has put block i of message n
pub data GoneOut (n i : ℕ) : List Doing → Type 0 where
  now_out : {b : Bool} {p : Packet} {ps : List Packet} {h : List Doing} → GoneOut n i (sent b n i p ps ∷ h)
  out_before : {f : Doing} {h : List Doing} → GoneOut n i h → GoneOut n i (f ∷ h)

-- the last block of message n has gone out
pub record LastOut (h : List Doing) (n : ℕ) : Type 0 where
  pub text : Message
  pub index : ℕ
  pub is : numbered (submissions h) n ≡ some text
  pub last : suc index ≡ size text
  pub gone : GoneOut n index h

-- message n was withdrawn after its last block had gone out
pub data WithdrawnLate (n : ℕ) : List Doing → Type 0 where
  now_late : {h : List Doing} → LastOut h n → WithdrawnLate n (withdrew n ∷ h)
  late_before : {f : Doing} {h : List Doing} → WithdrawnLate n h → WithdrawnLate n (f ∷ h)

-- a hear has acknowledged the last block of message n
pub record LastAcknowledged (h : List Doing) (n : ℕ) : Type 0 where
  pub text : Message
  pub index : ℕ
  pub is : numbered (submissions h) n ≡ some text
  pub last : suc index ≡ size text
  pub dropped : ℕ
  pub answer : Answer
  pub acknowledged : Made (heard dropped answer (some (n, index))) h

-- a number is in a list
pub data Among (n : ℕ) : List ℕ → Type 0 where
  here : {ns : List ℕ} → Among n (n ∷ ns)
  there : {m : ℕ} {ns : List ℕ} → Among n ns → Among n (m ∷ ns)

-- numbers rise strictly, from lo on
pub data Rises : ℕ → List ℕ → Type 0 where
  risen : {lo : ℕ} → Rises lo []
  rises : {lo n : ℕ} {ns : List ℕ} → lo ≤ n → Rises (suc n) ns → Rises lo (n ∷ ns)

-- each message is the submitted one whose number it bears
pub data Bears (given : List Message) : List ℕ → List Message → Type 0 where
  bears_none : Bears given [] []
  bears : {n : ℕ} {ns : List ℕ} {m : Message} {ms : List Message} → numbered given n ≡ some m → Bears given ns ms → Bears given (n ∷ ns) (m ∷ ms)

-- one list goes on as another
pub record Extends (ns ms : List ℕ) : Type 0 where
  pub more : List ℕ
  pub is : ms ≡ ns ++ more

-- what holds of the messages of a sending end, by its calls h, what it calls each number, the messages done that completed
-- at the other end, and the numbers ns that these bear
pub record TrueOf (h : List Doing) (called-now : ℕ → Status) (done : List Message) (ns : List ℕ) : Type 0 where
  -- completed messages have the label and the text of the submitted ones whose numbers they bear
  pub borne : Bears (submissions h) ns done
  -- the numbers rise strictly
  pub order : Rises 1 ns
  -- before the latest only withdrawn ones are missing
  pub missing : (m n : ℕ) → Among n ns → 1 ≤ m → m < n → (Among m ns → ⊥) → Withdrawn h m
  -- delivered is completed
  pub truly_delivered : (n : ℕ) → called-now n ≡ delivered → Among n ns
  -- not delivered is not completed
  pub truly_not : (n : ℕ) → called-now n ≡ not_delivered → Among n ns → ⊥
  -- delivered exactly when a hear has acknowledged the last block
  pub delivered_when : (n : ℕ) → (called-now n ≡ delivered) ↔ LastAcknowledged h n
  -- not delivered or in doubt exactly when withdrawn
  pub withdrawn_when : (n : ℕ) → ((called-now n ≡ not_delivered) ⊎ (called-now n ≡ in_doubt)) ↔ Withdrawn h n
  -- in doubt exactly when withdrawn after the last block had gone out
  pub doubt : (n : ℕ) → (called-now n ≡ in_doubt) ↔ WithdrawnLate n h
  -- what an outcome said is what the message is called
  pub answered : (n : ℕ) (x : Status) → Made (told n x) h → called-now n ≡ x
  -- among the unsettled ones at most one has completed
  pub at_most_one : (m n : ℕ) → called-now m ≡ unsettled → called-now n ≡ unsettled → Among m ns → Among n ns → m ≡ n

-- the law of the messages of side x: one numbering, a function of the run, that later steps only extend
pub record Truthful (dn up : Direction) (x : Side) : Type 0 where
  pub numbering : (h : List Event) (l : Link) → Run dn up h l → List ℕ
  pub extends : (h h' : List Event) (l l' : Link) (r : Run dn up h l) (r' : Run dn up h' l') → Onward dn up h l r h' l' r' → Extends (numbering h l r) (numbering h' l' r')
  pub holds : (h : List Event) (l : Link) (r : Run dn up h l) → TrueOf (calls x h) (called x l) (completed (other x) h l) (numbering h l r)
  -- what was called not delivered never completes
  pub never : (h h' : List Event) (l l' : Link) (r : Run dn up h l) (r' : Run dn up h' l') → Onward dn up h l r h' l' r' →
      (n : ℕ) → called x l n ≡ not_delivered → Among n (numbering h' l' r') → ⊥

-- truth and order, over any two directions, both ways
abbrev pub TruthAndOrder : Type 0
TruthAndOrder = (dn up : Direction) → Sound dn → Sound up → (x : Side) → Truthful dn up x

-- no hear of either side answers that a block neither opens nor continues, or that it would be a seventeenth
abbrev pub RefusalsNever : Type 0
RefusalsNever = (dn up : Direction) → Sound dn → Sound up → (h : List Event) (l : Link) → Run dn up h l →
    (x : Side) (n : ℕ) (k : Option (ℕ × ℕ)) →
    (Made (heard n (took stray) k) (calls x h) → ⊥) × (Made (heard n (took seventeenth) k) (calls x h) → ⊥)
