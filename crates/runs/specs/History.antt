-- What is read off a run: messages submitted, withdrawn, sent, acknowledged, completed, and what each is called.
-- Assumes nothing.
use Rattle.std.specs.Prelude.{◌≡◌, ℕ, zero, suc, cond, List, [], ◌∷◌, ◌++◌, map, length, take, Some, None, Ok, Err, Option, Result, ◌==◌}
use Rattle.std.specs.List.{slice_get}
use Rattle.stores.specs.Held.{Stored}
use Rattle.calls.specs.declared.fault.LinkFault.{LinkFault}
use Rattle.calls.specs.declared.types.Label.{Label}
use Rattle.ends.specs.declared.types.Cell.{Cell}
use Rattle.ends.specs.declared.types.Stage.{Stage}
use Rattle.ends.specs.declared.types.Stage.TheVariants.{Unsettled, Settled}
use Rattle.calls.specs.declared.types.Outcome.{Outcome}
use Rattle.calls.specs.declared.types.Outcome.TheVariants.{Delivered, NotDelivered, InDoubt}
use Rattle.calls.specs.declared.types.Ticked.{Ticked}
use Rattle.calls.specs.declared.types.Heard.{Heard}
use Rattle.ends.specs.Model.{Model}
use Rattle.ends.specs.Sending.{block_count}
use Rattle.law.specs.Senders.{Status, unsettled, delivered, not_delivered, in_doubt}
use Rattle.law.specs.Links.{Side, air, ground}
use Rattle.runs.specs.Links.{Strings, Link, link, Put, Deed, submit, withdraw, tick, hear, collect, outcome, Event, at, ways_of}

-- a message: its label and its text
pub record Message : Type 0 where
  pub label : List ℕ
  pub text : List ℕ

abbrev pub message : List ℕ → List ℕ → Message
message l t = record { label = l; text = t }

-- the end at a side
abbrev pub end_of : Side → Link → Model
end_of air (link a g d u) = a
end_of ground (link a g d u) = g

-- calls of side x, with one of side y more
abbrev pub keep : Side → Side → Deed → List Deed → List Deed
keep air air e h = e ∷ h
keep air ground e h = h
keep ground air e h = h
keep ground ground e h = e ∷ h

-- the calls of one side, newest first
abbrev pub calls : Side → List Event → List Deed
calls x [] = []
calls x (at y e ∷ h) = keep x y e (calls x h)

-- the message that an accepted submit brings
abbrev pub taken_in : Label → List ℕ → Result ℕ LinkFault → List Message
taken_in l t (Ok n) = message l.0 t ∷ []
taken_in l t (Err f) = []

abbrev pub brought : Deed → List Message
brought (submit l t r) = taken_in l t r
brought (withdraw n r) = []
brought (tick time draw r p b) = []
brought (hear r ds x b) = []
brought (collect before r after) = []
brought (outcome r) = []

-- the messages submitted, in order: the n-th has number n
abbrev pub submissions : List Deed → List Message
submissions [] = []
submissions (e ∷ h) = submissions h ++ brought e

-- the message that a collect hands out: its text stands at the start of the buffer
abbrev pub given_out : Result (Label × ℕ) LinkFault → List ℕ → List Message
given_out (Ok (l, n)) buffer = message l.0 (take n buffer) ∷ []
given_out (Err f) buffer = []

abbrev pub handed : Deed → List Message
handed (submit l t r) = []
handed (withdraw n r) = []
handed (tick time draw r p b) = []
handed (hear r ds x b) = []
handed (collect before r after) = given_out r after
handed (outcome r) = []

-- the messages that collects handed out, in order
abbrev pub handed_out : List Deed → List Message
handed_out [] = []
handed_out (e ∷ h) = handed_out h ++ handed e

-- a message that waits
abbrev pub waits : Stored Label → Message
waits s = message s.«record».0 s.text

-- the messages completed at a side: those handed out, then those that wait
abbrev pub completed : Side → List Event → Link → List Message
completed y h l = handed_out (calls y h) ++ map waits (end_of y l).inbox.waiting

-- the message that bears a number, from 1
abbrev pub numbered : List Message → ℕ → Option Message
numbered ms zero = None
numbered ms (suc k) = slice_get ms k

-- what an outcome calls a message
abbrev pub status_of : Outcome → Status
status_of Delivered = delivered
status_of NotDelivered = not_delivered
status_of InDoubt = in_doubt

abbrev pub status_at : Stage → Status
status_at (Unsettled a out) = unsettled
status_at (Settled o) = status_of o

-- what an outcome call said of message n, or else what was said before
abbrev pub said : ℕ → Result (ℕ × Outcome) LinkFault → Status → Status
said n (Ok (k, o)) s = cond (n == k) (status_of o) s
said n (Err f) s = s

abbrev pub said_by : ℕ → Deed → Status → Status
said_by n (submit l t r) s = s
said_by n (withdraw k r) s = s
said_by n (tick time draw r p b) s = s
said_by n (hear r ds x b) s = s
said_by n (collect before r after) s = s
said_by n (outcome r) s = said n r s

-- what the outcomes told of message n so far: unsettled, if none spoke of it
abbrev pub told_of : List Deed → ℕ → Status
told_of [] n = unsettled
told_of (e ∷ h) n = said_by n e (told_of h n)

-- what message n is called: as its cell says; once outcome has freed that, as outcome told
abbrev pub called_in : List (Stored Cell) → Status → ℕ → Status
called_in [] s n = s
called_in (c ∷ cs) s n = cond (n == c.«record».number) (status_at c.«record».stage) (called_in cs s n)

abbrev pub called : Side → List Event → Link → ℕ → Status
called x h l n = called_in (end_of x l).outbox.cells (told_of (calls x h) n) n

-- a call is among those made
pub data Made (e : Deed) : List Deed → Type 0 where
  now_made : {h : List Deed} → Made e (e ∷ h)
  made : {f : Deed} {h : List Deed} → Made e h → Made e (f ∷ h)

-- message n was withdrawn: an accepted withdraw
abbrev pub Withdrawn : List Deed → ℕ → Type 0
Withdrawn h n = Made (withdraw n (Ok tt)) h

-- a tick has put block i of message n
pub data GoneOut (n i : ℕ) : List Deed → Type 0 where
  now_out : {time draw : ℕ} {r : Result Ticked LinkFault} {p : Put} {h : List Deed} → GoneOut n i (tick time draw r p (Some (n, i)) ∷ h)
  out_before : {f : Deed} {h : List Deed} → GoneOut n i h → GoneOut n i (f ∷ h)

-- a hear has acknowledged block i of message n
pub data Acknowledged (n i : ℕ) : List Deed → Type 0 where
  now_acknowledged : {r : Result Heard LinkFault} {ds : Strings} {x : Option (List ℕ)} {h : List Deed} →
      Acknowledged n i (hear r ds x (Some (n, i)) ∷ h)
  acknowledged_before : {f : Deed} {h : List Deed} → Acknowledged n i h → Acknowledged n i (f ∷ h)

-- how many message characters a block of a side holds
abbrev pub room : Side → ℕ
room x = (ways_of x).out.text.room

-- how many blocks a message of a side has
abbrev pub size : Side → Message → ℕ
size x m = block_count (room x) (length m.text)

-- i is the index of the last block of message n of side x, with these calls
pub record LastBlock (x : Side) (h : List Deed) (n i : ℕ) : Type 0 where
  pub text : Message
  pub is : numbered (submissions h) n ≡ Some text
  pub last : suc i ≡ size x text

-- the last block of message n has gone out; a hear has acknowledged it
pub record LastOut (x : Side) (h : List Deed) (n : ℕ) : Type 0 where
  pub index : ℕ
  pub last : LastBlock x h n index
  pub gone : GoneOut n index h

pub record LastAcknowledged (x : Side) (h : List Deed) (n : ℕ) : Type 0 where
  pub index : ℕ
  pub last : LastBlock x h n index
  pub acknowledged : Acknowledged n index h

-- message n was withdrawn after its last block had gone out
pub data WithdrawnLate (x : Side) (n : ℕ) : List Deed → Type 0 where
  now_late : {h : List Deed} → LastOut x h n → WithdrawnLate x n (withdraw n (Ok tt) ∷ h)
  late_before : {f : Deed} {h : List Deed} → WithdrawnLate x n h → WithdrawnLate x n (f ∷ h)
