-- What holds of every run: truth of outcomes, order of messages.
-- Assumes nothing.
use Rattle.std.specs.Prelude.{◌≡◌, ℕ, ◌<◌, ◌≤◌, ◌⊎◌, ◌↔◌, List, [], ◌∷◌, map, length, Some, Ok, Err, Option}
use Rattle.calls.specs.declared.types.Outcome.{Outcome}
use Rattle.calls.specs.declared.types.Label.{Label}
use Rattle.calls.specs.declared.fault.LinkFault.{LinkFault}
use Rattle.law.specs.Senders.{Status, unsettled, delivered, not_delivered, in_doubt}
use Rattle.law.specs.Links.{Side}
use Rattle.law.specs.Truth.{other, Among, Rises, Extends}
use Rattle.calls.specs.Faults.{number_of}
use Rattle.runs.specs.Links.{Strings, Link, Place, Put, Deed, submit, tick, hear, collect, outcome, Event, at, Step, Run, Onward}
use Rattle.runs.specs.History.{Message, message, calls, submissions, completed, numbered, given_out, status_of, called, end_of, waits, Made, Withdrawn, LastAcknowledged, WithdrawnLate}

-- each message is the submitted one whose number it bears
pub data Bears (given : List Message) : List ℕ → List Message → Type 0 where
  bears_none : Bears given [] []
  bears : {n : ℕ} {ns : List ℕ} {m : Message} {ms : List Message} → numbered given n ≡ Some m → Bears given ns ms → Bears given (n ∷ ns) (m ∷ ms)

-- what holds of the messages of side x, by its calls h, what each number is called, the messages done that completed at the
-- other side, and the numbers ns that these bear
pub record TrueOf (x : Side) (h : List Deed) (called-now : ℕ → Status) (done : List Message) (ns : List ℕ) : Type 0 where
  -- the number that a submit answered is the place of its message among the submitted ones
  pub given : (n : ℕ) (l : Label) (t : List ℕ) → Made (submit l t (Ok n)) h → numbered (submissions h) n ≡ Some (message l.0 t)
  -- completed messages have the label and the text of the submitted ones whose numbers they bear
  pub borne : Bears (submissions h) ns done
  -- the numbers rise strictly
  pub order : Rises 1 ns
  -- before the latest only withdrawn ones are missing
  pub missing : (m n : ℕ) → Among n ns → 1 ≤ m → m < n → (Among m ns → ⊥) → Withdrawn h m
  -- delivered is completed
  pub truly_delivered : (n : ℕ) → called-now n ≡ delivered → Among n ns
  -- not delivered is not completed
  pub truly_not : (n : ℕ) → called-now n ≡ not_delivered → Among n ns → ⊥
  -- delivered exactly when a hear has acknowledged the last block
  pub delivered_when : (n : ℕ) → (called-now n ≡ delivered) ↔ LastAcknowledged x h n
  -- not delivered or in doubt exactly when withdrawn
  pub withdrawn_when : (n : ℕ) → ((called-now n ≡ not_delivered) ⊎ (called-now n ≡ in_doubt)) ↔ Withdrawn h n
  -- in doubt exactly when withdrawn after the last block had gone out
  pub doubt : (n : ℕ) → (called-now n ≡ in_doubt) ↔ WithdrawnLate x n h
  -- what an outcome said is what the message is called
  pub answered : (n : ℕ) (o : Outcome) → Made (outcome (Ok (n, o))) h → called-now n ≡ status_of o
  -- among the unsettled ones at most one has completed
  pub at_most_one : (m n : ℕ) → called-now m ≡ unsettled → called-now n ≡ unsettled → Among m ns → Among n ns → m ≡ n

-- the law of the messages of side x: one numbering, a function of the run, that later steps only extend
pub record Truthful (x : Side) : Type 0 where
  pub numbering : (h : List Event) (l : Link) → Run h l → List ℕ
  pub extends : (h h' : List Event) (l l' : Link) (r : Run h l) (r' : Run h' l') → Onward h l r h' l' r' →
      Extends (numbering h l r) (numbering h' l' r')
  pub holds : (h : List Event) (l : Link) (r : Run h l) → TrueOf x (calls x h) (called x h l) (completed (other x) h l) (numbering h l r)
  -- what was called not delivered never completes
  pub never : (h h' : List Event) (l l' : Link) (r : Run h l) (r' : Run h' l') → Onward h l r h' l' r' →
      (n : ℕ) → called x h l n ≡ not_delivered → Among n (numbering h' l' r') → ⊥

-- truth and order, both ways
abbrev pub TruthAndOrder : Type 0
TruthAndOrder = (x : Side) → Truthful x

-- the refusals between two ends: a tick's is that its time is not taken, by 14; a hear's is that nothing waits, by 2, that a string came spoiled, by 3, 4 or 5, or
-- that no cell is free for a message that would complete, by 12
pub record RefusalsBetween : Type 0 where
  pub ticks : (x : Side) (h : List Event) (l l' : Link) (time draw : ℕ) (f : LinkFault) (p : Put) (b : Option Place) → Run h l →
      Step l (at x (tick time draw (Err f) p b)) l' → number_of f ≡ 14
  pub hears : (x : Side) (h : List Event) (l l' : Link) (f : LinkFault) (dropped : Strings) (s : Option (List ℕ)) (b : Option Place) → Run h l →
      Step l (at x (hear (Err f) dropped s b)) l' → Among (number_of f) (2 ∷ 3 ∷ 4 ∷ 5 ∷ 12 ∷ [])

-- collects into buffers long enough until one answers 2, and the messages that they hand out
pub data HandsOut (y : Side) : Link → List Message → Link → Type 0 where
  no_more_out : {l l' : Link} {before after : List ℕ} {f : LinkFault} → 3520 ≤ length before →
      number_of f ≡ 2 → Step l (at y (collect before (Err f) after)) l' → HandsOut y l [] l'
  one_out : {l l' l'' : Link} {before after : List ℕ} {n : ℕ} {label : Label} {m : Message} {ms : List Message} →
      given_out (Ok (label, n)) after ≡ m ∷ [] → Step l (at y (collect before (Ok (label, n)) after)) l' → HandsOut y l' ms l'' →
      HandsOut y l (m ∷ ms) l''

-- those that wait are those that collects would hand out, if called until one answers 2
abbrev pub WaitingComeOut : Type 0
WaitingComeOut = (y : Side) (l : Link) →
    ((ms : List Message) (l' : Link) → HandsOut y l ms l' → ms ≡ map waits (end_of y l).inbox.waiting) ×
    ((l' : Link) × HandsOut y l (map waits (end_of y l).inbox.waiting) l')
