-- The receiving half of an end: one open part, and four cells for completed messages.
-- Assumes nothing.
use Rattle.std.specs.Prelude.{◌≡◌, ℕ, ◌<◌, ◌≤◌, Bool, true, false, List, [], ◌∷◌, ◌++◌, reverse, length, ◌≢◌}
use Rattle.std.proofs.Math.Option.{Option, none, some}
use Rattle.law.specs.Directions.{Direction, Place, Turn, opens, continues, neither, is_next}
use Rattle.law.specs.Senders.{Text, Message, message, Block, block}

-- a part message: the place of its newest block, its first label, its texts (newest first)
pub data Part : Type 0 where
  closed : Part
  open_part : Place → Text → List Text → Part

-- the identifier last accepted, the part, and the completed messages that wait, oldest first
pub data Receiver : Type 0 where
  receiver : Option ℕ → Part → List Message → Receiver

-- a new receiver
abbrev pub new_receiver : Receiver
new_receiver = receiver none closed []

-- the place that the rule is told of
abbrev pub place_of : Part → Option Place
place_of closed = none
place_of (open_part q l ts) = some q

-- label and texts after a block with this label and text has opened or joined, if it does either
abbrev pub joined : Turn → Part → Text → Text → Option (Text × List Text)
joined opens part l t = some (l, t ∷ [])
joined continues closed l t = none
joined continues (open_part q k ts) l t = some (k, t ∷ ts)
joined neither part l t = none

-- the answers to a block heard; the last three are refusals: it neither opens nor continues a message, it would be a
-- seventeenth block, a message would complete while four wait
pub data Took : Type 0 where
  duplicate part complete stray seventeenth crowded : Took

-- what the rule makes of a block at a receiver that last accepted o and has this part
abbrev pub joining : Direction → Option ℕ → Part → Block → Option (Text × List Text)
joining d o pt (block i q l t e) = joined (d.turn (is_next d.ring o i) (place_of pt) q) pt l t

-- a block's identifier
abbrev pub identifier : Block → ℕ
identifier (block i q l t e) = i

-- how a receiver takes a block, and its answer; a refusal changes nothing
pub data Takes (d : Direction) : Receiver → Block → Took → Receiver → Type 0 where
  takes_duplicate : {i : ℕ} {q : Place} {l t : Text} {e : Bool} {pt : Part} {ms : List Message} →
      Takes d (receiver (some i) pt ms) (block i q l t e) duplicate (receiver (some i) pt ms)
  takes_part : {o : Option ℕ} {i : ℕ} {q : Place} {l t k : Text} {ts : List Text} {pt : Part} {ms : List Message} →
      (o ≢ some i) → joining d o pt (block i q l t false) ≡ some (k, ts) → length ts ≤ 16 →
      Takes d (receiver o pt ms) (block i q l t false) part (receiver (some i) (open_part q k ts) ms)
  takes_last : {o : Option ℕ} {i : ℕ} {q : Place} {l t k : Text} {ts : List Text} {pt : Part} {ms : List Message} →
      (o ≢ some i) → joining d o pt (block i q l t true) ≡ some (k, ts) → length ts ≤ 16 → length ms < 4 →
      Takes d (receiver o pt ms) (block i q l t true) complete (receiver (some i) closed (ms ++ (message k (reverse ts) ∷ [])))
  refuses_stray : {o : Option ℕ} {b : Block} {pt : Part} {ms : List Message} →
      (o ≢ some (identifier b)) → joining d o pt b ≡ none → Takes d (receiver o pt ms) b stray (receiver o pt ms)
  refuses_seventeenth : {o : Option ℕ} {b : Block} {k : Text} {ts : List Text} {pt : Part} {ms : List Message} →
      (o ≢ some (identifier b)) → joining d o pt b ≡ some (k, ts) → 16 < length ts →
      Takes d (receiver o pt ms) b seventeenth (receiver o pt ms)
  refuses_crowded : {o : Option ℕ} {i : ℕ} {q : Place} {l t k : Text} {ts : List Text} {pt : Part} {ms : List Message} →
      (o ≢ some i) → joining d o pt (block i q l t true) ≡ some (k, ts) → length ts ≤ 16 → 4 ≤ length ms →
      Takes d (receiver o pt ms) (block i q l t true) crowded (receiver o pt ms)

-- is an acknowledgment owed after that answer? duplicates and accepted blocks make one owed
abbrev pub owes : Took → Bool → Bool
owes duplicate w = true
owes part w = true
owes complete w = true
owes stray w = w
owes seventeenth w = w
owes crowded w = w
