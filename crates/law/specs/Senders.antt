-- The sending half of an end: messages numbered from 1, and one block at a time.
-- Assumes nothing.
use Rattle.std.specs.Prelude.{◌≡◌, ℕ, zero, suc, ◌+◌, ◌-◌, ◌<◌, ◌≤◌, Bool, true, false, cond, List, [], ◌∷◌, ◌++◌, length, ◌==◌, ◌≢◌}
use Rattle.std.proofs.Math.Option.{Option, none, some}
use Rattle.law.specs.Directions.{Direction, Place, fresh, cost}

-- the characters of a label, and of a block's share of a message
abbrev pub Text : Type 0
Text = List ℕ

-- a message: its label and the texts of its blocks, in order
pub data Message : Type 0 where
  message : Text → List Text → Message

-- how many blocks a message has
abbrev pub size : Message → ℕ
size (message l ts) = length ts

-- what a message is called
pub data Status : Type 0 where
  unsettled delivered not_delivered in_doubt : Status

-- a message under way: number, label, blocks acknowledged (newest first), current block, blocks after it
pub data Course : Type 0 where
  course : ℕ → Text → List Text → Text → List Text → Course

-- a sender's three phases: no block of an unsettled message has gone out (and has a begun one been withdrawn since the
-- last new block?); blocks are acknowledged and the current one has not gone out; the current one has gone out
pub data Phase : Type 0 where
  idle : Bool → Phase
  ready : Course → Phase
  out : Course → Phase

-- messages given, what each number is called, the phase, the identifier last put in a block, and how many were spent
-- since the last acknowledged one
pub data Sender : Type 0 where
  sender : List Message → (ℕ → Status) → Phase → Option ℕ → ℕ → Sender

-- a new sender
abbrev pub new_sender : Sender
new_sender = sender [] (λ n. unsettled) (idle false) none 0

-- a block as it is read: identifier, what it says of its place, label, text, and whether it is its message's last
pub data Block : Type 0 where
  block : ℕ → Place → Text → Text → Bool → Block

-- is nothing left?
abbrev pub ended : List Text → Bool
ended [] = true
ended (t ∷ ts) = false

-- the number of a message under way
abbrev pub number_of : Course → ℕ
number_of (course n l ds t us) = n

-- the index of its current block, from 0
abbrev pub index_of : Course → ℕ
index_of (course n l ds t us) = length ds

-- the current block under an identifier
abbrev pub block_of : Direction → ℕ → Course → Block
block_of d i (course n l ds t us) = block i (d.place n (length ds)) l t (ended us)

-- the k-th of a list, from 0
abbrev pub nth : List Message → ℕ → Option Message
nth [] k = none
nth (m ∷ ms) zero = some m
nth (m ∷ ms) (suc k) = nth ms k

-- the message that bears a number, from 1
abbrev pub numbered : List Message → ℕ → Option Message
numbered ms zero = none
numbered ms (suc k) = nth ms k

-- what messages are called once number n is settled
abbrev pub settle : (ℕ → Status) → ℕ → Status → ℕ → Status
settle called n s j = cond (j == n) s (called j)

-- number n was given out and is unsettled
pub record Unsettled (ms : List Message) (called : ℕ → Status) (n : ℕ) : Type 0 where
  pub given : 1 ≤ n
  pub within : n ≤ length ms
  pub open_yet : called n ≡ unsettled

-- which message is sent next when none is under way: the oldest unsettled one
pub record Chosen (ms : List Message) (called : ℕ → Status) (n : ℕ) : Type 0 where
  pub waits : Unsettled ms called n
  pub oldest : (j : ℕ) → 1 ≤ j → j < n → called j ≢ unsettled

-- message n has begun: a block of it has gone out, and it is not settled
pub data Begun : Phase → ℕ → Type 0 where
  between : {n : ℕ} {l : Text} {ds : List Text} {t : Text} {us : List Text} → Begun (ready (course n l ds t us)) n
  current : {n : ℕ} {l : Text} {ds : List Text} {t : Text} {us : List Text} → Begun (out (course n l ds t us)) n

-- a withdrawn message whose current block has gone out is in doubt if that was its last
abbrev pub verdict : List Text → Status
verdict [] = in_doubt
verdict (u ∷ us) = not_delivered

-- a submit takes a message of 1 to 16 blocks
pub data Submits : Sender → Message → Sender → Type 0 where
  submits : {g : List Message} {c : ℕ → Status} {ph : Phase} {p : Option ℕ} {s : ℕ} {l t : Text} {ts : List Text} →
      length ts < 16 → Submits (sender g c ph p s) (message l (t ∷ ts)) (sender (g ++ (message l (t ∷ ts) ∷ [])) c ph p s)

-- a withdraw settles a message; of one that has begun it is accepted only while spent + 2 ≤ N - 1
pub data Withdraws (N : ℕ) : Sender → ℕ → Sender → Type 0 where
  from_ready : {g : List Message} {c : ℕ → Status} {p : Option ℕ} {s n : ℕ} {l : Text} {ds : List Text} {t : Text} {us : List Text} →
      s + 2 ≤ N - 1 →
      Withdraws N (sender g c (ready (course n l ds t us)) p s) n (sender g (settle c n not_delivered) (idle true) p s)
  from_out : {g : List Message} {c : ℕ → Status} {p : Option ℕ} {s n : ℕ} {l : Text} {ds : List Text} {t : Text} {us : List Text} →
      s + 2 ≤ N - 1 →
      Withdraws N (sender g c (out (course n l ds t us)) p s) n (sender g (settle c n (verdict us)) (idle true) p s)
  unbegun : {g : List Message} {c : ℕ → Status} {ph : Phase} {p : Option ℕ} {s n : ℕ} →
      Unsettled g c n → (Begun ph n → ⊥) →
      Withdraws N (sender g c ph p s) n (sender g (settle c n not_delivered) ph p s)

-- a tick, told whether the current block is due, puts a block: the first of the message chosen, the next of the one
-- under way, or the current one again
pub data Sends (d : Direction) : Bool → Sender → Course → Block → Sender → Type 0 where
  first : {b m : Bool} {g : List Message} {c : ℕ → Status} {p : Option ℕ} {s n : ℕ} {l t : Text} {us : List Text} →
      Chosen g c n → numbered g n ≡ some (message l (t ∷ us)) →
      Sends d b (sender g c (idle m) p s) (course n l [] t us) (block_of d (fresh d.ring m p) (course n l [] t us))
      (sender g c (out (course n l [] t us)) (some (fresh d.ring m p)) (s + cost m))
  further : {b : Bool} {g : List Message} {c : ℕ → Status} {p : Option ℕ} {s : ℕ} {z : Course} →
      Sends d b (sender g c (ready z) p s) z (block_of d (fresh d.ring false p) z)
      (sender g c (out z) (some (fresh d.ring false p)) (s + cost false))
  again : {g : List Message} {c : ℕ → Status} {i s : ℕ} {z : Course} →
      Sends d true (sender g c (out z) (some i) s) z (block_of d i z) (sender g c (out z) (some i) s)

-- a tick has no block to put: the current one is not due, or nothing is unsettled
pub data Quiet : Bool → Sender → Type 0 where
  early : {g : List Message} {c : ℕ → Status} {p : Option ℕ} {s : ℕ} {z : Course} → Quiet false (sender g c (out z) p s)
  empty : {b m : Bool} {g : List Message} {c : ℕ → Status} {p : Option ℕ} {s : ℕ} →
      ((n : ℕ) → Unsettled g c n → ⊥) → Quiet b (sender g c (idle m) p s)

-- an identifier names the current block, and that has gone out
pub data Current : Sender → ℕ → Type 0 where
  current : {g : List Message} {c : ℕ → Status} {i s : ℕ} {z : Course} → Current (sender g c (out z) (some i) s) i

-- how an acknowledgment counts, and which block (number, index) it acknowledges: the last one settles its message as
-- delivered, an earlier one makes the next block current; any other acknowledgment changes nothing
pub data Counts : Sender → Option ℕ → Option (ℕ × ℕ) → Sender → Type 0 where
  settles : {g : List Message} {c : ℕ → Status} {i s n : ℕ} {l : Text} {ds : List Text} {t : Text} →
      Counts (sender g c (out (course n l ds t [])) (some i) s) (some i) (some (n, length ds))
      (sender g (settle c n delivered) (idle false) (some i) 0)
  advances : {g : List Message} {c : ℕ → Status} {i s n : ℕ} {l : Text} {ds : List Text} {t u : Text} {us : List Text} →
      Counts (sender g c (out (course n l ds t (u ∷ us))) (some i) s) (some i) (some (n, length ds))
      (sender g c (ready (course n l (t ∷ ds) u us)) (some i) 0)
  unnamed : {s : Sender} → Counts s none none s
  stale : {s : Sender} {i : ℕ} → (Current s i → ⊥) → Counts s (some i) none s
