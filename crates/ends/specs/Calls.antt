-- What each call of an end answers, and what it leaves: the steps of an end.
-- Assumes nothing.
use Rattle.std.specs.Prelude.{◌≡◌, ℕ, suc, ◌+◌, ◌-◌, ◌*◌, ◌^◌, ◌<◌, ◌≤◌, Bool, true, false, ◌&&◌, ◌||◌, ◌⊎◌, List, [], ◌∷◌, ◌++◌, length, drop, replicate, Some, None, Ok, Err, Option, Result, ◌==◌, ◌≢◌, nat_le, nat_lt}
use Rattle.std.specs.List.{slice_get}
use Rattle.blocks.specs.declared.block.Block.{Block}
use Rattle.blocks.specs.declared.fault.BlockFault.{BlockFault}
use Rattle.blocks.specs.Fields.{Fields, response, message, head_of, fields_read, written}
use Rattle.blocks.specs.Legal.{at, is_label, is_text, Sound}
use Rattle.blocks.specs.Reading.{Reads, pick}
use Rattle.writing.specs.Writing as writing
use Rattle.paths.specs.Meaning.{Added, Left}
use Rattle.stores.specs.Held.{Stored}
use Rattle.calls.specs.declared.fault.LinkFault.{LinkFault}
use Rattle.calls.specs.declared.fault.LinkFault.TheVariants as fault
use Rattle.calls.specs.declared.types.Label.{Label}
use Rattle.ends.specs.declared.types.Cell.{Cell}
use Rattle.ends.specs.declared.types.Stage.{Stage}
use Rattle.ends.specs.declared.types.Stage.TheVariants.{Settled}
use Rattle.calls.specs.declared.types.Outcome.{Outcome}
use Rattle.ends.specs.declared.types.Plan.{Plan}
use Rattle.ends.specs.declared.types.Plan.TheVariants as plan
use Rattle.calls.specs.declared.types.Ticked.{Ticked}
use Rattle.calls.specs.declared.types.Ticked.TheVariants as ticked
use Rattle.calls.specs.declared.types.Heard.{Heard}
use Rattle.calls.specs.declared.types.Heard.TheVariants as heard
use Rattle.calls.specs.Faults.{number_of, place_of}
use Rattle.ends.specs.Model.{Ways, Outbox, Inbox, Model}
use Rattle.ends.specs.Sending.{begun, place_of_number, plan_of, block_fields, response_fields, fresh_identifier, last_identifier, sent_fresh, sent_again, sent_response, sent_nothing, submitted, withdrawn, counted, with_outbox, with_cells}
use Rattle.ends.specs.Hearing as hearing

-- PATHS: what is done to one is said twice, precisely as the path says, and in general of the strings that wait

abbrev pub PutsBoth : {V : Type 0} → (V → List (List ℕ)) → (V → List ℕ → V → Type 0) → V → List ℕ → V → Type 0
PutsBoth strings puts v s v' = puts v s v' × Added (strings v) s (strings v')

abbrev pub TakesBoth : {V : Type 0} → (V → List (List ℕ)) → (V → Option (List ℕ) → V → Type 0) → V → Option (List ℕ) → V → Type 0
TakesBoth strings takes v o v' = takes v o v' × Left (strings v) o (strings v')

-- SUBMIT

-- label and text as one string; the first place that is not legal: label characters, then the length of the text, then its characters
abbrev pub LabelGood : Label → ℕ → Type 0
LabelGood l k = (i : ℕ) → i < k → is_label (at l.0 i) ≡ true

abbrev pub TextGood : List ℕ → ℕ → Type 0
TextGood t k = (i : ℕ) → i < k → is_text (at t i) ≡ true

abbrev pub IllegalWithin : ℕ → Label → List ℕ → ℕ → Type 0
IllegalWithin most l t p =
    ((p < 2) × LabelGood l p × (is_label (at l.0 p) ≡ false)) ⊎
    ((LabelGood l 2 × (most < length t) × (p ≡ 2 + most)) ⊎
    ((i : ℕ) × (p ≡ 2 + i) × (i < length t) × LabelGood l 2 × (length t ≤ most) × TextGood t i × (is_text (at t i) ≡ false)))

pub record LegalWithin (most : ℕ) (l : Label) (t : List ℕ) : Type 0 where
  pub label : LabelGood l 2
  pub long : length t ≤ most
  pub text : TextGood t (length t)

-- a text has at most sixteen full blocks
abbrev pub Illegal : Ways → Label → List ℕ → ℕ → Type 0
Illegal w l t p = IllegalWithin (16 * w.out.text.room) l t p

abbrev pub Legal : Ways → Label → List ℕ → Type 0
Legal w l t = LegalWithin (16 * w.out.text.room) l t

-- no cell, or no number, is left
abbrev pub full : Outbox → Bool
full o = nat_le 4 (length o.cells) || nat_le (2 ^ 64 - 1) o.numbered

abbrev pub SubmitRefused : Ways → Model → Label → List ℕ → ℕ → Option ℕ → Type 0
SubmitRefused w m l t n None = pick (n == 16) (Legal w l t × (full m.outbox ≡ true)) ⊥
SubmitRefused w m l t n (Some p) = pick (n == 15) (Illegal w l t p) ⊥

pub record Submitted (w : Ways) (m : Model) (l : Label) (t : List ℕ) (n : ℕ) (m' : Model) : Type 0 where
  pub legal : Legal w l t
  pub room : full m.outbox ≡ false
  pub number : n ≡ suc m.outbox.numbered
  pub after : m' ≡ submitted m l t

abbrev pub Submits : Ways → Model → Label → List ℕ → Result ℕ LinkFault → Model → Type 0
Submits w m l t (Ok n) m' = Submitted w m l t n m'
Submits w m l t (Err f) m' = (m' ≡ m) × SubmitRefused w m l t (number_of f) (place_of f)

-- WITHDRAW

-- a begun message is withdrawn only while two more identifiers stay short of the whole ring
abbrev pub too_many_spent : Ways → Model → Stage → Bool
too_many_spent w m s = begun s && nat_lt (w.out.own.size - 1) (m.outbox.spent + 2)

pub record Withdrew (w : Ways) (m : Model) (number : ℕ) (m' : Model) : Type 0 where
  pub place : ℕ
  pub cell : Stored Cell
  pub found : place_of_number number m.outbox.cells ≡ Some place
  pub there : slice_get m.outbox.cells place ≡ Some cell
  pub allowed : too_many_spent w m cell.«record».stage ≡ false
  pub after : m' ≡ withdrawn w m place cell

pub record BegunRefused (w : Ways) (m : Model) (number : ℕ) : Type 0 where
  pub place : ℕ
  pub cell : Stored Cell
  pub found : place_of_number number m.outbox.cells ≡ Some place
  pub there : slice_get m.outbox.cells place ≡ Some cell
  pub spent : too_many_spent w m cell.«record».stage ≡ true

abbrev pub WithdrawRefused : Ways → Model → ℕ → ℕ → Option ℕ → Type 0
WithdrawRefused w m number n (Some p) = ⊥
WithdrawRefused w m number n None =
    pick (n == 17) (place_of_number number m.outbox.cells ≡ None) (pick (n == 18) (BegunRefused w m number) ⊥)

abbrev pub Withdraws : Ways → Model → ℕ → Result (Unit {0}) LinkFault → Model → Type 0
Withdraws w m number (Ok _) m' = Withdrew w m number m'
Withdraws w m number (Err f) m' = (m' ≡ m) × WithdrawRefused w m number (number_of f) (place_of f)

-- TICK

-- a time that is taken: not before the last one, and at most 2^62
abbrev pub on_time : Model → ℕ → Bool
on_time m time = nat_le m.clock.time time && nat_le time (2 ^ 62)

-- the block of a cell goes out under an identifier: its fields are sound, and its string was put, precisely as the path says
pub record BlockPut {V : Type 0} (puts : V → List ℕ → V → Type 0) (w : Ways) (m : Model) (i a identifier : ℕ) (v v' : V) : Type 0 where
  pub cell : Stored Cell
  pub there : slice_get m.outbox.cells i ≡ Some cell
  pub sound : Sound w.out (block_fields w m cell a identifier)
  pub put : puts v (written (block_fields w m cell a identifier)) v'

pub record ResponsePut {V : Type 0} (puts : V → List ℕ → V → Type 0) (w : Ways) (m : Model) (v v' : V) : Type 0 where
  pub sound : Sound w.out (response_fields w m)
  pub put : puts v (written (response_fields w m)) v'

-- a tick that sends by its plan
abbrev pub Sends : {V : Type 0} → (V → List ℕ → V → Type 0) → Ways → Model → Plan → ℕ → ℕ → Ticked → Model → V → V → Type 0
Sends puts w m (plan.Fresh b) time draw r m' v v' =
    (r ≡ ticked.Block) × BlockPut puts w m b.place b.index (fresh_identifier w.out.own m.outbox) v v' × (m' ≡ sent_fresh w m b.place b.index time draw)
Sends puts w m (plan.Again b) time draw r m' v v' =
    (r ≡ ticked.Block) × BlockPut puts w m b.place b.index (last_identifier w.out.own m.outbox) v v' × (m' ≡ sent_again m time draw)
Sends puts w m plan.Response time draw r m' v v' = (r ≡ ticked.Response) × ResponsePut puts w m v v' × (m' ≡ sent_response m time)
Sends puts w m plan.Nothing time draw r m' v v' = (r ≡ ticked.Nothing) × (v' ≡ v) × (m' ≡ sent_nothing m time)

-- the fields of what a plan sends are not sound, and refused so: no end that only its own calls have changed meets this
abbrev pub Unsound : Ways → Model → Plan → ℕ → Option ℕ → Type 0
Unsound w m (plan.Fresh b) n p = (c : Stored Cell) × (slice_get m.outbox.cells b.place ≡ Some c) × writing.Refusal w.out (block_fields w m c b.index (fresh_identifier w.out.own m.outbox)) (replicate 238 0) n p
Unsound w m (plan.Again b) n p = (c : Stored Cell) × (slice_get m.outbox.cells b.place ≡ Some c) × writing.Refusal w.out (block_fields w m c b.index (last_identifier w.out.own m.outbox)) (replicate 238 0) n p
Unsound w m plan.Response n p = writing.Refusal w.out (response_fields w m) (replicate 238 0) n p
Unsound w m plan.Nothing n p = ⊥

abbrev pub TickRefused : Ways → Model → ℕ → ℕ → Option ℕ → Type 0
TickRefused w m time n p =
    pick (n == 14) (on_time m time ≡ false) ((on_time m time ≡ true) × Unsound w m (plan_of m time) n p)

abbrev pub Ticks : {V : Type 0} → (V → List ℕ → V → Type 0) → Ways → Model → ℕ → ℕ → Result Ticked LinkFault → Model → V → V → Type 0
Ticks puts w m time draw (Ok r) m' v v' = (on_time m time ≡ true) × Sends puts w m (plan_of m time) time draw r m' v v'
Ticks puts w m time draw (Err f) m' v v' = (m' ≡ m) × (v' ≡ v) × TickRefused w m time (number_of f) (place_of f)

-- HEAR

-- the end with another receiving half
abbrev pub with_inbox : Model → Inbox → Model
with_inbox m i = record m { inbox = i }

-- a message block is heard: the acknowledgment was counted, the receiving half does the rest
abbrev pub BlockHeard : Ways → Model → hearing.Block → Result Heard LinkFault → Model → Type 0
BlockHeard w m b r m' =
    (r ≡ (hearing.block_heard w m.inbox b).answer) × (m' ≡ with_inbox m (hearing.block_heard w m.inbox b).inbox)

-- a block with this end's address is heard
abbrev pub FieldsHeard : Ways → Model → Fields → Result Heard LinkFault → Model → Type 0
FieldsHeard w m (response h) r m' = (r ≡ Ok heard.Response) × (m' ≡ counted w m h.acknowledgment)
FieldsHeard w m (message h label last text) r m' =
    BlockHeard w (counted w m h.acknowledgment) (record { identifier = h.identifier; label = record { 0 = label }; last = last; text = text }) r m'

-- a string is heard: it is read; what is no block, or another's, changes nothing
abbrev pub ReadHeard : Ways → Model → Result Block BlockFault → Result Heard LinkFault → Model → Type 0
ReadHeard w m (Err x) r m' = (r ≡ Err (fault.Block x)) × (m' ≡ m)
ReadHeard w m (Ok b) r m' =
    (((head_of (fields_read b)).address ≡ m.settings.registration) × FieldsHeard w m (fields_read b) r m') ⊎
    (((head_of (fields_read b)).address ≢ m.settings.registration) × (r ≡ Err fault.Address) × (m' ≡ m))

pub record StringHeard (w : Ways) (m : Model) (s : List ℕ) (r : Result Heard LinkFault) (m' : Model) : Type 0 where
  pub result : Result Block BlockFault
  pub read : Reads w.inn s result
  pub heard : ReadHeard w m result r m'

-- a hear takes once, precisely as the path says: a string, or none
abbrev pub Hears : {V : Type 0} → (V → Option (List ℕ) → V → Type 0) → Ways → Model → Result Heard LinkFault → Model → V → V → Type 0
Hears takes w m r m' v v' =
    ((s : List ℕ) × takes v (Some s) v' × StringHeard w m s r m') ⊎
    (takes v None v' × (m' ≡ m) × ((f : LinkFault) × (r ≡ Err f) × (number_of f ≡ 2) × (place_of f ≡ None)))

-- COLLECT

-- the oldest message that waits is handed out: its label and the length of its text, which stands at the start of the buffer; behind it what stood there
pub record Collected (m : Model) (before : List ℕ) (label : Label) (n : ℕ) (m' : Model) (buffer : List ℕ) : Type 0 where
  pub room : 3520 ≤ length before
  pub message : Stored Label
  pub rest : List (Stored Label)
  pub oldest : m.inbox.waiting ≡ message ∷ rest
  pub label_is : label ≡ message.«record»
  pub long : n ≡ length message.text
  pub holds : buffer ≡ message.text ++ drop n before
  pub after : m' ≡ with_inbox m (record m.inbox { waiting = rest })

abbrev pub CollectRefused : Model → List ℕ → ℕ → Option ℕ → Type 0
CollectRefused m buffer n (Some p) = ⊥
CollectRefused m buffer n None =
    pick (n == 1) (length buffer < 3520) (pick (n == 2) ((3520 ≤ length buffer) × (m.inbox.waiting ≡ [])) ⊥)

abbrev pub Collects : Model → List ℕ → Result (Label × ℕ) LinkFault → Model → List ℕ → Type 0
Collects m before (Ok (l, n)) m' after = Collected m before l n m' after
Collects m before (Err f) m' after = (m' ≡ m) × (after ≡ before) × CollectRefused m before (number_of f) (place_of f)

-- OUTCOME

pub record Told (m : Model) (number : ℕ) (o : Outcome) (m' : Model) : Type 0 where
  pub cell : Stored Cell
  pub rest : List (Stored Cell)
  pub oldest : m.outbox.cells ≡ cell ∷ rest
  pub settled : cell.«record».stage ≡ Settled o
  pub number_is : number ≡ cell.«record».number
  pub after : m' ≡ with_outbox m (with_cells m.outbox rest)

-- the oldest outgoing message is absent or unsettled
abbrev pub Untold : List (Stored Cell) → Type 0
Untold [] = Unit {0}
Untold (c ∷ cs) = (o : Outcome) → c.«record».stage ≢ Settled o

abbrev pub OutcomeRefused : Model → ℕ → Option ℕ → Type 0
OutcomeRefused m n (Some p) = ⊥
OutcomeRefused m n None = pick (n == 2) (Untold m.outbox.cells) ⊥

abbrev pub Tells : Model → Result (ℕ × Outcome) LinkFault → Model → Type 0
Tells m (Ok (n, o)) m' = Told m n o m'
Tells m (Err f) m' = (m' ≡ m) × OutcomeRefused m (number_of f) (place_of f)
