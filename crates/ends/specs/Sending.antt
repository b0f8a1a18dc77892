-- The sending half of an end: blocks, identifiers, waits, and what each call does to it.
-- Assumes nothing.
use Rattle.std.specs.Prelude.{ℕ, zero, suc, ◌+◌, ◌-◌, ◌*◌, ◌/◌, ◌%◌, min, Bool, true, false, cond, ◌&&◌, ◌||◌, List, [], ◌∷◌, ◌++◌, length, take, drop, Some, None, Option, ◌==◌, nat_le, nat_lt}
use Rattle.directions.specs.Rings.{RingRule, next}
use Rattle.blocks.specs.Fields.{Fields, response, message}
use Rattle.stores.specs.Held.{Stored, stored}
use Rattle.calls.specs.declared.types.Settings.{Settings}
use Rattle.calls.specs.declared.types.Label.{Label}
use Rattle.ends.specs.declared.types.Stage.{Stage}
use Rattle.ends.specs.declared.types.Stage.TheVariants.{Unsettled, Settled}
use Rattle.calls.specs.declared.types.Outcome.TheVariants.{Delivered, NotDelivered, InDoubt}
use Rattle.ends.specs.declared.types.Cell.{Cell}
use Rattle.ends.specs.declared.types.Clock.{Clock}
use Rattle.ends.specs.declared.types.Plan.{Plan}
use Rattle.ends.specs.declared.types.Plan.TheVariants.{Fresh, Again, Response, Nothing}
use Rattle.ends.specs.Model.{Ways, Outbox, Inbox, Model}

-- how many blocks a text of n characters makes, with room for so many in a block: empty text is one
abbrev pub block_count : ℕ → ℕ → ℕ
block_count room n = cond (n == 0) 1 ((n + room - 1) / room)

-- the message characters of the block with an index
abbrev pub block_text : ℕ → List ℕ → ℕ → List ℕ
block_text room text i = take room (drop (i * room) text)

-- the identifier after the one last put, the ring's first if none was
abbrev pub after : RingRule → Option ℕ → ℕ
after r None = r.first
after r (Some c) = next r c

-- a new block's identifier: the next, or the one after that where one is passed over
abbrev pub fresh_identifier : RingRule → Outbox → ℕ
fresh_identifier r o = cond o.passing (next r (after r o.put)) (after r o.put)

-- a number or, where there is none, another
abbrev pub or_else : Option ℕ → ℕ → ℕ
or_else None d = d
or_else (Some c) d = c

-- the identifier last put in a message block, the ring's first if none was
abbrev pub last_identifier : RingRule → Outbox → ℕ
last_identifier r o = or_else o.put r.first

-- the identifiers spent after a new block: one more, or two where one is passed over (a count of eight bits, which the ring never fills)
abbrev pub spent_by : Outbox → ℕ
spent_by o = min (o.spent + cond o.passing 2 1) 255

-- the wait after a try: contact from the limit on, else from low to high by the draw
abbrev pub wait_after : Settings → ℕ → ℕ → ℕ
wait_after s tries draw = cond (nat_lt tries s.limit) (s.low + draw % (s.high - s.low + 1)) s.contact

-- the acknowledgment that goes with a string: the identifier last accepted, if one is owed
abbrev pub owed_by : Inbox → Option ℕ
owed_by i = cond i.owed i.accepted None

-- a message has begun once a block of it has gone out; its last block has gone out
abbrev pub begun : Stage → Bool
begun (Unsettled a out) = nat_lt 0 a || out
begun (Settled o) = false

abbrev pub last_out : ℕ → Stage → Bool
last_out blocks (Unsettled a out) = out && a + 1 == blocks
last_out blocks (Settled o) = false

abbrev pub unsettled : Stage → Bool
unsettled (Unsettled a out) = true
unsettled (Settled o) = false

-- the place of the first outgoing message whose cell passes a test
abbrev pub later : Option ℕ → Option ℕ
later None = None
later (Some i) = Some (suc i)

abbrev pub place_where : (Cell → Bool) → List (Stored Cell) → Option ℕ
place_where p [] = None
place_where p (c ∷ cs) = cond (p c.«record») (Some 0) (later (place_where p cs))

-- the place of the first outgoing message that is unsettled
abbrev pub current_place : List (Stored Cell) → Option ℕ
current_place cs = place_where (λ c. unsettled c.stage) cs

-- the place of the unsettled outgoing message with a number
abbrev pub place_of_number : ℕ → List (Stored Cell) → Option ℕ
place_of_number n cs = place_where (λ c. c.number == n && unsettled c.stage) cs

-- what a tick at a time is to send
abbrev pub otherwise : Bool → Plan
otherwise owed = cond owed Response Nothing

abbrev pub plan_of_cell : Model → ℕ → ℕ → Stage → Plan
plan_of_cell m time i (Unsettled a false) = Fresh (record { place = i; index = a })
plan_of_cell m time i (Unsettled a true) = cond (nat_le m.clock.due time) (Again (record { place = i; index = a })) (otherwise m.inbox.owed)
plan_of_cell m time i (Settled o) = otherwise m.inbox.owed

-- the plan of the first unsettled message of the cells from place i on
abbrev pub plan_from : Model → ℕ → ℕ → List (Stored Cell) → Plan
plan_from m time i [] = otherwise m.inbox.owed
plan_from m time i (c ∷ cs) = cond (unsettled c.«record».stage) (plan_of_cell m time i c.«record».stage) (plan_from m time (suc i) cs)

abbrev pub plan_of : Model → ℕ → Plan
plan_of m time = plan_from m time 0 m.outbox.cells

-- the fields of the block with an index, of an outgoing message, under an identifier
abbrev pub block_fields : Ways → Model → Stored Cell → ℕ → ℕ → Fields
block_fields w m c i identifier =
    message (record { address = m.settings.registration; acknowledgment = owed_by m.inbox; identifier = identifier })
    c.«record».label.0
    (i + 1 == block_count w.out.text.room (length c.text))
    (w.out.text.opener m.settings.originator m.settings.flight c.«record».number i ++ block_text w.out.text.room c.text i)

-- the fields of a general response
abbrev pub response_fields : Ways → Model → Fields
response_fields w m =
    response (record { address = m.settings.registration; acknowledgment = owed_by m.inbox; identifier = last_identifier w.out.own m.outbox })

-- a cell with another stage
abbrev pub staged : Cell → Stage → Cell
staged c s = record c { stage = s }

abbrev pub stage_at : ℕ → Stage → List (Stored Cell) → List (Stored Cell)
stage_at i s [] = []
stage_at zero s (c ∷ cs) = stored (staged c.«record» s) c.text ∷ cs
stage_at (suc i) s (c ∷ cs) = c ∷ stage_at i s cs

-- nothing is owed any more
abbrev pub paid : Inbox → Inbox
paid i = record i { owed = false }

-- a time is taken; a block is tried once more
abbrev pub timed : Clock → ℕ → Clock
timed c time = record c { time = time }

abbrev pub tried : Settings → ℕ → ℕ → ℕ → Clock
tried s tries time draw = record { time = time; due = time + wait_after s tries draw; tries = tries }

-- the end after a tick that sent a block for the first time, a block again, a response, nothing
abbrev pub sent_fresh : Ways → Model → ℕ → ℕ → ℕ → ℕ → Model
sent_fresh w m i a time draw = record m {
  outbox = record m.outbox {
    cells = stage_at i (Unsettled a true) m.outbox.cells;
    put = Some (fresh_identifier w.out.own m.outbox);
    spent = spent_by m.outbox;
    passing = false;
  };
  clock = tried m.settings 1 time draw;
  inbox = paid m.inbox;
}

abbrev pub sent_again : Model → ℕ → ℕ → Model
sent_again m time draw = record m { clock = tried m.settings (min (m.clock.tries + 1) 255) time draw; inbox = paid m.inbox }

abbrev pub sent_response : Model → ℕ → Model
sent_response m time = record m { clock = timed m.clock time; inbox = paid m.inbox }

abbrev pub sent_nothing : Model → ℕ → Model
sent_nothing m time = record m { clock = timed m.clock time }

-- the end with other outgoing cells
abbrev pub with_outbox : Model → Outbox → Model
with_outbox m o = record m { outbox = o }

abbrev pub with_cells : Outbox → List (Stored Cell) → Outbox
with_cells o cs = record o { cells = cs }

-- a new message in the newest cell
abbrev pub submitted : Model → Label → List ℕ → Model
submitted m label text =
    with_outbox m (record m.outbox {
      numbered = suc m.outbox.numbered;
      cells = m.outbox.cells ++ stored (record { number = suc m.outbox.numbered; label = label; stage = Unsettled 0 false }) text ∷ [];
    })

-- the message at a place is withdrawn: in doubt if its last block has gone out, else not delivered; a begun one leaves its mark
abbrev pub withdrawn_as : ℕ → Stage → Stage
withdrawn_as blocks s = Settled (cond (last_out blocks s) InDoubt NotDelivered)

abbrev pub withdrawn : Ways → Model → ℕ → Stored Cell → Model
withdrawn w m i c =
    with_outbox m (record m.outbox {
      cells = stage_at i (withdrawn_as (block_count w.out.text.room (length c.text)) c.«record».stage) m.outbox.cells;
      passing = m.outbox.passing || begun c.«record».stage;
    })

-- the message after the current block of a message is acknowledged: delivered if that was its last (a count of eight bits, which sixteen blocks never fill)
abbrev pub advanced : ℕ → Stage → Stage
advanced blocks (Unsettled a out) = cond (a + 1 == blocks) (Settled Delivered) (Unsettled (min (a + 1) 255) false)
advanced blocks (Settled o) = Settled o

-- whether an acknowledgment names the current block, which has gone out
abbrev pub names : Option ℕ → Option ℕ → Bool
names None put = false
names (Some c) None = false
names (Some c) (Some d) = c == d

abbrev pub is_out : Stage → Bool
is_out (Unsettled a out) = out
is_out (Settled o) = false

-- the cells after an acknowledgment that names the current block: the first unsettled one is advanced, if its block has gone out; no other changes
abbrev pub acknowledged_cells : ℕ → List (Stored Cell) → List (Stored Cell)
acknowledged_cells room [] = []
acknowledged_cells room (c ∷ cs) =
    cond (unsettled c.«record».stage)
    (cond (is_out c.«record».stage) (stored (staged c.«record» (advanced (block_count room (length c.text)) c.«record».stage)) c.text) c ∷ cs)
    (c ∷ acknowledged_cells room cs)

-- whether the current block has gone out
abbrev pub current_out : List (Stored Cell) → Bool
current_out [] = false
current_out (c ∷ cs) = cond (unsettled c.«record».stage) (is_out c.«record».stage) (current_out cs)

-- the end after its current block is acknowledged
abbrev pub moved_on : Ways → Model → Model
moved_on w m = with_outbox m (record m.outbox { cells = acknowledged_cells w.out.text.room m.outbox.cells; spent = 0 })

-- the end after an acknowledgment is counted
abbrev pub counted : Ways → Model → Option ℕ → Model
counted w m a = cond (names a m.outbox.put && current_out m.outbox.cells) (moved_on w m) m
