-- What the parts of a tick and of a hear do.
-- Assumes nothing.
use Rattle.std.specs.Prelude.{◌≡◌, ℕ, ◌<◌, cond, List, replicate, Some, None, Ok, Err, Option, Result}
use Rattle.std.specs.List.{slice_get}
use Rattle.blocks.specs.declared.fault.BlockFault.{BlockFault}
use Rattle.blocks.specs.Fields.{Fields, written}
use Rattle.blocks.specs.Legal.{Way, Sound}
use Rattle.blocks.specs.Faults.{number_of, place_of}
use Rattle.writing.specs.Writing as writing
use Rattle.stores.specs.Held.{Stored}
use Rattle.ends.specs.declared.types.Cell.{Cell}
use Rattle.ends.specs.declared.types.Plan.{Plan}
use Rattle.ends.specs.declared.types.Plan.TheVariants as plan
use Rattle.ends.specs.declared.types.PartHead.{PartHead}
use Rattle.ends.specs.Model.{Ways, Model}
use Rattle.ends.specs.Sending.{block_fields, current_out, moved_on}
use Rattle.calls.specs.declared.fault.LinkFault.{LinkFault}
use Rattle.calls.specs.declared.types.Heard.{Heard}
use Rattle.ends.specs.Hearing as hearing
use Rattle.ends.specs.Calls.{BlockPut, with_inbox}

-- the cell that a plan names is there
abbrev pub Planned : Plan → ℕ → Type 0
Planned (plan.Fresh b) n = b.place < n
Planned (plan.Again b) n = b.place < n
Planned plan.Response n = Unit {0}
Planned plan.Nothing n = Unit {0}

-- fields were sent: they are sound and their string was put; or they are refused and nothing was put
pub record SentOff {V : Type 0} (puts : V → List ℕ → V → Type 0) (w : Way) (f : Fields) (v v' : V) : Type 0 where
  pub sound : Sound w f
  pub put : puts v (written f) v'

abbrev pub Sent : {V : Type 0} → (V → List ℕ → V → Type 0) → Way → Fields → Result (Unit {0}) BlockFault → V → V → Type 0
Sent puts w f (Ok _) v v' = SentOff puts w f v v'
Sent puts w f (Err x) v v' = (v' ≡ v) × writing.Refusal w f (replicate 238 0) (number_of x) (place_of x)

-- the block of a cell was sent
abbrev pub BlockRefused : Ways → Model → ℕ → ℕ → ℕ → BlockFault → Type 0
BlockRefused w m i a identifier x =
    (c : Stored Cell) × (slice_get m.outbox.cells i ≡ Some c) × writing.Refusal w.out (block_fields w m c a identifier) (replicate 238 0) (number_of x) (place_of x)

abbrev pub BlockSent : {V : Type 0} → (V → List ℕ → V → Type 0) → Ways → Model → ℕ → ℕ → ℕ → Result (Unit {0}) BlockFault → V → V → Type 0
BlockSent puts w m i a identifier (Ok _) v v' = BlockPut puts w m i a identifier v v'
BlockSent puts w m i a identifier (Err x) v v' = (v' ≡ v) × BlockRefused w m i a identifier x

-- the end after an acknowledgment that names the identifier last put
abbrev pub acknowledged : Ways → Model → Model
acknowledged w m = cond (current_out m.outbox.cells) (moved_on w m) m

-- the part after a block that opens it, or continues another
abbrev pub part_with : Ways → hearing.Block → Option (Stored PartHead) → Stored PartHead
part_with w b None = hearing.opened_part w b
part_with w b (Some p) = hearing.continued_part w b p

-- a block whose part would be p is heard
abbrev pub PartHeard : Model → hearing.Block → Stored PartHead → Result Heard LinkFault → Model → Type 0
PartHeard m b p r m' = (r ≡ (hearing.joined m.inbox b (Some p)).answer) × (m' ≡ with_inbox m (hearing.joined m.inbox b (Some p)).inbox)
