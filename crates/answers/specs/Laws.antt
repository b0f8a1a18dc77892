-- What holds of answers.
-- Assumes nothing.
use Rattle.std.specs.Prelude.{◌≡◌, ℕ, ◌^◌, ◌<◌, Some, None, Option}
use Rattle.directions.specs.TextRules.{down_ring, down_text, up_ring, up_text}
use Rattle.blocks.specs.Legal.{Way, Sound}
use Rattle.recordings.specs.declared.heading.Heading.{Heading}
use Rattle.recordings.specs.declared.heading.Heading.TheVariants.{Down, Up}
use Rattle.answers.specs.Printed.{Outcome, block, refused, unread, printed}

-- the rules of a direction's blocks
abbrev pub way_of : Heading → Way
way_of Down = record { own = down_ring; other = up_ring; text = down_text }
way_of Up = record { own = up_ring; other = down_ring; text = up_text }

-- a place that a machine's word holds, or none
abbrev pub Small : Option ℕ → Type 0
Small None = Unit {0}
Small (Some p) = p < 2 ^ 64

-- what can come of an input line: a block's fields are sound in its direction
abbrev pub Possible : Outcome → Type 0
Possible (block h f) = Sound (way_of h) f
Possible (refused h n p) = (n < 2 ^ 64) × Small p
Possible unread = Unit {0}

-- no two different results print alike
abbrev pub PrintedApart : Type 0
PrintedApart =
    (m n : ℕ) (a b : Outcome) → m < 2 ^ 64 → n < 2 ^ 64 → Possible a → Possible b → printed m a ≡ printed n b → (m ≡ n) × (a ≡ b)
