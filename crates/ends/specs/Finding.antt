-- Finding an outgoing message.
-- Assumes nothing.
use Rattle.std.specs.Prelude.{◌≡◌, ℕ, List, length, Some, None, Option, MatchOption}
use Rattle.std.specs.List.{slice_get}
use Rattle.std.specs.Option.{option_map}
use Rattle.stores.specs.Held.{Stored}
use Rattle.ends.specs.declared.types.Cell.{Cell}
use Rattle.ends.specs.declared.finding.Found.{Found}

-- a message at a place: its cell and the length of its text
abbrev pub found_in : ℕ → Stored Cell → Found
found_in i c = record { place = i; cell = c.«record»; length = length c.text }

abbrev pub found_at : ℕ → List (Stored Cell) → Option Found
found_at i cells = option_map (found_in i) (slice_get cells i)

-- the message found is the one at the place that was looked for
pub record Finds (place : Option ℕ) (cells : List (Stored Cell)) (f : Found) : Type 0 where
  pub first : place ≡ Some f.place
  pub there : found_at f.place cells ≡ Some f

-- what was looked for is found, if there is such a place
abbrev pub FindsAny : Option ℕ → List (Stored Cell) → Option Found → Type 0
FindsAny place cells r = MatchOption r (place ≡ None) (λ f. Finds place cells f)
