-- What the steps of reading a line answer.
-- Assumes nothing.
use Rattle.std.specs.Prelude.{◌≡◌, ℕ, ◌+◌, ◌*◌, ◌<◌, ◌≤◌, List, length, Some, None, Option, Result, MatchResult, ◌≢◌, slice_index}
use Rattle.recordings.specs.declared.heading.Heading.{Heading}
use Rattle.recordings.specs.declared.heading.NoHeading.{NoHeading}
use Rattle.recordings.specs.Recorded.{letter, Digit, Spells}

-- what two hex digits say: an octet, or none where one is no digit
abbrev pub OctetOf : ℕ → ℕ → Option ℕ → Type 0
OctetOf c d None = (o : ℕ) → Spells c d o → ⊥
OctetOf c d (Some o) = Spells c d o

-- what one hex digit says
abbrev pub ValueOf : ℕ → Option ℕ → Type 0
ValueOf c None = (v : ℕ) → v < 16 → Digit c v → ⊥
ValueOf c (Some v) = (v < 16) × Digit c v

-- what one octet says: the direction whose letter it is, or none
abbrev pub HeadingOf : ℕ → Result Heading NoHeading → Type 0
HeadingOf c r = MatchResult r (λ h. c ≡ letter h) (λ e. (e.0 ≡ c) × ((h : Heading) → c ≢ letter h))

-- the hex digits of a string of up to 511 octets
pub record DigitsOf (string digits : List ℕ) : Type 0 where
  pub short : length string ≤ 511
  pub long : length digits ≡ 2 * length string
  pub spelled : (i : ℕ) → i < length string → Spells (slice_index digits (2 * i)) (slice_index digits (1 + 2 * i)) (slice_index string i)

-- what hex digits say: a string, or none where they are those of none
abbrev pub Decoded : List ℕ → Option (List ℕ) → Type 0
Decoded digits None = (string : List ℕ) → DigitsOf string digits → ⊥
Decoded digits (Some string) = DigitsOf string digits
