-- What holds of input lines.
-- Assumes nothing.
use Rattle.std.specs.Prelude.{◌≡◌, ℕ, ◌+◌, ◌/◌, ◌%◌, ◌<◌, ◌≤◌, Bool, List, [], ◌∷◌, length, Some, None, Option}
use Rattle.std.specs.List.{AllByRecursion}
use Rattle.recordings.specs.declared.heading.Heading.{Heading}
use Rattle.recordings.specs.declared.heading.Recorded.{Recorded}
use Rattle.recordings.specs.Recorded.{letter, hex_digit, LineOf, Unread, Reading, string_of}

-- the hex digits of a string; capital says of each digit, by its place, whether a letter is a capital
abbrev pub hex_of : (ℕ → Bool) → List ℕ → List ℕ
hex_of capital [] = []
hex_of capital (o ∷ os) = hex_digit (capital 0) (o / 16) ∷ (hex_digit (capital 1) (o % 16) ∷ hex_of (λ (k : ℕ). capital (2 + k)) os)

-- the line of a string with its digits in the given cases
abbrev pub line_of : Heading → (ℕ → Bool) → List ℕ → List ℕ
line_of h capital string = letter h ∷ (44 ∷ hex_of capital string)

-- a string of octets has a line in every mixture of capitals and small letters
abbrev pub LinesStand : Type 0
LinesStand =
    (h : Heading) (capital : ℕ → Bool) (string : List ℕ) → length string ≤ 511 → AllByRecursion (λ (o : ℕ). o < 256) string →
    LineOf h string (line_of h capital string)

-- the line was read as this direction and this string
abbrev pub ReadAs : Heading → List ℕ → Option Recorded → Type 0
ReadAs h string None = ⊥
ReadAs h string (Some r) = (r.heading ≡ h) × (string_of r.string ≡ string)

-- the line of a string reads back as exactly that direction and string; every other line is unread
abbrev pub LinesReadBack : Type 0
LinesReadBack =
    (line : List ℕ) (r : Option Recorded) → Reading line r →
    ((h : Heading) (string : List ℕ) → LineOf h string line → ReadAs h string r) × (Unread line → r ≡ None)
