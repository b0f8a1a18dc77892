-- Input lines: the line of a recorded string, and what reading a line answers.
-- Assumes nothing.
use Rattle.std.specs.Prelude.{◌≡◌, ℕ, ◌+◌, ◌*◌, ◌/◌, ◌%◌, ◌<◌, ◌≤◌, Bool, true, false, cond, ◌⊎◌, List, length, take, Some, None, Option, nat_lt, slice_index, slice_index_or}
use Rattle.recordings.specs.declared.heading.Heading.{Heading}
use Rattle.recordings.specs.declared.heading.Heading.TheVariants.{Down, Up}
use Rattle.recordings.specs.declared.heading.Recorded.{Recorded}
use Rattle.recordings.specs.declared.string.RecordedString.{RecordedString}

-- the letter of a direction: D or U
abbrev pub letter : Heading → ℕ
letter Down = 68
letter Up = 85

-- the hex digit of a value below 16, in capitals or in small letters
abbrev pub hex_digit : Bool → ℕ → ℕ
hex_digit capital v = cond (nat_lt v 10) (48 + v) (cond capital (55 + v) (87 + v))

-- c is the hex digit of v in either case
abbrev pub Digit : ℕ → ℕ → Type 0
Digit c v = (c ≡ hex_digit true v) ⊎ (c ≡ hex_digit false v)

-- c and d are the two hex digits of an octet
pub record Spells (c d octet : ℕ) : Type 0 where
  pub small : octet < 256
  pub high : Digit c (octet / 16)
  pub low : Digit d (octet % 16)

-- the line of a string of up to 511 octets: its direction's letter, a comma, two hex digits for each octet
pub record LineOf (h : Heading) (string line : List ℕ) : Type 0 where
  pub short : length string ≤ 511
  pub long : length line ≡ 2 + 2 * length string
  pub direction : slice_index_or line 0 0 ≡ letter h
  pub comma : slice_index_or line 1 0 ≡ 44
  pub digits : (i : ℕ) → i < length string → Spells (slice_index line (2 + 2 * i)) (slice_index line (3 + 2 * i)) (slice_index string i)

-- no string has this line
abbrev pub Unread : List ℕ → Type 0
Unread line = (h : Heading) (string : List ℕ) → LineOf h string line → ⊥

-- the octets of a string that was read
abbrev pub string_of : RecordedString → List ℕ
string_of s = take s.used s.octets

-- what reading a line answers
abbrev pub Reading : List ℕ → Option Recorded → Type 0
Reading line None = Unread line
Reading line (Some r) = LineOf r.heading (string_of r.string) line
