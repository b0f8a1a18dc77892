-- What a line does, precisely, for any layout. Assumes nothing.
use Rattle.std.specs.Prelude.{◌≡◌, ℕ, ◌+◌, Bool, cond, ◌&&◌, List, [], ◌∷◌, ◌++◌, length, Some, None, Option, nat_le}
use Rattle.lines.specs.Layout.{Layout, occupied, strings_of}

-- What a line's calls depend on: the length of its memory, and the strings that wait, oldest first.
pub record LineSight : Type 0 where
  pub room : ℕ
  pub waiting : List (List ℕ)

-- A line's memory and count of strings, as its calls depend on them.
abbrev pub line_of : Layout → List ℕ → ℕ → LineSight
line_of l memory count = record { room = length memory; waiting = strings_of l count memory }

-- Whether a line keeps a string: it can be told apart again, and the octets that wait, its own and what stands before
-- each do not exceed the memory.
abbrev pub keeps : Layout → LineSight → List ℕ → Bool
keeps l v s = l.plain s && nat_le (occupied l v.waiting + (l.size + length s)) v.room

-- A put on a line: the string joins the end if the line keeps it, and is lost otherwise. The memory keeps its length.
pub record LinePuts (l : Layout) (v : LineSight) (s : List ℕ) (w : LineSight) : Type 0 where
  pub room : w.room ≡ v.room
  pub waiting : w.waiting ≡ cond (keeps l v s) (v.waiting ++ s ∷ []) v.waiting

-- A take on a line that hands out a string: the oldest. The memory keeps its length.
pub record LineHands (v : LineSight) (s : List ℕ) (w : LineSight) : Type 0 where
  pub room : w.room ≡ v.room
  pub waiting : v.waiting ≡ s ∷ w.waiting

-- A take on a line that hands out none: nothing waits, and nothing is changed.
pub record LineEmpty (v w : LineSight) : Type 0 where
  pub nothing : v.waiting ≡ []
  pub same : w ≡ v

-- A take on a line, by the string that it hands out.
abbrev pub LineTakes : LineSight → Option (List ℕ) → LineSight → Type 0
LineTakes v (Some s) w = LineHands v s w
LineTakes v None w = LineEmpty v w
