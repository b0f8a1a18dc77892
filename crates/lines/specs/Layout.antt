-- How a line lays strings down in its memory, for any layout. Assumes nothing.
use Rattle.std.specs.Prelude.{◌≡◌, ℕ, zero, suc, ◌+◌, Bool, true, ◌&&◌, List, [], ◌∷◌, ◌++◌, length, take, drop, nat_le}

-- A layout: the octets that stand before a string, how many they are, how long the first string of a run is, and
-- which strings can be told apart again.
pub record Layout : Type 0 where
  pub head : List ℕ → List ℕ
  pub size : ℕ
  pub first : List ℕ → ℕ
  pub plain : List ℕ → Bool

-- A string that a line of this layout can hold: 1 to 256 octets, to be told apart again.
abbrev pub holds : Layout → List ℕ → Bool
holds l s = (nat_le 1 (length s) && nat_le (length s) 256) && l.plain s

-- A layout whose heads have one size, and by which the first string of a run is found.
pub record Lawful (l : Layout) : Type 0 where
  pub head_long : (s : List ℕ) → length (l.head s) ≡ l.size
  pub found : (s rest : List ℕ) → holds l s ≡ true → l.first (l.head s ++ (s ++ rest)) ≡ length s

-- Each of a list of strings can be held.
abbrev pub holds_all : Layout → List (List ℕ) → Bool
holds_all l [] = true
holds_all l (s ∷ ss) = holds l s && holds_all l ss

-- Strings laid down one behind the other, each behind its head.
abbrev pub packed : Layout → List (List ℕ) → List ℕ
packed l [] = []
packed l (s ∷ ss) = l.head s ++ (s ++ packed l ss)

-- The first n strings of a run.
abbrev pub strings_of : Layout → ℕ → List ℕ → List (List ℕ)
strings_of l zero run = []
strings_of l (suc n) run = take (l.first run) (drop l.size run) ∷ strings_of l n (drop (l.size + l.first run) run)

-- The octets that strings take up, with what stands before each.
abbrev pub occupied : Layout → List (List ℕ) → ℕ
occupied l [] = 0
occupied l (s ∷ ss) = (l.size + length s) + occupied l ss

-- A memory in which strings lie from the start. Only what lies behind them is free.
pub record Lies (l : Layout) (ss : List (List ℕ)) (memory : List ℕ) : Type 0 where
  pub behind : List ℕ
  pub lie : memory ≡ packed l ss ++ behind

-- What a line keeps true of its memory: the octets in use are the strings that wait, each of which can be held.
pub record Kept (l : Layout) (memory : List ℕ) (used count : ℕ) : Type 0 where
  pub laid : take used memory ≡ packed l (strings_of l count memory)
  pub held : holds_all l (strings_of l count memory) ≡ true
