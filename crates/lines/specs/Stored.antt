-- What a store of strings looks like, and what is done to it. Assumes nothing.
use Rattle.std.specs.Prelude.{◌≡◌, ℕ, ◌+◌, ◌-◌, Bool, cond, List, ◌++◌, length, take, drop, vec_items, nat_le}
use Rattle.lines.specs.declared.store.Store.{Store}
use Rattle.lines.specs.Layout.{Layout, Kept, strings_of}
use Rattle.lines.specs.Line.{LineSight, line_of}

-- The memory of a store.
abbrev pub memory_of : Store → List ℕ
memory_of a = vec_items a.octets

-- The strings of a store, in a layout.
abbrev pub waiting_in : Layout → Store → List (List ℕ)
waiting_in l a = strings_of l a.count (memory_of a)

-- The first of them.
abbrev pub oldest_in : Layout → Store → List ℕ
oldest_in l a = take (l.first (memory_of a)) (drop l.size (memory_of a))

-- What a line of a layout sees in its store.
abbrev pub seen_in : Layout → Store → LineSight
seen_in l a = line_of l (memory_of a) a.count

-- What a line of a layout keeps true of its store.
abbrev pub KeptIn : Layout → Store → Type 0
KeptIn l a = Kept l (memory_of a) a.used a.count

-- Whether so many octets fit behind those in use.
abbrev pub fit : Store → ℕ → Bool
fit a n = nat_le (a.used + n) (length (memory_of a))

-- A memory in which a head and a string were laid down at a place.
abbrev pub laid_at : ℕ → List ℕ → List ℕ → List ℕ → List ℕ
laid_at place head s memory = take place memory ++ (head ++ (s ++ drop (place + (length head + length s)) memory))

-- A string that was offered to a store behind a head: it is laid down behind the octets in use, if both fit.
pub record Offered (head s : List ℕ) (a b : Store) : Type 0 where
  pub octets : memory_of b ≡ cond (fit a (length head + length s)) (laid_at a.used head s (memory_of a)) (memory_of a)
  pub used : b.used ≡ cond (fit a (length head + length s)) (a.used + (length head + length s)) a.used
  pub count : b.count ≡ cond (fit a (length head + length s)) (a.count + 1) a.count

-- A memory whose octets in use were moved down by some places; those passed over lie behind them.
abbrev pub moved_down : ℕ → ℕ → List ℕ → List ℕ
moved_down used places memory = drop places (take used memory) ++ (take places (take used memory) ++ drop used memory)

-- A store from which the first string was cut off, with so many octets.
pub record CutOff (n : ℕ) (a b : Store) : Type 0 where
  pub octets : memory_of b ≡ moved_down a.used n (memory_of a)
  pub used : b.used ≡ a.used - n
  pub count : b.count ≡ a.count - 1
