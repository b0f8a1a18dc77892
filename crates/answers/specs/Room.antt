-- What a line of output has room for.
-- Assumes nothing.
use Rattle.std.specs.Prelude.{◌≡◌, ℕ, List, ◌++◌, take}

-- as much of a text as a line of 512 octets holds
abbrev pub cut : List ℕ → List ℕ
cut text = take 512 text

-- the line is what it was with a text behind it, as much as there is room for
abbrev pub Adds : List ℕ → List ℕ → List ℕ → Type 0
Adds before text after = after ≡ cut (before ++ text)
