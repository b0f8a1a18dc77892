-- An octet carries a seven-bit character; its eighth bit makes the ones odd in number.
-- Assumes nothing.
use Rattle.std.specs.Prelude.{ℕ, ◌+◌, ◌%◌, Bool, cond, ◌==◌, count_ones}

-- the seven-bit character of an octet
abbrev pub character : ℕ → ℕ
character o = o % 128

-- the ones of an octet are odd in number
abbrev pub odd : ℕ → Bool
odd o = count_ones o % 2 == 1

-- the octet of a character below 128: the eighth bit is set where the character's ones are even in number
abbrev pub octet : ℕ → ℕ
octet c = cond (odd c) c (c + 128)
