-- The 16-bit check of a string of octets. It starts at 0. Each octet is XORed into its low eight bits; then eight times the value is
-- shifted right once and, if a one fell out, XORed with 8408 hex.
-- Assumes nothing.
use Rattle.std.specs.Prelude.{ℕ, zero, suc, ◌/◌, ◌%◌, cond, List, ◌==◌, bit_xor, fold}

-- one step: the value shifted right once and, if a one fell out, XORed with 8408 hex
unfoldable pub shifted : ℕ → ℕ
shifted v = cond (v % 2 == 1) (bit_xor (v / 2) 33800) (v / 2)

-- n steps
unfoldable pub steps : ℕ → ℕ → ℕ
steps zero v = v
steps (suc n) v = steps n (shifted v)

-- the value after one more octet
unfoldable pub advance : ℕ → ℕ → ℕ
advance v o = steps 8 (bit_xor v o)

-- the value after a string of octets, from the value v
unfoldable pub check_from : ℕ → List ℕ → ℕ
check_from v os = fold advance v os

-- the check of a string of octets
unfoldable pub check : List ℕ → ℕ
check os = check_from 0 os

-- the octet of the check that is sent first
abbrev pub low : ℕ → ℕ
low w = w % 256

-- the octet of the check that is sent second
abbrev pub high : ℕ → ℕ
high w = w / 256
