-- The number and the place of each refusal of a block.
-- Assumes nothing.
use Rattle.std.specs.Prelude.{ℕ, Some, None, Option}
use Rattle.blocks.specs.declared.fault.BlockFault.{BlockFault}
use Rattle.blocks.specs.declared.fault.BlockFault.TheVariants.{Buffer, Length, Parity, Delimiter, Check, Head, Rest}

-- the number of a refusal
abbrev pub number_of : BlockFault → ℕ
number_of Buffer = 1
number_of (Length _) = 3
number_of (Parity _) = 4
number_of (Delimiter _) = 5
number_of (Check _) = 6
number_of (Head _) = 7
number_of (Rest _) = 8

-- its place in the string; a short buffer has none
abbrev pub place_of : BlockFault → Option ℕ
place_of Buffer = None
place_of (Length p) = Some p
place_of (Parity p) = Some p
place_of (Delimiter p) = Some p
place_of (Check p) = Some p
place_of (Head p) = Some p
place_of (Rest p) = Some p
