-- The number and the place of each refusal of an end.
-- Assumes nothing.
use Rattle.std.specs.Prelude.{ℕ, Some, None, Option}
use Rattle.paths.specs.Faults as air
use Rattle.blocks.specs.Faults as block
use Rattle.calls.specs.Setting.{setting_number}
use Rattle.calls.specs.declared.fault.LinkFault.{LinkFault}
use Rattle.calls.specs.declared.fault.LinkFault.TheVariants.{Air, Block, Buffer, Nothing, Address, Stray, Seventeenth, Crowded, Setting, Time, Text, Full, Unknown, Spent}

-- the number of a refusal; a block's or a path's keeps its own
abbrev pub number_of : LinkFault → ℕ
number_of (Air f) = air.number f
number_of (Block f) = block.number_of f
number_of Buffer = 1
number_of Nothing = 2
number_of Address = 9
number_of Stray = 10
number_of Seventeenth = 11
number_of Crowded = 12
number_of (Setting k) = 13
number_of Time = 14
number_of (Text p) = 15
number_of Full = 16
number_of Unknown = 17
number_of Spent = 18

-- its place: of a block's refusal in the string, of a setting its number, of label and text in the two as one string
abbrev pub place_of : LinkFault → Option ℕ
place_of (Air f) = None
place_of (Block f) = block.place_of f
place_of Buffer = None
place_of Nothing = None
place_of Address = None
place_of Stray = None
place_of Seventeenth = None
place_of Crowded = None
place_of (Setting k) = Some (setting_number k)
place_of Time = None
place_of (Text p) = Some p
place_of Full = None
place_of Unknown = None
place_of Spent = None
