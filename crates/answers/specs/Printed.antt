-- Output lines: what an input line turned out to be, and the text that says so.
-- Assumes nothing.
use Rattle.std.specs.Prelude.{ℕ, Bool, true, cond, List, [], ◌∷◌, ◌++◌, length, Some, None, Ok, Err, codes, decimal, Option, Result, ◌==◌, nat_le}
use Rattle.std.specs.List.{flat_map}
use Rattle.blocks.specs.declared.block.Block.{Block}
use Rattle.blocks.specs.declared.block.Block.TheVariants.{Response, Message}
use Rattle.blocks.specs.declared.fault.BlockFault.{BlockFault}
use Rattle.blocks.specs.Fields.{Fields, response, message, fields_read}
use Rattle.blocks.specs.Faults.{number_of, place_of}
use Rattle.recordings.specs.declared.heading.Heading.{Heading}
use Rattle.recordings.specs.Recorded.{letter}

-- what an input line turned out to be
pub data Outcome : Type 0 where
  -- a string that is a block of these fields
  block : Heading → Fields → Outcome
  -- a string refused by a number, at a place
  refused : Heading → ℕ → Option ℕ → Outcome
  -- the line of no string
  unread : Outcome

-- the acknowledged identifier; a hyphen for none
abbrev pub acknowledged : Option ℕ → ℕ
acknowledged None = 45
acknowledged (Some c) = c

-- a place in decimal; nothing for none
abbrev pub placed : Option ℕ → List ℕ
placed None = []
placed (Some p) = decimal p

-- a character of a text: a line feed as \n, a carriage return as \r, a backslash as \\, any other as itself
abbrev pub escaped : ℕ → List ℕ
escaped c = cond (c == 10) (codes "\\n") (cond (c == 13) (codes "\\r") (cond (c == 92) (codes "\\\\") (c ∷ [])))

-- parts with a comma between each two
abbrev pub commas : List (List ℕ) → List ℕ
commas [] = []
commas (x ∷ []) = x
commas (x ∷ (y ∷ rest)) = x ++ (44 ∷ commas (y ∷ rest))

-- the parts that say what a block is
abbrev pub detail : Fields → List (List ℕ)
detail (response h) = codes "response" ∷ h.address ∷ (acknowledged h.acknowledgment ∷ []) ∷ (h.identifier ∷ []) ∷ []
detail (message h label last text) =
    codes "message" ∷ h.address ∷ (acknowledged h.acknowledgment ∷ []) ∷ label ∷ (h.identifier ∷ [])
    ∷ cond last (codes "last") (codes "more") ∷ flat_map escaped text ∷ []

-- the parts of a line behind its count
abbrev pub parts : Outcome → List (List ℕ)
parts (block h f) = (letter h ∷ []) ∷ codes "0" ∷ detail f
parts (refused h n p) = (letter h ∷ []) ∷ decimal n ∷ placed p ∷ []
parts unread = codes "-" ∷ codes "0" ∷ codes "unread" ∷ []

-- the line of an outcome, with the line feed that ends it
abbrev pub printed : ℕ → Outcome → List ℕ
printed count o = commas (decimal count ∷ parts o) ++ (10 ∷ [])

-- the outcome that the answer of reading is
abbrev pub outcome_of : Heading → Result Block BlockFault → Outcome
outcome_of h (Ok b) = block h (fields_read b)
outcome_of h (Err f) = refused h (number_of f) (place_of f)

-- an answer fits a line if its text has at most 220 characters
abbrev pub fits_block : Block → Bool
fits_block (Response a k i) = true
fits_block (Message a k l i e t) = nat_le (length t.now) 220

abbrev pub fits_line : Result Block BlockFault → Bool
fits_line (Ok b) = fits_block b
fits_line (Err f) = true
