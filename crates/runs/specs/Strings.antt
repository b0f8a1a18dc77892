-- Facts of strings and texts on which the law rests: spoiled strings say nothing; the blocks of a text make it up again.
-- Assumes nothing.
use Rattle.std.specs.Prelude.{◌≡◌, ℕ, zero, suc, ◌*◌, ◌≤◌, ◌⊎◌, List, [], ◌∷◌, ◌++◌, length, Ok, Err, Result}
use Rattle.blocks.specs.declared.block.Block.{Block}
use Rattle.blocks.specs.declared.fault.BlockFault.{BlockFault}
use Rattle.blocks.specs.Faults.{number_of}
use Rattle.blocks.specs.Legal.{Way}
use Rattle.blocks.specs.Reading.{Reads}
use Rattle.paths.specs.Meaning.{Spoiled}
use Rattle.calls.specs.declared.fault.LinkFault.{LinkFault}
use Rattle.calls.specs.declared.types.Heard.{Heard}
use Rattle.ends.specs.Model.{Ways, Model}
use Rattle.ends.specs.Sending.{block_count, block_text}
use Rattle.ends.specs.Calls.{StringHeard}
use Rattle.law.specs.Links.{Side}
use Rattle.runs.specs.History.{room}

-- an answer of reading is a refusal by 3, 4 or 5
abbrev pub Unreadable : Result Block BlockFault → Type 0
Unreadable (Ok b) = ⊥
Unreadable (Err f) = (number_of f ≡ 3) ⊎ ((number_of f ≡ 4) ⊎ (number_of f ≡ 5))

-- a spoiled string is refused by 3, 4 or 5, and changes no end that hears it
pub record SpoiledSaysNothing : Type 0 where
  pub refused : (w : Way) (s : List ℕ) → Spoiled s → (r : Result Block BlockFault) → Reads w s r → Unreadable r
  pub unchanged : (w : Ways) (m m' : Model) (s : List ℕ) (r : Result Heard LinkFault) → Spoiled s → StringHeard w m s r m' → m' ≡ m

-- f k, f (k + 1) .. in a list of so many
abbrev pub pieces : (ℕ → List ℕ) → ℕ → ℕ → List (List ℕ)
pieces f k zero = []
pieces f k (suc n) = f k ∷ pieces f (suc k) n

-- the texts of a message's blocks
abbrev pub cuts : ℕ → List ℕ → List (List ℕ)
cuts r text = pieces (block_text r text) 0 (block_count r (length text))

-- texts one after the other
abbrev pub joined_up : List (List ℕ) → List ℕ
joined_up [] = []
joined_up (t ∷ ts) = t ++ joined_up ts

-- the blocks of a text make it up again; a text that a submit takes has 1 to 16 of them
pub record CutsComeBack : Type 0 where
  pub whole : (x : Side) (text : List ℕ) → joined_up (cuts (room x) text) ≡ text
  pub some : (x : Side) (text : List ℕ) → 1 ≤ length (cuts (room x) text)
  pub most : (x : Side) (text : List ℕ) → length text ≤ 16 * room x → length (cuts (room x) text) ≤ 16
