-- Reading accepts exactly the strings that writing makes, with the same fields.
-- Assumes nothing.
use Rattle.std.specs.Prelude.{◌≡◌, ℕ, List, Ok, Err, Result}
use Rattle.directions.specs.Rings.{Cyclic}
use Rattle.directions.specs.TextRules.{OpeningLaws}
use Rattle.blocks.specs.declared.block.Block.{Block}
use Rattle.blocks.specs.declared.fault.BlockFault.{BlockFault}
use Rattle.blocks.specs.Fields.{Fields, fields_read, written}
use Rattle.blocks.specs.Faults.{number_of, place_of}
use Rattle.blocks.specs.Legal.{Way, Sound}
use Rattle.blocks.specs.Reading.{Reads}

-- an answer of reading is the block with these fields
abbrev pub IsBlock : Fields → Result Block BlockFault → Type 0
IsBlock f (Ok b) = fields_read b ≡ f
IsBlock f (Err x) = ⊥

-- over any rings and text rule that keep their laws
pub record RoundTrip (w : Way) : Type 0 where
  -- what is written from sound fields is read, as those fields
  pub read_back : (f : Fields) → Sound w f → (r : Result Block BlockFault) → Reads w (written f) r → IsBlock f r
  -- what is read is what writing makes of its fields
  pub written_back : (s : List ℕ) (b : Block) → Reads w s (Ok b) → Sound w (fields_read b) × (written (fields_read b) ≡ s)
  -- two sound sets of fields that write the same string are equal
  pub one_fields : (f f' : Fields) → Sound w f → Sound w f' → written f ≡ written f' → f ≡ f'
  -- no string is both read and refused, or refused in two ways
  pub never_both : (s : List ℕ) (b : Block) (x : BlockFault) → Reads w s (Ok b) → Reads w s (Err x) → ⊥
  pub one_refusal : (s : List ℕ) (x x' : BlockFault) → Reads w s (Err x) → Reads w s (Err x') → (number_of x ≡ number_of x') × (place_of x ≡ place_of x')

abbrev pub EveryRoundTrip : Type 0
EveryRoundTrip = (w : Way) → Cyclic w.own → Cyclic w.other → OpeningLaws w.text → RoundTrip w
