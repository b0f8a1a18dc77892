-- What is laid of a block, part by part, and how its fields are tested first.
-- Assumes nothing.
use Rattle.std.specs.Prelude.{◌≡◌, ℕ, ◌%◌, ◌≤◌, true, false, ◌⊎◌, List, map, length, Some, None, Ok, Err, Option, Result}
use Rattle.octets.specs.Parity.{octet}
use Rattle.blocks.specs.declared.fault.BlockFault.{BlockFault}
use Rattle.blocks.specs.Fields.{Fields, head_of, label_of, enclosed}
use Rattle.blocks.specs.Faults.{number_of, place_of}
use Rattle.blocks.specs.Legal.{Way, label_allows, Sound, TextKept}
use Rattle.writing.specs.Writing.{HeadGood, HeadBad, TextBad, Refusal}

-- the octet that a character is laid as
abbrev pub laid_octet : ℕ → ℕ
laid_octet c = octet (c % 128)

-- the characters with SOH before them, their check and DEL behind
abbrev pub enclosed_by : List ℕ → List ℕ
enclosed_by cs = enclosed (map laid_octet cs)

-- the address has seven characters and the label two
pub record Lengths (f : Fields) : Type 0 where
  pub address : length (head_of f).address ≡ 7
  pub label : length (label_of f) ≡ 2

-- what the tests of label, head and text answer
abbrev pub LabelTested : Fields → Option ℕ → Type 0
LabelTested f None = (label_allows f 0 ≡ true) × (label_allows f 1 ≡ true)
LabelTested f (Some i) = ((i ≡ 0) × (label_allows f 0 ≡ false)) ⊎ ((i ≡ 1) × (label_allows f 0 ≡ true) × (label_allows f 1 ≡ false))

abbrev pub HeadTested : Way → Fields → Option ℕ → Type 0
HeadTested w f None = HeadGood w f 13
HeadTested w f (Some p) = HeadBad w f p

abbrev pub TextTested : Way → Fields → Option ℕ → Type 0
TextTested w f None = TextKept w f
TextTested w f (Some p) = TextBad w f p

-- the fields are sound, or refused in any buffer long enough
abbrev pub FieldsTested : Way → Fields → Result (Unit {0}) BlockFault → Type 0
FieldsTested w f (Ok _) = Sound w f
FieldsTested w f (Err x) = (buffer : List ℕ) → 238 ≤ length buffer → Refusal w f buffer (number_of x) (place_of x)
