-- What writing a block into a buffer answers and leaves.
-- Assumes nothing.
use Rattle.std.specs.Prelude.{◌≡◌, ℕ, ◌+◌, ◌<◌, ◌≤◌, true, false, ◌⊎◌, List, ◌∷◌, ◌++◌, length, drop, Some, None, Ok, Err, Option, Result, ◌==◌}
use Rattle.blocks.specs.declared.fault.BlockFault.{BlockFault}
use Rattle.blocks.specs.Fields.{Fields, response, message, written}
use Rattle.blocks.specs.Faults.{number_of, place_of}
use Rattle.blocks.specs.Legal.{Way, at, head_allows, text_allows, text_length, Sound}
use Rattle.blocks.specs.Reading.{pick}

-- the fields of the head are as their rules ask, at the places before p
abbrev pub HeadGood : Way → Fields → ℕ → Type 0
HeadGood w f p = (q : ℕ) → 1 ≤ q → q < p → head_allows w f q ≡ true

-- p is the first place of the head whose field is not as its rule asks
pub record HeadBad (w : Way) (f : Fields) (p : ℕ) : Type 0 where
  pub from : 1 ≤ p
  pub until : p ≤ 12
  pub before : HeadGood w f p
  pub bad : head_allows w f p ≡ false

-- the characters of the text are as their rules ask, at the indices before i
abbrev pub TextGood : Way → List ℕ → ℕ → Type 0
TextGood w text i = (j : ℕ) → j < i → text_allows w.text j (at (2 ∷ text) j) (at text j) ≡ true

-- p is the first place of the rest that a message's text would take and may not: 13 for its length, else that of its first bad character
abbrev pub TextBad : Way → Fields → ℕ → Type 0
TextBad w (response h) p = ⊥
TextBad w (message h label last text) p =
    ((text_length w.text last (length text) ≡ false) × (p ≡ 13)) ⊎
    ((text_length w.text last (length text) ≡ true) ×
    ((i : ℕ) × (p ≡ 14 + i) × (i < length text) × TextGood w text i × (text_allows w.text i (at (2 ∷ text) i) (at text i) ≡ false)))

-- the meaning of each refusal of writing by its number, given the buffer; no other number is one
abbrev pub Refusal : Way → Fields → List ℕ → ℕ → Option ℕ → Type 0
Refusal w f buffer n None = pick (n == 1) (length buffer < 238) ⊥
Refusal w f buffer n (Some p) =
    pick (n == 7) ((238 ≤ length buffer) × HeadBad w f p)
    (pick (n == 8) ((238 ≤ length buffer) × HeadGood w f 13 × TextBad w f p) ⊥)

-- the fields are sound, the block stands at the start of the buffer, and behind it what stood there
pub record Written (w : Way) (f : Fields) (before after : List ℕ) (n : ℕ) : Type 0 where
  pub room : 238 ≤ length before
  pub sound : Sound w f
  pub long : n ≡ length (written f)
  pub holds : after ≡ written f ++ drop n before

-- what writing fields answers and leaves in the buffer: a refusal leaves it as it was
abbrev pub Writes : Way → Fields → List ℕ → Result ℕ BlockFault → List ℕ → Type 0
Writes w f before (Ok n) after = Written w f before after n
Writes w f before (Err x) after = (after ≡ before) × Refusal w f before (number_of x) (place_of x)
