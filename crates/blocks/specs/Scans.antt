-- The first character of a field that may not stand where it does.
-- Assumes nothing.
use Rattle.std.specs.Prelude.{◌≡◌, ℕ, ◌<◌, Bool, true, false, List, ◌∷◌, length, Option, IfSome}
use Rattle.std.specs.Option.{unwrap_or}
use Rattle.octets.specs.Parity.{character}
use Rattle.blocks.specs.Legal.{at}

-- first is the first index, if there is one, at which the rule answers no; it is asked of the character there and the one before it, which for the first character is given
pub record FirstFault (Rule : ℕ → ℕ → ℕ → Bool → Type 0) (before : ℕ) (xs : List ℕ) (first : Option ℕ) : Type 0 where
  pub kept : (i : ℕ) → i < unwrap_or first (length xs) → Rule i (at (before ∷ xs) i) (at xs i) true
  pub broken : IfSome first (λ i. (i < length xs) × Rule i (at (before ∷ xs) i) (at xs i) false)

-- a rule of characters, asked of their octets
abbrev pub OfOctets : (ℕ → ℕ → ℕ → Bool) → ℕ → ℕ → ℕ → Bool → Type 0
OfOctets allows i before c allowed = allowed ≡ allows i (character before) (character c)
