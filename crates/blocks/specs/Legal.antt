-- Which fields are sound, and which strings are legal blocks.
-- Assumes nothing.
use Rattle.std.specs.Prelude.{◌≡◌, ℕ, ◌+◌, ◌-◌, ◌<◌, ◌≤◌, Bool, true, cond, ◌&&◌, ◌||◌, List, ◌∷◌, length, Some, None, Option, ◌==◌, nat_le, nat_lt, slice_index}
use Rattle.directions.specs.Rings.{RingRule, member}
use Rattle.directions.specs.TextRules.{TextRule, within, is_letter_or_digit}
use Rattle.blocks.specs.Fields.{Fields, response, message, head_of, written}

-- a direction as a block sees it: its own ring, the other direction's, and its text rule
pub record Way : Type 0 where
  pub own : RingRule
  pub other : RingRule
  pub text : TextRule

-- the way of a direction, by the members of its trait and the other direction's ring
abbrev pub way : record { ring : RingRule; text : TextRule } → RingRule → Way
way d other = record { own = d.ring; other = other; text = d.text }

-- what stands at a place; 0 past the end
abbrev pub at : List ℕ → ℕ → ℕ
at xs p = slice_index xs p

-- an address character: A–Z, 0–9 or a hyphen
abbrev pub is_address : ℕ → Bool
is_address c = is_letter_or_digit c || c == 45

-- whether c may stand at an index of the address after the character before: a period only as fill, first or after a period, and never last
abbrev pub address_allows : ℕ → ℕ → ℕ → Bool
address_allows i before c = is_address c || (c == 46 && ((i == 0 || before == 46) && nat_lt i 6))

-- an acknowledgment names an identifier of the other ring, or none
abbrev pub acknowledges : RingRule → Option ℕ → Bool
acknowledges r None = true
acknowledges r (Some c) = member r c

-- a label character of a message: 21–7E hex
abbrev pub is_label : ℕ → Bool
is_label c = within 33 126 c

-- a text character: 20–7E, 0A or 0D hex
abbrev pub is_text : ℕ → Bool
is_text c = within 32 126 c || (c == 10 || c == 13)

-- whether c may stand at an index of the text, after the character before: in the opening by its own rule
abbrev pub text_allows : TextRule → ℕ → ℕ → ℕ → Bool
text_allows t i before c = cond (nat_lt i t.opening) (t.allows i before c) (is_text c)

-- how long the text of a block may be: an empty one stands only on a last block
abbrev pub text_length : TextRule → Bool → ℕ → Bool
text_length t last n = nat_le t.opening n && (nat_le n (t.opening + t.room) && (nat_lt 0 n || last))

-- whether the field that takes place p of the head, from 1 to 12, is as its rule asks
abbrev pub label_allows : Fields → ℕ → Bool
label_allows (response h) i = true
label_allows (message h label last text) i = is_label (at label i)

abbrev pub head_allows : Way → Fields → ℕ → Bool
head_allows w f p =
    cond (nat_lt p 2) true
    (cond (nat_lt p 9) (address_allows (p - 2) (at (50 ∷ (head_of f).address) (p - 2)) (at (head_of f).address (p - 2)))
    (cond (p == 9) (acknowledges w.other (head_of f).acknowledgment)
    (cond (p == 12) (member w.own (head_of f).identifier) (label_allows f (p - 10)))))

-- the parts of a message block have the lengths that its layout gives them
abbrev pub Sized : Fields → Type 0
Sized (response h) = length h.address ≡ 7
Sized (message h label last text) = (length h.address ≡ 7) × (length label ≡ 2)

-- the text, if the block has one, is as its rule asks: its length, and each character
abbrev pub TextKept : Way → Fields → Type 0
TextKept w (response h) = Unit {0}
TextKept w (message h label last text) =
    (text_length w.text last (length text) ≡ true) ×
    ((i : ℕ) → i < length text → text_allows w.text i (at (2 ∷ text) i) (at text i) ≡ true)

-- sound fields: each is as its rule asks
pub record Sound (w : Way) (f : Fields) : Type 0 where
  pub sized : Sized f
  pub head : (p : ℕ) → 1 ≤ p → p ≤ 12 → head_allows w f p ≡ true
  pub text : TextKept w f

-- a legal block: a string written from sound fields
pub record Legal (w : Way) (s : List ℕ) : Type 0 where
  pub fields : Fields
  pub sound : Sound w fields
  pub made : s ≡ written fields
