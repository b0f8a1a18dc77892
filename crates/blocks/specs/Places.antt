-- The rules of a block place by place, as reading asks them of a string.
-- Assumes nothing.
use Rattle.std.specs.Prelude.{◌≡◌, ℕ, ◌+◌, ◌-◌, ◌<◌, ◌≤◌, Bool, true, false, cond, ◌&&◌, ◌||◌, ◌⊎◌, List, length, take, drop, Some, None, Ok, Err, Option, Result, ◌==◌, nat_le, nat_lt}
use Rattle.std.specs.Borrow.{Bor}
use Rattle.octets.specs.Parity.{character, odd}
use Rattle.directions.specs.Rings.{member}
use Rattle.blocks.specs.declared.fault.BlockFault.{BlockFault}
use Rattle.blocks.specs.declared.fault.BlockFault.TheVariants.{Head, Rest}
use Rattle.blocks.specs.declared.parsed.HeadRead.{HeadRead}
use Rattle.blocks.specs.declared.parsed.RestRead.{RestRead}
use Rattle.blocks.specs.Fields.{named}
use Rattle.blocks.specs.Legal.{Way, at, address_allows, is_label, text_allows}
use Rattle.blocks.specs.Reading.{Outside, Framed}

-- the character at a place of a string
abbrev pub ch : List ℕ → ℕ → ℕ
ch s p = character (at s p)

-- the label of a response
abbrev pub is_response : ℕ → ℕ → Bool
is_response a b = a == 95 && b == 127

-- whether c may stand at place p of the head, after the character before
abbrev pub head_rule : Way → ℕ → ℕ → ℕ → Bool
head_rule w p before c =
    cond (p == 1) (c == 50)
    (cond (nat_lt p 9) (address_allows (p - 2) before c)
    (cond (p == 9) (c == 21 || member w.other c)
    (cond (p == 10) (is_label c)
    (cond (p == 11) (is_label c || (c == 127 && before == 95)) (member w.own c)))))

-- whether a response, or a message block, may have n octets
abbrev pub possible : Way → Bool → ℕ → Bool
possible w response n =
    cond response (n == 17) (cond (n == 17) (w.text.opening == 0) (nat_lt 18 n && nat_le (18 + w.text.opening) n))

-- whether c may stand at place p of the rest of a block of n octets, after the character before
abbrev pub rest_rule : Way → ℕ → ℕ → ℕ → ℕ → Bool
rest_rule w n p before c =
    cond (n == 17) (c == 3)
    (cond (p == 13) (c == 2)
    (cond (nat_lt p (n - 4)) (text_allows w.text (p - 14) before c) (c == 3 || c == 23)))

-- the rule of any place from 1 to n − 4
abbrev pub place_rule : Way → ℕ → ℕ → ℕ → ℕ → Bool
place_rule w n p before c = cond (nat_lt p 13) (head_rule w p before c) (rest_rule w n p before c)

-- the characters g keep their rules at the places from a up to b, which is left out
abbrev pub Kept : Way → ℕ → (ℕ → ℕ) → ℕ → ℕ → Type 0
Kept w n g a b = (p : ℕ) → a ≤ p → p < b → place_rule w n p (g (p - 1)) (g p) ≡ true

-- the acknowledgment that a character is
abbrev pub acknowledgment_of : ℕ → Option ℕ
acknowledgment_of c = cond (c == 21) None (Some c)

-- every element outside the check is an octet of odd parity
abbrev pub Octets : List ℕ → Type 0
Octets s = (p : ℕ) → Outside s p → (odd (at s p) ≡ true) × (at s p < 256)

-- the string is framed as a block, of octets
pub record FrameKept (s : List ℕ) : Type 0 where
  pub framed : Framed s
  pub octets : Octets s

-- the first place from a on that breaks its rule
pub record BrokenAt (w : Way) (n : ℕ) (s : List ℕ) (a p : ℕ) : Type 0 where
  pub from : a ≤ p
  pub kept : Kept w n (ch s) a p
  pub broken : place_rule w n p (ch s (p - 1)) (ch s p) ≡ false

-- a refusal of the head at the first place from a up to b, which is left out, that breaks its rule
abbrev pub HeadBroken : Way → List ℕ → ℕ → ℕ → BlockFault → Type 0
HeadBroken w s a b f = (p : ℕ) × (f ≡ Head p) × (p < b) × BrokenAt w 17 s a p

-- what reading the head from place a up to b, which is left out, answers: a value that Is the one there, or the first place that breaks its rule
abbrev pub PartRead : {A : Type 0} → Way → List ℕ → ℕ → ℕ → (A → Type 0) → Result A BlockFault → Type 0
PartRead w s a b Is (Ok x) = Kept w 17 (ch s) a b × Is x
PartRead w s a b Is (Err f) = HeadBroken w s a b f

-- the label of a message; none where the string has a response's
abbrev pub LabelIs : List ℕ → Option (Bor (List ℕ)) → Type 0
LabelIs s None = is_response (ch s 10) (ch s 11) ≡ true
LabelIs s (Some l) = (is_response (ch s 10) (ch s 11) ≡ false) × (l.now ≡ take 2 (drop 10 s))

-- the parts of the head
pub record HeadIs (s : List ℕ) (h : HeadRead) : Type 0 where
  pub address : h.address.now ≡ take 7 (drop 2 s)
  pub acknowledgment : named h.acknowledgment ≡ acknowledgment_of (ch s 9)
  pub label : LabelIs s h.label
  pub identifier : h.identifier.0 ≡ ch s 12

-- the parts of the rest
pub record RestIs (s : List ℕ) (r : RestRead) : Type 0 where
  pub last : r.last ≡ (ch s (length s - 4) == 3)
  pub text : r.text.now ≡ take (length s - 4 - 14) (drop 14 s)

-- the first place of the rest that breaks its rule, which is 13 where no block has that length
abbrev pub RestBroken : Way → Bool → List ℕ → ℕ → Type 0
RestBroken w response s p =
    ((possible w response (length s) ≡ true) × (p < length s - 3) × BrokenAt w (length s) s 13 p) ⊎
    ((possible w response (length s) ≡ false) × (p ≡ 13))

-- what reading the rest answers: its parts, or the first place that breaks its rule
abbrev pub RestTested : Way → Bool → List ℕ → Result RestRead BlockFault → Type 0
RestTested w response s (Ok r) = (possible w response (length s) ≡ true) × Kept w (length s) (ch s) 13 (length s - 3) × RestIs s r
RestTested w response s (Err f) = (p : ℕ) × (f ≡ Rest p) × RestBroken w response s p
