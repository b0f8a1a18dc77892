-- The fields of a block, and the string of octets that they make.
-- Assumes nothing.
use Rattle.std.specs.Prelude.{ℕ, Bool, true, cond, List, [], ◌∷◌, ◌++◌, map, Some, None, Option}
use Rattle.octets.specs.Parity.{character, octet}
use Rattle.octets.specs.Check.{check, low, high}
use Rattle.directions.specs.declared.marks.Identifier.{Identifier}
use Rattle.blocks.specs.declared.block.Block.{Block}
use Rattle.blocks.specs.declared.block.Block.TheVariants.{Response, Message}

-- what a response and a message block both have: the address, the acknowledgment (of an identifier of the other direction, or none), the identifier
pub record Head : Type 0 where
  pub address : List ℕ
  pub acknowledgment : Option ℕ
  pub identifier : ℕ

-- the fields of a block: characters without parity
pub data Fields : Type 0 where
  -- a general response
  response : Head → Fields
  -- a message block: label, whether it is the message's last, text
  message : Head → List ℕ → Bool → List ℕ → Fields

abbrev pub head_of : Fields → Head
head_of (response h) = h
head_of (message h label last text) = h

-- the character of an acknowledgment: NAK for none
abbrev pub acknowledgment_character : Option ℕ → ℕ
acknowledgment_character None = 21
acknowledgment_character (Some c) = c

-- the suffix: ETX on a last block, ETB on an earlier one
abbrev pub suffix : Bool → ℕ
suffix last = cond last 3 23

-- places 1 to 12: Mode 2, address, acknowledgment, label, identifier
abbrev pub headed : Head → List ℕ → List ℕ → List ℕ
headed h label rest = 50 ∷ (h.address ++ (acknowledgment_character h.acknowledgment ∷ (label ++ (h.identifier ∷ rest))))

-- place 13 on: ETX without text; else STX, the text and the suffix
abbrev pub tailed : Bool → List ℕ → List ℕ
tailed last [] = 3 ∷ []
tailed last (c ∷ cs) = 2 ∷ ((c ∷ cs) ++ (suffix last ∷ []))

-- the label of a response: 5F 7F hex
abbrev pub response_label : List ℕ
response_label = 95 ∷ 127 ∷ []

-- label, suffix and text of a block; a response has the label 5F 7F hex and no text
abbrev pub label_of : Fields → List ℕ
label_of (response h) = response_label
label_of (message h label last text) = label

abbrev pub last_of : Fields → Bool
last_of (response h) = true
last_of (message h label last text) = last

abbrev pub text_of : Fields → List ℕ
text_of (response h) = []
text_of (message h label last text) = text

-- the characters from place 1 to length − 4
abbrev pub laid : Fields → List ℕ
laid f = headed (head_of f) (label_of f) (tailed (last_of f) (text_of f))

-- SOH, the characters with parity, their check (low octet first), DEL
abbrev pub enclosed : List ℕ → List ℕ
enclosed body = 1 ∷ (body ++ (low (check body) ∷ high (check body) ∷ 127 ∷ []))

-- the string that the fields make
abbrev pub written : Fields → List ℕ
written f = enclosed (map octet (laid f))

-- an acknowledgment as the code holds it
abbrev pub named : Option Identifier → Option ℕ
named None = None
named (Some i) = Some i.0

-- the fields of a block, its parts as f takes them
abbrev pub fields_by : (List ℕ → List ℕ) → Block → Fields
fields_by f (Response a k i) = response (record { address = f a.now; acknowledgment = named k; identifier = i.0 })
fields_by f (Message a k l i e t) =
    message (record { address = f a.now; acknowledgment = named k; identifier = i.0 }) (f l.now) e (f t.now)

-- the fields of a block that was read: the parity of its parts is taken off
abbrev pub fields_read : Block → Fields
fields_read b = fields_by (map character) b

-- the fields of a block that is to be written: its parts are characters
abbrev pub fields_given : Block → Fields
fields_given b = fields_by (λ xs. xs) b
