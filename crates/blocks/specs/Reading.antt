-- What reading a string answers: the block that it is, or the first rule that it breaks, with the place.
-- Assumes nothing.
use Rattle.std.specs.Prelude.{◌≡◌, ℕ, suc, ◌+◌, ◌-◌, ◌<◌, ◌≤◌, Bool, true, false, ◌⊎◌, List, length, take, drop, Some, None, Ok, Err, Option, Result, ◌==◌, ◌≢◌}
use Rattle.octets.specs.Parity.{odd}
use Rattle.octets.specs.Check.{check, low, high}
use Rattle.blocks.specs.declared.block.Block.{Block}
use Rattle.blocks.specs.declared.block.Block.TheVariants.{Response, Message}
use Rattle.blocks.specs.declared.fault.BlockFault.{BlockFault}
use Rattle.blocks.specs.Fields.{fields_read, written}
use Rattle.blocks.specs.Faults.{number_of, place_of}
use Rattle.blocks.specs.Legal.{Way, at, Sound, Legal}

-- a block's length
pub record LongEnough (s : List ℕ) : Type 0 where
  pub least : 17 ≤ length s
  pub most : length s ≤ 238

-- p lies outside the two octets of the check
abbrev pub Outside : List ℕ → ℕ → Type 0
Outside s p = (p + 3 < length s) ⊎ (p + 1 ≡ length s)

-- every octet outside the check has odd parity
abbrev pub OddOutside : List ℕ → Type 0
OddOutside s = (p : ℕ) → Outside s p → odd (at s p) ≡ true

-- SOH first and DEL last
pub record Delimited (s : List ℕ) : Type 0 where
  pub first : at s 0 ≡ 1
  pub last : at s (length s - 1) ≡ 127

-- places 1 to length − 4, which the check covers
abbrev pub covered : List ℕ → List ℕ
covered s = take (length s - 3 - 1) (drop 1 s)

-- the check octets are those of what they cover, low octet first
pub record Checked (s : List ℕ) : Type 0 where
  pub lower : at s (length s - 3) ≡ low (check (covered s))
  pub upper : at s (length s - 2) ≡ high (check (covered s))

-- the first place, from low on, at which no string of the kind agrees so far: up to there some does
pub record FirstUnlike (Kind : List ℕ → Type 0) (s : List ℕ) (lowest k : ℕ) : Type 0 where
  pub from : lowest ≤ k
  pub none : (t : List ℕ) → Kind t → take (suc k) t ≢ take (suc k) s
  pub some : (j : ℕ) → lowest ≤ j → j < k → (t : List ℕ) × Kind t × (take (suc j) t ≡ take (suc j) s)

-- a legal block of the same head and length as s
pub record Like (w : Way) (s t : List ℕ) : Type 0 where
  pub legal : Legal w t
  pub long : length t ≡ length s
  pub head : take 13 t ≡ take 13 s

-- the rules that a string of each refusal has kept, and the one that it breaks at k
pub record LengthRefused (s : List ℕ) (k : ℕ) : Type 0 where
  pub place : k ≡ length s
  pub outside : (k < 17) ⊎ (238 < k)

pub record ParityRefused (s : List ℕ) (k : ℕ) : Type 0 where
  pub long : LongEnough s
  pub outside : Outside s k
  pub even : odd (at s k) ≡ false
  pub before : (p : ℕ) → p < k → Outside s p → odd (at s p) ≡ true

pub record DelimiterRefused (s : List ℕ) (k : ℕ) : Type 0 where
  pub long : LongEnough s
  pub parity : OddOutside s
  pub broken :
      ((k ≡ 0) × (at s 0 ≢ 1)) ⊎
      ((k ≡ length s - 1) × (at s 0 ≡ 1) × (at s (length s - 1) ≢ 127))

pub record CheckRefused (s : List ℕ) (k : ℕ) : Type 0 where
  pub long : LongEnough s
  pub parity : OddOutside s
  pub delimited : Delimited s
  pub place : k ≡ length s - 3
  pub differs : Checked s → ⊥

-- the string is framed as a block: refusals 3 to 6 do not arise
pub record Framed (s : List ℕ) : Type 0 where
  pub long : LongEnough s
  pub parity : OddOutside s
  pub delimited : Delimited s
  pub checked : Checked s

pub record HeadRefused (w : Way) (s : List ℕ) (k : ℕ) : Type 0 where
  pub framed : Framed s
  pub within : k ≤ 12
  pub first : FirstUnlike (Legal w) s 1 k

pub record RestRefused (w : Way) (s : List ℕ) (k : ℕ) : Type 0 where
  pub framed : Framed s
  pub head : (t : List ℕ) × Legal w t × (take 13 t ≡ take 13 s)
  pub first : FirstUnlike (Like w s) s 13 k

-- the meaning of each refusal of reading by its number; no other number is a refusal of reading
abbrev pub pick : Bool → Type 0 → Type 0 → Type 0
pick true P Q = P
pick false P Q = Q

abbrev pub Refusal : Way → List ℕ → ℕ → Option ℕ → Type 0
Refusal w s n None = ⊥
Refusal w s n (Some k) =
    pick (n == 3) (LengthRefused s k)
    (pick (n == 4) (ParityRefused s k)
    (pick (n == 5) (DelimiterRefused s k)
    (pick (n == 6) (CheckRefused s k)
    (pick (n == 7) (HeadRefused w s k)
    (pick (n == 8) (RestRefused w s k) ⊥)))))

-- the parts of a block that was read are parts of the string; the text starts at place 14
abbrev pub Parts : List ℕ → Block → Type 0
Parts s (Response a k i) = a.now ≡ take 7 (drop 2 s)
Parts s (Message a k l i e t) =
    (a.now ≡ take 7 (drop 2 s)) × (l.now ≡ take 2 (drop 10 s)) × (t.now ≡ take (length s - 4 - 14) (drop 14 s))

-- the string is the one that writing makes of the block's fields, which are sound
pub record ReadAs (w : Way) (s : List ℕ) (b : Block) : Type 0 where
  pub sound : Sound w (fields_read b)
  pub made : s ≡ written (fields_read b)
  pub parts : Parts s b

-- what reading s answers
abbrev pub Reads : Way → List ℕ → Result Block BlockFault → Type 0
Reads w s (Ok b) = ReadAs w s b
Reads w s (Err f) = Refusal w s (number_of f) (place_of f)
