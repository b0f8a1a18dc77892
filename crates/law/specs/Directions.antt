-- A direction of a link: a ring of identifiers, and a rule by which a block opens or continues a message.
-- Assumes nothing.
use Rattle.std.specs.Prelude.{◌≡◌, ℕ, suc, ◌≤◌, Bool, true, false, cond, ◌==◌}
use Rattle.std.proofs.Math.Option.{Option, none, some}

-- what a block says of its place in its message: nothing, or originator, message number and block letter
pub data Place : Type 0 where
  unsaid : Place
  said : ℕ → ℕ → ℕ → Place

-- what a new block does with the part message at hand
pub data Turn : Type 0 where
  opens continues neither : Turn

-- ring: how many identifiers; place n i: what block i, from 0, of message n says;
-- turn: the rule, told whether the identifier is the next one, and the place of the open part's newest block
pub record Direction : Type 0 where
  pub ring : ℕ
  pub place : ℕ → ℕ → Place
  pub turn : Bool → Option Place → Place → Turn

-- the laws of a direction
pub record Sound (d : Direction) : Type 0 where
  -- a ring has two identifiers at least
  pub two : 2 ≤ d.ring
  -- a message's following block, told that its identifier is the next, continues it
  pub follows : (n i : ℕ) → d.turn true (some (d.place n i)) (d.place n (suc i)) ≡ continues
  -- a first block, told that its identifier is not the next, opens a message, whatever part is open
  pub apart : (n : ℕ) (o : Option Place) → d.turn false o (d.place n 0) ≡ opens
  -- a first block opens a message where no part is open
  pub alone : (n : ℕ) (b : Bool) → d.turn b none (d.place n 0) ≡ opens

-- the next identifier in a ring of n: up one place, and from the last to the first
abbrev pub next : ℕ → ℕ → ℕ
next n i = cond (suc i == n) 0 (suc i)

-- the identifier after the one last put, the ring's first if none was
abbrev pub after : ℕ → Option ℕ → ℕ
after n none = 0
after n (some i) = next n i

-- a new block's identifier: the next, or the one after that where one is to be passed over
abbrev pub fresh : ℕ → Bool → Option ℕ → ℕ
fresh n false o = after n o
fresh n true o = next n (after n o)

-- how many identifiers a new block spends
abbrev pub cost : Bool → ℕ
cost false = 1
cost true = 2

-- is i the next identifier after the one last accepted?
abbrev pub is_next : ℕ → Option ℕ → ℕ → Bool
is_next n none i = false
is_next n (some j) i = i == next n j
