-- A ring of identifiers: characters in a row, of which the first follows the last.
-- Assumes nothing.
use Rattle.std.specs.Prelude.{ℕ, zero, suc, ◌+◌, ◌<◌, ◌≤◌, Bool, cond, ◌&&◌, nat_le, nat_lt}

-- the first character, and how many there are
pub record RingRule : Type 0 where
  pub first : ℕ
  pub size : ℕ

-- c is an identifier of the ring
abbrev pub member : RingRule → ℕ → Bool
member r c = nat_le r.first c && nat_lt c (r.first + r.size)

-- the identifier after c: one place up, and from the last to the first
abbrev pub next : RingRule → ℕ → ℕ
next r c = cond (nat_lt (c + 1) (r.first + r.size)) (c + 1) r.first

-- the identifier k steps after c
unfoldable pub onward : RingRule → ℕ → ℕ → ℕ
onward r zero c = c
onward r (suc k) c = next r (onward r k c)

-- what a ring of this profile keeps: two identifiers or more, all of them seven-bit characters past the control characters
pub record Cyclic (r : RingRule) : Type 0 where
  pub many : 2 ≤ r.size
  pub printable : 32 < r.first
  pub seven : r.first + r.size ≤ 128
