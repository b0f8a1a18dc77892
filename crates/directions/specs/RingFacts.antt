-- The facts of every ring, whatever its size, and what they say of the two rings of the link.
-- Assumes nothing.
use Rattle.std.specs.Prelude.{◌≡◌, ℕ, ◌<◌, ◌≤◌, true, Some, ◌==◌, ◌≢◌}
use Rattle.directions.specs.declared.marks.Mark.{Mark}
use Rattle.directions.specs.declared.marks.Joining.TheVariants.{Continues}
use Rattle.directions.specs.Rings.{RingRule, member, next, onward}
use Rattle.directions.specs.TextRules.{TextRule, Joins, down_ring, up_ring}

-- in a ring of any size
pub record RingFacts : Type 0 where
  -- what follows an identifier is one
  pub stays : (r : RingRule) (c : ℕ) → member r c ≡ true → member r (next r c) ≡ true
  -- two identifiers are not followed by the same one
  pub apart : (r : RingRule) (c d : ℕ) → member r c ≡ true → member r d ≡ true → next r c ≡ next r d → c ≡ d
  -- fewer steps than the ring has identifiers never come back
  pub away : (r : RingRule) (c k : ℕ) → member r c ≡ true → 0 < k → k < r.size → onward r k c ≢ c
  -- as many steps do
  pub round : (r : RingRule) (c : ℕ) → member r c ≡ true → onward r r.size c ≡ c

-- another message's first block never continues an open part when its identifier lies 2 to N − 1 steps past the last accepted one
abbrev pub NeverJoined : Type 0
NeverJoined =
    (r : RingRule) (t : TextRule) → Joins t → (last k : ℕ) → member r last ≡ true → 2 ≤ k → k < r.size →
    (part : Mark) (originator number : ℕ) →
    t.joining (Some part) (t.mark originator number 0) (onward r k last == next r last) ≢ Continues

-- 9 is followed by 0, and Z by A
abbrev pub Turns : Type 0
Turns = (next down_ring 57 ≡ 48) × (next up_ring 90 ≡ 65)
