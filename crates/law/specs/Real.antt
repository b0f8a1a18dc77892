-- The directions of the real rings and text rules.
-- Assumes nothing.
use Rattle.std.specs.Prelude.{ℕ, Some, None}
use Rattle.std.proofs.Math.Option.{Option, none, some}
use Rattle.std.specs.declared.option.Option as std
use Rattle.directions.specs.declared.marks.Mark.{Mark}
use Rattle.directions.specs.declared.marks.Mark.TheVariants.{Plain, Numbered}
use Rattle.directions.specs.declared.marks.Joining.{Joining}
use Rattle.directions.specs.declared.marks.Joining.TheVariants.{Opens, Continues, Neither}
use Rattle.directions.specs.Rings.{RingRule}
use Rattle.directions.specs.TextRules.{TextRule, down_ring, down_text, up_ring, up_text}
use Rattle.law.specs.Directions.{Place, unsaid, said, Turn, opens, continues, neither, Direction, Sound}

-- a block's mark as a place, and back; what a rule answers as a turn
abbrev pub place_of : Mark → Place
place_of Plain = unsaid
place_of (Numbered o n l) = said o n l

abbrev pub mark_of : Place → Mark
mark_of unsaid = Plain
mark_of (said o n l) = Numbered o n l

abbrev pub part_of : Option Place → std.Option Mark
part_of none = None
part_of (some p) = Some (mark_of p)

abbrev pub turn_of : Joining → Turn
turn_of Opens = opens
turn_of Continues = continues
turn_of Neither = neither

-- the direction of a ring, a text rule and an originator
abbrev pub direction_of : RingRule → TextRule → ℕ → Direction
direction_of r t o = record {
  ring = r.size;
  place = λ n i. place_of (t.mark o n i);
  turn = λ next part block. turn_of (t.joining (part_of part) (mark_of block) next);
}

-- downlinks and uplinks keep the laws of a direction
abbrev pub RealDirections : Type 0
RealDirections = ((o : ℕ) → Sound (direction_of down_ring down_text o)) × ((o : ℕ) → Sound (direction_of up_ring up_text o))
