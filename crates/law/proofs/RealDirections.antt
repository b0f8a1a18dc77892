-- Downlinks and uplinks keep the laws of a direction, since every ring and text rule with its own laws does. Assumes nothing.
use Rattle.std.proofs.Common.{◌≡◌, ℕ, suc, ◌+◌, ◌-◌, ◌%◌, ◌≤◌, true, false, Some, None, refl, ap, ◌∙◌, arith, eq-eqb, ne_eqb}
use mathlib.Core.Option.{Option, none, some}
use Rattle.directions.specs.declared.marks.Mark.{Mark}
use Rattle.directions.specs.declared.marks.Mark.TheVariants.{Plain, Numbered}
use Rattle.directions.specs.declared.marks.Joining.TheVariants.{Continues}
use Rattle.directions.specs.Rings.{RingRule}
use Rattle.directions.specs.TextRules.{TextRule, Joins, down_ring, up_ring, down_text, up_text, down_joining}
use Rattle.law.specs.Directions.{Place, opens, Sound}
use Rattle.law.specs.Real.{place_of, mark_of, part_of, turn_of, direction_of, RealDirections}

marks_back : (m : Mark) → mark_of (place_of m) ≡ m
marks_back Plain = refl
marks_back (Numbered o n l) = refl

-- the laws of a text rule are those of a direction
pub sound_from : (r : RingRule) (t : TextRule) (o : ℕ) → 2 ≤ r.size → Joins t → Sound (direction_of r t o)
sound_from r t o two j = record {
  two = two;
  follows = λ n i.
      ap (λ (m : Mark). turn_of (t.joining (Some m) (mark_of (place_of (t.mark o n (suc i)))) true)) (marks_back (t.mark o n i)) ∙
      ap (λ (m : Mark). turn_of (t.joining (Some (t.mark o n i)) m true)) (marks_back (t.mark o n (suc i))) ∙ ap turn_of (j.follows o n i);
  apart = apart;
  alone = λ n b. ap (λ (m : Mark). turn_of (t.joining None m b)) (marks_back (t.mark o n 0)) ∙ ap turn_of (j.begins o n b);
}
  where
    apart : (n : ℕ) (p : Option Place) → turn_of (t.joining (part_of p) (mark_of (place_of (t.mark o n 0))) false) ≡ opens
    apart n none = ap (λ (m : Mark). turn_of (t.joining None m false)) (marks_back (t.mark o n 0)) ∙ ap turn_of (j.begins o n false)
    apart n (some q) = ap (λ (m : Mark). turn_of (t.joining (Some (mark_of q)) m false)) (marks_back (t.mark o n 0)) ∙ ap turn_of (j.parts (mark_of q) o n)

-- a downlink's letter after the newest one continues
letters : (o m i : ℕ) → down_joining (Some (Numbered o m (65 + i))) (Numbered o m (65 + suc i)) true ≡ Continues
letters o m i = rw (ne_eqb (65 + suc i) 65 (λ e. omega arith), eq-eqb o o refl, eq-eqb m m refl, eq-eqb (65 + i + 1) (65 + suc i) (omega arith))

pub down_joins : Joins down_text
down_joins = record { begins = λ o n b. refl; follows = λ o n i. letters o ((n - 1) % 99 + 1) i; parts = λ p o n. refl }

pub up_joins : Joins up_text
up_joins = record { begins = λ o n b. refl; follows = λ o n i. refl; parts = λ p o n. refl }

pub real_directions : RealDirections
real_directions = (λ o. sound_from down_ring down_text o (omega arith) down_joins, λ o. sound_from up_ring up_text o (omega arith) up_joins)
