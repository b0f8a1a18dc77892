-- Clean rounds happen: exact progress is not about nothing.
-- Assumes nothing.
use Rattle.std.specs.Prelude.{ℕ, List}
use Rattle.law.specs.Directions.{Direction, Sound}
use Rattle.law.specs.Links.{Side, Event, Link, Run}
use Rattle.law.specs.Rounds.{Rounds}

-- a run after which r clean rounds of side x acknowledge k blocks
pub record HasRounds (dn up : Direction) (x : Side) (r k : ℕ) : Type 0 where
  pub history : List Event
  pub before : Link
  pub after : Link
  pub run : Run dn up history before
  pub rounds : Rounds dn up x r before k after

-- over any two directions, and for either side, some three clean rounds acknowledge two blocks
abbrev pub RoundsHappen : Type 0
RoundsHappen = (dn up : Direction) → Sound dn → Sound up → (x : Side) → HasRounds dn up x 3 2
