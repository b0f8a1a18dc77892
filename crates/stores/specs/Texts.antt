-- What a text holds, and what an addition does to it. Assumes nothing.
use Rattle.std.specs.Prelude.{◌≡◌, ℕ, ◌+◌, ◌<◌, ◌≤◌, List, ◌++◌, length, vec_items, Ok, Err, Result}
use Rattle.stores.specs.declared.text.Text.{Text}
use Rattle.stores.specs.declared.text.NoRoom.{NoRoom}

-- The octets of a text.
unfoldable pub octets_of : Text → List ℕ
octets_of t = vec_items t.octets

-- Octets were added to the end: all fit.
pub record Appended (before more after : List ℕ) : Type 0 where
  pub fits : length before + length more ≤ 3520
  pub joined : after ≡ before ++ more

-- Octets were not added: they do not all fit, and nothing is changed.
pub record NotAppended (before more after : List ℕ) : Type 0 where
  pub long : 3520 < length before + length more
  pub same : after ≡ before

-- An addition, by its answer.
abbrev pub Appends : List ℕ → List ℕ → List ℕ → Result (Unit {0}) NoRoom → Type 0
Appends before more after (Ok done) = Appended before more after
Appends before more after (Err fault) = NotAppended before more after
