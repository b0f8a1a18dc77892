-- Taking until nothing waits. Assumes nothing.
use Rattle.std.specs.Prelude.{ℕ, List, Some, None, Option}

-- Takes that hand out strings, one after the other, from one state of a path to another.
pub data Handing {V : Type 0} (takes : V → Option (List ℕ) → V → Type 0) (v : V) : V → Type 0 where
  started : Handing takes v v
  handed : {m w : V} {s : List ℕ} → Handing takes v m → takes m (Some s) w → Handing takes v w

-- Takes that hand out strings, and then one that finds none.
pub record Drained {V : Type 0} (takes : V → Option (List ℕ) → V → Type 0) (v w : V) : Type 0 where
  pub between : V
  pub handing : Handing takes v between
  pub last : takes between None w
