-- When what a path says of its calls leaves nothing open. Assumes nothing.
use Rattle.std.specs.Prelude.{◌≡◌, ℕ, List, Option, Result}
use Rattle.paths.specs.declared.fault.PathFault.{PathFault}
use Rattle.paths.specs.Meaning.{Puts, Takes}

-- From one state and one string a put gives one answer and one state; from one state and one buffer a take gives
-- one answer, one state and one buffer.
pub record Determined {V : Type 0} (puts : V → List ℕ → V → Type 0) (takes : V → Option (List ℕ) → V → Type 0) : Type 0 where
  pub one_put : (v : V) (s : List ℕ) (w x : V) (q r : Result (Unit {0}) PathFault) → Puts puts v s w q → Puts puts v s x r → (q ≡ r) × (w ≡ x)
  pub one_take : (v : V) (b : List ℕ) (w x : V) (b₁ b₂ : List ℕ) (q r : Result ℕ PathFault) → Takes takes v b w b₁ q → Takes takes v b x b₂ r → (q ≡ r) × (w ≡ x) × (b₁ ≡ b₂)
