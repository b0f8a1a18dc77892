use Rattle.std.proofs.Common.{◌≡◌, ℕ, ◌<◌, true, ◌∷◌}
use Rattle.blocks.specs.Legal.{at}
use Rattle.blocks.proofs.scan.first_fault.Given as goal

abbrev pub invariant-loop-index : goal.invariant-loop-index
invariant-loop-index g l =
    ((i : ℕ) → i < l.index → goal.F-post g l.allows i (at (l.fn.before ∷ l.characters) i) (at l.characters i) true) ×
    (l.before ≡ at (l.fn.before ∷ l.characters) l.index)
