-- Known values of the check.
-- Assumes nothing.
use Rattle.std.specs.Prelude.{◌≡◌, [], ◌∷◌}
use Rattle.octets.specs.Check.{check}

-- the check of octet 01 hex is 1189 hex, and of octet 80 hex 8408 hex
abbrev pub CheckValues : Type 0
CheckValues = (check (1 ∷ []) ≡ 4489) × (check (128 ∷ []) ≡ 33800)
