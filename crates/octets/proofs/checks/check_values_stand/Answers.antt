-- The known values, computed.
use Rattle.std.proofs.Common.{refl}
use Rattle.octets.specs.Check.{shifted, steps, advance, check_from, check}
use Rattle.octets.proofs.checks.check_values_stand.Goals as goal

pub returns : goal.returns
unfolding shifted steps advance check_from check
returns c = (refl, refl)
