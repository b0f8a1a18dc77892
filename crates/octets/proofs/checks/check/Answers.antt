-- The run over the octets is the fold that the check is.
use Rattle.std.proofs.Common.{rules}
use Rattle.octets.specs.Check.{check_from, check}
use Rattle.octets.proofs.checks.check.Goals as goal

pub returns : goal.returns
unfolding check_from check
returns c = search rules
