-- The remainder of the low octet is all that the table has to give.
use Rattle.octets.proofs.Linear.{advance_by_low}
use Rattle.octets.proofs.checks.advanced.Goals as goal

pub returns : goal.returns
returns c = let h = advance_by_low c.args.value c.args.octet c.ranges.octet.fits in cc
