-- Each turn takes an octet or more.
use Rattle.std.proofs.Common.{length}
use Rattle.inspect.proofs.Inspector.take.Given as goal

abbrev pub decreases-loop-used : goal.decreases-loop-used
decreases-loop-used g l = length l.rest
