use Rattle.ends.proofs.Empty.{waits_within}
use Rattle.ends.proofs.checked.CheckedTryFromSettings.try_from.Goals as goal

pub invariant_of-result : goal.invariant_of-result
invariant_of-result c = record { waits = waits_within c.args.values c.in-None.ensures }
