use Rattle.law.proofs.Truths.{truth_and_order}
use Rattle.law.proofs.truth_stands.Goals as goal

pub returns : goal.returns
returns c = truth_and_order
