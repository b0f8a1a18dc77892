use Rattle.runs.proofs.Transfer.{truth_and_order_lem}
use Rattle.runs.proofs.truth_stands.Goals as goal

pub returns : goal.returns
returns c = truth_and_order_lem
