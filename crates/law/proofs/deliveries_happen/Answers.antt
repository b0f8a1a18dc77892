use Rattle.law.proofs.Witnesses.{deliveries_happen_lem}
use Rattle.law.proofs.deliveries_happen.Goals as goal

pub returns : goal.returns
returns c = deliveries_happen_lem
