use Rattle.law.proofs.Truths.{waiting_come_out_lem}
use Rattle.law.proofs.waiting_come_out.Goals as goal

pub returns : goal.returns
returns c = waiting_come_out_lem
