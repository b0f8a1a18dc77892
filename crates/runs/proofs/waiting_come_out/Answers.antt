use Rattle.runs.proofs.Waitings.{waiting_come_out_lem}
use Rattle.runs.proofs.waiting_come_out.Goals as goal

pub returns : goal.returns
returns c = waiting_come_out_lem
