use Rattle.runs.proofs.Cuts.{cuts_come_back_lem}
use Rattle.runs.proofs.cuts_come_back.Goals as goal

pub returns : goal.returns
returns c = cuts_come_back_lem
