use Rattle.std.proofs.Common.{rules}
use Rattle.ends.proofs.Staging.{stage_set, stage_past}
use Rattle.ends.proofs.end.Sender.set_stage.Goals as goal

pub returns-in-Some : goal.returns-in-Some
returns-in-Some c = search (rules, stage_set)

pub returns-in_default : goal.returns-in_default
returns-in_default c = search (rules, stage_past)
