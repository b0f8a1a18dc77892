use Rattle.std.proofs.Common.{rules}
use Rattle.blocks.proofs.Scanning.{fault_by}
use Rattle.blocks.proofs.frame.Frame.text_fault.Goals as goal

pub returns : goal.returns
returns g c = fault_by (λ i b c t h. search rules) c.first_fault.ensures
