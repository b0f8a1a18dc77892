use Rattle.std.proofs.Common.{rules}
use Rattle.ends.proofs.Empty.{no_first_text}
use Rattle.ends.proofs.end.End.collect.Goals as goal

pub returns-in_err-text : goal.returns-in_err-text
returns-in_err-text g c = search (rules, no_first_text)
