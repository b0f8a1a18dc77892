-- Each law is shown in a file of its own.
use Rattle.answers.proofs.Apart.{printed_apart}
use Rattle.answers.proofs.Told.{answers_apart}
use Rattle.answers.proofs.laws.answers_stand.Goals as goal

pub returns-clause-apart : goal.returns-clause-apart
returns-clause-apart c = printed_apart

pub returns-clause-told : goal.returns-clause-told
returns-clause-told c = answers_apart
