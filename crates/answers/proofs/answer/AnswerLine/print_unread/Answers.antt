-- The count and the fixed rest make the line.
use Rattle.answers.proofs.Texts.{unread_line}
use Rattle.answers.proofs.answer.AnswerLine.print_unread.Goals as goal

pub returns : goal.returns
returns c = rw (c.add.ensures, c.add_number.ensures.added, c.clear.ensures) (unread_line c.args.count c.add_number.ensures.short)
