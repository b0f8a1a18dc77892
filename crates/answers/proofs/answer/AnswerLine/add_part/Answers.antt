-- The comma, and then the part.
use Rattle.std.proofs.Common.{append_assoc}
use Rattle.answers.proofs.Adding.{cut_then}
use Rattle.answers.proofs.answer.AnswerLine.add_part.Goals as goal

pub returns : goal.returns
returns c = rw (c.add-2.ensures, c.add.ensures) (simp (cut_then, append_assoc))
