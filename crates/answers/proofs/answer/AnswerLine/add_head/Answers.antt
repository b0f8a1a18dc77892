-- The address, and the acknowledgment.
use Rattle.std.proofs.Common.{rules, ◌≡◌, append_assoc}
use Rattle.blocks.specs.Fields.{named}
use Rattle.answers.specs.Printed.{acknowledged}
use Rattle.answers.proofs.Adding.{cut_then}
use Rattle.answers.proofs.answer.AnswerLine.add_head.Goals as goal

pub returns-clause-added : goal.returns-clause-added
returns-clause-added c =
    let mark : c.map_or.result ≡ acknowledged (named c.args.acknowledgment) = search rules in
    rw (c.add_part.ensures, c.add_characters.ensures.added, mark) (simp (cut_then, append_assoc))
