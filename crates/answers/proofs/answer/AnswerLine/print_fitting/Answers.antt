-- The count, the direction and the rest make the line.
use Rattle.blocks.specs.Fields.{fields_read}
use Rattle.blocks.specs.Faults.{number_of, place_of}
use Rattle.answers.proofs.Texts.{block_line, refused_line}
use Rattle.answers.proofs.answer.AnswerLine.print_fitting.Goals as goal

pub returns-in-Ok : goal.returns-in-Ok
returns-in-Ok c =
    rw (c.in-Ok.is, c.add_block.ensures.added, c.add_part.ensures, c.add_number.ensures.added, c.clear.ensures, c.from.ensures)
    (block_line c.args.count c.args.heading (fields_read c.in-Ok.block) c.add_number.ensures.short c.add_block.ensures.short)

pub returns-in-Err : goal.returns-in-Err
returns-in-Err c =
    rw (c.in-Err.is, c.add_fault.ensures.added, c.add_part.ensures, c.add_number.ensures.added, c.clear.ensures, c.from.ensures)
    (refused_line c.args.count c.args.heading (number_of c.in-Err.fault) (place_of c.in-Err.fault) c.add_number.ensures.short c.add_fault.ensures.short)
