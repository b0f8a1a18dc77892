-- The parts of the block.
use Rattle.std.proofs.Common.{◌≡◌, ◌≤◌, cond, map, length, codes, append_assoc, arith, length-append}
use Rattle.std.proofs.lemmas.List.{length-map}
use Rattle.std.proofs.lemmas.Bool.{leb-true}
use Rattle.std.specs.List.{flat_map}
use Rattle.octets.specs.Parity.{character}
use Rattle.blocks.specs.Fields.{named}
use Rattle.answers.specs.Printed.{acknowledged, escaped}
use Rattle.answers.proofs.Adding.{cut_then}
use Rattle.answers.proofs.Texts.{message_parts, word_long, text_long}
use Rattle.answers.proofs.answer.AnswerLine.add_block.Goals as goal
use Rattle.answers.proofs.answer.AnswerLine.add_block.Goals.{then-last, else-last}

pub returns-in-Response-clause-added : goal.returns-in-Response-clause-added
returns-in-Response-clause-added c = rw (c.in-Response.is, c.add_part.ensures, c.add_head.ensures.added, c.add.ensures) (simp (cut_then, append_assoc))

pub returns-in-Response-clause-short : goal.returns-in-Response-clause-short
returns-in-Response-clause-short c = rw c.in-Response.is (simp (length-append, length-map) (omega (arith, c.add_head.ensures.sized)))

pub returns-after-last-clause-added : goal.returns-after-last-clause-added
returns-after-last-clause-added c =
    let word : c.if-last.add_part.now ≡ cond c.in-Message.last (codes "last") (codes "more") =
    elim c.if-last.branch [
      | then-last w ↦ rw (w.add_part-is, w.if-last.true)
      | else-last w ↦ rw (w.add_part-is, w.if-last.false)
    ] in
    rw (c.in-Message.is, c.add-in-Message-2.ensures, c.add_text.ensures, c.add_part-in-Message-2.ensures, word, c.add_part-in-Message.ensures, c.add_characters.ensures.added, c.add_head-in-Message.ensures.added, c.add-in-Message.ensures)
    (message_parts c.args.self.now (map character c.in-Message.address.now) (map character c.in-Message.label.now) (cond c.in-Message.last (codes "last") (codes "more")) (flat_map escaped (map character c.in-Message.text.now)) (acknowledged (named c.in-Message.acknowledgment)) c.in-Message.identifier.0)

pub returns-after-last-clause-short : goal.returns-after-last-clause-short
returns-after-last-clause-short c =
    let text : length c.in-Message.text.now ≤ 220 = leb-true (length c.in-Message.text.now) 220 (rw c.in-Message.is at c.requires) in
    let characters = map character c.in-Message.text.now in
    rw c.in-Message.is (simp (length-append, length-map)
    (omega (arith, c.add_head-in-Message.ensures.sized, c.add_characters.ensures.sized, word_long c.in-Message.last, text_long characters, length-map c.in-Message.text.now character)))
