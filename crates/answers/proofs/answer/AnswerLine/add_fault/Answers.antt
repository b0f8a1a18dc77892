-- The number, and the place if there is one.
use Rattle.std.proofs.Common.{◌≡◌, [], ◌∷◌, ◌++◌, sym, ap, ◌∙◌, decimal, arith, append_assoc, append-nil}
use Rattle.blocks.specs.Faults.{number_of, place_of}
use Rattle.answers.specs.Printed.{placed}
use Rattle.answers.specs.Room.{cut}
use Rattle.answers.proofs.Adding.{cut_then, cut_again, added_more}
use Rattle.answers.proofs.answer.AnswerLine.add_fault.Goals as goal
use Rattle.answers.proofs.answer.AnswerLine.add_fault.Goals.{in-Some, in_default}

pub returns-clause-added : goal.returns-clause-added
returns-clause-added c =
    let s = c.add-2.new.self in
    let p = place_of c.args.fault in
    let end : cut c.match-place.self ≡ cut (s ++ placed p) =
    elim c.match-place.branch [
      | in-Some w ↦ rw (w.self-is, w.add_number-in-Some.ensures.added, ← c.place.ensures, w.in-Some.is) (cut_again 512 _)
      | in_default w ↦ rw (w.self-is, ← c.place.ensures, w.in_default.is) (ap cut (sym (append-nil s)))
    ] in
    let n = number_of c.args.fault in
    let old = c.args.self.now in
    let parts : cut (s ++ placed p) ≡ cut (old ++ (44 ∷ (decimal n ++ (44 ∷ placed p)))) =
    rw (c.add-2.ensures, c.add_number.ensures.added, c.add.ensures, c.number.ensures) (simp (cut_then, append_assoc)) in
    added_more c.match-place.self c.add-3.new.self (old ++ (44 ∷ (decimal n ++ (44 ∷ placed p)))) (10 ∷ []) c.add-3.ensures (end ∙ parts)
    ∙ simp append_assoc

pub returns-clause-short : goal.returns-clause-short
returns-clause-short c =
    let number = c.add_number.ensures.short in
    rw (← c.number.ensures)
    (elim c.match-place.branch [
      | in-Some w ↦ rw (← c.place.ensures, w.in-Some.is) (omega (arith, w.add_number-in-Some.ensures.short))
      | in_default w ↦ rw (← c.place.ensures, w.in_default.is) (omega arith)
    ])
