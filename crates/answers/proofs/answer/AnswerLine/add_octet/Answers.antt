-- The octet joins the line, or the line is full and stays.
use Rattle.std.proofs.Common.{◌≡◌, ◌++◌, ◌∷◌, [], length, ap, sym, ◌∙◌, arith}
use Rattle.std.proofs.lemmas.List.{take_more_set, length-take-le}
use Rattle.answers.proofs.Adding.{octet_added, octet_cut}
use Rattle.answers.proofs.answer.AnswerLine.add_octet.Goals as goal

pub returns-then-self-lt512 : goal.returns-then-self-lt512
returns-then-self-lt512 c =
    let l = c.self.inside in
    let old = c.args.self.now in
    let long : length old ≡ l.used = ap length (sym c.self.view_is) ∙ length-take-le l.used l.octets (omega arith) in
    take_more_set l.octets l.used c.args.octet (omega arith) ∙ ap (λ xs. xs ++ (c.args.octet ∷ [])) c.self.view_is ∙ octet_added old c.args.octet (omega arith)

pub returns-else-self-lt512 : goal.returns-else-self-lt512
returns-else-self-lt512 c =
    let l = c.self.inside in
    let old = c.args.self.now in
    let long : length old ≡ l.used = ap length (sym c.self.view_is) ∙ length-take-le l.used l.octets (omega arith) in
    octet_cut old c.args.octet (omega arith)
