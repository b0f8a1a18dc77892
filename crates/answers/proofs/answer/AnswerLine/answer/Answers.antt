-- What is kept of a line is the line, or it is too long for any string.
use Rattle.std.proofs.Common.{ℕ, List, Option, sym, ap, ◌∙◌, Bor}
use Rattle.std.specs.Option.{option_map}
use Rattle.answers.proofs.Answering.{answered_kept, answered_over}
use Rattle.answers.proofs.answer.AnswerLine.answer.Goals as goal

pub returns-in-Some : goal.returns-in-Some
returns-in-Some c p e =
    answered_kept c.in-Some.line.now p c.args.count _
    (sym (ap (λ (o : Option (Bor (List ℕ))). option_map (λ (x : Bor (List ℕ)). x.now) o) c.in-Some.is) ∙ e) c.answer_line.ensures

pub returns-in-None : goal.returns-in-None
returns-in-None c p e =
    answered_over p c.args.count _
    (sym (ap (λ (o : Option (Bor (List ℕ))). option_map (λ (x : Bor (List ℕ)). x.now) o) c.in-None.is) ∙ e) c.print_unread.ensures
