-- As much as there is room for.
use Rattle.std.proofs.Common.{◌≡◌, ◌+◌, ◌++◌, length, take, ap, sym, ◌∙◌, arith}
use Rattle.std.proofs.lemmas.List.{length-take-le}
use Rattle.std.proofs.lemmas.Slice.{take-put_mid}
use Rattle.answers.proofs.Adding.{added}
use Rattle.answers.proofs.answer.AnswerLine.add.Goals as goal

pub returns : goal.returns
returns c =
    let l = c.self.inside in
    let old = c.args.self.now in
    let part = c.args.part.now in
    let room = c.min-room.result in
    let long : length old ≡ l.used = ap length (sym c.self.view_is) ∙ length-take-le l.used l.octets (omega arith) in
    let is : c.copy_from_slice.new.self ≡ take room part = c.copy_from_slice.ensures.after in
    let size : length c.copy_from_slice.new.self ≡ room = ap length is ∙ length-take-le room part (omega (arith, c.min-room.ensures)) in
    take-put_mid l.used _ l.octets c.copy_from_slice.new.self (l.used + room) (omega arith) (omega arith)
    ∙ ap (λ xs. xs ++ c.copy_from_slice.new.self) c.self.view_is
    ∙ ap (λ xs. old ++ xs) (is ∙ ap (λ n. take n part) c.min-room.ensures)
    ∙ added old part 512 _ (omega arith)
