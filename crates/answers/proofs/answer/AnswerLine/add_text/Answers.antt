-- A turn adds the next character.
use Rattle.std.proofs.Common.{[], ◌∷◌, ◌++◌, sym, append_assoc, append-nil, take_all}
use Rattle.answers.proofs.Adding.{cut_then, cut_again, text_more}
use Rattle.answers.proofs.answer.AnswerLine.add_text.Goals as goal

pub loop-octet-init : goal.loop-octet-init
loop-octet-init c = rw (append-nil, c.add.ensures) (sym (cut_again 512 (c.args.self.now ++ (44 ∷ []))))

pub loop-octet-preserved : goal.loop-octet-preserved
loop-octet-preserved c =
    let more = text_more c.args.text.now c.loop-octet.octet-index c.character_of.result c.character_of.ensures c.loop-octet-test.true in
    rw (c.add_escaped.ensures, c.loop-octet.invariant, ← more) (simp (cut_then, append_assoc))

pub returns : goal.returns
returns c = rw (c.loop-octet.invariant, c.add.ensures, take_all c.loop-octet.octet-index c.args.text.now c.loop-octet-test.false) (simp (cut_then, append_assoc))
