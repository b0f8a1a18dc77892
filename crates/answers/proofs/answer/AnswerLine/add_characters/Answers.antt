-- A turn adds the next character.
use Rattle.std.proofs.Common.{◌<◌, [], ◌∷◌, ◌++◌, length, sym, append_assoc, append-nil, take_all, arith}
use Rattle.answers.proofs.Adding.{cut_then, cut_again, characters_more}
use Rattle.answers.proofs.answer.AnswerLine.add_characters.Goals as goal

pub loop-octet-init : goal.loop-octet-init
loop-octet-init g c = rw (append-nil, c.add.ensures) (sym (cut_again 512 (c.args.self.now ++ (44 ∷ []))))

pub loop-octet-preserved : goal.loop-octet-preserved
loop-octet-preserved g c =
    let below : c.loop-octet.octet-index < length c.args.octets.now = omega arith in
    let more = characters_more c.args.octets.now c.loop-octet.octet-index c.character_of.result c.character_of.ensures below in
    rw (c.add_octet.ensures, c.loop-octet.invariant, ← more) (simp (cut_then, append_assoc))

pub returns-clause-added : goal.returns-clause-added
returns-clause-added g c =
    rw (c.loop-octet.invariant, c.add.ensures, take_all c.loop-octet.octet-index c.args.octets.now (omega arith)) (simp (cut_then, append_assoc))
