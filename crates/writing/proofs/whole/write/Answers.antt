use Rattle.std.proofs.Common.{ℕ, ◌++◌, List, length, drop, ap, ◌∙◌}
use Rattle.blocks.specs.Fields.{fields_given}
use Rattle.blocks.specs.Legal.{Way}
use Rattle.blocks.proofs.Shapes.{Lawful}
use Rattle.writing.proofs.Written.{laid_as}
use Rattle.writing.proofs.whole.write.Goals as goal
use Rattle.writing.proofs.whole.write.Given as given

abbrev way : given.Over → Way
way g = record { own = g.D.Ring.ring; other = g.D.Other.Ring.ring; text = g.D.Direction.text }

lawful : (g : given.Over) → Lawful (way g)
lawful g = record { own = g.met.D.Ring.cyclic; other = g.met.D.Other.Ring.cyclic; text = g.met.D.Direction.opens }

pub returns : goal.returns
returns g c =
    let f = fields_given c.args.block.now in
    let s = c.in_ok-test_fields.ensures in
    let e = laid_as (way g) (lawful g) f s in
    record {
      room = c.if-buffer-lt238.false;
      sound = s;
      long = c.lay_out.ensures.long ∙ ap length e;
      holds = c.lay_out.ensures.after ∙ ap (λ (xs : List ℕ). xs ++ drop c.lay_out.result c.args.buffer.now) e;
    }
