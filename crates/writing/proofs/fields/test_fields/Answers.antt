use Rattle.std.proofs.Common.{refl}
use Rattle.blocks.specs.Fields.{fields_given}
use Rattle.blocks.specs.Legal.{Way}
use Rattle.writing.proofs.Tests.{sound_fields}
use Rattle.writing.proofs.fields.test_fields.Goals as goal
use Rattle.writing.proofs.fields.test_fields.Given as given

abbrev way : given.Over → Way
way g = record { own = g.D.Ring.ring; other = g.D.Other.Ring.ring; text = g.D.Direction.text }

pub returns : goal.returns
returns g c =
    sound_fields (way g) (fields_given c.args.block.now) (c.in_default.ensures.long refl) c.in_default.ensures.tested c.in_default-rest_fault.ensures
