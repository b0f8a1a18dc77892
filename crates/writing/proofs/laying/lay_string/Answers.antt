use Rattle.std.proofs.Common.{◌<◌, map, arith, ◌∙◌}
use lib.Count.{ones}
use Rattle.blocks.specs.Fields.{fields_given, laid}
use Rattle.writing.specs.Laying.{laid_octet}
use Rattle.writing.proofs.Laid.{closed}
use Rattle.writing.proofs.laying.lay_string.Goals as goal

pub returns : goal.returns
unfolding ones
returns c =
    let u : c.check.result < 65536 = omega arith in
    closed (map laid_octet (laid (fields_given c.args.block.now))) _ _ _ _ _ _ _
    (c.deref.ensures.0 ∙ c.lay_opened.ensures) c.lay_opened.ensures c.check.ensures u c.to_le_bytes.ensures
    c.push.ensures.items c.push-2.ensures.items c.push-3.ensures.items
