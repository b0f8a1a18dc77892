use Rattle.std.proofs.Common.{◌≡◌, ℕ, ◌++◌, List, length, drop, ap, ◌∙◌}
use Rattle.blocks.specs.Fields.{fields_given, laid}
use Rattle.writing.specs.Laying.{enclosed_by}
use Rattle.writing.proofs.laying.lay_out.Goals as goal

pub returns : goal.returns
returns c =
    let e : c.lay_string.new.string.items ≡ enclosed_by (laid (fields_given c.args.block.now)) = c.lay_string.ensures in
    let w : c.copy_from_slice.new.self ≡ enclosed_by (laid (fields_given c.args.block.now)) = c.copy_from_slice.ensures.after ∙ c.deref.ensures.0 ∙ e in
    record {
      long = c.len-length.ensures.value ∙ ap length e;
      after = ap (λ (xs : List ℕ). xs ++ drop c.len-length.result c.args.buffer.now) w;
    }
