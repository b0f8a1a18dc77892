use Rattle.std.proofs.Common.{◌≡◌, true, length, Some, None, sym, ap, ◌∙◌, rules, arith, lit≤}
use Rattle.std.proofs.lemmas.Bool.{true≢false}
use Rattle.blocks.specs.Fields.{fields_given, head_of}
use Rattle.blocks.specs.Legal.{Way, acknowledges}
use Rattle.writing.proofs.Tests.{good_nine, good_more, good_label, bad_label, bad_address, address_kept, address_bad}
use Rattle.writing.proofs.fields.head_fault.Goals as goal
use Rattle.writing.proofs.fields.head_fault.Given as given

abbrev way : given.Over → Way
way g = record { own = g.D.Ring.ring; other = g.D.Other.Ring.ring; text = g.D.Direction.text }

pub returns-in-Some : goal.returns-in-Some
returns-in-Some g c =
    let f = fields_given c.args.block.now in
    let i = c.in-Some.index in
    let k = address_kept c.address.result.now (head_of f).address c.address.ensures c.address_fault.ensures.long (Some i) c.in-Some.ensures.fault in
    let b = address_bad c.address.result.now (head_of f).address c.address.ensures c.address_fault.ensures.long i c.in-Some.ensures.fault in
    record { tested = bad_address (way g) f i b.0 k b.1; long = λ e. absurd (true≢false e) }

pub returns-in-Some-label_fault : goal.returns-in-Some-label_fault
returns-in-Some-label_fault g c =
    let f = fields_given c.args.block.now in
    let h = address_kept c.address.result.now (head_of f).address c.address.ensures c.address_fault.ensures.long None c.in_default.ensures.fault in
    let k : acknowledges g.D.Other.Ring.ring (head_of f).acknowledgment ≡ true = search rules in
    record {
      tested = bad_label (way g) f c.in-Some-label_fault.index (good_more (way g) f 9 (good_nine (way g) f h) k) c.in-Some-label_fault.ensures.tested;
      long = λ e. absurd (true≢false e);
    }

pub returns-then-not-holds : goal.returns-then-not-holds
returns-then-not-holds g c =
    let f = fields_given c.args.block.now in
    let h = address_kept c.address.result.now (head_of f).address c.address.ensures c.address_fault.ensures.long None c.in_default.ensures.fault in
    let k : acknowledges g.D.Other.Ring.ring (head_of f).acknowledgment ≡ true = search rules in
    let l = c.in_default-label_fault.ensures.tested in
    record {
      tested = record {
        from = lit≤ tt;
        until = lit≤ tt;
        before = good_label (way g) f (good_more (way g) f 9 (good_nine (way g) f h) k) l.0 l.1;
        bad = search rules;
      };
      long = λ e. absurd (true≢false e);
    }

pub returns : goal.returns
returns g c =
    let f = fields_given c.args.block.now in
    let h = address_kept c.address.result.now (head_of f).address c.address.ensures c.address_fault.ensures.long None c.in_default.ensures.fault in
    let k : acknowledges g.D.Other.Ring.ring (head_of f).acknowledgment ≡ true = search rules in
    let l = c.in_default-label_fault.ensures.tested in
    record {
      tested = good_more (way g) f 12 (good_label (way g) f (good_more (way g) f 9 (good_nine (way g) f h) k) l.0 l.1)
          (search rules);
      long = λ e. record {
        address = ap length (sym c.address.ensures) ∙ c.address_fault.ensures.long;
        label = c.label_fault.ensures.long;
      };
    }

pub overflow_add-result : goal.overflow_add-result
overflow_add-result g c = omega (arith, c.in-Some.ensures.fault.broken.0, c.address_fault.ensures.long)
