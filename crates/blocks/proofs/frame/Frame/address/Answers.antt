use Rattle.std.proofs.Common.{◌+◌, ◌<◌, None, Some, refl, ◌∙◌, rules, arith}
use Rattle.blocks.specs.Legal.{at, address_allows}
use Rattle.blocks.specs.Scans.{FirstFault, OfOctets}
use Rattle.blocks.proofs.Steps.{address_rule}
use Rattle.blocks.proofs.Scanning.{fault_by, part_kept, part_broken}
use Rattle.blocks.proofs.frame.Frame.address.Goals as goal

pub returns-in-Some : goal.returns-in-Some
returns-in-Some c w =
    let s = c.args.self.string.now in
    let a = c.part-address.result.now in
    let i = c.in-Some.index in
    let f : FirstFault (OfOctets address_allows) (at s 1) a (Some i) = fault_by (λ i b c t h. search rules) c.in-Some.ensures in
    let b = part_broken address_allows s a 1 7 (omega arith) c.part-address.ensures f in
    let h : i < 7 = b.0 in (
      2 + i,
      refl,
      omega arith,
      record {
        from = omega arith;
        kept = λ p l u. address_rule w 17 s p _ _ l (omega arith) ∙ part_kept address_allows s a 1 7 (omega arith) c.part-address.ensures f p l u;
        broken = address_rule w 17 s (2 + i) _ _ (omega arith) (omega arith) ∙ b.1 (2 + i) refl;
      },
    )

pub returns-in-None : goal.returns-in-None
returns-in-None c w =
    let s = c.args.self.string.now in
    let a = c.part-address.result.now in
    let f : FirstFault (OfOctets address_allows) (at s 1) a None = fault_by (λ i b c t h. search rules) c.in-None.ensures in
    (λ p l u. address_rule w 17 s p _ _ l u ∙ part_kept address_allows s a 1 7 (omega arith) c.part-address.ensures f p l u, c.part-address.ensures)
