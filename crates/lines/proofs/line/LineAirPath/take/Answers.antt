use Rattle.std.proofs.Common.{◌≡◌, ◌+◌, ◌++◌, true, false, List, ℕ, length, drop, sym, subst, arith}
use Rattle.lines.specs.Stored.{CutOff}
use Rattle.lines.specs.Serving.{TakeServed, take_served}
use Rattle.lines.proofs.line.LineAirPath.take.Goals as goal
use Rattle.lines.proofs.line.LineAirPath.take.Given.{Over}
use Rattle.lines.proofs.line.LineAirPath.take.Goals.{After-cut_off}

served : (g : Over) (c : After-cut_off g) → TakeServed g.L.Shape.layout c.args.self.now.store c.args.buffer.now c.cut_off.new.self (c.copy_from_slice.new.self ++ drop (length c.in_ok-s.s.now) c.args.buffer.now) (length c.in_ok-s.s.now)
served g c =
    let l = g.L.Shape.layout in
    let a = c.args.self.now.store in
    let s = c.in_ok-s.s.now in
    let b = c.cut_off.new.self in
    let e = c.in_ok-s.ensures.ok_part in
    let none : a.count ≡ 0 → ⊥ = λ z. let q : true ≡ false = rw e at (c.oldest.ensures.none.1 z) in cc in
    let cut = subst (λ (h : ℕ). CutOff (h + length s) a b) c.head_size.ensures c.cut_off.ensures in
    let served = take_served l g.met.L.Shape.lawful a c.args.self.now.kept (omega arith) b s c.args.buffer.now (rw e at c.oldest.ensures.some) cut (omega arith) in
    subst (λ (x : List ℕ). TakeServed l a c.args.buffer.now b (x ++ drop (length s) c.args.buffer.now) (length s)) (sym c.copy_from_slice.ensures.after) served

pub invariant_of-self : goal.invariant_of-self
invariant_of-self g c = record { kept = (served g c).kept }

pub returns : goal.returns
returns g c =
    let s = served g (goal.at.returns g c).After-cut_off in
    record { meaning = s.meaning; exact = s.exact }
