use Rattle.std.proofs.Common.{◌≡◌, ◌+◌, true, List, ℕ, length, sym, ◌∙◌, subst, arith}
use Rattle.std.proofs.lemmas.Bool.{and_from}
use Rattle.paths.specs.Meaning.{Sized}
use Rattle.lines.specs.Layout.{holds}
use Rattle.lines.specs.Stored.{Offered}
use Rattle.lines.specs.Serving.{PutServed, room_to_count, put_served, sized_one}
use Rattle.lines.proofs.line.LineAirPath.put.Goals as goal
use Rattle.lines.proofs.line.LineAirPath.put.Given.{Over}
use Rattle.lines.proofs.line.LineAirPath.put.Goals.{After-as_slice, After-offer}

can_be_held : (g : Over) (c : After-as_slice g) → holds g.L.Shape.layout c.args.s.now ≡ true
can_be_held g c = and_from _ _ (sym c.carries.ensures ∙ c.if-not-carries.false) (sym c.plain.ensures ∙ c.if-plain.true)

served : (g : Over) (c : After-offer g) → Sized c.args.s.now × PutServed g.L.Shape.layout c.args.self.now.store c.args.s.now c.offer.new.self
served g c =
    let l = g.L.Shape.layout in
    let held = can_be_held g (goal.at.invariant_of-self g c).After-as_slice in
    let sized = sized_one l c.args.s.now held in
    let head = c.as_slice.ensures ∙ c.head.ensures in
    (sized, put_served l g.met.L.Shape.lawful c.args.self.now.store c.args.self.now.kept c.args.s.now c.offer.new.self held (subst (λ (h : List ℕ). Offered h c.args.s.now c.args.self.now.store c.offer.new.self) head c.offer.ensures))

pub offer-requires : goal.offer-requires
offer-requires g c =
    let l = g.L.Shape.layout in
    let sized = sized_one l c.args.s.now (can_be_held g c) in
    room_to_count l g.met.L.Shape.lawful c.args.self.now.store c.args.self.now.kept (length c.as_slice.result.now + length c.args.s.now) (omega (arith, sized.some))

pub invariant_of-self : goal.invariant_of-self
invariant_of-self g c = record { kept = (served g c).1.kept }

pub returns-then-plain : goal.returns-then-plain
returns-then-plain g c =
    let s = served g (goal.at.returns-then-plain g c).After-offer in
    record { meaning = (s.0, s.1.meaning); exact = (s.0, s.1.exact) }
