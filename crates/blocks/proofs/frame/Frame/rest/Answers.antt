use Rattle.std.proofs.Common.{◌≡◌, ◌+◌, ◌-◌, true, length, refl, inl, rules, arith}
use Rattle.blocks.specs.Legal.{Way}
use Rattle.blocks.specs.Places.{possible}
use Rattle.blocks.proofs.Steps.{usable}
use Rattle.blocks.proofs.Rests.{text_broken, suffix_broken, rest_kept}
use Rattle.blocks.proofs.frame.Frame.rest.Goals as goal
use Rattle.blocks.proofs.frame.Frame.rest.Given as given

abbrev way : given.Over → Way
way g = record { own = g.D.Ring.ring; other = g.D.Other.Ring.ring; text = g.D.Direction.text }

pub returns-in-Some : goal.returns-in-Some
returns-in-Some g c =
    let s = c.args.self.string.now in
    let fits : possible (way g) c.args.response (length s) ≡ true = search rules in
    let long = usable (way g) c.args.response (length s) fits c.if-length-eq17.false in
    let b = text_broken (way g) s long (search rules) c.in-Some.index c.in-Some.ensures in
    (14 + c.in-Some.index, refl, inl (fits, b.0, b.1))

pub returns-in-3-character : goal.returns-in-3-character
returns-in-3-character g c =
    let s = c.args.self.string.now in
    let fits : possible (way g) c.args.response (length s) ≡ true = search rules in
    let long = usable (way g) c.args.response (length s) fits c.if-length-eq17.false in
    (fits, rest_kept (way g) s long (search rules) c.in_default-text_fault.ensures (search rules), record { last = search rules; text = refl })

pub returns-in_default-character : goal.returns-in_default-character
returns-in_default-character g c =
    let s = c.args.self.string.now in
    let fits : possible (way g) c.args.response (length s) ≡ true = search rules in
    let long = usable (way g) c.args.response (length s) fits c.if-length-eq17.false in
    let b = suffix_broken (way g) s long (search rules) c.in_default-text_fault.ensures (search rules) in
    (length s - 4, refl, inl (fits, omega arith, b))
