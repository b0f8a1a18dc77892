use Rattle.std.proofs.Common.{rules}
use Rattle.std.proofs.lemmas.Result.{err_from_is_err_and}
use Rattle.blocks.specs.Legal.{Way}
use Rattle.blocks.proofs.Shapes.{Lawful}
use Rattle.blocks.proofs.Readings.{head_refused, rest_refused, response_read, message_read}
use Rattle.blocks.proofs.reading.read.Goals as goal
use Rattle.blocks.proofs.reading.read.Given as given

abbrev way : given.Over → Way
way g = record { own = g.D.Ring.ring; other = g.D.Other.Ring.ring; text = g.D.Direction.text }

lawful : (g : given.Over) → Lawful (way g)
lawful g = record { own = g.met.D.Ring.cyclic; other = g.met.D.Other.Ring.cyclic; text = g.met.D.Direction.opens }

pub returns-in_err-frame : goal.returns-in_err-frame
returns-in_err-frame g c =
    let p = err_from_is_err_and c.from_residual.result c.from_residual.ensures.1 in
    rw (p.1, p.2) (c.in_err-frame.ensures (way g))

pub returns-in_err-head : goal.returns-in_err-head
returns-in_err-head g c =
    let p = err_from_is_err_and c.from_residual-in_err-head.result c.from_residual-in_err-head.ensures.1 in
    rw (p.1, p.2, ← c.in_ok-frame.ensures) (head_refused (way g) (lawful g) c.in_ok-frame.frame.string.now c.in_ok-frame.frame.kept _ c.in_err-head.ensures)

pub returns-in_err-rest : goal.returns-in_err-rest
returns-in_err-rest g c =
    let p = err_from_is_err_and c.from_residual-in_err-rest.result c.from_residual-in_err-rest.ensures.1 in
    rw (p.1, p.2, ← c.in_ok-frame.ensures)
    (rest_refused (way g) (lawful g) c.in_ok-frame.frame.string.now c.in_ok-frame.frame.kept c.in_ok-head.ensures.0 _ (search rules) _ c.in_err-rest.ensures)

pub returns-in-None : goal.returns-in-None
returns-in-None g c =
    let k = c.in_ok-head.ensures in
    let r = c.in_ok-rest.ensures in
    rw (← c.in_ok-frame.ensures)
    (response_read (way g) (lawful g) c.in_ok-frame.frame.string.now c.in_ok-frame.frame.kept k.0 _ (search rules) r.0 r.1 c.in_ok-head.head k.1 (search rules))

pub returns-in-Some : goal.returns-in-Some
returns-in-Some g c =
    let k = c.in_ok-head.ensures in
    let r = c.in_ok-rest.ensures in
    rw (← c.in_ok-frame.ensures)
    (message_read (way g) (lawful g) c.in_ok-frame.frame.string.now c.in_ok-frame.frame.kept k.0 _ (search rules) r.0 r.1 c.in_ok-head.head k.1 c.in-Some.label c.in_ok-rest.rest (search rules) r.2)
