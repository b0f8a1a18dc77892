use Rattle.std.proofs.Common.{◌≡◌, [], length, vec_items}
use Rattle.paths.specs.Fates.{coming}
use Rattle.lines.specs.Layouts.{framed}
use Rattle.lines.specs.Stored.{seen_in}
use Rattle.air_trials.proofs.Foretold.{comes_out}
use Rattle.air_trials.proofs.layers.spoiled_comes_out.Goals as goal

pub returns : goal.returns
returns c = λ sized long fits.
    let before = c.new-path.result in
    let after = c.put.new.self in
    let last = c.take.new.self in
    let empty : seen_in framed before.below.store ≡ record { room = length (vec_items c.args.memory.octets); waiting = [] } = rw c.new-path.ensures.below c.new-line.ensures in
    comes_out (record { fates = coming before.fates; below = seen_in framed before.below.store }) (record { fates = coming after.fates; below = seen_in framed after.below.store }) c.args.s.now (length (vec_items c.args.memory.octets)) c.new-path.ensures.fates empty c.in_ok-put.ensures.exact.1 fits (record { fates = coming last.fates; below = seen_in framed last.below.store }) c.args.buffer.now c.take.new.buffer c.take.result c.take.ensures.exact long
