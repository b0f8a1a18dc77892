-- The table is what eight steps make of the numbers from 0 to 255: one test, which antt computes at every entry.
use Rattle.std.proofs.Common.{◌≡◌, arith, rules}
use Rattle.std.proofs.lemmas.List.FromFn.{get_or-map-range_with_len}
use Rattle.octets.specs.Check.{shifted, steps}
use Rattle.octets.proofs.remainders.remainder.Goals as goal

pub returns : goal.returns
unfolding shifted steps
returns c =
    let e : c.from.result ≡ c.args.index = search rules in
    rw e (get_or-map-range_with_len (steps 8) 0 256 c.args.index c.args.index 0 (omega arith) (omega arith))
