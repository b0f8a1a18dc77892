use Rattle.std.proofs.Common.{◌≡◌, ℕ, List, rules, lit≤}
use Rattle.std.proofs.lemmas.Result.{err_from_is_err_and}
use Rattle.blocks.specs.Legal.{Way}
use Rattle.blocks.specs.Places.{ch, Kept}
use Rattle.blocks.proofs.Steps.{kept_on, broken_on}
use Rattle.blocks.proofs.frame.Frame.head.Goals as goal
use Rattle.blocks.proofs.frame.Frame.head.Given as given

abbrev way : given.Over → Way
way g = record { own = g.D.Ring.ring; other = g.D.Other.Ring.ring; text = g.D.Direction.text }

mode : (w : Way) (s : List ℕ) → ch s 1 ≡ 50 → Kept w 17 (ch s) 1 2
mode w s e = search rules

pub returns-in_err-address : goal.returns-in_err-address
returns-in_err-address g c =
    let p = err_from_is_err_and c.from_residual.result c.from_residual.ensures.1 in
    let s = c.args.self.string.now in
    let k1 = mode (way g) s (search rules) in
    rw (p.1, p.2) (broken_on (way g) s 1 2 9 13 _ (lit≤ tt) (lit≤ tt) k1 (c.in_err-address.ensures (way g)))

pub returns-in_err-acknowledgment : goal.returns-in_err-acknowledgment
returns-in_err-acknowledgment g c =
    let p = err_from_is_err_and c.from_residual-in_err-acknowledgment.result c.from_residual-in_err-acknowledgment.ensures.1 in
    let s = c.args.self.string.now in
    let k1 = mode (way g) s (search rules) in
    let k9 = kept_on (way g) 17 s 1 2 9 k1 (c.in_ok-address.ensures (way g)).0 in
    rw (p.1, p.2) (broken_on (way g) s 1 9 10 13 _ (lit≤ tt) (lit≤ tt) k9 c.in_err-acknowledgment.ensures)

pub returns-in_err-label : goal.returns-in_err-label
returns-in_err-label g c =
    let p = err_from_is_err_and c.from_residual-in_err-label.result c.from_residual-in_err-label.ensures.1 in
    let s = c.args.self.string.now in
    let k1 = mode (way g) s (search rules) in
    let k9 = kept_on (way g) 17 s 1 2 9 k1 (c.in_ok-address.ensures (way g)).0 in
    let k10 = kept_on (way g) 17 s 1 9 10 k9 c.in_ok-acknowledgment.ensures.0 in
    rw (p.1, p.2) (broken_on (way g) s 1 10 12 13 _ (lit≤ tt) (lit≤ tt) k10 (c.in_err-label.ensures (way g)))

pub returns-in_err-identifier : goal.returns-in_err-identifier
returns-in_err-identifier g c =
    let p = err_from_is_err_and c.from_residual-in_err-identifier.result c.from_residual-in_err-identifier.ensures.1 in
    let s = c.args.self.string.now in
    let k1 = mode (way g) s (search rules) in
    let k9 = kept_on (way g) 17 s 1 2 9 k1 (c.in_ok-address.ensures (way g)).0 in
    let k10 = kept_on (way g) 17 s 1 9 10 k9 c.in_ok-acknowledgment.ensures.0 in
    let k12 = kept_on (way g) 17 s 1 10 12 k10 (c.in_ok-label.ensures (way g)).0 in
    rw (p.1, p.2) (broken_on (way g) s 1 12 13 13 _ (lit≤ tt) (lit≤ tt) k12 c.in_err-identifier.ensures)

pub returns : goal.returns
returns g c =
    let s = c.args.self.string.now in
    let k1 = mode (way g) s (search rules) in
    let k9 = kept_on (way g) 17 s 1 2 9 k1 (c.in_ok-address.ensures (way g)).0 in
    let k10 = kept_on (way g) 17 s 1 9 10 k9 c.in_ok-acknowledgment.ensures.0 in
    let k12 = kept_on (way g) 17 s 1 10 12 k10 (c.in_ok-label.ensures (way g)).0 in (
      kept_on (way g) 17 s 1 12 13 k12 c.in_ok-identifier.ensures.0,
      record {
        address = (c.in_ok-address.ensures (way g)).1;
        acknowledgment = c.in_ok-acknowledgment.ensures.1;
        label = (c.in_ok-label.ensures (way g)).1;
        identifier = c.in_ok-identifier.ensures.1;
      },
    )
