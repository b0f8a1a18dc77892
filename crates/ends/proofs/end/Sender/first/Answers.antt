use Rattle.std.proofs.Common.{◌≡◌, ℕ, ◌<◌, ◌≤◌, true, false, Some, None, arith, rules}
use Rattle.std.proofs.lemmas.Iterator.{first_from_Range}
use Rattle.stores.specs.Held.{held, record_at}
use Rattle.ends.proofs.Founds.{passes, passed, place_none, first_found}
use Rattle.ends.proofs.end.Sender.first.Goals as goal

pub returns-in_err-place : goal.returns-in_err-place
returns-in_err-place g c = λ p fits.
    let cs = held c.args.self.now.cells in
    let h : (k : ℕ) → 0 ≤ k → k < c.len.result → passes p (record_at k cs) ≡ false =
    first_from_Range _ _ _ None (λ i. passes p (record_at i cs) ≡ true) (λ i. passes p (record_at i cs) ≡ false) c.in_err-place.ensures.ran
    (λ x q k. search (rules, passed)) (λ x q k. (search rules, search (rules, passed))) in
    rw c.from_residual.ensures (place_none p cs (λ k l. h k (omega arith) (omega arith)))

pub returns : goal.returns
returns g c = λ p fits.
    let cs = held c.args.self.now.cells in
    let i = c.in_ok-place.place in
    let h : (0 ≤ i) × (i < c.len.result) × (passes p (record_at i cs) ≡ true) × ((k : ℕ) → 0 ≤ k → k < i → passes p (record_at k cs) ≡ false) =
    first_from_Range _ _ _ (Some i) (λ i. passes p (record_at i cs) ≡ true) (λ i. passes p (record_at i cs) ≡ false) c.in_ok-place.ensures.ran
    (λ x q k. search (rules, passed)) (λ x q k. (search rules, search (rules, passed))) in
    first_found p cs i c.message_at.result c.message_at.ensures h.2 h.3
