-- The facts of a ring, over any size. Assumes nothing.
use Rattle.std.proofs.Common.{◌≡◌, ℕ, zero, suc, ◌+◌, ◌-◌, ◌<◌, ◌≤◌, true, false, cond, eqb, ltb, Some, arith}
use Rattle.std.proofs.lemmas.Bool.{ne_eqb}
use Rattle.std.proofs.lemmas.Bool.Decides.{nat_tests}
use Rattle.directions.specs.declared.marks.Joining.TheVariants.{Opens}
use Rattle.directions.specs.Rings.{RingRule, member, next, onward}
use Rattle.directions.specs.RingFacts.{RingFacts, NeverJoined}

-- k steps on: k places up, or, past the end, a ring's length less
along : (r : RingRule) (c k : ℕ) → member r c ≡ true → k ≤ r.size →
    onward r k c ≡ cond (ltb (c + k) (r.first + r.size)) (c + k) (c + k - r.size)
unfolding onward
along r c zero h le = grind (arith, nat_tests)
along r c (suc k) h le =
    let e : onward r k c ≡ cond (ltb (c + k) (r.first + r.size)) (c + k) (c + k - r.size) = along r c k h (omega arith) in
    rw e (grind (arith, nat_tests))

pub facts : RingFacts
facts = record {
  stays = λ r c h. grind (arith, nat_tests);
  apart = λ r c d h k e. grind (arith, nat_tests);
  away = λ r c k h p q e.
      let a = along r c k h (omega arith) in
      grind (arith, nat_tests);
  round = λ r c h.
      let a = along r c r.size h (omega arith) in
      grind (arith, nat_tests);
}

-- 2 to N − 1 steps on is not the next
not_next : (r : RingRule) (c k : ℕ) → member r c ≡ true → 2 ≤ k → k < r.size → onward r k c ≡ next r c → ⊥
not_next r c k h p q e =
    let a = along r c k h (omega arith) in
    grind (arith, nat_tests)

pub never_joined : NeverJoined
never_joined r t j last k h p q part o n e =
    let off : eqb (onward r k last) (next r last) ≡ false = ne_eqb _ _ (not_next r last k h p q) in
    let opened : t.joining (Some part) (t.mark o n 0) (eqb (onward r k last) (next r last)) ≡ Opens = rw off (j.parts part o n) in
    cc
