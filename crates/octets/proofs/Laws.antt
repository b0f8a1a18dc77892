-- What the definitions of parity and check give their users.
-- Assumes nothing.
use Rattle.std.proofs.Common.{◌≡◌, ℕ, zero, suc, ◌+◌, ◌*◌, ◌/◌, ◌%◌, ◌^◌, ◌<◌, Bool, true, false, cond, not, eqb, List, [], ◌∷◌, length, get_or, sym, ap, ◌∙◌, suc-le-suc, zero-lt-suc, arith, lit<}
use Rattle.std.specs.Prelude.{count_ones}
use Rattle.std.specs.Int.Bits.{bit_xor}
use Rattle.std.specs.Int.Count.{ones}
use Rattle.std.proofs.lemmas.Bool.Decides.{nat_tests}
use Rattle.std.proofs.lemmas.Nat.{xor_lt, ones_cat}
use Rattle.octets.specs.Check.{shifted, steps, advance, check_from, check}
use Rattle.octets.specs.Parity.{character, odd, octet}

-- ---- parity

-- the eighth bit is one more one
ones_eighth : (c : ℕ) → c < 128 → count_ones (c + 128) ≡ suc (count_ones c)
unfolding ones
ones_eighth c h =
    let e : c + 128 ≡ 1 * 2 ^ 7 + c = omega arith in
    let k : count_ones (1 * 2 ^ 7 + c) ≡ 1 + count_ones c = ones_cat 7 1 c h in
    ap count_ones e ∙ k ∙ omega arith

-- so it turns the parity
odd_eighth : (c : ℕ) → c < 128 → odd (c + 128) ≡ not (odd c)
odd_eighth c h = let k : count_ones (c + 128) ≡ suc (count_ones c) = ones_eighth c h in grind (arith, nat_tests)

-- the octet of a character has odd parity
pub octet_odd : (c : ℕ) → c < 128 → odd (octet c) ≡ true
octet_odd c h = let k : odd (c + 128) ≡ not (odd c) = odd_eighth c h in grind (arith, nat_tests)

-- the octet of a character carries the character
pub character_octet : (c : ℕ) → c < 128 → character (octet c) ≡ c
character_octet c h = grind arith

-- an octet of odd parity is the octet of its character
pub octet_character : (o : ℕ) → o < 256 → odd o ≡ true → octet (character o) ≡ o
octet_character o h q =
    let e : o % 128 + 128 ≡ o → odd o ≡ not (odd (o % 128)) = λ s. ap odd (sym s) ∙ odd_eighth (o % 128) (omega arith) in grind (arith, nat_tests)

-- ---- check

-- a step keeps a value within 16 bits
shifted_fits : (v : ℕ) → v < 65536 → shifted v < 65536
unfolding shifted
shifted_fits v h = go (eqb (v % 2) 1)
  where
    go : (t : Bool) → cond t (bit_xor (v / 2) 33800) (v / 2) < 65536
    go true = xor_lt 16 (v / 2) 33800 (omega arith) (lit< tt)
    go false = omega arith

steps_fits : (n v : ℕ) → v < 65536 → steps n v < 65536
unfolding steps
steps_fits zero v h = h
steps_fits (suc n) v h = steps_fits n (shifted v) (shifted_fits v h)

-- one more octet keeps the value within 16 bits
pub advance_fits : (v o : ℕ) → v < 65536 → o < 256 → advance v o < 65536
unfolding advance
advance_fits v o h k = steps_fits 8 (bit_xor v o) (xor_lt 16 v o h (omega arith))

-- octets keep the value within 16 bits
pub check_from_fits : (v : ℕ) (os : List ℕ) → v < 65536 → ((k : ℕ) → k < length os → get_or os k 0 < 256) → check_from v os < 65536
unfolding check_from
check_from_fits v [] h b = h
check_from_fits v (o ∷ os) h b =
    check_from_fits (advance v o) os (advance_fits v o h (b zero (zero-lt-suc (length os)))) (λ k l. b (suc k) (suc-le-suc l))

-- the check of octets fits 16 bits
pub check_fits : (os : List ℕ) → ((k : ℕ) → k < length os → get_or os k 0 < 256) → check os < 65536
unfolding check
check_fits os b = check_from_fits 0 os (lit< tt) b
