-- A step distributes over XOR, and so do n steps. So n steps of a value are its high part XOR the n steps of its n low bits, and
-- eight steps can be read off a table of 256 entries.
-- Assumes nothing.
use Rattle.std.proofs.Common.{◌≡◌, ℕ, zero, suc, ◌*◌, ◌/◌, ◌%◌, ◌^◌, ◌<◌, cond, eqb, refl, ap, ◌∙◌, mod-lt, mul-one, arith, pow_pos}
use Rattle.std.specs.Int.Bits.{bit_xor, xor_assoc, xor_shifted, xor_zero_r, shifted_even, shifted_half}
use Rattle.std.proofs.Math.Pow.{split}
use Rattle.std.proofs.lemmas.Nat.{xor_comm, xor_mod, xor_shr}
use Rattle.octets.specs.Check.{shifted, steps, advance}

-- what a step XORs in, by the bit that falls out
abbrev fed : ℕ → ℕ
fed d = cond (eqb d 1) 33800 0

fed_xor : (d e : ℕ) → d < 2 → e < 2 → fed (bit_xor d e) ≡ bit_xor (fed d) (fed e)
fed_xor zero e hd he = refl
fed_xor (suc zero) zero hd he = refl
fed_xor (suc zero) (suc zero) hd he = refl
fed_xor (suc zero) (suc (suc e)) hd he = absurd (omega arith)
fed_xor (suc (suc d)) e hd he = absurd (omega arith)

shifted_is : (v : ℕ) → shifted v ≡ bit_xor (v / 2) (fed (v % 2))
unfolding shifted
shifted_is v = grind (arith, xor_zero_r)

regroup : (a b c d : ℕ) → bit_xor (bit_xor a b) (bit_xor c d) ≡ bit_xor (bit_xor a c) (bit_xor b d)
regroup a b c d = simp xor_assoc (cc (xor_comm b c, xor_assoc b c d, xor_assoc c b d))

shifted_xor : (a b : ℕ) → shifted (bit_xor a b) ≡ bit_xor (shifted a) (shifted b)
shifted_xor a b =
    let low = fed_xor (a % 2) (b % 2) (omega arith) (omega arith) in
    simp (shifted_is, xor_shr a b 1, xor_mod a b 1, low) (regroup (a / 2) (b / 2) (fed (a % 2)) (fed (b % 2)))

steps_xor : (n a b : ℕ) → steps n (bit_xor a b) ≡ bit_xor (steps n a) (steps n b)
unfolding steps
steps_xor zero a b = refl
steps_xor (suc n) a b = rw shifted_xor (steps_xor n (shifted a) (shifted b))

-- n steps take n zeros off the low end
steps_high : (n a : ℕ) → steps n (a * 2 ^ n) ≡ a
unfolding steps
steps_high zero a = mul-one a
steps_high (suc n) a =
    ap (steps n) (simp (shifted_is, shifted_half a n, shifted_even a n) (xor_zero_r (a * 2 ^ n))) ∙ steps_high n a

-- the high part, XOR the steps of the low part
steps_split : (n v : ℕ) → steps n v ≡ bit_xor (v / 2 ^ n) (steps n (v % 2 ^ n))
steps_split n v =
    let s = split v n in
    let x = xor_shifted (v / 2 ^ n) n (v % 2 ^ n) (mod-lt v (pow_pos n)) in
    cc (steps_xor n (v / 2 ^ n * 2 ^ n) (v % 2 ^ n), steps_high n (v / 2 ^ n))

-- one more octet, from the eight steps of the low octet alone
pub advance_by_low : (v o : ℕ) → o < 256 → bit_xor (v / 256) (steps 8 (bit_xor v o % 256)) ≡ advance v o
unfolding advance
advance_by_low v o h =
    let e : o / 256 ≡ 0 = omega arith in
    cc (steps_split 8 (bit_xor v o), xor_shr v o 8, xor_zero_r (v / 256))
