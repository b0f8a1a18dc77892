-- A framed string is the string of its own characters. Assumes nothing.
use Rattle.std.proofs.Common.{◌≡◌, ℕ, zero, suc, ◌+◌, ◌-◌, ◌<◌, ◌≤◌, List, [], ◌∷◌, map, length, drop, sym, refl, ap, ◌∙◌, inl, inr, arith, length-drop, length-take}
use Rattle.std.proofs.lemmas.List.FromFn.{length-map-range_with_len, get_or-map-range_with_len}
use Rattle.std.proofs.lemmas.List.{get_or-map, get_or-append_right, get_or-take, get_or-drop, ext_get_or}
use Rattle.std.proofs.lemmas.Bool.{cases_lt, cases_order}
use Rattle.octets.specs.Parity.{character, octet}
use Rattle.octets.specs.Check.{check, low, high}
use Rattle.octets.proofs.Laws.{octet_character}
use Rattle.blocks.specs.Legal.{at}
use Rattle.blocks.specs.Reading.{covered}
use Rattle.blocks.specs.Places.{ch, FrameKept}
use Rattle.blocks.proofs.Strings.{chars, string_of, body_length, string_length, string_at}

module _ (s : List ℕ) (f : FrameKept s) where
  least : 17 ≤ length s
  least = f.framed.long.least

  pub started : ch s 0 ≡ 1
  started = ap character f.framed.delimited.first

  octets_again : (p : ℕ) → p + 3 < length s → octet (ch s p) ≡ at s p
  octets_again p h = let o = f.octets p (inl h) in octet_character (at s p) o.1 o.0

  covered_long : length (covered s) ≡ length s - 4
  covered_long = length-take (length s - 3 - 1) (drop 1 s) ∙ (let e = length-drop 1 s in omega (arith, e, least))

  covered_is : covered s ≡ map octet (chars (ch s) (length s))
  covered_is =
      let b = body_length (ch s) (length s) in
      let v = length-map-range_with_len (ch s) 1 (length s - 4) in
      ext_get_or 0 (covered s) (map octet (chars (ch s) (length s))) (covered_long ∙ sym b)
      (λ i h.
      let u : i < length s - 4 = omega (arith, covered_long) in
      get_or-take (length s - 3 - 1) (drop 1 s) i 0 (omega arith) ∙ get_or-drop 1 s i 0 ∙
      sym (octets_again (1 + i) (omega arith)) ∙
      sym (get_or-map octet (chars (ch s) (length s)) i 0 0 (omega (arith, v)) ∙ ap octet (get_or-map-range_with_len (ch s) 1 (length s - 4) i (1 + i) 0 u refl)))

  -- the last three octets
  ends : (k : ℕ) → k < 3 → (p : ℕ) → p ≡ length s - 3 + k →
      at (string_of (ch s) (length s)) p ≡ at (low (check (covered s)) ∷ high (check (covered s)) ∷ 127 ∷ []) k
  ends k h zero e = absurd (omega (arith, least))
  ends k h (suc p) e =
      let b = map octet (chars (ch s) (length s)) in
      let z : p - (length s - 4) ≡ k = omega (arith, least) in
      get_or-append_right b (low (check b) ∷ high (check b) ∷ 127 ∷ []) (length s - 4) p 0 (body_length (ch s) (length s)) (omega (arith, least)) ∙
      ap (λ (j : ℕ). at (low (check b) ∷ high (check b) ∷ 127 ∷ []) j) z ∙
      ap (λ (xs : List ℕ). at (low (check xs) ∷ high (check xs) ∷ 127 ∷ []) k) (sym covered_is)

  pub string_again : s ≡ string_of (ch s) (length s)
  string_again =
      let n = string_length (ch s) (length s) (omega (arith, least)) in
      ext_get_or 0 s (string_of (ch s) (length s)) (sym n) (λ p h. sym (each p h))
    where
      last : (p : ℕ) → p < length s → length s - 2 < p → at (string_of (ch s) (length s)) p ≡ at s p
      last p h u =
          let e : p ≡ length s - 3 + 2 = omega (arith, least) in
          let q : length s - 1 ≡ p = omega (arith, least) in
          ends 2 (omega arith) p e ∙ sym f.framed.delimited.last ∙ ap (at s) q

      tail : (p : ℕ) → p < length s → length s - 3 ≤ p → at (string_of (ch s) (length s)) p ≡ at s p
      tail p h u =
          elim (cases_order p (length s - 2)) [
            | inl e ↦ ends 1 (omega arith) p (omega (arith, least)) ∙ sym f.framed.checked.upper ∙ ap (at s) (sym e)
            | inr o ↦ elim o [
              | inl v ↦ let e : length s - 3 ≡ p = omega arith in ends 0 (omega arith) p (omega arith) ∙ sym f.framed.checked.lower ∙ ap (at s) e
              | inr v ↦ last p h v
            ]
          ]

      each : (p : ℕ) → p < length s → at (string_of (ch s) (length s)) p ≡ at s p
      each p h =
          elim (cases_lt p (length s - 3)) [
            | inl u ↦ string_at (ch s) (length s) p started u ∙ octets_again p (omega arith)
            | inr u ↦ tail p h u
          ]
