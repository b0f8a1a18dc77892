-- What the test of STX, text and suffix tells of the places from 13 on. Assumes nothing.
use Rattle.std.proofs.Common.{◌≡◌, ℕ, ◌+◌, ◌-◌, ◌<◌, ◌≤◌, true, false, ◌||◌, eqb, List, length, take, drop, Some, None, Option, refl, ◌∙◌, subst, inl, inr, arith, eq-eqb}
use Rattle.std.proofs.lemmas.Bool.{cases_lt}
use Rattle.std.specs.Option.{unwrap_or}
use Rattle.blocks.specs.Legal.{Way, at, text_allows}
use Rattle.blocks.specs.Places.{ch, Kept, place_rule, BrokenAt}
use Rattle.blocks.specs.Scans.{FirstFault, OfOctets}
use Rattle.blocks.proofs.Steps.{range_more, text_rule, suffix_rule, start_rule}
use Rattle.blocks.proofs.Scanning.{part_kept, part_broken}

module _ (w : Way) (s : List ℕ) (long : 18 < length s) (start : ch s 13 ≡ 2) where
  abbrev m : ℕ
  m = length s - 4 - 14

  abbrev xs : List ℕ
  xs = take m (drop 14 s)

  abbrev Text : Option ℕ → Type 0
  Text first = FirstFault (OfOctets (text_allows w.text)) (at s 13) xs first

  -- STX and the text keep their rules up to the first fault
  opened : {first : Option ℕ} → Text first → (p : ℕ) → 13 ≤ p → p < length s - 4 → p < 14 + unwrap_or first m → place_rule w (length s) p (ch s (p - 1)) (ch s p) ≡ true
  opened f p l v u =
      elim (cases_lt 13 p) [
        | inl h ↦ text_rule w (length s) p _ _ h v (λ e. omega arith) ∙ part_kept (text_allows w.text) s xs 13 m (omega arith) refl f p h u
        | inr h ↦ let e : 13 ≡ p = omega arith in
            subst (λ (q : ℕ). place_rule w (length s) q (ch s (q - 1)) (ch s q) ≡ true) e (start_rule w (length s) (ch s 12) (ch s 13) long ∙ eq-eqb _ 2 start)
      ]

  -- the first fault of the text is the first of the rest
  pub text_broken : (i : ℕ) → Text (Some i) → (14 + i < length s - 3) × BrokenAt w (length s) s 13 (14 + i)
  text_broken i f =
      let b = part_broken (text_allows w.text) s xs 13 m (omega arith) refl f in
      let h : i < m = b.0 in (
        omega arith,
        record {
          from = omega arith;
          kept = λ p l u. opened f p l (omega arith) u;
          broken = text_rule w (length s) (14 + i) _ _ (omega arith) (omega arith) (λ e. omega arith) ∙ b.1 (14 + i) refl;
        },
      )

  -- after a good text it is the suffix's
  pub suffix_broken : Text None → (eqb (ch s (length s - 4)) 3 || eqb (ch s (length s - 4)) 23) ≡ false → BrokenAt w (length s) s 13 (length s - 4)
  suffix_broken f b = record {
    from = omega arith;
    kept = λ p l u. opened f p l u (omega arith);
    broken = suffix_rule w (length s) (length s - 4) _ _ refl long ∙ b;
  }

  pub rest_kept : Text None → (eqb (ch s (length s - 4)) 3 || eqb (ch s (length s - 4)) 23) ≡ true → Kept w (length s) (ch s) 13 (length s - 3)
  rest_kept f b p l u =
      range_more (λ (q : ℕ). place_rule w (length s) q (ch s (q - 1)) (ch s q) ≡ true) 13 (length s - 4)
      (λ q k v. opened f q k v (omega arith)) (suffix_rule w (length s) (length s - 4) _ _ refl long ∙ b) p l (omega arith)
