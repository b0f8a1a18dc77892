-- A string of characters that keep their rules is framed as a block. Assumes nothing.
use Rattle.std.proofs.Common.{◌≡◌, ℕ, zero, suc, ◌+◌, ◌-◌, ◌<◌, ◌≤◌, List, [], ◌∷◌, ◌++◌, map, length, take, sym, refl, ap, ◌∙◌, inl, inr, arith}
use lib.Count.{ones}
use Rattle.std.proofs.lemmas.List.{get_or-append_right, take_at}
use Rattle.octets.specs.Parity.{octet, odd}
use Rattle.octets.specs.Check.{check, low, high}
use Rattle.octets.proofs.Laws.{octet_odd}
use Rattle.blocks.specs.Legal.{Way, at}
use Rattle.blocks.specs.Reading.{Framed, covered, OddOutside}
use Rattle.blocks.proofs.Strings.{chars, string_of, body_length, string_length, string_at}
use Rattle.blocks.proofs.Shapes.{Lawful, Shaped}
use Rattle.blocks.proofs.Unlike.{kept_seven}

module _ (w : Way) (l : Lawful w) (n : ℕ) (g : ℕ → ℕ) (s : Shaped w n g) where
  abbrev body : List ℕ
  body = map octet (chars g n)

  abbrev t : List ℕ
  t = string_of g n

  least : 17 ≤ n
  least = s.least

  long : length t ≡ n
  long = string_length g n (omega (arith, least))

  covered_is : covered t ≡ body
  covered_is =
      let e : length t - 3 - 1 ≡ n - 4 = omega (arith, long) in
      ap (λ (k : ℕ). take k (body ++ (low (check body) ∷ high (check body) ∷ 127 ∷ []))) e ∙
      take_at body (low (check body) ∷ high (check body) ∷ 127 ∷ []) (n - 4) (body_length g n)

  -- the octet k places past the last character
  end_at : (k p : ℕ) → p ≡ n - 3 + k → at t p ≡ at (low (check body) ∷ high (check body) ∷ 127 ∷ []) k
  end_at k zero e = absurd (omega (arith, least))
  end_at k (suc p) e =
      let z : p - (n - 4) ≡ k = omega (arith, least) in
      get_or-append_right body (low (check body) ∷ high (check body) ∷ 127 ∷ []) (n - 4) p 0 (body_length g n) (omega (arith, least)) ∙
      ap (λ (j : ℕ). at (low (check body) ∷ high (check body) ∷ 127 ∷ []) j) z

  odd_all : OddOutside t
  unfolding ones
  odd_all p o =
      elim o [
        | inl h ↦ let u : p < n - 3 = omega (arith, long) in
            ap odd (string_at g n p s.start u) ∙ octet_odd (g p) (kept_seven w l n g s p u)
        | inr h ↦ ap odd (end_at 2 p (omega (arith, long, least)))
      ]

  pub framed : Framed t
  framed = record {
    long = record { least = omega (arith, long, least); most = omega (arith, long, s.most) };
    parity = odd_all;
    delimited = record { first = refl; last = end_at 2 (length t - 1) (omega (arith, long, least)) };
    checked = record {
      lower = end_at 0 (length t - 3) (omega (arith, long, least)) ∙ ap (λ (xs : List ℕ). low (check xs)) (sym covered_is);
      upper = end_at 1 (length t - 2) (omega (arith, long, least)) ∙ ap (λ (xs : List ℕ). high (check xs)) (sym covered_is);
    };
  }
