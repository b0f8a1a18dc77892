-- The first place at which no legal block agrees is the first that breaks its rule. Assumes nothing.
use Rattle.std.proofs.Common.{◌≡◌, ℕ, zero, suc, ◌+◌, ◌-◌, ◌<◌, ◌≤◌, Bool, true, false, cond, eqb, ltb, List, ◌∷◌, map, length, take, sym, ap, ◌∙◌, subst, inl, inr, arith, lit≤}
use Rattle.std.specs.List.{range_with_len}
use Rattle.std.proofs.lemmas.List.FromFn.{length-map-range_with_len, get_or-map-range_with_len}
use Rattle.std.proofs.lemmas.List.{ext_get_or}
use Rattle.std.proofs.lemmas.Bool.{eqb-true, or_cases, cases_lt, le-ltb, both_ways}
use Rattle.std.proofs.lemmas.Bool.Decides.{nat_tests}
use Rattle.octets.specs.Parity.{octet}
use Rattle.directions.specs.Rings.{RingRule, member, Cyclic}
use Rattle.directions.specs.TextRules.{TextRule, OpeningLaws}
use Rattle.blocks.specs.Fields.{Fields, laid, enclosed, written}
use Rattle.blocks.specs.Legal.{Way, at, address_allows, text_allows, Legal}
use Rattle.blocks.specs.Reading.{FirstUnlike, Like}
use Rattle.blocks.specs.Places.{ch, Kept, place_rule, rest_rule, possible, is_response, Octets, BrokenAt}
use Rattle.blocks.proofs.Steps.{usable}
use Rattle.blocks.proofs.Strings.{string_of, string_length, same_character, front_at}
use Rattle.blocks.proofs.Shapes.{Lawful, Shaped, twelve}
use Rattle.blocks.proofs.Sounds.{shaped_legal}
use Rattle.blocks.proofs.Layouts.{chars_of, size_of, laid_out}
use Rattle.blocks.proofs.Fills.{filled, filled_kept, started, agrees, up_to}

-- a list is made of its elements
elements : (xs : List ℕ) → xs ≡ map (at (1 ∷ xs)) (range_with_len 1 (length xs))
elements xs =
    let v = length-map-range_with_len (at (1 ∷ xs)) 1 (length xs) in
    ext_get_or 0 xs (map (at (1 ∷ xs)) (range_with_len 1 (length xs))) (sym v)
    (λ i h. sym (get_or-map-range_with_len (at (1 ∷ xs)) 1 (length xs) i (suc i) 0 h (omega arith)))

-- a legal block is the string of characters that keep their rules
pub record Shape (w : Way) (t : List ℕ) : Type 0 where
  pub g : ℕ → ℕ
  pub n : ℕ
  pub shaped : Shaped w n g
  pub is : t ≡ string_of g n

-- the string of fields is that of the characters that they lay out
pub written_is : (f : Fields) → written f ≡ string_of (chars_of f) (size_of f)
written_is f =
    let e : length (laid f) ≡ length (laid f) + 4 - 4 = omega arith in
    ap (λ (xs : List ℕ). enclosed (map octet xs)) (elements (laid f) ∙ ap (λ (k : ℕ). map (chars_of f) (range_with_len 1 k)) e)

pub legal_shape : (w : Way) → Lawful w → (t : List ℕ) → Legal w t → Shape w t
legal_shape w l t h =
    let f = h.fields in
    record { g = chars_of f; n = size_of f; shaped = (laid_out w l f h.sound).shaped; is = h.made ∙ written_is f }

member_seven : (r : RingRule) → Cyclic r → (c : ℕ) → member r c ≡ true → c < 128
member_seven r l c h = let v = l.seven in grind (arith, nat_tests)

address_seven : (i before c : ℕ) → address_allows i before c ≡ true → c < 128
address_seven i before c h = grind (arith, nat_tests)

text_seven : (t : TextRule) → OpeningLaws t → (i before c : ℕ) → text_allows t i before c ≡ true → c < 128
text_seven t l i before c h = let s = l.seven i before c in grind (arith, nat_tests)

module _ (w : Way) (l : Lawful w) where
  head_seven : (n p : ℕ) → 1 ≤ p → p < 13 → (before c : ℕ) → place_rule w n p before c ≡ true → c < 128
  head_seven n p a b =
      twelve (λ (q : ℕ). (before c : ℕ) → place_rule w n q before c ≡ true → c < 128)
      (λ before c h. grind (arith, nat_tests))
      (address_seven 0) (address_seven 1) (address_seven 2) (address_seven 3) (address_seven 4) (address_seven 5) (address_seven 6)
      (λ before c h. elim (or_cases (eqb c 21) (member w.other c) h) [ inl e ↦ omega (arith, eqb-true c 21 e) | inr e ↦ member_seven w.other l.other c e ])
      (λ before c h. grind (arith, nat_tests)) (λ before c h. grind (arith, nat_tests)) (λ before c h. member_seven w.own l.own c h)
      p a b

  rest_seven : (n p before c : ℕ) → rest_rule w n p before c ≡ true → c < 128
  rest_seven n p before c h = let s = text_seven w.text l.text (p - 14) before c in grind (arith, nat_tests)

  pub rule_seven : (n p before c : ℕ) → 1 ≤ p → place_rule w n p before c ≡ true → c < 128
  rule_seven n p before c a h =
      elim (cases_lt p 13) [
        | inl u ↦ head_seven n p a u before c h
        | inr u ↦ let t : ltb p 13 ≡ false = le-ltb p 13 u in rest_seven n p before c (rw t at h)
      ]

  -- the rules of the head do not depend on the length
  pub head_any : (n m p before c : ℕ) → p < 13 → place_rule w n p before c ≡ place_rule w m p before c
  head_any n m p before c h = grind (arith, nat_tests)

  pub kept_seven : (n : ℕ) (g : ℕ → ℕ) → Shaped w n g → (p : ℕ) → p < n - 3 → g p < 128
  kept_seven n g s zero h = omega (arith, s.start)
  kept_seven n g s (suc p) h = rule_seven n (suc p) (g (suc p - 1)) (g (suc p)) (omega arith) (s.kept (suc p) (omega arith) h)

  -- where the octets of a legal block and a string agree, so do the characters
  alike : (s t : List ℕ) (m : Shape w t) (k p : ℕ) → take (suc k) t ≡ take (suc k) s → p ≤ k → k < m.n - 3 → ch s p ≡ m.g p
  alike s t m k p e h u =
      same_character m.g m.n p s m.shaped.start (omega arith) (kept_seven m.n m.g m.shaped p (omega arith))
      (ap (λ (xs : List ℕ). at xs p) (sym m.is) ∙ front_at s t k p e h)

  -- so a broken rule is met by no legal block
  broken_none : (s t : List ℕ) (m : Shape w t) (n p : ℕ) → 1 ≤ p → p < m.n - 3 → take (suc p) t ≡ take (suc p) s →
      place_rule w m.n p (ch s (p - 1)) (ch s p) ≡ place_rule w n p (ch s (p - 1)) (ch s p) →
      place_rule w n p (ch s (p - 1)) (ch s p) ≡ false → ⊥
  broken_none s t m n p a u e same broken =
      let x = alike s t m p p e (omega arith) u in
      let y = alike s t m p (p - 1) e (omega arith) u in
      let k = m.shaped.kept p a u in
      let good : place_rule w m.n p (ch s (p - 1)) (ch s p) ≡ true =
      subst (λ (z : ℕ). place_rule w m.n p (ch s (p - 1)) z ≡ true) (sym x) (subst (λ (z : ℕ). place_rule w m.n p z (m.g p) ≡ true) (sym y) k) in
      both_ways _ broken (sym same ∙ good)

  -- the length of a block with a given head: the shortest
  abbrev shortest : Bool → ℕ
  shortest response = cond response 17 (cond (eqb w.text.opening 0) 17 (18 + w.text.opening))

  shortest_fits : (r : Bool) → possible w r (shortest r) ≡ true
  shortest_fits r = grind (arith, nat_tests)

  shortest_is : (r : Bool) → (17 ≤ shortest r) × (shortest r ≤ 238) × ((shortest r ≡ 17 → ⊥) → 18 < shortest r)
  shortest_is r = let f = l.text.full in let o = w.text.opening in (grind (arith, nat_tests), grind (arith, nat_tests), grind (arith, nat_tests))

  module _ (s : List ℕ) (start : at s 0 ≡ 1) (os : Octets s) (long : 17 ≤ length s) where
    -- a head that keeps its rules up to j goes on to a legal block
    pub head_some : (j : ℕ) → j < 13 → Kept w 17 (ch s) 1 (suc j) → (t : List ℕ) × Legal w t × (take (suc j) t ≡ take (suc j) s)
    head_some j h k =
        let r : Bool = is_response (filled w l s start os j (omega arith) 17 10) (filled w l s start os j (omega arith) 17 11) in
        let n = shortest r in
        let b = shortest_is r in
        let g = filled w l s start os j (omega arith) n in
        let kept : Kept w n (ch s) 1 (suc j) = λ p a u. head_any n 17 p (ch s (p - 1)) (ch s p) (omega arith) ∙ k p a u in
        let shape : Shaped w n g = record {
          start = started w l s start os j (omega arith) n;
          least = b.0;
          most = b.1;
          fits = shortest_fits r;
          kept = filled_kept w l s start os j (omega arith) n b.2 kept;
        } in
        (string_of g n, shaped_legal w l g n shape, agrees w l s start os j (omega arith) n (omega (arith, b.0)) (omega (arith, b.0)) (suc j) (omega arith))

    pub head_unlike : (p : ℕ) → p < 13 → BrokenAt w 17 s 1 p → FirstUnlike (Legal w) s 1 p
    head_unlike p h b = record {
      from = b.from;
      none = λ t lt e.
          let m = legal_shape w l t lt in
          let least = m.shaped.least in
          broken_none s t m 17 p b.from (omega arith) e (head_any m.n 17 p (ch s (p - 1)) (ch s p) h) b.broken;
      some = λ j a u. head_some j (omega arith) (λ q c d. b.kept q c (omega arith));
    }

    module _ (response : Bool) (is : response ≡ is_response (ch s 10) (ch s 11)) (most : length s ≤ 238) (head : Kept w 17 (ch s) 1 13) where
      -- the shape of a legal block of the same head and length
      like_long : (t : List ℕ) (k : Like w s t) → (legal_shape w l t k.legal).n ≡ length s
      like_long t k =
          let m = legal_shape w l t k.legal in
          let v = string_length m.g m.n (omega (arith, m.shaped.least)) in
          sym v ∙ ap length (sym m.is) ∙ k.long

      like_fits : (t : List ℕ) → Like w s t → possible w response (length s) ≡ true
      like_fits t k =
          let m = legal_shape w l t k.legal in
          let least = m.shaped.least in
          let x = alike s t m 12 10 k.head (lit≤ tt) (omega arith) in
          let y = alike s t m 12 11 k.head (lit≤ tt) (omega arith) in
          let r : is_response (m.g 10) (m.g 11) ≡ response = ap (λ (z : ℕ). is_response z (m.g 11)) (sym x) ∙ ap (λ (z : ℕ). is_response (ch s 10) z) (sym y) ∙ sym is in
          subst (λ (z : ℕ). possible w response z ≡ true) (like_long t k) (subst (λ (b : Bool). possible w b m.n ≡ true) r m.shaped.fits)

      -- no block of that length: the place is 13
      pub impossible_unlike : possible w response (length s) ≡ false → FirstUnlike (Like w s) s 13 13
      impossible_unlike f = record {
        from = lit≤ tt;
        none = λ t k e. both_ways _ f (like_fits t k);
        some = λ j a u. absurd (omega arith);
      }

      pub rest_unlike : possible w response (length s) ≡ true → (p : ℕ) → p < length s - 3 → BrokenAt w (length s) s 13 p → FirstUnlike (Like w s) s 13 p
      rest_unlike f p u b = record {
        from = b.from;
        none = λ t k e.
            let m = legal_shape w l t k.legal in
            let n_is = like_long t k in
            let low = b.from in
            broken_none s t m (length s) p (omega arith) (omega arith) e (ap (λ (n : ℕ). place_rule w n p (ch s (p - 1)) (ch s p)) n_is) b.broken;
        some = λ j a v.
            let n = length s in
            let wi : j + 3 < length s = omega arith in
            let g = filled w l s start os j wi n in
            let kept : Kept w n (ch s) 1 (suc j) = λ q c d.
            elim (cases_lt q 13) [ inl h ↦ head_any n 17 q (ch s (q - 1)) (ch s q) h ∙ head q c h | inr h ↦ b.kept q h (omega arith) ] in
            let x = up_to w l s start os j wi n 10 (omega arith) in
            let y = up_to w l s start os j wi n 11 (omega arith) in
            let r : response ≡ is_response (g 10) (g 11) = is ∙ ap (λ (z : ℕ). is_response z (ch s 11)) (sym x) ∙ ap (λ (z : ℕ). is_response (g 10) z) (sym y) in
            let shape : Shaped w n g = record {
              start = started w l s start os j wi n;
              least = long;
              most = most;
              fits = subst (λ (z : Bool). possible w z n ≡ true) r f;
              kept = filled_kept w l s start os j wi n (usable w response n f) kept;
            } in (
              string_of g n,
              record {
                legal = shaped_legal w l g n shape;
                long = string_length g n (omega arith);
                head = agrees w l s start os j wi n (omega arith) (omega arith) 13 (omega arith);
              },
              agrees w l s start os j wi n (omega arith) (omega arith) (suc j) (omega arith),
            );
      }
