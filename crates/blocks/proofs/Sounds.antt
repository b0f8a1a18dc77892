-- Characters that keep the rules of their places make sound fields, which lay them out again. Assumes nothing.
use Rattle.std.proofs.Common.{◌≡◌, ℕ, zero, suc, ◌+◌, ◌-◌, ◌<◌, ◌≤◌, Bool, true, false, ◌&&◌, ◌||◌, eqb, ltb, leb, List, [], ◌∷◌, ◌++◌, map, length, sym, refl, ap, ◌∙◌, subst, inl, inr, arith, lit<, lit≤}
use Rattle.std.specs.List.{range_with_len}
use Rattle.std.proofs.lemmas.List.FromFn.{length-map-range_with_len, get_or-map-range_with_len}
use Rattle.std.proofs.lemmas.Bool.{eqb-true, and_parts, cases_eq, ne_eqb, leb-true, ltb-true}
use Rattle.std.proofs.lemmas.Bool.Decides.{nat_tests}
use Rattle.directions.specs.Rings.{RingRule, member}
use Rattle.directions.specs.TextRules.{TextRule}
use Rattle.blocks.specs.Fields.{response, message, headed, tailed, laid, enclosed}
use Rattle.octets.specs.Parity.{octet}
use Rattle.blocks.specs.Legal.{Way, at, acknowledges, is_label, text_allows, text_length, head_allows, Sound, TextKept, Legal}
use Rattle.blocks.specs.Places.{Kept, possible, is_response, acknowledgment_of}
use Rattle.blocks.proofs.Steps.{text_rule, suffix_rule, start_rule}
use Rattle.blocks.proofs.Strings.{chars, string_of}
use Rattle.blocks.proofs.Shapes.{Lawful, Shaped, twelve, head_at, fields_if, fields_at, head_laid, all_laid, tail_laid}

-- an acknowledgment read from a character that its rule allows is sound
acknowledges_of : (r : RingRule) (c : ℕ) → (eqb c 21 || member r c) ≡ true → acknowledges r (acknowledgment_of c) ≡ true
acknowledges_of r c h = grind (arith, nat_tests)

length_fits : (t : TextRule) → t.opening + t.room ≡ 220 → (last : Bool) (m : ℕ) → t.opening ≤ m → m ≤ 220 → 0 < m → text_length t last m ≡ true
length_fits t f last m a b c = grind (arith, nat_tests)

module _ (w : Way) (l : Lawful w) (g : ℕ → ℕ) where
  -- the head of a response, and of a message block
  head_of_response : (n : ℕ) → 17 ≤ n → Kept w n g 1 13 → (p : ℕ) → 1 ≤ p → p ≤ 12 → head_allows w (response (head_at g)) p ≡ true
  head_of_response n h k p a b =
      twelve (λ q. head_allows w (response (head_at g)) q ≡ true)
      refl (k 2 (lit≤ tt) (lit< tt)) (k 3 (lit≤ tt) (lit< tt)) (k 4 (lit≤ tt) (lit< tt)) (k 5 (lit≤ tt) (lit< tt)) (k 6 (lit≤ tt) (lit< tt))
      (k 7 (lit≤ tt) (lit< tt)) (k 8 (lit≤ tt) (lit< tt)) (acknowledges_of w.other (g 9) (k 9 (lit≤ tt) (lit< tt))) refl refl (k 12 (lit≤ tt) (lit< tt))
      p a (omega arith)

  head_of_message : (n : ℕ) (last : Bool) (text : List ℕ) → is_response (g 10) (g 11) ≡ false → Kept w n g 1 13 →
      (p : ℕ) → 1 ≤ p → p ≤ 12 → head_allows w (message (head_at g) (g 10 ∷ g 11 ∷ []) last text) p ≡ true
  head_of_message n last text r k p a b =
      let second : is_label (g 11) ≡ true = let h = k 11 (lit≤ tt) (lit< tt) in grind (arith, nat_tests) in
      twelve (λ q. head_allows w (message (head_at g) (g 10 ∷ g 11 ∷ []) last text) q ≡ true)
      refl (k 2 (lit≤ tt) (lit< tt)) (k 3 (lit≤ tt) (lit< tt)) (k 4 (lit≤ tt) (lit< tt)) (k 5 (lit≤ tt) (lit< tt)) (k 6 (lit≤ tt) (lit< tt))
      (k 7 (lit≤ tt) (lit< tt)) (k 8 (lit≤ tt) (lit< tt)) (acknowledges_of w.other (g 9) (k 9 (lit≤ tt) (lit< tt))) (k 10 (lit≤ tt) (lit< tt)) second (k 12 (lit≤ tt) (lit< tt))
      p a (omega arith)

  -- sound fields that lay out the characters
  pub record Fielded (t : Bool) (n : ℕ) : Type 0 where
    pub sound : Sound w (fields_if t g n)
    pub is : laid (fields_if t g n) ≡ chars g n

  mode : (n : ℕ) → Kept w n g 1 13 → g 1 ≡ 50
  mode n k = eqb-true (g 1) 50 (k 1 (lit≤ tt) (lit< tt))

  response_fielded : is_response (g 10) (g 11) ≡ true → Kept w 17 g 1 14 → Fielded true 17
  response_fielded r k =
      let h : Kept w 17 g 1 13 = λ p a b. k p a (omega arith) in
      let both = and_parts (eqb (g 10) 95) (eqb (g 11) 127) r in
      let m : g 13 ≡ 3 = eqb-true (g 13) 3 (k 13 (lit≤ tt) (lit< tt)) in
      record {
        sound = record { sized = length-map-range_with_len g 2 7; head = head_of_response 17 (lit≤ tt) h; text = tt };
        is = head_laid g 95 127 (3 ∷ []) (mode 17 h) (sym (eqb-true (g 10) 95 both.0)) (sym (eqb-true (g 11) 127 both.1)) ∙
            ap (λ (c : ℕ). map g (range_with_len 1 12) ++ (c ∷ [])) (sym m);
      }

  empty_fielded : is_response (g 10) (g 11) ≡ false → w.text.opening ≡ 0 → Kept w 17 g 1 14 → Fielded false 17
  empty_fielded r o k =
      let h : Kept w 17 g 1 13 = λ p a b. k p a (omega arith) in
      let t : eqb (g 13) 3 ≡ true = k 13 (lit≤ tt) (lit< tt) in
      let m : g 13 ≡ 3 = eqb-true (g 13) 3 t in
      record {
        sound = record {
          sized = (length-map-range_with_len g 2 7, refl);
          head = head_of_message 17 (eqb (g 13) 3) [] r h;
          text = (grind (arith, nat_tests), λ i u. absurd (omega arith));
        };
        is = head_laid g (g 10) (g 11) (3 ∷ []) (mode 17 h) refl refl ∙ ap (λ (c : ℕ). map g (range_with_len 1 12) ++ (c ∷ [])) (sym m);
      }

  module _ (n : ℕ) (least : 18 < n) (most : n ≤ 238) (opened : 18 + w.text.opening ≤ n) (k : Kept w n g 1 (n - 3)) where
    abbrev text : List ℕ
    text = map g (range_with_len 14 (n - 4 - 14))

    text_long : length text ≡ n - 4 - 14
    text_long = length-map-range_with_len g 14 (n - 4 - 14)

    text_at : (i : ℕ) → i < n - 4 - 14 → at text i ≡ g (14 + i)
    text_at i h = get_or-map-range_with_len g 14 (n - 4 - 14) i (14 + i) 0 h refl

    started : g 13 ≡ 2
    started = eqb-true (g 13) 2 (sym (start_rule w n (g 12) (g 13) least) ∙ k 13 (lit≤ tt) (omega arith))

    before_at : (i : ℕ) → i < n - 4 - 14 → at (2 ∷ text) i ≡ g (14 + i - 1)
    before_at zero h = sym started
    before_at (suc i) h = text_at i (omega arith) ∙ ap g (let e : 14 + i ≡ 14 + suc i - 1 = omega arith in e)

    text_kept : TextKept w (message (head_at g) (g 10 ∷ g 11 ∷ []) (eqb (g (n - 4)) 3) text)
    text_kept = (
      subst (λ (m : ℕ). text_length w.text (eqb (g (n - 4)) 3) m ≡ true) (sym text_long)
          (length_fits w.text l.text.full (eqb (g (n - 4)) 3) (n - 4 - 14) (omega arith) (omega arith) (omega arith)),
      λ i h.
          let u : i < n - 4 - 14 = omega (arith, text_long) in
          let r = k (14 + i) (omega arith) (omega arith) in
          let q : text_allows w.text (14 + i - 14) (g (14 + i - 1)) (g (14 + i)) ≡ true = sym (text_rule w n (14 + i) (g (14 + i - 1)) (g (14 + i)) (omega arith) (omega arith) (λ z. omega arith)) ∙ r in
          let z : 14 + i - 14 ≡ i = omega arith in
          subst (λ (c : ℕ). text_allows w.text i (at (2 ∷ text) i) c ≡ true) (sym (text_at i u))
          (subst (λ (b : ℕ). text_allows w.text i b (g (14 + i)) ≡ true) (sym (before_at i u))
          (subst (λ (j : ℕ). text_allows w.text j (g (14 + i - 1)) (g (14 + i)) ≡ true) z q)),
    )

    text_fielded : is_response (g 10) (g 11) ≡ false → Fielded false n
    text_fielded r =
        let h : Kept w n g 1 13 = λ p a b. k p a (omega arith) in
        let e : n - 4 - 14 ≡ suc (n - 19) = omega arith in
        let e₂ : suc (suc (suc (n - 19))) ≡ n - 16 = omega arith in
        let s = sym (suffix_rule w n (n - 4) (g (n - 4 - 1)) (g (n - 4)) refl least) ∙ k (n - 4) (omega arith) (omega arith) in
        let tl : tailed (eqb (g (n - 4)) 3) text ≡ map g (range_with_len 13 (n - 16)) =
        ap (λ (j : ℕ). tailed (eqb (g (n - 4)) 3) (map g (range_with_len 14 j))) e ∙
        tail_laid g (n - 19) (n - 4) (omega arith) started s ∙ ap (λ (j : ℕ). map g (range_with_len 13 j)) e₂ in
        record {
          sound = record { sized = (length-map-range_with_len g 2 7, refl); head = head_of_message n (eqb (g (n - 4)) 3) text r h; text = text_kept };
          is = ap (λ (xs : List ℕ). headed (head_at g) (g 10 ∷ g 11 ∷ []) xs) tl ∙
              head_laid g (g 10) (g 11) (map g (range_with_len 13 (n - 16))) (mode n h) refl refl ∙ sym (all_laid g n (omega arith));
        }

  -- the characters of a block of n octets are those of sound fields
  pub shaped_fielded : (n : ℕ) → Shaped w n g → Fielded (is_response (g 10) (g 11)) n
  shaped_fielded n s = go (is_response (g 10) (g 11)) refl s.fits
    where
      at_17 : (t : Bool) → is_response (g 10) (g 11) ≡ t → possible w t 17 ≡ true → Kept w 17 g 1 14 → Fielded t 17
      at_17 true r f k = response_fielded r k
      at_17 false r f k = empty_fielded r (eqb-true w.text.opening 0 f) k

      long : (m : ℕ) → (m ≡ 17 → ⊥) → (t : Bool) → is_response (g 10) (g 11) ≡ t → possible w t m ≡ true → m ≤ 238 → Kept w m g 1 (m - 3) → Fielded t m
      long m ne true r f u k = absurd (ne (eqb-true m 17 f))
      long m ne false r f u k =
          let z : eqb m 17 ≡ false = ne_eqb m 17 ne in
          let h : (ltb 18 m && leb (18 + w.text.opening) m) ≡ true = rw z at f in
          let p = and_parts (ltb 18 m) (leb (18 + w.text.opening) m) h in
          text_fielded m (ltb-true 18 m p.0) u (leb-true (18 + w.text.opening) m p.1) k r

      go : (t : Bool) → is_response (g 10) (g 11) ≡ t → possible w t n ≡ true → Fielded t n
      go t r f =
          elim (cases_eq n 17) [
            | inl e ↦ subst (λ (m : ℕ). possible w t m ≡ true → Kept w m g 1 (m - 3) → Fielded t m) (sym e) (at_17 t r) f s.kept
            | inr ne ↦ long n ne t r f s.most s.kept
          ]

  pub shaped_legal : (n : ℕ) → Shaped w n g → Legal w (string_of g n)
  shaped_legal n s =
      let f = shaped_fielded n s in
      record { fields = fields_at g n; sound = f.sound; made = ap (λ (xs : List ℕ). enclosed (map octet xs)) (sym f.is) }
