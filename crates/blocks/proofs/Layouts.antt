-- Sound fields lay out characters that keep the rules of their places, and those make the fields again. Assumes nothing.
use Rattle.std.proofs.Common.{◌≡◌, ℕ, suc, ◌+◌, ◌-◌, ◌<◌, ◌≤◌, Bool, true, false, ◌&&◌, ◌||◌, eqb, List, [], ◌∷◌, ◌++◌, map, length, Some, None, Option, sym, refl, ap, ◌∙◌, subst, inl, inr, arith, lit≤, length-append}
use Rattle.std.specs.List.{range_with_len}
use Rattle.std.proofs.lemmas.List.FromFn.{length-map-range_with_len, get_or-map-range_with_len, fill_by_all}
use Rattle.std.proofs.lemmas.List.{get_or-drop, get_or_append_left, get_or_at, ext_get_or}
use Rattle.std.proofs.lemmas.Bool.{cases_lt, cases_order, eq-eqb, or_left, or_right}
use Rattle.std.proofs.lemmas.Bool.Decides.{nat_tests}
use Rattle.directions.specs.Rings.{RingRule, member, Cyclic}
use Rattle.blocks.specs.Fields.{Head, Fields, response, message, laid, suffix, acknowledgment_character}
use Rattle.blocks.specs.Legal.{Way, at, acknowledges, is_label, text_allows, text_length, Sound}
use Rattle.blocks.specs.Places.{place_rule, possible, is_response, acknowledgment_of}
use Rattle.blocks.proofs.Steps.{range_more, text_rule, suffix_rule, start_rule}
use Rattle.blocks.proofs.Shapes.{Lawful, Shaped, twelve, head_at, fields_if, fields_at}

-- the characters of fields by place, and how many octets they make
abbrev pub chars_of : Fields → ℕ → ℕ
chars_of f p = at (1 ∷ laid f) p

abbrev pub size_of : Fields → ℕ
size_of f = length (laid f) + 4

pub record Laid_out (w : Way) (f : Fields) : Type 0 where
  pub shaped : Shaped w (size_of f) (chars_of f)
  pub again : fields_at (chars_of f) (size_of f) ≡ f

acknowledgment_rule : (r : RingRule) (a : Option ℕ) → acknowledges r a ≡ true →
    (eqb (acknowledgment_character a) 21 || member r (acknowledgment_character a)) ≡ true
acknowledgment_rule r None h = refl
acknowledgment_rule r (Some c) h = or_right (eqb c 21) (member r c) h

-- an identifier of a ring is not NAK
acknowledgment_again : (r : RingRule) → Cyclic r → (a : Option ℕ) → acknowledges r a ≡ true → acknowledgment_of (acknowledgment_character a) ≡ a
acknowledgment_again r l None h = refl
acknowledgment_again r l (Some c) h = let p = l.printable in grind (arith, nat_tests)

-- a list of seven, and of two, by its elements
seven : (xs : List ℕ) → length xs ≡ 7 → xs ≡ map (at xs) (range_with_len 0 7)
seven xs e = fill_by_all (at xs) xs 7 0 e (λ k h. refl)

two : (xs : List ℕ) → length xs ≡ 2 → xs ≡ map (at xs) (range_with_len 0 2)
two xs e = fill_by_all (at xs) xs 2 0 e (λ k h. refl)

abbrev the_head : ℕ → ℕ → ℕ → ℕ → ℕ → ℕ → ℕ → Option ℕ → ℕ → Head
the_head a b c d e f g k i = record { address = a ∷ b ∷ c ∷ d ∷ e ∷ f ∷ g ∷ []; acknowledgment = k; identifier = i }

suffix_allowed : (last : Bool) → (eqb (suffix last) 3 || eqb (suffix last) 23) ≡ true
suffix_allowed true = refl
suffix_allowed false = refl

suffix_last : (last : Bool) → eqb (suffix last) 3 ≡ last
suffix_last true = refl
suffix_last false = refl

module _ (w : Way) (lw : Lawful w) (a b c d e f g i : ℕ) (k : Option ℕ) where
  abbrev h : Head
  h = the_head a b c d e f g k i

  response_out : Sound w (response h) → Laid_out w (response h)
  response_out s = record {
    shaped = record {
      start = refl;
      least = lit≤ tt;
      most = lit≤ tt;
      fits = refl;
      kept = range_more (λ (p : ℕ). place_rule w 17 p (chars_of (response h) (p - 1)) (chars_of (response h) p) ≡ true) 1 13
          (twelve (λ (p : ℕ). place_rule w 17 p (chars_of (response h) (p - 1)) (chars_of (response h) p) ≡ true)
          refl (s.head 2 (lit≤ tt) (lit≤ tt)) (s.head 3 (lit≤ tt) (lit≤ tt)) (s.head 4 (lit≤ tt) (lit≤ tt)) (s.head 5 (lit≤ tt) (lit≤ tt))
          (s.head 6 (lit≤ tt) (lit≤ tt)) (s.head 7 (lit≤ tt) (lit≤ tt)) (s.head 8 (lit≤ tt) (lit≤ tt))
          (acknowledgment_rule w.other k (s.head 9 (lit≤ tt) (lit≤ tt))) refl refl (s.head 12 (lit≤ tt) (lit≤ tt)))
          refl;
    };
    again = ap (λ (x : Option ℕ). response (the_head a b c d e f g x i))
        (acknowledgment_again w.other lw.other k (s.head 9 (lit≤ tt) (lit≤ tt)));
  }

  module _ (x y : ℕ) (last : Bool) (text : List ℕ) (s : Sound w (message h (x ∷ y ∷ []) last text)) where
    abbrev the_fields : Fields
    the_fields = message h (x ∷ y ∷ []) last text

    no_response : is_response x y ≡ false
    no_response = let q : is_label y ≡ true = s.head 11 (lit≤ tt) (lit≤ tt) in grind (arith, nat_tests)

    head_kept : (n p : ℕ) → 1 ≤ p → p < 13 → place_rule w n p (chars_of the_fields (p - 1)) (chars_of the_fields p) ≡ true
    head_kept n =
        twelve (λ (p : ℕ). place_rule w n p (chars_of the_fields (p - 1)) (chars_of the_fields p) ≡ true)
        refl (s.head 2 (lit≤ tt) (lit≤ tt)) (s.head 3 (lit≤ tt) (lit≤ tt)) (s.head 4 (lit≤ tt) (lit≤ tt)) (s.head 5 (lit≤ tt) (lit≤ tt))
        (s.head 6 (lit≤ tt) (lit≤ tt)) (s.head 7 (lit≤ tt) (lit≤ tt)) (s.head 8 (lit≤ tt) (lit≤ tt))
        (acknowledgment_rule w.other k (s.head 9 (lit≤ tt) (lit≤ tt))) (s.head 10 (lit≤ tt) (lit≤ tt))
        (or_left (is_label y) (eqb y 127 && eqb x 95) (s.head 11 (lit≤ tt) (lit≤ tt))) (s.head 12 (lit≤ tt) (lit≤ tt))

    head_again : head_at (chars_of the_fields) ≡ h
    head_again = ap (λ (z : Option ℕ). the_head a b c d e f g z i) (acknowledgment_again w.other lw.other k (s.head 9 (lit≤ tt) (lit≤ tt)))

  module _ (x y : ℕ) (last : Bool) (s : Sound w (message h (x ∷ y ∷ []) last [])) where
    abbrev bare : Fields
    bare = message h (x ∷ y ∷ []) last []

    is_last : last ≡ true
    is_last = let q = s.text.0 in grind (arith, nat_tests)

    no_opening : w.text.opening ≡ 0
    no_opening = let q = s.text.0 in grind (arith, nat_tests)

    empty_out : Laid_out w bare
    empty_out =
        let r = no_response x y last [] s in
        record {
          shaped = record {
            start = refl;
            least = lit≤ tt;
            most = lit≤ tt;
            fits = rw r (eq-eqb w.text.opening 0 no_opening);
            kept = range_more (λ (p : ℕ). place_rule w 17 p (chars_of bare (p - 1)) (chars_of bare p) ≡ true) 1 13 (head_kept x y last [] s 17) refl;
          };
          again = ap (λ (t : Bool). fields_if t (chars_of bare) 17) r ∙ ap (λ (z : Head). message z (x ∷ y ∷ []) true []) (head_again x y last [] s) ∙
              ap (λ (z : Bool). message h (x ∷ y ∷ []) z []) (sym is_last);
        }

  module _ (x y : ℕ) (last : Bool) (u : ℕ) (us : List ℕ) (s : Sound w (message h (x ∷ y ∷ []) last (u ∷ us))) where
    abbrev T : List ℕ
    T = u ∷ us

    abbrev full : Fields
    full = message h (x ∷ y ∷ []) last T

    abbrev R : List ℕ
    R = 2 ∷ (T ++ (suffix last ∷ []))

    n : ℕ
    n = size_of full

    n_is : size_of full ≡ length T + 18
    n_is = let q : length (T ++ (suffix last ∷ [])) ≡ length T + 1 = length-append T (suffix last ∷ []) in omega (arith, q)

    -- from place 13 on
    after_head : (p : ℕ) → 13 ≤ p → chars_of full p ≡ at R (p - 13)
    after_head p l =
        let q : 13 + (p - 13) ≡ p = omega arith in
        sym (get_or-drop 13 (1 ∷ laid full) (p - 13) 0 ∙ ap (λ (j : ℕ). at (1 ∷ laid full) j) q)

    text_char : (j : ℕ) → j < length T → chars_of full (14 + j) ≡ at T j
    text_char j l =
        let q : 14 + j - 13 ≡ suc j = omega arith in
        after_head (14 + j) (omega arith) ∙ ap (at R) q ∙ get_or_append_left T (suffix last ∷ []) 0 j l

    before_char : (j : ℕ) → j < length T → chars_of full (14 + j - 1) ≡ at (2 ∷ T) j
    before_char j l =
        let q : 14 + j - 1 - 13 ≡ j = omega arith in
        after_head (14 + j - 1) (omega arith) ∙ ap (at R) q ∙ get_or_append_left (2 ∷ T) (suffix last ∷ []) 0 j (let m : j < suc (length T) = omega arith in m)

    suffix_char : (p : ℕ) → p ≡ size_of full - 4 → chars_of full p ≡ suffix last
    suffix_char p e =
        let q : p - 13 ≡ length (2 ∷ T) = omega (arith, n_is) in
        after_head p (omega (arith, n_is)) ∙ get_or_at (2 ∷ T) (suffix last) [] 0 (p - 13) (sym q)

    text_kept : (p : ℕ) → 14 ≤ p → p < size_of full - 4 → place_rule w (size_of full) p (chars_of full (p - 1)) (chars_of full p) ≡ true
    text_kept p l m =
        let j : ℕ = p - 14 in
        let e : 14 + j ≡ p = omega arith in
        let v : j < length T = omega (arith, n_is) in
        text_rule w (size_of full) p (chars_of full (p - 1)) (chars_of full p) l m (λ z. omega (arith, n_is)) ∙
        subst (λ (q : ℕ). text_allows w.text j (chars_of full (q - 1)) (chars_of full q) ≡ true) e
        (subst (λ (z : ℕ). text_allows w.text j (chars_of full (14 + j - 1)) z ≡ true) (sym (text_char j v))
        (subst (λ (z : ℕ). text_allows w.text j z (at T j) ≡ true) (sym (before_char j v)) (s.text.1 j v)))

    long : 18 < size_of full
    long = let q : 0 < length T = omega arith in omega (arith, n_is)

    rest_kept : (p : ℕ) → 13 ≤ p → p < size_of full - 3 → place_rule w (size_of full) p (chars_of full (p - 1)) (chars_of full p) ≡ true
    rest_kept p l m =
        elim (cases_order p (size_of full - 4)) [
          | inl e ↦ suffix_rule w (size_of full) p (chars_of full (p - 1)) (chars_of full p) e long ∙
              ap (λ (z : ℕ). eqb z 3 || eqb z 23) (suffix_char p e) ∙ suffix_allowed last
          | inr o ↦ elim o [ inl v ↦ inner p l v | inr v ↦ absurd (omega (arith, n_is)) ]
        ]
      where
        inner : (p : ℕ) → 13 ≤ p → p < size_of full - 4 → place_rule w (size_of full) p (chars_of full (p - 1)) (chars_of full p) ≡ true
        inner p l v =
            elim (cases_lt 13 p) [
              | inl q ↦ text_kept p q v
              | inr q ↦ let e : 13 ≡ p = omega arith in
                  subst (λ (z : ℕ). place_rule w (size_of full) z (chars_of full (z - 1)) (chars_of full z) ≡ true) e
                  (start_rule w (size_of full) (chars_of full 12) 2 long)
            ]

    limits : text_length w.text last (length T) ≡ true → (w.text.opening ≤ length T) × (length T ≤ w.text.opening + w.text.room)
    limits q = (grind (arith, nat_tests), grind (arith, nat_tests))

    possible_here : possible w false (size_of full) ≡ true
    possible_here =
        let m = limits s.text.0 in
        let a : w.text.opening ≤ length T = m.0 in
        let z = long in
        let y = n_is in
        grind (arith, nat_tests)

    text_again : map (chars_of full) (range_with_len 14 (size_of full - 4 - 14)) ≡ T
    text_again =
        let m : size_of full - 4 - 14 ≡ length T = omega (arith, n_is) in
        let v = length-map-range_with_len (chars_of full) 14 (size_of full - 4 - 14) in
        ext_get_or 0 (map (chars_of full) (range_with_len 14 (size_of full - 4 - 14))) T (v ∙ m)
        (λ j q. let o : j < length T = omega (arith, v, m) in
        get_or-map-range_with_len (chars_of full) 14 (size_of full - 4 - 14) j (14 + j) 0 (omega (arith, m)) refl ∙ text_char j o)

    last_again : eqb (chars_of full (size_of full - 4)) 3 ≡ last
    last_again = ap (λ (z : ℕ). eqb z 3) (suffix_char (size_of full - 4) refl) ∙ suffix_last last

    text_out : Laid_out w full
    text_out =
        let r = no_response x y last T s in
        let m = limits s.text.0 in
        let z = lw.text.full in
        record {
          shaped = record {
            start = refl;
            least = omega (arith, n_is);
            most = omega (arith, n_is, m.1, z);
            fits = rw r possible_here;
            kept = λ p l v. elim (cases_lt p 13) [ inl q ↦ head_kept x y last T s (size_of full) p l q | inr q ↦ rest_kept p q v ];
          };
          again = ap (λ (t : Bool). fields_if t (chars_of full) (size_of full)) r ∙
              ap (λ (z : Head). message z (x ∷ y ∷ []) (eqb (chars_of full (size_of full - 4)) 3) (map (chars_of full) (range_with_len 14 (size_of full - 4 - 14)))) (head_again x y last T s) ∙
              ap (λ (z : Bool). message h (x ∷ y ∷ []) z (map (chars_of full) (range_with_len 14 (size_of full - 4 - 14)))) last_again ∙
              ap (λ (z : List ℕ). message h (x ∷ y ∷ []) last z) text_again;
        }

  message_out : (x y : ℕ) (last : Bool) (text : List ℕ) → Sound w (message h (x ∷ y ∷ []) last text) → Laid_out w (message h (x ∷ y ∷ []) last text)
  message_out x y last [] s = empty_out x y last s
  message_out x y last (u ∷ us) s = text_out x y last u us s

-- every sound set of fields
pub laid_out : (w : Way) → Lawful w → (f : Fields) → Sound w f → Laid_out w f
laid_out w l (response h) s =
    let e = seven h.address s.sized in
    subst (λ (xs : List ℕ). Laid_out w (response (record { address = xs; acknowledgment = h.acknowledgment; identifier = h.identifier }))) (sym e)
    (response_out w l _ _ _ _ _ _ _ h.identifier h.acknowledgment
    (subst (λ (xs : List ℕ). Sound w (response (record { address = xs; acknowledgment = h.acknowledgment; identifier = h.identifier }))) e s))
laid_out w l (message h label last text) s =
    let e = seven h.address s.sized.0 in
    let o = two label s.sized.1 in
    subst (λ (ls : List ℕ). Laid_out w (message h ls last text)) (sym o)
    (subst (λ (xs : List ℕ). Laid_out w (message (record { address = xs; acknowledgment = h.acknowledgment; identifier = h.identifier }) (map (at label) (range_with_len 0 2)) last text)) (sym e)
    (message_out w l _ _ _ _ _ _ _ h.identifier h.acknowledgment (at label 0) (at label 1) last text
    (subst (λ (xs : List ℕ). Sound w (message (record { address = xs; acknowledgment = h.acknowledgment; identifier = h.identifier }) (map (at label) (range_with_len 0 2)) last text)) e
    (subst (λ (ls : List ℕ). Sound w (message h ls last text)) o s))))
