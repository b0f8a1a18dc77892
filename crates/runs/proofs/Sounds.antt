-- What a tick is to send is sound, so no tick is refused for its fields. Assumes nothing.
use Rattle.std.proofs.Common.{◌≡◌, ℕ, zero, suc, ◌+◌, ◌-◌, ◌*◌, ◌/◌, ◌<◌, ◌≤◌, Bool, true, false, cond, ◌&&◌, ◌||◌, eqb, ltb, leb, List, [], ◌∷◌, ◌++◌, length, drop, Some, None, sym, refl, ap, ◌∙◌, subst, inl, inr, arith, eq-eqb, lt-ltb, le-leb, ltb-true, ltb-false, length-append, suc-mul}
use mathlib.Core.Option.{Option}
use borrow.Author.Tests.{clash, eqb-false}
use Rattle.std.specs.declared.option.Option as std
use Rattle.std.specs.Prelude.{slice_index}
use Rattle.std.specs.List.{list_all}
use Rattle.std.proofs.Math.Nat.{le-div_iff_mul-le}
use Rattle.std.proofs.Math.Bool.{or-true}
use Rattle.std.proofs.lemmas.Bool.{and_from}
use Rattle.std.proofs.lemmas.List.{get_or_append_left, get_or-append_right, get_or-take, get_or-drop, length-drop, length-take}
use Rattle.directions.specs.Rings.{RingRule, member}
use Rattle.directions.specs.TextRules.{is_letter, is_letter_or_digit}
use Rattle.blocks.specs.Fields.{Fields, response, message, head_of}
use Rattle.blocks.specs.Legal.{Way, at, address_allows, acknowledges, is_text, label_allows, text_allows, text_length, head_allows, TextKept, Sound}
use Rattle.blocks.specs.Reading.{pick}
use Rattle.writing.specs.Writing.{Refusal, HeadBad, HeadGood, TextBad}
use Rattle.calls.proofs.Flights.{flight_tested}
use Rattle.calls.specs.declared.types.Settings.{Settings}
use Rattle.calls.specs.declared.types.Setting.TheVariants.{Registration, Originator, Flight}
use Rattle.stores.specs.Held.{Stored}
use Rattle.ends.specs.declared.types.Cell.{Cell}
use Rattle.ends.specs.Model.{Ways, Model}
use Rattle.ends.specs.Sending.{block_count, block_text, block_fields, response_fields, owed_by, last_identifier}
use Rattle.runs.specs.Links.{Accepted}
use Rattle.runs.proofs.Cells.{GoodCell}
use Rattle.runs.proofs.Rings.{Is, Same, no_one, one, is_member}
use Rattle.runs.proofs.Relating.{WayLaws}

left : (a b : Bool) → (a && b) ≡ true → a ≡ true
left true b e = refl
left false b e = e

right : (a b : Bool) → (a && b) ≡ true → b ≡ true
right true b e = e
right false b e = absurd (clash e)

-- the tests of an address from a character on
abbrev address6 : List ℕ → Bool
address6 r = address_allows 6 (at r 5) (at r 6)

abbrev address5 : List ℕ → Bool
address5 r = address_allows 5 (at r 4) (at r 5) && address6 r

abbrev address4 : List ℕ → Bool
address4 r = address_allows 4 (at r 3) (at r 4) && address5 r

abbrev address3 : List ℕ → Bool
address3 r = address_allows 3 (at r 2) (at r 3) && address4 r

abbrev address2 : List ℕ → Bool
address2 r = address_allows 2 (at r 1) (at r 2) && address3 r

abbrev address1 : List ℕ → Bool
address1 r = address_allows 1 (at r 0) (at r 1) && address2 r

abbrev address0 : List ℕ → Bool
address0 r = address_allows 0 (50) (at r 0) && address1 r

address_all : (r : List ℕ) → address0 r ≡ true → (i : ℕ) → i < 7 → address_allows i (at (50 ∷ r) i) (at r i) ≡ true
address_all r e i h = go i h
  where
    e1 : address1 r ≡ true
    e1 = right (address_allows 0 (50) (at r 0)) (address1 r) e

    e2 : address2 r ≡ true
    e2 = right (address_allows 1 (at r 0) (at r 1)) (address2 r) e1

    e3 : address3 r ≡ true
    e3 = right (address_allows 2 (at r 1) (at r 2)) (address3 r) e2

    e4 : address4 r ≡ true
    e4 = right (address_allows 3 (at r 2) (at r 3)) (address4 r) e3

    e5 : address5 r ≡ true
    e5 = right (address_allows 4 (at r 3) (at r 4)) (address5 r) e4

    e6 : address6 r ≡ true
    e6 = right (address_allows 5 (at r 4) (at r 5)) (address6 r) e5

    go : (i : ℕ) → i < 7 → address_allows i (at (50 ∷ r) i) (at r i) ≡ true
    go zero h = left (address_allows 0 (50) (at r 0)) (address1 r) e
    go (suc zero) h = left (address_allows 1 (at r 0) (at r 1)) (address2 r) e1
    go (suc (suc zero)) h = left (address_allows 2 (at r 1) (at r 2)) (address3 r) e2
    go (suc (suc (suc zero))) h = left (address_allows 3 (at r 2) (at r 3)) (address4 r) e3
    go (suc (suc (suc (suc zero)))) h = left (address_allows 4 (at r 3) (at r 4)) (address5 r) e4
    go (suc (suc (suc (suc (suc zero))))) h = left (address_allows 5 (at r 4) (at r 5)) (address6 r) e5
    go (suc (suc (suc (suc (suc (suc zero)))))) h = e6
    go (suc (suc (suc (suc (suc (suc (suc k))))))) h = absurd (omega (arith, h))

-- a test of each element is one of the element at an index
each_at : (p : ℕ → Bool) (xs : List ℕ) → list_all p xs ≡ true → (i : ℕ) → i < length xs → p (slice_index xs i) ≡ true
each_at p [] e i h = absurd (omega (arith, h))
each_at p (x ∷ xs) e zero h = left (p x) (list_all p xs) e
each_at p (x ∷ xs) e (suc i) h = each_at p xs (right (p x) (list_all p xs) e) i (omega (arith, h))

-- settings within their limits, character by character
module _ (s : Settings) (A : Accepted s) where
  address_at : (i : ℕ) → i < 7 → address_allows i (at (50 ∷ s.registration) i) (at s.registration i) ≡ true
  address_at i h = address_all s.registration (A.good Registration) i h

  flight_at : (i : ℕ) → i < 6 → is_letter_or_digit (slice_index s.flight i) ≡ true
  flight_at i h = each_at is_letter_or_digit s.flight (flight_tested s.flight A.six ∙ A.good Flight) i (let e = A.six in omega (arith, e, h))

  letter : is_letter s.originator ≡ true
  letter = A.good Originator

-- the head of a block, place by place
module _ (w : Way) (f : Fields) (address : (i : ℕ) → i < 7 → address_allows i (at (50 ∷ (head_of f).address) i) (at (head_of f).address i) ≡ true)
    (ack : acknowledges w.other (head_of f).acknowledgment ≡ true) (identifier : member w.own (head_of f).identifier ≡ true) (label : (i : ℕ) → i < 2 → label_allows f i ≡ true) where
  pub head_sound : (p : ℕ) → 1 ≤ p → p ≤ 12 → head_allows w f p ≡ true
  head_sound p lo hi = by_two (ltb p 2) refl
    where
      by_twelve : (d : Bool) → eqb p 12 ≡ d → 9 < p → cond d (member w.own (head_of f).identifier) (label_allows f (p - 10)) ≡ true
      by_twelve true e h = identifier
      by_twelve false e h = let u = eqb-false p 12 e in label (p - 10) (omega (arith, u, h, hi))

      by_nine : (c : Bool) → eqb p 9 ≡ c → 9 ≤ p →
          cond c (acknowledges w.other (head_of f).acknowledgment) (cond (eqb p 12) (member w.own (head_of f).identifier) (label_allows f (p - 10))) ≡ true
      by_nine true e h = ack
      by_nine false e h = let u = eqb-false p 9 e in by_twelve (eqb p 12) refl (omega (arith, u, h))

      by_eight : (b : Bool) → ltb p 9 ≡ b → 2 ≤ p →
          cond b (address_allows (p - 2) (at (50 ∷ (head_of f).address) (p - 2)) (at (head_of f).address (p - 2)))
          (cond (eqb p 9) (acknowledges w.other (head_of f).acknowledgment) (cond (eqb p 12) (member w.own (head_of f).identifier) (label_allows f (p - 10)))) ≡ true
      by_eight true e h = let u = ltb-true p 9 e in address (p - 2) (omega (arith, u, h))
      by_eight false e h = by_nine (eqb p 9) refl (ltb-false p 9 e)

      by_two : (a : Bool) → ltb p 2 ≡ a →
          cond a true (cond (ltb p 9) (address_allows (p - 2) (at (50 ∷ (head_of f).address) (p - 2)) (at (head_of f).address (p - 2)))
          (cond (eqb p 9) (acknowledges w.other (head_of f).acknowledgment) (cond (eqb p 12) (member w.own (head_of f).identifier) (label_allows f (p - 10))))) ≡ true
      by_two true e = refl
      by_two false e = by_eight (ltb p 9) refl (ltb-false p 2 e)

-- an acknowledgment of an index is one of the ring
acknowledges_same : (r : RingRule) {a : std.Option ℕ} {k : Option ℕ} → Same r a k → acknowledges r a ≡ true
acknowledges_same r no_one = refl
acknowledges_same r (one {c = c} {i = i} h) = is_member r c i h

-- the text of a block, character by character
module _ (w : Way) (L : WayLaws w) (some_room : 0 < w.text.room) (s : Settings) (A : Accepted s) (n : ℕ) (text : List ℕ) (a : ℕ)
    (legal : (i : ℕ) → i < length text → is_text (at text i) ≡ true) (few : block_count w.text.room (length text) ≤ 16) (fits : a < block_count w.text.room (length text)) where
  abbrev opening : List ℕ
  opening = w.text.opener s.originator s.flight n a

  abbrev body : List ℕ
  body = block_text w.text.room text a

  abbrev whole : List ℕ
  whole = opening ++ body

  opening_long : length opening ≡ w.text.opening
  opening_long = L.writes.long s.originator s.flight n a A.six

  body_short : length body ≤ w.text.room
  body_short = let e = length-take w.text.room (drop (a * w.text.room) text) in omega (arith, e)

  -- an earlier character of the text
  character_is : (j : ℕ) → j < length body → is_text (at body j) ≡ true
  character_is j h =
      let e = length-take w.text.room (drop (a * w.text.room) text) in
      let d = length-drop (a * w.text.room) text in
      let q : at body j ≡ at text (a * w.text.room + j) = get_or-take w.text.room (drop (a * w.text.room) text) j 0 (omega (arith, e, h)) ∙ get_or-drop (a * w.text.room) text j 0 in
      ap is_text q ∙ legal (a * w.text.room + j) (omega (arith, e, d, h))

  -- a character of the opening
  opening_at : (i : ℕ) → i < w.text.opening → at whole i ≡ at opening i
  opening_at i h = get_or_append_left opening body 0 i (let e = opening_long in omega (arith, e, h))

  opening_before : (i : ℕ) → i < w.text.opening → at (2 ∷ whole) i ≡ at (2 ∷ opening) i
  opening_before zero h = refl
  opening_before (suc j) h = opening_at j (omega (arith, h))

  pub text_sound : (i : ℕ) → i < length whole → text_allows w.text i (at (2 ∷ whole) i) (at whole i) ≡ true
  text_sound i h = go (ltb i w.text.opening) refl
    where
      go : (b : Bool) → ltb i w.text.opening ≡ b → cond b (w.text.allows i (at (2 ∷ whole) i) (at whole i)) (is_text (at whole i)) ≡ true
      go true e =
          let u = ltb-true i w.text.opening e in
          ap (λ (x : ℕ). w.text.allows i x (at whole i)) (opening_before i u) ∙
          ap (w.text.allows i (at (2 ∷ opening) i)) (opening_at i u) ∙
          L.writes.allowed s.originator s.flight n a (letter s A) A.six (flight_at s A) (omega (arith, few, fits)) i u
      go false e =
          let u = ltb-false i w.text.opening e in
          let l = length-append opening body in
          let o = opening_long in
          ap is_text (get_or-append_right opening body w.text.opening i 0 opening_long u) ∙ character_is (i - w.text.opening) (omega (arith, u, h, l, o))

  -- the length of the text: an empty one stands only on a last block
  pub length_sound : text_length w.text (eqb (a + 1) (block_count w.text.room (length text))) (length whole) ≡ true
  length_sound =
      let l = length-append opening body in
      let o = opening_long in
      let b = body_short in
      and_from (leb w.text.opening (length whole)) _ (le-leb w.text.opening (length whole) (omega (arith, l, o)))
      (and_from (leb (length whole) (w.text.opening + w.text.room)) _ (le-leb (length whole) (w.text.opening + w.text.room) (omega (arith, l, o, b))) (some_or_last (eqb (length text) 0) refl))
    where
      some_or_last : (z : Bool) → eqb (length text) 0 ≡ z → (ltb 0 (length whole) || eqb (a + 1) (block_count w.text.room (length text))) ≡ true
      some_or_last true e =
          let f : a < 1 = subst (λ (c : Bool). a < cond c 1 ((length text + w.text.room - 1) / w.text.room)) e fits in
          let g : eqb (a + 1) (block_count w.text.room (length text)) ≡ true = ap (λ (c : Bool). eqb (a + 1) (cond c 1 ((length text + w.text.room - 1) / w.text.room))) e ∙ eq-eqb (a + 1) 1 (omega (arith, f)) in
          ap (λ (c : Bool). ltb 0 (length whole) || c) g ∙ or-true (ltb 0 (length whole))
      some_or_last false e =
          let f : a < (length text + w.text.room - 1) / w.text.room = subst (λ (c : Bool). a < cond c 1 ((length text + w.text.room - 1) / w.text.room)) e fits in
          let q = (le-div_iff_mul-le {k = w.text.room} {x = suc a} {y = length text + w.text.room - 1} some_room).0 f in
          let m = suc-mul a w.text.room in
          let t = length-take w.text.room (drop (a * w.text.room) text) in
          let d = length-drop (a * w.text.room) text in
          let l = length-append opening body in
          ap (λ (c : Bool). c || eqb (a + 1) (block_count w.text.room (length text))) (lt-ltb 0 (length whole) (omega (arith, q, m, t, d, l, some_room)))

module _ (w : Ways) (L : WayLaws w.out) (some_room : 0 < w.out.text.room) (m : Model) (A : Accepted m.settings) where
  -- the block of a good cell
  pub block_sound : (b : Stored Cell) (a identifier i : ℕ) {k : Option ℕ} → GoodCell w.out.text.room b → a < block_count w.out.text.room (length b.text) → Is w.out.own identifier i →
      Same w.out.other (owed_by m.inbox) k → Sound w.out (block_fields w m b a identifier)
  block_sound b a identifier i G fits n q = record {
    sized = (A.seven, G.two);
    head = head_sound w.out (block_fields w m b a identifier) (address_at m.settings A) (acknowledges_same w.out.other q) (is_member w.out.own identifier i n) G.label;
    text = (
      length_sound w.out L some_room m.settings A b.«record».number b.text a G.text (L.counted.most (length b.text) G.long) fits,
      text_sound w.out L some_room m.settings A b.«record».number b.text a G.text (L.counted.most (length b.text) G.long) fits,
    );
  }

  -- a general response
  pub response_sound : (i : ℕ) {k : Option ℕ} → Is w.out.own (last_identifier w.out.own m.outbox) i → Same w.out.other (owed_by m.inbox) k → Sound w.out (response_fields w m)
  response_sound i n q = record {
    sized = A.seven;
    head = head_sound w.out (response_fields w m) (address_at m.settings A) (acknowledges_same w.out.other q) (is_member w.out.own (last_identifier w.out.own m.outbox) i n) (λ j h. refl);
    text = tt;
  }

-- sound fields are not refused
pub sound_taken : (w : Way) (f : Fields) (buffer : List ℕ) → 238 ≤ length buffer → Sound w f → (n : ℕ) (p : std.Option ℕ) → Refusal w f buffer n p → ⊥
sound_taken w f buffer room S n None h = go (eqb n 1) h
  where
    go : (b : Bool) → pick b (length buffer < 238) ⊥ → ⊥
    go true x = omega (arith, x, room)
    go false x = x
sound_taken w f buffer room S n (Some p) h = go (eqb n 7) (eqb n 8) h
  where
    head_bad : HeadBad w f p → ⊥
    head_bad b = let u = S.head p b.from b.until in clash (sym b.bad ∙ u)

    text_bad : (g : Fields) → TextKept w g → TextBad w g p → ⊥
    text_bad (response x) k b = b
    text_bad (message x l e t) k (inl b) = clash (sym b.0 ∙ k.0)
    text_bad (message x l e t) k (inr (y, (i, u, v, z, b))) = clash (sym b ∙ k.1 i v)

    go : (b d : Bool) → pick b ((238 ≤ length buffer) × HeadBad w f p) (pick d ((238 ≤ length buffer) × HeadGood w f 13 × TextBad w f p) ⊥) → ⊥
    go true d x = head_bad x.1
    go false true x = text_bad f S.text x.2
    go false false x = x
