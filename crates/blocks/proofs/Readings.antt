-- What the tests of a string tell of the block that it is, or of its refusal. Assumes nothing.
use Rattle.std.proofs.Common.{◌≡◌, ℕ, ◌+◌, ◌-◌, ◌<◌, ◌≤◌, Bool, true, eqb, List, [], ◌∷◌, map, length, take, drop, Some, None, sym, refl, ap, ◌∙◌, subst, inl, inr, arith, lit<, length-drop, length-take, Bor}
use Rattle.std.specs.List.{range_with_len as counting}
use Rattle.std.proofs.lemmas.List.FromFn.{length-map-range_with_len, get_or-map-range_with_len}
use Rattle.std.proofs.lemmas.List.{length-map, get_or-map, get_or-take, get_or-drop, ext_get_or}
use Rattle.std.proofs.lemmas.Bool.{cases_lt}
use Rattle.octets.specs.Parity.{character, octet}
use Rattle.blocks.specs.declared.block.Block.{Block}
use Rattle.blocks.specs.declared.block.Block.TheVariants.{Response, Message}
use Rattle.blocks.specs.declared.fault.BlockFault.{BlockFault}
use Rattle.blocks.specs.declared.fault.BlockFault.TheVariants.{Rest}
use Rattle.blocks.specs.declared.parsed.HeadRead.{HeadRead}
use Rattle.blocks.specs.declared.parsed.RestRead.{RestRead}
use Rattle.blocks.specs.Fields as fields
use Rattle.blocks.specs.Fields.{Fields, response, message, fields_read, written, enclosed, named}
use Rattle.blocks.specs.Faults.{number_of, place_of}
use Rattle.blocks.specs.Legal.{Way, Sound}
use Rattle.blocks.specs.Reading.{Refusal, FirstUnlike, Like, ReadAs, Parts}
use Rattle.blocks.specs.Places.{ch, Kept, possible, is_response, FrameKept, HeadBroken, LabelIs, HeadIs, RestBroken, RestIs}
use Rattle.blocks.proofs.Shapes.{Lawful, Shaped, head_at, fields_if, fields_at}
use Rattle.blocks.proofs.Sounds.{shaped_fielded}
use Rattle.blocks.proofs.Unlike.{head_any, head_unlike, head_some, impossible_unlike, rest_unlike}
use Rattle.blocks.proofs.Whole.{started, string_again}

-- a part of the string, by the characters at its places
part_chars : (s : List ℕ) (a m : ℕ) → a + m ≤ length s → map character (take m (drop a s)) ≡ map (ch s) (counting a m)
part_chars s a m h =
    let v : length (take m (drop a s)) ≡ m = length-take m (drop a s) ∙ (let e = length-drop a s in omega (arith, e)) in
    let x = length-map (take m (drop a s)) character in
    let y = length-map-range_with_len (ch s) a m in
    ext_get_or 0 (map character (take m (drop a s))) (map (ch s) (counting a m)) (x ∙ v ∙ sym y)
    (λ i u.
    let j : i < m = omega (arith, v, x) in
    get_or-map character (take m (drop a s)) i 0 0 (omega (arith, v)) ∙ ap character (get_or-take m (drop a s) i 0 j ∙ get_or-drop a s i 0) ∙
    sym (get_or-map-range_with_len (ch s) a m i (a + i) 0 j refl))

module _ (w : Way) (l : Lawful w) (s : List ℕ) (f : FrameKept s) where
  -- a head that breaks a rule is refused by 7
  pub head_refused : (x : BlockFault) → HeadBroken w s 1 13 x → Refusal w s (number_of x) (place_of x)
  head_refused x (p, e, h, b) =
      subst (λ (y : BlockFault). Refusal w s (number_of y) (place_of y)) (sym e)
      (record {
        framed = f.framed;
        within = omega arith;
        first = head_unlike w l s f.framed.delimited.first f.octets f.framed.long.least p h b;
      })

  module _ (head : Kept w 17 (ch s) 1 13) (response : Bool) (is : response ≡ is_response (ch s 10) (ch s 11)) where
    -- a rest that breaks a rule is refused by 8
    pub rest_refused : (x : BlockFault) → ((p : ℕ) × (x ≡ Rest p) × RestBroken w response s p) → Refusal w s (number_of x) (place_of x)
    rest_refused x (p, e, t) =
        let least = f.framed.long.least in
        let unlike : FirstUnlike (Like w s) s 13 p =
        elim t [
          | inl y ↦ rest_unlike w l s f.framed.delimited.first f.octets least response is f.framed.long.most head y.0 p y.1 y.2
          | inr y ↦ subst (λ (q : ℕ). FirstUnlike (Like w s) s 13 q) (sym y.1)
              (impossible_unlike w l s f.framed.delimited.first f.octets least response is f.framed.long.most head y.0)
        ] in
        subst (λ (y : BlockFault). Refusal w s (number_of y) (place_of y)) (sym e)
        (record { framed = f.framed; head = head_some w l s f.framed.delimited.first f.octets least 12 (lit< tt) head; first = unlike })

    module _ (fits : possible w response (length s) ≡ true) (rest : Kept w (length s) (ch s) 13 (length s - 3)) where
      shape : Shaped w (length s) (ch s)
      shape = record {
        start = started s f;
        least = f.framed.long.least;
        most = f.framed.long.most;
        fits = subst (λ (b : Bool). possible w b (length s) ≡ true) is fits;
        kept = λ p a b. elim (cases_lt p 13) [
          | inl u ↦ head_any w l (length s) 17 p (ch s (p - 1)) (ch s p) u ∙ head p a u
          | inr u ↦ rest p u b
        ];
      }

      -- what has the fields of the string's characters is read
      read_as : (x : Block) → fields_read x ≡ fields_at (ch s) (length s) → Parts s x → ReadAs w s x
      read_as x e parts =
          let d = shaped_fielded w l (ch s) (length s) shape in
          record {
            sound = subst (λ (z : Fields). Sound w z) (sym e) d.sound;
            made = string_again s f ∙ ap (λ (xs : List ℕ). enclosed (map octet xs)) (sym d.is) ∙ ap written (sym e);
            parts = parts;
          }

      module _ (h : HeadRead) (k : HeadIs s h) where
        head_is : record { address = map character h.address.now; acknowledgment = named h.acknowledgment; identifier = h.identifier.0 } ≡ head_at (ch s)
        head_is =
            let a : map character h.address.now ≡ map (ch s) (counting 2 7) = ap (map character) k.address ∙ part_chars s 2 7 (omega (arith, f.framed.long.least)) in
            let b = k.acknowledgment in
            let c = k.identifier in
            cc

        pub response_read : LabelIs s None → ReadAs w s (Response h.address h.acknowledgment h.identifier)
        response_read e =
            read_as (Response h.address h.acknowledgment h.identifier)
            (ap (λ (y : fields.Head). fields.response y) head_is ∙ ap (λ (b : Bool). fields_if b (ch s) (length s)) (sym e)) k.address

        pub message_read : (label : Bor (List ℕ)) (r : RestRead) → LabelIs s (Some label) → RestIs s r → ReadAs w s (Message h.address h.acknowledgment label h.identifier r.last r.text)
        message_read label r (e, lb) ri =
            let least = f.framed.long.least in
            let hd = head_is in
            let lbs : map character label.now ≡ ch s 10 ∷ ch s 11 ∷ [] = ap (map character) lb ∙ part_chars s 10 2 (omega arith) in
            let lst = ri.last in
            let tx : map character r.text.now ≡ map (ch s) (counting 14 (length s - 4 - 14)) = ap (map character) ri.text ∙ part_chars s 14 (length s - 4 - 14) (omega arith) in
            let fs : message (record { address = map character h.address.now; acknowledgment = named h.acknowledgment; identifier = h.identifier.0 }) (map character label.now) r.last (map character r.text.now) ≡
            message (head_at (ch s)) (ch s 10 ∷ ch s 11 ∷ []) (eqb (ch s (length s - 4)) 3) (map (ch s) (counting 14 (length s - 4 - 14))) = cc in
            read_as (Message h.address h.acknowledgment label h.identifier r.last r.text)
            (fs ∙ ap (λ (b : Bool). fields_if b (ch s) (length s)) (sym e)) (k.address, lb, ri.text)
