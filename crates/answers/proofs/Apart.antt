-- No two different results print alike.
use Rattle.std.proofs.Common.{◌≡◌, ℕ, ◌+◌, ◌%◌, ◌^◌, ◌<◌, ◌≤◌, Bool, true, false, cond, eqb, ltb, leb, List, [], ◌∷◌, ◌++◌, length, get_or, take, drop, Some, None, codes, decimal, Option, sym, refl, ap, ◌∙◌, subst, arith, length-append}
use Rattle.std.specs.List.{flat_map, AllByRecursion}
use Rattle.std.proofs.lemmas.Fmt.{decimal_by_steps, decimal_injective, decimal_nonempty}
use Rattle.std.proofs.ByRecursion.{All-push}
use Rattle.std.proofs.lemmas.List.{same_from_push}
use Rattle.std.proofs.lemmas.Bool.Decides.{nat_tests}
use Rattle.std.proofs.Math.Seq.{take-append_seam, drop-append_seam}
use Rattle.std.proofs.lemmas.Bool.{and_parts, leb-true}
use Rattle.directions.specs.Rings.{RingRule}
use Rattle.blocks.specs.Fields.{Head, Fields, response, message, head_of}
use Rattle.blocks.specs.Legal.{Way, Sound, acknowledges}
use Rattle.recordings.specs.declared.heading.Heading.{Heading}
use Rattle.recordings.specs.declared.heading.Heading.TheVariants.{Down, Up}
use Rattle.recordings.specs.Recorded.{letter}
use Rattle.answers.specs.Printed.{Outcome, block, refused, unread, escaped, acknowledged, placed, commas, parts}
use Rattle.recordings.proofs.Back.{letter_apart}
use Rattle.answers.specs.Laws.{way_of, Small, Possible, PrintedApart}

-- a decimal digit
abbrev pub Figure : ℕ → Type 0
Figure c = (48 ≤ c) × (c < 58)

pub figures : (n : ℕ) → n < 2 ^ 64 → AllByRecursion Figure (decimal n)
figures n small =
    decimal_by_steps (λ (k : ℕ) (ds : List ℕ). AllByRecursion Figure ds)
    (λ k h. ((omega arith, omega arith), tt))
    (λ k ds h ih. let r : k % 10 < 10 = omega arith in All-push Figure ds (48 + k % 10) ih (omega arith, omega arith))
    n small

-- figures up to a comma are told apart from what follows
pub comma_split :
    (xs ys X Y : List ℕ) → AllByRecursion Figure xs → AllByRecursion Figure ys → xs ++ (44 ∷ X) ≡ ys ++ (44 ∷ Y) → (xs ≡ ys) × (X ≡ Y)
comma_split [] [] X Y p q e = let k : X ≡ Y = cc in (refl, k)
comma_split [] (y ∷ ys) X Y p ((low, high), q) e = let k : 44 ≡ y = cc in absurd (omega arith)
comma_split (x ∷ xs) [] X Y ((low, high), p) q e = let k : x ≡ 44 = cc in absurd (omega arith)
comma_split (x ∷ xs) (y ∷ ys) X Y (a, p) (b, q) e =
    let k : x ≡ y = cc in
    let rest : xs ++ (44 ∷ X) ≡ ys ++ (44 ∷ Y) = cc in
    let (f, g) = comma_split xs ys X Y p q rest in
    let whole : x ∷ xs ≡ y ∷ ys = cc in
    (whole, g)

-- parts of one length are told apart from what follows
pub length_split : (xs ys X Y : List ℕ) → length xs ≡ length ys → xs ++ X ≡ ys ++ Y → (xs ≡ ys) × (X ≡ Y)
length_split xs ys X Y l e = (
  sym (take-append_seam xs X) ∙ ap (take (length xs)) e ∙ ap (λ (n : ℕ). take n (ys ++ Y)) l ∙ take-append_seam ys Y,
  sym (drop-append_seam xs X) ∙ ap (drop (length xs)) e ∙ ap (λ (n : ℕ). drop n (ys ++ Y)) l ∙ drop-append_seam ys Y,
)

-- the character that an escaped text begins with, and what follows it
unescaped : List ℕ → ℕ
unescaped l = cond (eqb (get_or l 0 0) 92) (cond (eqb (get_or l 1 0) 110) 10 (cond (eqb (get_or l 1 0) 114) 13 92)) (get_or l 0 0)

behind : List ℕ → List ℕ
behind l = drop (cond (eqb (get_or l 0 0) 92) 2 1) l

-- what an escaped character begins with says which it is
abbrev EscapedBack : List ℕ → ℕ → Type 0
EscapedBack X c = (unescaped (escaped c ++ X) ≡ c) × (behind (escaped c ++ X) ≡ X)

escaped_back : (c : ℕ) (X : List ℕ) → EscapedBack X c
unfolding unescaped behind
escaped_back c X = (grind (arith, nat_tests), grind (arith, nat_tests))

some_escaped : (c : ℕ) (X : List ℕ) → escaped c ++ X ≡ [] → ⊥
some_escaped c X e = grind (arith, nat_tests, ap length e, length-append (escaped c) X)

-- texts that are escaped alike are equal
pub text_apart : (xs ys : List ℕ) → flat_map escaped xs ≡ flat_map escaped ys → xs ≡ ys
text_apart [] [] e = refl
text_apart [] (y ∷ ys) e = absurd (some_escaped y (flat_map escaped ys) (sym e))
text_apart (x ∷ xs) [] e = absurd (some_escaped x (flat_map escaped xs) e)
text_apart (x ∷ xs) (y ∷ ys) e =
    let (f, g) = escaped_back x (flat_map escaped xs) in
    let (h, i) = escaped_back y (flat_map escaped ys) in
    let k : x ≡ y = sym f ∙ ap unescaped e ∙ h in
    let rest = text_apart xs ys (sym g ∙ ap behind e ∙ i) in
    cc

letter_some : (h : Heading) → letter h ≡ 45 → ⊥
letter_some Down e = omega arith
letter_some Up e = omega arith

-- acknowledgments of identifiers past the hyphen
pub acknowledged_apart :
    (r s : RingRule) (a b : Option ℕ) → 48 ≤ r.first → 48 ≤ s.first → acknowledges r a ≡ true → acknowledges s b ≡ true →
    acknowledged a ≡ acknowledged b → a ≡ b
acknowledged_apart r s None None low deep p q e = refl
acknowledged_apart r s None (Some d) low deep p q e =
    let (f, g) = and_parts (leb s.first d) (ltb d (s.first + s.size)) q in absurd (omega (arith, leb-true s.first d f))
acknowledged_apart r s (Some c) None low deep p q e =
    let (f, g) = and_parts (leb r.first c) (ltb c (r.first + r.size)) p in absurd (omega (arith, leb-true r.first c f))
acknowledged_apart r s (Some c) (Some d) low deep p q e = ap Some e

other_low : (h : Heading) → 48 ≤ (way_of h).other.first
other_low Down = omega arith
other_low Up = omega arith

head_same : (h k : Head) → h.address ≡ k.address → h.acknowledgment ≡ k.acknowledgment → h.identifier ≡ k.identifier → h ≡ k
head_same h k e f g =
    ap (λ (a : List ℕ). record { address = a; acknowledgment = h.acknowledgment; identifier = h.identifier }) e
    ∙ ap (λ (a : Option ℕ). record { address = k.address; acknowledgment = a; identifier = h.identifier }) f
    ∙ ap (λ (a : ℕ). record { address = k.address; acknowledgment = k.acknowledgment; identifier = a }) g

last_apart :
    (e f : Bool) (X Y : List ℕ) → cond e (codes "last") (codes "more") ++ (44 ∷ X) ≡ cond f (codes "last") (codes "more") ++ (44 ∷ Y) →
    (e ≡ f) × (X ≡ Y)
last_apart true true X Y e = let k : X ≡ Y = cc in (refl, k)
last_apart true false X Y e = let k : ◌≡◌ {A = ℕ} 108 109 = cc in absurd (omega arith)
last_apart false true X Y e = let k : ◌≡◌ {A = ℕ} 109 108 = cc in absurd (omega arith)
last_apart false false X Y e = let k : X ≡ Y = cc in (refl, k)

-- the acknowledgment of sound fields
acknowledges_sound : (w : Way) (f : Fields) → Sound w f → acknowledges w.other (head_of f).acknowledgment ≡ true
acknowledges_sound w f sound = sound.head 9 (omega arith) (omega arith)

-- addresses and acknowledgments, with what follows them
heads_apart :
    (h k : Heading) (x y : Head) (X Y : List ℕ) → length x.address ≡ 7 → length y.address ≡ 7 →
    acknowledges (way_of h).other x.acknowledgment ≡ true → acknowledges (way_of k).other y.acknowledgment ≡ true →
    x.address ++ (44 ∷ acknowledged x.acknowledgment ∷ 44 ∷ X) ≡ y.address ++ (44 ∷ acknowledged y.acknowledgment ∷ 44 ∷ Y) →
    (x.address ≡ y.address) × (x.acknowledgment ≡ y.acknowledgment) × (X ≡ Y)
heads_apart h k x y X Y long also p q e =
    let (same, rest) = length_split x.address y.address _ _ (long ∙ sym also) e in
    let mark : acknowledged x.acknowledgment ≡ acknowledged y.acknowledgment = cc in
    let behind : X ≡ Y = cc in
    (same, acknowledged_apart (way_of h).other (way_of k).other x.acknowledgment y.acknowledgment (other_low h) (other_low k) p q mark, behind)

-- a place is told apart from a word
placed_word : (p : Option ℕ) (c : ℕ) (X : List ℕ) → Small p → 58 ≤ c → placed p ≡ c ∷ X → ⊥
placed_word None c X small high e = let k : ◌≡◌ {A = ℕ} 0 1 = cc in omega arith
placed_word (Some n) c X small high e =
    let ((low, below), rest) = subst (AllByRecursion Figure) e (figures n small) in omega arith

placed_apart : (p q : Option ℕ) → Small p → Small q → placed p ≡ placed q → p ≡ q
placed_apart None None small little e = refl
placed_apart None (Some n) small little e = absurd (omega (arith, decimal_nonempty n little, ap length e))
placed_apart (Some m) None small little e = absurd (omega (arith, decimal_nonempty m small, ap length e))
placed_apart (Some m) (Some n) small little e = ap Some (decimal_injective m n small little e)

-- a refusal is told apart from a block
refused_word :
    (n : ℕ) (p : Option ℕ) (c : ℕ) (X : List ℕ) → n < 2 ^ 64 → Small p → 58 ≤ c → decimal n ++ (44 ∷ placed p) ≡ 48 ∷ 44 ∷ c ∷ X → ⊥
refused_word n p c X small little high e =
    let (f, g) = comma_split (decimal n) (48 ∷ []) (placed p) (c ∷ X) (figures n small) ((omega arith, omega arith), tt) e in
    placed_word p c X little high g

pub parts_apart : (a b : Outcome) → Possible a → Possible b → commas (parts a) ≡ commas (parts b) → a ≡ b
parts_apart unread unread p q e = refl
parts_apart unread (block k (response y)) p q e = let l : 45 ≡ letter k = cc in absurd (letter_some k (sym l))
parts_apart unread (block k (message y l s t)) p q e = let z : 45 ≡ letter k = cc in absurd (letter_some k (sym z))
parts_apart unread (refused k n o) p q e = let z : 45 ≡ letter k = cc in absurd (letter_some k (sym z))
parts_apart (block h (response x)) unread p q e = let z : letter h ≡ 45 = cc in absurd (letter_some h z)
parts_apart (block h (message x l s t)) unread p q e = let z : letter h ≡ 45 = cc in absurd (letter_some h z)
parts_apart (refused h m o) unread p q e = let z : letter h ≡ 45 = cc in absurd (letter_some h z)
parts_apart (refused h m o) (refused k n r) (small, tiny) (little, slight) e =
    let hk : letter h ≡ letter k = cc in
    let rest : decimal m ++ (44 ∷ placed o) ≡ decimal n ++ (44 ∷ placed r) = cc in
    let (f, g) = comma_split (decimal m) (decimal n) (placed o) (placed r) (figures m small) (figures n little) rest in
    let number = decimal_injective m n small little f in
    let place = placed_apart o r tiny slight g in
    let direction = letter_apart h k hk in
    cc
parts_apart (refused h m o) (block k (response y)) (small, tiny) q e =
    absurd (refused_word m o 114 _ small tiny (omega arith) (ap (λ (l : List ℕ). drop 2 l) e))
parts_apart (refused h m o) (block k (message y l s t)) (small, tiny) q e =
    absurd (refused_word m o 109 _ small tiny (omega arith) (ap (λ (l : List ℕ). drop 2 l) e))
parts_apart (block h (response x)) (refused k n o) p (small, tiny) e =
    absurd (refused_word n o 114 _ small tiny (omega arith) (ap (λ (l : List ℕ). drop 2 l) (sym e)))
parts_apart (block h (message x l s t)) (refused k n o) p (small, tiny) e =
    absurd (refused_word n o 109 _ small tiny (omega arith) (ap (λ (l : List ℕ). drop 2 l) (sym e)))
parts_apart (block h (response x)) (block k (message y l s t)) p q e = let z : ◌≡◌ {A = ℕ} 114 109 = cc in absurd (omega arith)
parts_apart (block h (message x l s t)) (block k (response y)) p q e = let z : ◌≡◌ {A = ℕ} 109 114 = cc in absurd (omega arith)
parts_apart (block h (response x)) (block k (response y)) p q e =
    let hk : letter h ≡ letter k = cc in
    let rest : x.address ++ (44 ∷ acknowledged x.acknowledgment ∷ 44 ∷ x.identifier ∷ []) ≡ y.address ++ (44 ∷ acknowledged y.acknowledgment ∷ 44 ∷ y.identifier ∷ []) = cc in
    let (f, g, i) = heads_apart h k x y _ _ p.sized q.sized (acknowledges_sound (way_of h) (response x) p) (acknowledges_sound (way_of k) (response y) q) rest in
    let id : x.identifier ≡ y.identifier = cc in
    let direction = letter_apart h k hk in
    let head = head_same x y f g id in
    cc
parts_apart (block h (message x l s t)) (block k (message y m r u)) p q e =
    let hk : letter h ≡ letter k = cc in
    let rest : x.address ++ (44 ∷ acknowledged x.acknowledgment ∷ 44 ∷ (l ++ (44 ∷ x.identifier ∷ 44 ∷ (cond s (codes "last") (codes "more") ++ (44 ∷ flat_map escaped t))))) ≡ y.address ++ (44 ∷ acknowledged y.acknowledgment ∷ 44 ∷ (m ++ (44 ∷ y.identifier ∷ 44 ∷ (cond r (codes "last") (codes "more") ++ (44 ∷ flat_map escaped u))))) = cc in
    let (f, g, i) = heads_apart h k x y _ _ p.sized.0 q.sized.0 (acknowledges_sound (way_of h) (message x l s t) p) (acknowledges_sound (way_of k) (message y m r u) q) rest in
    let (label, behind) = length_split l m _ _ (p.sized.1 ∙ sym q.sized.1) i in
    let id : x.identifier ≡ y.identifier = cc in
    let ends : cond s (codes "last") (codes "more") ++ (44 ∷ flat_map escaped t) ≡ cond r (codes "last") (codes "more") ++ (44 ∷ flat_map escaped u) = cc in
    let (last, texts) = last_apart s r _ _ ends in
    let text = text_apart t u texts in
    let direction = letter_apart h k hk in
    let head = head_same x y f g id in
    cc

opened : (n : ℕ) (a : Outcome) → commas (decimal n ∷ parts a) ≡ decimal n ++ (44 ∷ commas (parts a))
opened n (block h f) = refl
opened n (refused h m p) = refl
opened n unread = refl

pub printed_apart : PrintedApart
printed_apart m n a b small little p q e =
    let (same, feed) = same_from_push (commas (decimal m ∷ parts a)) (commas (decimal n ∷ parts b)) 10 10 e in
    let (f, g) = comma_split (decimal m) (decimal n) _ _ (figures m small) (figures n little) (sym (opened m a) ∙ same ∙ opened n b) in
    (decimal_injective m n small little f, parts_apart a b p q g)
