-- Strings given by the characters at their places. Assumes nothing.
use Rattle.std.proofs.Common.{◌≡◌, ℕ, zero, suc, ◌+◌, ◌-◌, ◌<◌, ◌≤◌, List, [], ◌∷◌, ◌++◌, map, length, take, sym, ap, ◌∙◌, arith, length-append}
use lib.Count.{ones}
use Rattle.std.specs.List.{range_with_len}
use Rattle.std.proofs.lemmas.List.FromFn.{length-map-range_with_len, get_or-map-range_with_len}
use Rattle.std.proofs.lemmas.List.{length-map, get_or-map, get_or_append_left, get_or-take, ext_get_or, length-take-le}
use Rattle.octets.specs.Parity.{character, octet}
use Rattle.octets.specs.Check.{check, low, high}
use Rattle.octets.proofs.Laws.{character_octet}
use Rattle.blocks.specs.Fields.{enclosed}
use Rattle.blocks.specs.Legal.{at}
use Rattle.blocks.specs.Places.{ch}

-- the characters at places 1 to n − 4, and the string of n octets that encloses them
abbrev pub chars : (ℕ → ℕ) → ℕ → List ℕ
chars g n = map g (range_with_len 1 (n - 4))

abbrev pub string_of : (ℕ → ℕ) → ℕ → List ℕ
string_of g n = enclosed (map octet (chars g n))

pub body_length : (g : ℕ → ℕ) (n : ℕ) → length (map octet (chars g n)) ≡ n - 4
body_length g n = length-map (chars g n) octet ∙ length-map-range_with_len g 1 (n - 4)

pub string_length : (g : ℕ → ℕ) (n : ℕ) → 4 ≤ n → length (string_of g n) ≡ n
string_length g n h =
    let b = map octet (chars g n) in
    let e : length (b ++ (low (check b) ∷ high (check b) ∷ 127 ∷ [])) ≡ length b + 3 = length-append b _ in
    let l : length b ≡ n - 4 = body_length g n in
    omega (arith, e, l)

-- what stands at a place up to n − 4
pub string_at : (g : ℕ → ℕ) (n p : ℕ) → g 0 ≡ 1 → p < n - 3 → at (string_of g n) p ≡ octet (g p)
unfolding ones
string_at g n zero z h = sym (ap octet z)
string_at g n (suc p) z h =
    let b = map octet (chars g n) in
    let l : p < length b = omega (arith, body_length g n) in
    let l' : p < length (chars g n) = omega (arith, length-map-range_with_len g 1 (n - 4)) in
    get_or_append_left b _ 0 p l ∙ get_or-map octet (chars g n) p 0 0 l' ∙
    ap octet (get_or-map-range_with_len g 1 (n - 4) p (suc p) 0 (omega arith) (omega arith))

-- the characters of a string agree with g where its octets do
pub same_character : (g : ℕ → ℕ) (n p : ℕ) (s : List ℕ) → g 0 ≡ 1 → p < n - 3 → g p < 128 → at (string_of g n) p ≡ at s p → ch s p ≡ g p
same_character g n p s z h f e =
    ap character (sym e ∙ string_at g n p z h) ∙ character_octet (g p) f

-- equal fronts have equal elements
pub front_at : (s t : List ℕ) (k p : ℕ) → take (suc k) t ≡ take (suc k) s → p ≤ k → at t p ≡ at s p
front_at s t k p e h =
    sym (get_or-take (suc k) t p 0 (omega arith)) ∙ ap (λ (xs : List ℕ). at xs p) e ∙ get_or-take (suc k) s p 0 (omega arith)

-- equal elements make equal fronts
pub front_same : (s t : List ℕ) (k : ℕ) → k ≤ length s → k ≤ length t → ((p : ℕ) → p < k → at t p ≡ at s p) → take k t ≡ take k s
front_same s t k hs ht f =
    let ls : length (take k s) ≡ k = length-take-le k s hs in
    let lt : length (take k t) ≡ k = length-take-le k t ht in
    ext_get_or 0 (take k t) (take k s) (lt ∙ sym ls)
    (λ p h. let u : p < k = omega (arith, lt) in get_or-take k t p 0 u ∙ f p u ∙ sym (get_or-take k s p 0 u))
