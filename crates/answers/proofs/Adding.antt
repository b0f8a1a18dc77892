-- Parts added one after another, as far as there is room.
use Rattle.std.proofs.Common.{◌≡◌, ℕ, suc, zero, ◌+◌, ◌<◌, min, List, [], ◌∷◌, ◌++◌, map, length, get_or, take, ap, sym, refl, ◌∙◌, arith, take_all, length-append, append-nil}
use Rattle.std.specs.List.{flat_map}
use Rattle.std.proofs.Math.Seq.{take-append-add}
use Rattle.std.proofs.lemmas.List.{take_min, flat_map_more, map_more}
use Rattle.octets.specs.Parity.{character}
use Rattle.answers.specs.Printed.{escaped}
use Rattle.answers.specs.Room.{cut}

-- what was cut before more was added is cut to the same
pub cut_then : (n : ℕ) (xs ys : List ℕ) → take n (take n xs ++ ys) ≡ take n (xs ++ ys)
cut_then zero xs ys = refl
cut_then (suc n) [] ys = refl
cut_then (suc n) (x ∷ xs) ys = ap (λ (zs : List ℕ). x ∷ zs) (cut_then n xs ys)

pub cut_again : (n : ℕ) (xs : List ℕ) → take n (take n xs) ≡ take n xs
cut_again zero xs = refl
cut_again (suc n) [] = refl
cut_again (suc n) (x ∷ xs) = ap (λ (zs : List ℕ). x ∷ zs) (cut_again n xs)

-- as much of a part as there is room for
pub added : (xs ys : List ℕ) (n room : ℕ) → room + length xs ≡ n → xs ++ take (min room (length ys)) ys ≡ take n (xs ++ ys)
added xs ys n room fits =
    let whole : length xs + room ≡ n = omega arith in
    ap (λ (zs : List ℕ). xs ++ zs) (take_min room ys) ∙ sym (take-append-add xs ys room) ∙ ap (λ (k : ℕ). take k (xs ++ ys)) whole

-- one octet, where there is room for it and where there is none
pub octet_added : (xs : List ℕ) (o : ℕ) → length xs < 512 → xs ++ (o ∷ []) ≡ cut (xs ++ (o ∷ []))
octet_added xs o room = sym (take_all 512 (xs ++ (o ∷ [])) (omega (arith, length-append xs (o ∷ []))))

pub octet_cut : (xs : List ℕ) (o : ℕ) → length xs ≡ 512 → xs ≡ cut (xs ++ (o ∷ []))
octet_cut xs o full = let none : 0 + length xs ≡ 512 = omega arith in sym (append-nil xs) ∙ added xs (o ∷ []) 512 0 none

-- a part more behind what is known to have been added
pub added_more : (s t a b : List ℕ) → t ≡ cut (s ++ b) → cut s ≡ cut a → t ≡ cut (a ++ b)
added_more s t a b e f = e ∙ sym (cut_then 512 s b) ∙ ap (λ (x : List ℕ). cut (x ++ b)) f ∙ cut_then 512 a b

-- a character more
pub characters_more :
    (xs : List ℕ) (i x : ℕ) → x ≡ character (get_or xs i 0) → i < length xs → map character (take i xs) ++ (x ∷ []) ≡ map character (take (i + 1) xs)
characters_more xs i x is below = ap (λ (y : ℕ). map character (take i xs) ++ (y ∷ [])) is ∙ sym (map_more character xs i 0 below)

-- an escaped character more
pub text_more :
    (xs : List ℕ) (i x : ℕ) → x ≡ character (get_or xs i 0) → i < length xs →
    flat_map escaped (map character (take i xs)) ++ escaped x ≡ flat_map escaped (map character (take (i + 1) xs))
text_more xs i x is below =
    flat_map_more escaped [] (map character (take i xs)) x ∙ ap (flat_map escaped) (characters_more xs i x is below)
