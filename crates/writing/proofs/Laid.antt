-- The parts of a block laid one behind the other are its string. Assumes nothing.
use Rattle.std.proofs.Common.{◌≡◌, ℕ, ◌-◌, ◌/◌, ◌%◌, ◌<◌, ◌≤◌, Bool, List, [], ◌∷◌, ◌++◌, map, length, get_or, take, drop, ap, ◌∙◌, append_assoc, arith, length-append}
use Rattle.std.proofs.lemmas.List.{map-append, take_all}
use Rattle.octets.specs.Check.{check, low, high}
use Rattle.blocks.specs.Fields.{Head, headed, tailed, suffix, acknowledgment_character, enclosed}
use Rattle.writing.specs.Laying.{laid_octet}
use lib.Count.{ones}

-- STX, a text and the suffix
pub tail_length : (last : Bool) (text : List ℕ) → length text ≤ 220 → length (tailed last text) ≤ 222
tail_length last [] h = omega arith
tail_length last (u ∷ us) h = let z = length-append (u ∷ us) (suffix last ∷ []) in omega (arith, z)

-- one more part
pub on : (p : List ℕ) {s t q x : List ℕ} → t ≡ s ++ map laid_octet p → s ≡ x → p ≡ q → t ≡ x ++ map laid_octet q
on p {q = q} {x = x} a b c = a ∙ ap (λ (z : List ℕ). z ++ map laid_octet p) b ∙ ap (λ (z : List ℕ). x ++ map laid_octet z) c

-- the parts of a block up to its check
pub parts_laid : (h : Head) (l T s : List ℕ) →
    s ≡ ((((([] ++ map laid_octet (1 ∷ 50 ∷ [])) ++ map laid_octet h.address) ++ map laid_octet (acknowledgment_character h.acknowledgment ∷ [])) ++ map laid_octet l) ++
    map laid_octet (h.identifier ∷ [])) ++ map laid_octet T →
    s ≡ map laid_octet (1 ∷ headed h l T)
unfolding ones
parts_laid h l T s e = e ∙ simp (map-append, append_assoc)

-- the check and DEL behind them
pub closed : (L d s a b t by : List ℕ) (v : ℕ) → d ≡ 1 ∷ L → s ≡ 1 ∷ L → v ≡ check (take (length d - 1) (drop 1 d)) → v < 65536 →
    by ≡ v % 256 ∷ v / 256 % 256 ∷ [] → a ≡ s ++ get_or by 0 0 ∷ [] → b ≡ a ++ get_or by 1 0 ∷ [] → t ≡ b ++ 127 ∷ [] → t ≡ enclosed L
closed L d s a b t by v ed es ev u eb ea ec et =
    let w : v ≡ check L = ev ∙ ap (λ (xs : List ℕ). check (take (length xs - 1) (drop 1 xs))) ed ∙ ap check (take_all (length (1 ∷ L) - 1) L (omega arith)) in
    let x : get_or by 0 0 ≡ low (check L) = ap (λ (xs : List ℕ). get_or xs 0 0) eb ∙ ap low w in
    let m : v / 256 % 256 ≡ v / 256 = omega arith in
    let y : get_or by 1 0 ≡ high (check L) = ap (λ (xs : List ℕ). get_or xs 1 0) eb ∙ m ∙ ap high w in
    et ∙ ap (λ (xs : List ℕ). xs ++ 127 ∷ [])
    (ec ∙ ap (λ (xs : List ℕ). xs ++ get_or by 1 0 ∷ []) (ea ∙ ap (λ (xs : List ℕ). xs ++ get_or by 0 0 ∷ []) es ∙ ap (λ (z : ℕ). (1 ∷ L) ++ z ∷ []) x) ∙
    ap (λ (z : ℕ). ((1 ∷ L) ++ low (check L) ∷ []) ++ z ∷ []) y) ∙ simp append_assoc
