-- Facts of the hex digits of a string.
use Rattle.std.proofs.Common.{◌≡◌, ℕ, zero, suc, ◌+◌, ◌*◌, ◌/◌, ◌<◌, List, [], length, get_or, drop, ap, ◌∙◌, arith, get_or-take, get_or-drop}
use Rattle.std.specs.Simd.{first_chunks}

-- an element of pair i
pub paired :
    (digits : List ℕ) (n i j : ℕ) → i < n → j < 2 → get_or (get_or (first_chunks 2 n digits) i []) j 0 ≡ get_or digits (j + 2 * i) 0
paired digits zero i j below low = absurd (omega arith)
paired digits (suc n) zero j below low =
    let here : j ≡ j + 2 * 0 = omega arith in
    get_or-take 2 digits j 0 low ∙ ap (λ (k : ℕ). get_or digits k 0) here
paired digits (suc n) (suc i) j below low =
    let on : 2 + (j + 2 * i) ≡ j + 2 * suc i = omega arith in
    paired (drop 2 digits) n i j (omega arith) low ∙ get_or-drop 2 digits (j + 2 * i) 0 ∙ ap (λ (k : ℕ). get_or digits k 0) on

-- the two digits of pair i
abbrev pub PairAt : List ℕ → List (List ℕ) → ℕ → Type 0
PairAt digits pairs i =
    (get_or (get_or pairs i []) 0 0 ≡ get_or digits (2 * i) 0) × (get_or (get_or pairs i []) 1 0 ≡ get_or digits (1 + 2 * i) 0)

pub pair_at : (digits : List ℕ) (pairs : List (List ℕ)) (i : ℕ) → pairs ≡ first_chunks 2 (length digits / 2) digits → i < length digits / 2 → PairAt digits pairs i
pair_at digits pairs i cut below =
    let n = length digits / 2 in
    let first : 0 + 2 * i ≡ 2 * i = omega arith in
    rw cut (paired digits n i 0 below (omega arith) ∙ ap (λ (k : ℕ). get_or digits k 0) first, paired digits n i 1 below (omega arith))
