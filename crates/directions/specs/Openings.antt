-- The laws of a downlink's opening. Assumes nothing.
use Rattle.std.specs.Prelude.{◌≡◌, ℕ, zero, suc, ◌+◌, ◌-◌, ◌%◌, ◌<◌, true, cond, List, ◌∷◌, ◌++◌, length, ◌==◌, slice_index, refl}
use Rattle.std.proofs.Common.{arith}
use Rattle.std.proofs.lemmas.Bool.Decides.{nat_tests}
use Rattle.directions.specs.TextRules.{OpeningLaws, OpenerLaws, down_text, down_allows, down_opener, down_reads, down_mark, is_letter, is_letter_or_digit}

-- a digit 1 at the two places of the number, a letter A elsewhere
abbrev filler : ℕ → ℕ
filler i = cond (i == 1) 49 (cond (i == 2) 49 65)

filled : (i before : ℕ) → down_allows i before (filler i) ≡ true
filled i before = grind (arith, nat_tests)

pub down_opens : OpeningLaws down_text
down_opens = record { full = refl; seven = λ i before c h. grind (arith, nat_tests); fillable = λ i. (filler i, λ before h. filled i before) }

down_says : (o : ℕ) (flight : List ℕ) (n i : ℕ) (rest : List ℕ) → length flight ≡ 6 → i < 16 → down_reads (down_opener o flight n i ++ rest) ≡ down_mark o n i
down_says o flight n i rest e h =
    let d : ℕ = (n - 1) % 99 + 1 in
    let u : d < 100 = omega arith in
    let w : i % 16 ≡ i = omega arith in
    grind (arith, nat_tests)

down_allowed : (o : ℕ) (flight : List ℕ) (n i : ℕ) → is_letter o ≡ true → length flight ≡ 6 → ((k : ℕ) → k < 6 → is_letter_or_digit (slice_index flight k) ≡ true) → i < 16 →
    (j : ℕ) → j < 10 → down_allows j (slice_index (2 ∷ down_opener o flight n i) j) (slice_index (down_opener o flight n i) j) ≡ true
down_allowed o flight n i lo lf f h zero u = lo
down_allowed o flight n i lo lf f h (suc zero) u = let d : ℕ = (n - 1) % 99 + 1 in let v : d < 100 = omega arith in grind (arith, nat_tests)
down_allowed o flight n i lo lf f h (suc (suc zero)) u =
    let d : ℕ = (n - 1) % 99 + 1 in let v : d < 100 = omega arith in let w : 0 < d = omega arith in grind (arith, nat_tests)
down_allowed o flight n i lo lf f h (suc (suc (suc zero))) u = let w : i % 16 ≡ i = omega arith in grind (arith, nat_tests)
down_allowed o flight n i lo lf f h (suc (suc (suc (suc k)))) u =
    let q : is_letter_or_digit (slice_index flight k) ≡ true = f k (omega arith) in grind (arith, nat_tests)

pub down_writes : OpenerLaws down_text
down_writes = record { long = λ o flight n i e. omega arith; allowed = down_allowed; says = down_says }
