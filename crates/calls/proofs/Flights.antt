-- A flight all of whose characters pass is a good one. Assumes nothing.
use Rattle.std.proofs.Common.{◌≡◌, ℕ, Bool, true, false, ◌&&◌, List, [], ◌∷◌, length, refl, arith}
use Rattle.std.specs.List.{list_all}
use Rattle.directions.specs.TextRules.{is_letter_or_digit}
use Rattle.calls.specs.Setting.{flight_good}

and_last : (a b c d e f : Bool) → (a && (b && (c && (d && (e && (f && true)))))) ≡ (a && (b && (c && (d && (e && f)))))
and_last false b c d e f = refl
and_last true false c d e f = refl
and_last true true false d e f = refl
and_last true true true false e f = refl
and_last true true true true false f = refl
and_last true true true true true false = refl
and_last true true true true true true = refl

pub flight_tested : (f : List ℕ) → length f ≡ 6 → list_all is_letter_or_digit f ≡ flight_good f
flight_tested [] six = absurd (omega (arith, six))
flight_tested (a ∷ []) six = absurd (omega (arith, six))
flight_tested (a ∷ b ∷ []) six = absurd (omega (arith, six))
flight_tested (a ∷ b ∷ c ∷ []) six = absurd (omega (arith, six))
flight_tested (a ∷ b ∷ c ∷ d ∷ []) six = absurd (omega (arith, six))
flight_tested (a ∷ b ∷ c ∷ d ∷ e ∷ []) six = absurd (omega (arith, six))
flight_tested (a ∷ b ∷ c ∷ d ∷ e ∷ f ∷ []) six = and_last (is_letter_or_digit a) (is_letter_or_digit b) (is_letter_or_digit c) (is_letter_or_digit d) (is_letter_or_digit e) (is_letter_or_digit f)
flight_tested (a ∷ b ∷ c ∷ d ∷ e ∷ f ∷ g ∷ h) six = absurd (omega (arith, six))
