-- What an input line turns out to be can be told from its answer alone.
use Rattle.std.proofs.Common.{◌≡◌, ℕ, suc, ◌+◌, ◌<◌, ◌≤◌, Bool, true, false, eqb, List, length, take, Some, None, sym, refl, ap, ◌∙◌, ⊎_elim, arith}
use Rattle.std.proofs.lemmas.List.{take_all}
use Rattle.std.proofs.lemmas.Bool.{eqb-true, cases_lt}
use Rattle.blocks.specs.Legal.{Way}
use Rattle.blocks.specs.Reading.{Refusal, pick, LengthRefused, ParityRefused, DelimiterRefused, CheckRefused, HeadRefused, RestRefused}
use Rattle.answers.specs.Printed.{Outcome, block, refused, unread}
use Rattle.answers.specs.Laws.{way_of, Possible}
use Rattle.answers.specs.Answered.{Is, AnswersApart}
use Rattle.answers.proofs.Apart.{printed_apart}

-- the place of refusal 8 lies in the string
rest_within : (w : Way) (s : List ℕ) (k : ℕ) → RestRefused w s k → k ≤ length s
rest_within w s k r =
    ⊎_elim
    (λ past.
    let (t, like, same) = r.first.some (length s) (omega (arith, r.framed.long.least)) past in
    let long = like.long in
    let alike : t ≡ s =
    sym (take_all (suc (length s)) t (omega arith)) ∙ same ∙ take_all (suc (length s)) s (omega arith) in
    absurd (r.first.none t like (ap (λ (x : List ℕ). take (suc k) x) alike)))
    (λ within. within)
    (cases_lt (length s) k)

-- numbers go up to 8, and places are near the string
Near : List ℕ → ℕ → ℕ → Type 0
Near s n k = (n < 9) × (k ≤ 12 + length s)

place_near : (w : Way) (s : List ℕ) (n k : ℕ) → Refusal w s n (Some k) → Near s n k
unfolding Near
place_near w s n k r = go (eqb n 3) (eqb n 4) (eqb n 5) (eqb n 6) (eqb n 7) (eqb n 8) refl refl refl refl refl refl r where
  go :
      (a b c d e f : Bool) → eqb n 3 ≡ a → eqb n 4 ≡ b → eqb n 5 ≡ c → eqb n 6 ≡ d → eqb n 7 ≡ e → eqb n 8 ≡ f →
      pick a (LengthRefused s k) (pick b (ParityRefused s k) (pick c (DelimiterRefused s k)
      (pick d (CheckRefused s k) (pick e (HeadRefused w s k) (pick f (RestRefused w s k) ⊥))))) →
      (n < 9) × (k ≤ 12 + length s)
  go true b c d e f is p q r s' t bad = let number = eqb-true n 3 is in (omega arith, omega (arith, bad.place))
  go false true c d e f o is q r s' t bad =
      let number = eqb-true n 4 is in
      (omega arith, ⊎_elim (λ l. omega arith) (λ l. omega arith) bad.outside)
  go false false true d e f o p is r s' t bad =
      let number = eqb-true n 5 is in
      (omega arith, ⊎_elim (λ l. omega (arith, l.0)) (λ l. omega (arith, l.0)) bad.broken)
  go false false false true e f o p q is s' t bad = let number = eqb-true n 6 is in (omega arith, omega (arith, bad.place))
  go false false false false true f o p q r is t bad = let number = eqb-true n 7 is in (omega arith, omega (arith, bad.within))
  go false false false false false true o p q r s' is bad =
      let number = eqb-true n 8 is in (omega arith, omega (arith, rest_within w s k bad))
  go false false false false false false o p q r s' t bad = absurd bad

-- what a line turns out to be is possible
pub is_possible : (line : List ℕ) (o : Outcome) → Is line o → Possible o
unfolding Near
is_possible line (block h f) is = is.sound
is_possible line (refused h n None) is = absurd is.refusal
is_possible line (refused h n (Some k)) is =
    let (number, place) = place_near (way_of h) is.string n k is.refusal in
    let short = is.recorded.short in
    (omega arith, omega arith)
is_possible line unread is = tt

pub answers_apart : AnswersApart
answers_apart k l m n text small little a b =
    printed_apart m n a.outcome b.outcome small little (is_possible k a.outcome a.is) (is_possible l b.outcome b.is)
    (sym a.text_is ∙ b.text_is)
