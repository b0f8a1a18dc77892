-- Cutting a text into blocks, and joining them again. Assumes nothing.
use Rattle.std.proofs.Common.{◌<◌, lit<, ◌≡◌, ℕ, zero, suc, ◌+◌, ◌-◌, ◌*◌, ◌/◌, ◌≤◌, Bool, true, false, cond, eqb, List, ◌++◌, length, take, drop, sym, refl, ap, ◌∙◌, subst, suc-mul, zero-add, zero-mul, arith, take-append-drop, drop-drop, eqb-true}
use borrow.Author.Tests.{eqb-false}
use Rattle.std.proofs.lemmas.List.{drop_all}
use Rattle.std.proofs.lemmas.Nat.{div_below, le-div}
use Rattle.std.proofs.Math.Nat.{lt-div-mul-add}
use Rattle.ends.specs.Sending.{block_count, block_text}
use Rattle.law.specs.Links.{Side, air, ground}
use Rattle.runs.specs.History.{room}
use Rattle.runs.specs.Strings.{pieces, cuts, joined_up, CutsComeBack}

pub length_pieces : (f : ℕ → List ℕ) (k n : ℕ) → length (pieces f k n) ≡ n
length_pieces f k zero = refl
length_pieces f k (suc n) = ap suc (length_pieces f (suc k) n)

-- blocks of a text from block k on make up the text from there on
pub joined_from : (r : ℕ) (text : List ℕ) (k n : ℕ) → length text ≤ (k + n) * r → joined_up (pieces (block_text r text) k n) ≡ drop (k * r) text
joined_from r text k zero h = sym (drop_all (k * r) text (let e : k + 0 ≡ k = omega arith in subst (λ (j : ℕ). length text ≤ j * r) e h))
joined_from r text k (suc n) h =
    let again = joined_from r text (suc k) n (let e : k + suc n ≡ suc k + n = omega arith in subst (λ (j : ℕ). length text ≤ j * r) e h) in
    ap (λ (xs : List ℕ). take r (drop (k * r) text) ++ xs) (again ∙ ap (λ (j : ℕ). drop j text) (suc-mul k r) ∙ sym (drop-drop r (k * r) text)) ∙ take-append-drop r (drop (k * r) text)

-- what the count of blocks keeps, for a room of so many characters
pub record Counted (r : ℕ) : Type 0 where
  pub some : (n : ℕ) → 1 ≤ block_count r n
  pub all : (n : ℕ) → n ≤ block_count r n * r
  pub most : (n : ℕ) → n ≤ 16 * r → block_count r n ≤ 16

counted_of : (r : ℕ) → 0 < r → Counted r
counted_of r pos = record { some = λ n. one n (eqb n 0) refl; all = λ n. all n (eqb n 0) refl; most = λ n h. most n (eqb n 0) refl h }
  where
    one : (n : ℕ) (b : Bool) → eqb n 0 ≡ b → 1 ≤ cond b 1 ((n + r - 1) / r)
    one n true e = omega arith
    one n false e = let d = eqb-false n 0 e in le-div 1 (n + r - 1) r pos (omega (arith, d))

    all : (n : ℕ) (b : Bool) → eqb n 0 ≡ b → n ≤ cond b 1 ((n + r - 1) / r) * r
    all n true e = let d = eqb-true n 0 e in omega (arith, d)
    all n false e = let h : n + r - 1 < (n + r - 1) / r * r + r = lt-div-mul-add pos in omega (arith, h)

    most : (n : ℕ) (b : Bool) → eqb n 0 ≡ b → n ≤ 16 * r → cond b 1 ((n + r - 1) / r) ≤ 16
    most n true e h = omega arith
    most n false e h = let l = div_below (n + r - 1) r 17 pos (omega arith) in omega (arith, l)

pub counted_at : (x : Side) → Counted (room x)
counted_at air = counted_of 210 (lit< tt)
counted_at ground = counted_of 220 (lit< tt)

module _ (r : ℕ) (c : Counted r) where
  pub cuts_whole : (text : List ℕ) → joined_up (cuts r text) ≡ text
  cuts_whole text = joined_from r text 0 (block_count r (length text))
      (subst (λ (j : ℕ). length text ≤ j * r) (sym (zero-add (block_count r (length text)))) (c.all (length text))) ∙
      ap (λ (j : ℕ). drop j text) (zero-mul r)

  pub cuts_length : (text : List ℕ) → length (cuts r text) ≡ block_count r (length text)
  cuts_length text = length_pieces (block_text r text) 0 (block_count r (length text))

pub cuts_come_back_lem : CutsComeBack
cuts_come_back_lem = record {
  whole = λ x text. cuts_whole (room x) (counted_at x) text;
  some = λ x text. let e = cuts_length (room x) (counted_at x) text in let h = (counted_at x).some (length text) in omega (arith, e, h);
  most = λ x text l. let e = cuts_length (room x) (counted_at x) text in let h = (counted_at x).most (length text) l in omega (arith, e, h);
}
