-- Strings in a memory, for any layout whose first string can be found again. Assumes nothing.
use Rattle.std.specs.Prelude.{◌≡◌, ℕ, zero, suc, ◌+◌, ◌≤◌, true, ◌&&◌, List, [], ◌∷◌, ◌++◌, length, take, drop, nat_le, refl}
use Rattle.std.proofs.Common.{sym, ap, ◌∙◌, append_assoc, arith, length-append}
use Rattle.std.proofs.lemmas.List.{take_at, drop_at, drop-drop, append-nil}
use Rattle.std.proofs.lemmas.Bool.{and_parts, and_from, leb-true}
use Rattle.lines.specs.Layout.{Layout, Lawful, holds, holds_all, packed, strings_of, occupied}

pub count_of : (l : Layout) (n : ℕ) (run : List ℕ) → length (strings_of l n run) ≡ n
count_of l zero run = refl
count_of l (suc n) run = ap suc (count_of l n (drop (l.size + l.first run) run))

module _ (l : Layout) (L : Lawful l) where
  -- The first string of a run, and what lies behind it.
  pub first_string : (s rest : List ℕ) → holds l s ≡ true → take (l.first (l.head s ++ (s ++ rest))) (drop l.size (l.head s ++ (s ++ rest))) ≡ s
  first_string s rest h =
      ap (λ (n : ℕ). take n (drop l.size (l.head s ++ (s ++ rest)))) (L.found s rest h) ∙ ap (take (length s)) (drop_at (l.head s) (s ++ rest) l.size (L.head_long s)) ∙ take_at s rest (length s) refl

  pub behind_first : (s rest : List ℕ) → holds l s ≡ true → drop (l.size + l.first (l.head s ++ (s ++ rest))) (l.head s ++ (s ++ rest)) ≡ rest
  behind_first s rest h =
      ap (λ (n : ℕ). drop (l.size + n) (l.head s ++ (s ++ rest))) (L.found s rest h) ∙ sym (drop-drop (length s) l.size (l.head s ++ (s ++ rest))) ∙ ap (drop (length s)) (drop_at (l.head s) (s ++ rest) l.size (L.head_long s)) ∙ drop_at s rest (length s) refl

  one_more : (n : ℕ) (s rest : List ℕ) → holds l s ≡ true → strings_of l (suc n) (l.head s ++ (s ++ rest)) ≡ s ∷ strings_of l n rest
  one_more n s rest h =
      ap (λ (x : List ℕ). x ∷ strings_of l n (drop (l.size + l.first (l.head s ++ (s ++ rest))) (l.head s ++ (s ++ rest)))) (first_string s rest h) ∙ ap (λ (x : List ℕ). s ∷ strings_of l n x) (behind_first s rest h)

  regroup : (s : List ℕ) (ss : List (List ℕ)) (rest : List ℕ) → packed l (s ∷ ss) ++ rest ≡ l.head s ++ (s ++ (packed l ss ++ rest))
  regroup s ss rest = append_assoc (l.head s) (s ++ packed l ss) rest ∙ ap (λ (x : List ℕ). l.head s ++ x) (append_assoc s (packed l ss) rest)

  -- Packed strings are read again.
  pub read_back : (ss : List (List ℕ)) (rest : List ℕ) → holds_all l ss ≡ true → strings_of l (length ss) (packed l ss ++ rest) ≡ ss
  read_back [] rest h = refl
  read_back (s ∷ ss) rest h =
      let h' = and_parts (holds l s) (holds_all l ss) h in
      ap (strings_of l (suc (length ss))) (regroup s ss rest) ∙ one_more (length ss) s (packed l ss ++ rest) h'.0 ∙ ap (λ (x : List (List ℕ)). s ∷ x) (read_back ss rest h'.1)

  pub packed_long : (ss : List (List ℕ)) → length (packed l ss) ≡ occupied l ss
  packed_long [] = refl
  packed_long (s ∷ ss) =
      omega (arith, length-append (l.head s) (s ++ packed l ss), length-append s (packed l ss), L.head_long s, packed_long ss)

  pub packed_push : (ss : List (List ℕ)) (s : List ℕ) → packed l (ss ++ s ∷ []) ≡ packed l ss ++ (l.head s ++ s)
  packed_push [] s = ap (λ (x : List ℕ). l.head s ++ x) (append-nil s)
  packed_push (t ∷ ss) s =
      ap (λ (x : List ℕ). l.head t ++ (t ++ x)) (packed_push ss s) ∙ sym (regroup t ss (l.head s ++ s))

  pub holds_push : (ss : List (List ℕ)) (s : List ℕ) → holds_all l ss ≡ true → holds l s ≡ true → holds_all l (ss ++ s ∷ []) ≡ true
  holds_push [] s h k = and_from (holds l s) true k refl
  holds_push (t ∷ ss) s h k =
      let h' = and_parts (holds l t) (holds_all l ss) h in
      and_from (holds l t) (holds_all l (ss ++ s ∷ [])) h'.0 (holds_push ss s h'.1 k)

  -- Each string takes up an octet at least.
  pub few : (ss : List (List ℕ)) → holds_all l ss ≡ true → length ss ≤ occupied l ss
  few [] h = omega arith
  few (s ∷ ss) h =
      let h' = and_parts (holds l s) (holds_all l ss) h in
      let k = (and_parts (nat_le 1 (length s) && nat_le (length s) 256) (l.plain s) h'.0).0 in
      let some = leb-true 1 (length s) (and_parts (nat_le 1 (length s)) (nat_le (length s) 256) k).0 in
      omega (arith, few ss h'.1)
