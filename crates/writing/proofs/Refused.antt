-- A string has one refusal at most, and a legal block has none. Assumes nothing.
use Rattle.std.proofs.Common.{◌≡◌, ℕ, suc, ◌<◌, ◌≤◌, List, take, Some, sym, refl, ap, ◌∙◌, subst, inl, inr, arith}
use Rattle.std.proofs.lemmas.List.{take-take}
use Rattle.std.proofs.lemmas.Bool.{cases_order, both_ways}
use Rattle.blocks.specs.declared.fault.BlockFault.{BlockFault}
use Rattle.blocks.specs.declared.fault.BlockFault.TheVariants.{Buffer, Length, Parity, Delimiter, Check, Head, Rest}
use Rattle.blocks.specs.Faults.{number_of, place_of}
use Rattle.blocks.specs.Legal.{Way, Legal}
use Rattle.blocks.specs.Reading.{Refusal, LongEnough, OddOutside, Delimited, Checked, Framed, FirstUnlike, Like, LengthRefused, ParityRefused, DelimiterRefused, CheckRefused, HeadRefused, RestRefused}
use Rattle.blocks.proofs.Shapes.{Lawful}
use Rattle.blocks.proofs.Unlike.{legal_shape}
use Rattle.writing.proofs.Frames.{framed}

-- a refusal with its number and place
pub data Refused (w : Way) (s : List ℕ) : ℕ → ℕ → Type 0 where
  by_length : {k : ℕ} → LengthRefused s k → Refused w s 3 k
  by_parity : {k : ℕ} → ParityRefused s k → Refused w s 4 k
  by_delimiter : {k : ℕ} → DelimiterRefused s k → Refused w s 5 k
  by_check : {k : ℕ} → CheckRefused s k → Refused w s 6 k
  by_head : {k : ℕ} → HeadRefused w s k → Refused w s 7 k
  by_rest : {k : ℕ} → RestRefused w s k → Refused w s 8 k

-- every refusal is one of these, at some place
pub record Placed (w : Way) (s : List ℕ) (x : BlockFault) : Type 0 where
  pub place : ℕ
  pub is : place_of x ≡ Some place
  pub refused : Refused w s (number_of x) place

pub refused_by_lem : (w : Way) (s : List ℕ) (x : BlockFault) → Refusal w s (number_of x) (place_of x) → Placed w s x
refused_by_lem w s Buffer r = absurd r
refused_by_lem w s (Length p) r = record { place = p; is = refl; refused = by_length r }
refused_by_lem w s (Parity p) r = record { place = p; is = refl; refused = by_parity r }
refused_by_lem w s (Delimiter p) r = record { place = p; is = refl; refused = by_delimiter r }
refused_by_lem w s (Check p) r = record { place = p; is = refl; refused = by_check r }
refused_by_lem w s (Head p) r = record { place = p; is = refl; refused = by_head r }
refused_by_lem w s (Rest p) r = record { place = p; is = refl; refused = by_rest r }

module _ (w : Way) (s : List ℕ) where
  -- the rules that a later refusal has kept
  long_of : {n k : ℕ} → Refused w s n k → 3 < n → LongEnough s
  long_of (by_length r) h = absurd (omega arith)
  long_of (by_parity r) h = r.long
  long_of (by_delimiter r) h = r.long
  long_of (by_check r) h = r.long
  long_of (by_head r) h = r.framed.long
  long_of (by_rest r) h = r.framed.long

  odd_of : {n k : ℕ} → Refused w s n k → 4 < n → OddOutside s
  odd_of (by_length r) h = absurd (omega arith)
  odd_of (by_parity r) h = absurd (omega arith)
  odd_of (by_delimiter r) h = r.parity
  odd_of (by_check r) h = r.parity
  odd_of (by_head r) h = r.framed.parity
  odd_of (by_rest r) h = r.framed.parity

  delimited_of : {n k : ℕ} → Refused w s n k → 5 < n → Delimited s
  delimited_of (by_length r) h = absurd (omega arith)
  delimited_of (by_parity r) h = absurd (omega arith)
  delimited_of (by_delimiter r) h = absurd (omega arith)
  delimited_of (by_check r) h = r.delimited
  delimited_of (by_head r) h = r.framed.delimited
  delimited_of (by_rest r) h = r.framed.delimited

  checked_of : {n k : ℕ} → Refused w s n k → 6 < n → Checked s
  checked_of (by_length r) h = absurd (omega arith)
  checked_of (by_parity r) h = absurd (omega arith)
  checked_of (by_delimiter r) h = absurd (omega arith)
  checked_of (by_check r) h = absurd (omega arith)
  checked_of (by_head r) h = r.framed.checked
  checked_of (by_rest r) h = r.framed.checked

  headed_of : {n k : ℕ} → Refused w s n k → 7 < n → (t : List ℕ) × Legal w t × (take 13 t ≡ take 13 s)
  headed_of (by_length r) h = absurd (omega arith)
  headed_of (by_parity r) h = absurd (omega arith)
  headed_of (by_delimiter r) h = absurd (omega arith)
  headed_of (by_check r) h = absurd (omega arith)
  headed_of (by_head r) h = absurd (omega arith)
  headed_of (by_rest r) h = r.head

  -- each refusal breaks its rule
  long_clash : {k : ℕ} → LengthRefused s k → LongEnough s → ⊥
  long_clash r l = let e = r.place in let a = l.least in let b = l.most in elim r.outside [ inl h ↦ omega arith | inr h ↦ omega arith ]

  odd_clash : {k : ℕ} → ParityRefused s k → OddOutside s → ⊥
  odd_clash {k} r o = both_ways _ r.even (o k r.outside)

  delimited_clash : {k : ℕ} → DelimiterRefused s k → Delimited s → ⊥
  delimited_clash r d = elim r.broken [ inl h ↦ h.1 d.first | inr h ↦ h.2 d.last ]

  front : (t : List ℕ) (k : ℕ) → k ≤ 12 → take 13 t ≡ take 13 s → take (suc k) t ≡ take (suc k) s
  front t k h e = sym (take-take (suc k) 13 t (omega arith)) ∙ ap (take (suc k)) e ∙ take-take (suc k) 13 s (omega arith)

  head_clash : {k : ℕ} → HeadRefused w s k → ((t : List ℕ) × Legal w t × (take 13 t ≡ take 13 s)) → ⊥
  head_clash {k} r (t, l, e) = r.first.none t l (front t k r.within e)

  -- an earlier refusal and a later one do not meet
  earlier : {n m k j : ℕ} → Refused w s n k → Refused w s m j → n < m → ⊥
  earlier (by_length r) q h = long_clash r (long_of q h)
  earlier (by_parity r) q h = odd_clash r (odd_of q h)
  earlier (by_delimiter r) q h = delimited_clash r (delimited_of q h)
  earlier (by_check r) q h = r.differs (checked_of q h)
  earlier (by_head r) q h = head_clash r (headed_of q h)
  earlier (by_rest r) (by_length q) h = absurd (omega arith)
  earlier (by_rest r) (by_parity q) h = absurd (omega arith)
  earlier (by_rest r) (by_delimiter q) h = absurd (omega arith)
  earlier (by_rest r) (by_check q) h = absurd (omega arith)
  earlier (by_rest r) (by_head q) h = absurd (omega arith)
  earlier (by_rest r) (by_rest q) h = absurd (omega arith)

  -- the first place is one place
  first_once : (K : List ℕ → Type 0) (a k j : ℕ) → FirstUnlike K s a k → FirstUnlike K s a j → k < j → ⊥
  first_once K a k j p q h = let (t, l, e) = q.some k p.from h in p.none t l e

  before_once : (k j : ℕ) → ParityRefused s k → ParityRefused s j → k < j → ⊥
  before_once k j p q h = both_ways _ p.even (q.before k h p.outside)

  one_of : (k j : ℕ) → (k < j → ⊥) → (j < k → ⊥) → k ≡ j
  one_of k j a b = elim (cases_order k j) [ inl e ↦ e | inr o ↦ elim o [ inl h ↦ absurd (a h) | inr h ↦ absurd (b h) ] ]

  delimiter_once : (k j : ℕ) → DelimiterRefused s k → DelimiterRefused s j → k ≡ j
  delimiter_once k j p q =
      elim p.broken [
        | inl x ↦ elim q.broken [ inl y ↦ x.0 ∙ sym y.0 | inr y ↦ absurd (x.1 y.1) ]
        | inr x ↦ elim q.broken [ inl y ↦ absurd (y.1 x.1) | inr y ↦ x.0 ∙ sym y.0 ]
      ]

  -- a refusal by its number
  told : {m j : ℕ} → Refused w s m j → Refusal w s m (Some j)
  told (by_length r) = r
  told (by_parity r) = r
  told (by_delimiter r) = r
  told (by_check r) = r
  told (by_head r) = r
  told (by_rest r) = r

  also : {n m j : ℕ} → n ≡ m → Refused w s m j → Refusal w s n (Some j)
  also {n} {m} {j} e q = subst (λ (z : ℕ). Refusal w s z (Some j)) (sym e) (told q)

  -- two refusals of one number stand at one place
  same_place : {n m k j : ℕ} → Refused w s n k → Refused w s m j → n ≡ m → k ≡ j
  same_place (by_length p) q e = p.place ∙ sym (also e q).place
  same_place {n} {m} {k} {j} (by_parity p) q e = one_of k j (before_once k j p (also e q)) (before_once j k (also e q) p)
  same_place {n} {m} {k} {j} (by_delimiter p) q e = delimiter_once k j p (also e q)
  same_place (by_check p) q e = p.place ∙ sym (also e q).place
  same_place {n} {m} {k} {j} (by_head p) q e =
      one_of k j (first_once (Legal w) 1 k j p.first (also e q).first) (first_once (Legal w) 1 j k (also e q).first p.first)
  same_place {n} {m} {k} {j} (by_rest p) q e =
      one_of k j (first_once (Like w s) 13 k j p.first (also e q).first) (first_once (Like w s) 13 j k (also e q).first p.first)

  pub one_refused : {n m k j : ℕ} → Refused w s n k → Refused w s m j → (n ≡ m) × (k ≡ j)
  one_refused {n} {m} p q = let e : n ≡ m = one_of n m (earlier p q) (earlier q p) in (e, same_place p q e)

-- a legal block is not refused
module _ (w : Way) (l : Lawful w) (s : List ℕ) (legal : Legal w s) where
  legal_framed : Framed s
  legal_framed = let m = legal_shape w l s legal in subst Framed (sym m.is) (framed w l m.n m.g m.shaped)

  pub unrefused : {n k : ℕ} → Refused w s n k → ⊥
  unrefused (by_length r) = long_clash w s r legal_framed.long
  unrefused (by_parity r) = odd_clash w s r legal_framed.parity
  unrefused (by_delimiter r) = delimited_clash w s r legal_framed.delimited
  unrefused (by_check r) = r.differs legal_framed.checked
  unrefused (by_head r) = r.first.none s legal refl
  unrefused (by_rest r) = r.first.none s (record { legal = legal; long = refl; head = refl }) refl
