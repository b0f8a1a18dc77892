-- When the relations of a path determine its calls, and that a fade box keeps it so. Assumes nothing.
use Rattle.std.proofs.Common.{◌≡◌, ℕ, ◌<◌, List, [], ◌∷◌, ◌++◌, length, take, drop, Ok, Err, Option, Result, sym, refl, ap, ◌∙◌, subst, arith}
use native.Mathlib.Decide.{dec_le}
use Rattle.std.proofs.lemmas.List.{length-take, take-append-drop}
use Rattle.paths.specs.declared.fault.PathFault.{PathFault}
use Rattle.paths.specs.declared.fault.PathFault.TheVariants.{BadLength, NothingWaits}
use Rattle.paths.specs.declared.fates.Fate.{Fate}
use Rattle.paths.specs.declared.fates.Fate.TheVariants.{Lost, Intact, Twice, Spoiled}
use Rattle.paths.specs.Faults.{number}
use Rattle.paths.specs.Fates.{next}
use Rattle.paths.specs.Meaning.{Sized, Puts, Takes, Handed, TakeRefused}
use Rattle.paths.specs.Outcome.{Determined}
use Rattle.paths.specs.Fading.{FadeSight, FadePuts, FadeTakes, Faded, spoiled}

-- One number, one fault.
same_fault : (f g : PathFault) → number f ≡ number g → f ≡ g
same_fault BadLength BadLength e = refl
same_fault BadLength NothingWaits e = cc
same_fault NothingWaits BadLength e = cc
same_fault NothingWaits NothingWaits e = refl

-- Relations that are functions, of the state and the string and of the state.
pub record Functional {V : Type 0} (puts : V → List ℕ → V → Type 0) (takes : V → Option (List ℕ) → V → Type 0) : Type 0 where
  pub put : (v : V) (s : List ℕ) (w x : V) → puts v s w → puts v s x → w ≡ x
  pub take : (v : V) (o p : Option (List ℕ)) (w x : V) → takes v o w → takes v p x → (o ≡ p) × (w ≡ x)

module _ {V : Type 0} {puts : V → List ℕ → V → Type 0} {takes : V → Option (List ℕ) → V → Type 0} (F : Functional puts takes) where
  one_put : (v : V) (s : List ℕ) (w x : V) (q r : Result (Unit {0}) PathFault) → Puts puts v s w q → Puts puts v s x r → (q ≡ r) × (w ≡ x)
  one_put v s w x (Ok t) (Ok u) p q = (refl, F.put v s w x p.1 q.1)
  one_put v s w x (Ok t) (Err g) p q = absurd (q.unfit p.0)
  one_put v s w x (Err f) (Ok u) p q = absurd (p.unfit q.0)
  one_put v s w x (Err f) (Err g) p q = (ap Err (same_fault f g (p.refusal ∙ sym q.refusal)), p.same ∙ sym q.same)

  both_handed : (v : V) (b : List ℕ) (w x : V) (b₁ b₂ : List ℕ) (m n : ℕ) → Handed takes v b w b₁ m → Handed takes v b x b₂ n → (m ≡ n) × (w ≡ x) × (b₁ ≡ b₂)
  both_handed v b w x b₁ b₂ m n p q =
      let one = F.take v _ _ w x p.taken q.taken in
      let string : take m b₁ ≡ take n b₂ = cc one.0 in
      let long = ap length string in
      let count : m ≡ n = omega (arith, long, length-take m b₁, length-take n b₂, p.size, q.size, p.room, q.room, p.count, q.count) in
      let behind : drop m b₁ ≡ drop n b₂ = p.behind ∙ ap (λ (k : ℕ). drop k b) count ∙ sym q.behind in
      (count, one.1, sym (take-append-drop m b₁) ∙ ap (λ (f : List ℕ). f ++ drop m b₁) string ∙ ap (λ (e : List ℕ). take n b₂ ++ e) behind ∙ take-append-drop n b₂)

  never_both : (v : V) (b : List ℕ) (w x : V) (b₁ b₂ : List ℕ) (n : ℕ) (f : PathFault) → Handed takes v b w b₁ n → TakeRefused takes v b x b₂ f → ⊥
  never_both v b w x b₁ b₂ n f p q =
      let one = F.take v _ _ w x p.taken (q.none p.room).1 in cc one.0

  both_refused : (v : V) (b : List ℕ) (w x : V) (b₁ b₂ : List ℕ) (f g : PathFault) → TakeRefused takes v b w b₁ f → TakeRefused takes v b x b₂ g → (f ≡ g) × (w ≡ x) × (b₁ ≡ b₂)
  both_refused v b w x b₁ b₂ f g p q =
      elim (dec_le 256 (length b)) [
        | yes l ↦ (same_fault f g ((p.none l).0 ∙ sym (q.none l).0), (F.take v _ _ w x (p.none l).1 (q.none l).1).1, p.buffer ∙ sym q.buffer)
        | no l ↦ let k : length b < 256 = omega arith in (same_fault f g ((p.short k).0 ∙ sym (q.short k).0), (p.short k).1 ∙ sym (q.short k).1, p.buffer ∙ sym q.buffer)
      ]

  one_take : (v : V) (b : List ℕ) (w x : V) (b₁ b₂ : List ℕ) (q r : Result ℕ PathFault) → Takes takes v b w b₁ q → Takes takes v b x b₂ r → (q ≡ r) × (w ≡ x) × (b₁ ≡ b₂)
  one_take v b w x b₁ b₂ (Ok m) (Ok n) p q = let e = both_handed v b w x b₁ b₂ m n p q in (ap Ok e.0, e.1, e.2)
  one_take v b w x b₁ b₂ (Ok m) (Err g) p q = absurd (never_both v b w x b₁ b₂ m g p q)
  one_take v b w x b₁ b₂ (Err f) (Ok n) p q = absurd (never_both v b x w b₂ b₁ n f q p)
  one_take v b w x b₁ b₂ (Err f) (Err g) p q = let e = both_refused v b w x b₁ b₂ f g p q in (ap Err e.0, e.1, e.2)

  pub determined : Determined puts takes
  determined = record { one_put = one_put; one_take = one_take }

abbrev sight : {V : Type 0} → List Fate → V → FadeSight V
sight f v = record { fates = f; below = v }

same_sight : {V : Type 0} (w x : FadeSight V) → w.fates ≡ x.fates → w.below ≡ x.below → w ≡ x
same_sight {V} w x p q = ap (λ (f : List Fate). sight f w.below) p ∙ ap (λ (v : V). sight x.fates v) q

-- A spoiled string keeps its length.
pub spoiled_sized : (s : List ℕ) → Sized s → Sized (spoiled s)
spoiled_sized [] z = z
spoiled_sized (x ∷ s) z = record { some = z.some; most = z.most }

-- A fade box over a path whose outcomes are determined.
module _ {V : Type 0} {puts : V → List ℕ → V → Type 0} {takes : V → Option (List ℕ) → V → Type 0} (D : Determined puts takes) where
  one_fade : (f : Fate) (v : V) (s : List ℕ) (w x : V) → Sized s → Faded puts f v s w → Faded puts f v s x → w ≡ x
  one_fade Lost v s w x z p q = p ∙ sym q
  one_fade Intact v s w x z p q = (D.one_put v s w x (Ok tt) (Ok tt) (z, p) (z, q)).1
  one_fade Twice v s w x z p q =
      let e = (D.one_put v s p.between q.between (Ok tt) (Ok tt) (z, p.first) (z, q.first)).1 in
      (D.one_put p.between s w x (Ok tt) (Ok tt) (z, p.second) (z, subst (λ (m : V). puts m s x) (sym e) q.second)).1
  one_fade Spoiled v s w x z p q = let y = spoiled_sized s z in (D.one_put v (spoiled s) w x (Ok tt) (Ok tt) (y, p) (y, q)).1

  fade_put : (v : FadeSight V) (s : List ℕ) (w x : FadeSight V) (q r : Result (Unit {0}) PathFault) → Puts (FadePuts puts) v s w q → Puts (FadePuts puts) v s x r → (q ≡ r) × (w ≡ x)
  fade_put v s w x (Ok t) (Ok u) p q =
      (refl, same_sight w x (p.1.spends ∙ sym q.1.spends) (one_fade (next v.fates) v.below s w.below x.below p.0 p.1.fades q.1.fades))
  fade_put v s w x (Ok t) (Err g) p q = absurd (q.unfit p.0)
  fade_put v s w x (Err f) (Ok u) p q = absurd (p.unfit q.0)
  fade_put v s w x (Err f) (Err g) p q = (ap Err (same_fault f g (p.refusal ∙ sym q.refusal)), p.same ∙ sym q.same)

  take_below : (v : FadeSight V) (b : List ℕ) (w : FadeSight V) (b₁ : List ℕ) (r : Result ℕ PathFault) → Takes (FadeTakes takes) v b w b₁ r → Takes takes v.below b w.below b₁ r
  take_below v b w b₁ (Ok n) p = record { room = p.room; count = p.count; taken = p.taken.takes_below; behind = p.behind; size = p.size }
  take_below v b w b₁ (Err f) p = record {
    buffer = p.buffer;
    short = λ k. ((p.short k).0, ap (λ (u : FadeSight V). u.below) (p.short k).1);
    none = λ k. ((p.none k).0, (p.none k).1.takes_below);
  }

  take_keeps : (v : FadeSight V) (b : List ℕ) (w : FadeSight V) (b₁ : List ℕ) (r : Result ℕ PathFault) → Takes (FadeTakes takes) v b w b₁ r → w.fates ≡ v.fates
  take_keeps v b w b₁ (Ok n) p = p.taken.keeps
  take_keeps v b w b₁ (Err f) p =
      elim (dec_le 256 (length b)) [
        | yes l ↦ (p.none l).1.keeps
        | no l ↦ let k : length b < 256 = omega arith in ap (λ (u : FadeSight V). u.fates) (p.short k).1
      ]

  fade_take : (v : FadeSight V) (b : List ℕ) (w x : FadeSight V) (b₁ b₂ : List ℕ) (q r : Result ℕ PathFault) → Takes (FadeTakes takes) v b w b₁ q → Takes (FadeTakes takes) v b x b₂ r → (q ≡ r) × (w ≡ x) × (b₁ ≡ b₂)
  fade_take v b w x b₁ b₂ q r p p' =
      let e = D.one_take v.below b w.below x.below b₁ b₂ q r (take_below v b w b₁ q p) (take_below v b x b₂ r p') in
      (e.0, same_sight w x (take_keeps v b w b₁ q p ∙ sym (take_keeps v b x b₂ r p')) e.1, e.2)

  pub fade_determined : Determined (FadePuts puts) (FadeTakes takes)
  fade_determined = record { one_put = fade_put; one_take = fade_take }
