-- Lists of messages and of numbers: what an appended one changes.
-- Assumes nothing.
use Rattle.std.proofs.Common.{◌≡◌, ℕ, zero, suc, ◌+◌, ◌<◌, ◌≤◌, Bool, true, false, cond, eqb, ◌⊎◌, List, [], ◌∷◌, ◌++◌, length, refl, subst, inl, inr, suc-le-suc, zero-le, le_trans, le_refl, arith, eq-eqb, ne_eqb, eqb-true}
use mathlib.Core.List.{reverse_aux}
use mathlib.Core.Option.{some}
use borrow.Author.Tests.{eqb-false}
use Rattle.law.specs.Senders.{Text, Message, Status, nth, numbered, settle}
use Rattle.law.specs.Truth.{Among, here, there, Rises, risen, rises, Bears, bears_none, bears}

-- a submitted message keeps its number
pub nth_append : (ms : List Message) (k : ℕ) {m : Message} (xs : List Message) → nth ms k ≡ some m → nth (ms ++ xs) k ≡ some m
nth_append [] k {m} xs e = let z : ◌≡◌ {A = ℕ} 0 1 = cc in absurd (omega arith)
nth_append (y ∷ ms) zero xs e = e
nth_append (y ∷ ms) (suc k) xs e = nth_append ms k xs e

pub numbered_append : (ms : List Message) (n : ℕ) {m : Message} (xs : List Message) → numbered ms n ≡ some m → numbered (ms ++ xs) n ≡ some m
numbered_append ms zero {m} xs e = let z : ◌≡◌ {A = ℕ} 0 1 = cc in absurd (omega arith)
numbered_append ms (suc k) xs e = nth_append ms k xs e

-- a number that a message bears is at least 1
pub numbered_given : (ms : List Message) (n : ℕ) {m : Message} → numbered ms n ≡ some m → 1 ≤ n
numbered_given ms zero {m} e = let z : ◌≡◌ {A = ℕ} 0 1 = cc in absurd (omega arith)
numbered_given ms (suc k) e = suc-le-suc zero-le

-- a rule that all messages keep, and the new one, is kept by all
pub nth_each : (P : Message → Type 0) (ms : List Message) (x : Message) → ((k : ℕ) (m : Message) → nth ms k ≡ some m → P m) → P x →
    (k : ℕ) (m : Message) → nth (ms ++ (x ∷ [])) k ≡ some m → P m
nth_each P [] x old new zero m e = let q : x ≡ m = cc in subst P q new
nth_each P [] x old new (suc k) m e = let z : ◌≡◌ {A = ℕ} 0 1 = cc in absurd (omega arith)
nth_each P (y ∷ ms) x old new zero m e = old zero m e
nth_each P (y ∷ ms) x old new (suc k) m e = nth_each P ms x (λ j n f. old (suc j) n f) new k m e

-- numbers that rise strictly from lo on and stay below hi
pub data Rising : ℕ → List ℕ → ℕ → Type 0 where
  up_to : {lo hi : ℕ} → lo ≤ hi → Rising lo [] hi
  up_by : {lo hi n : ℕ} {ns : List ℕ} → lo ≤ n → Rising (suc n) ns hi → Rising lo (n ∷ ns) hi

pub rising_widen : {lo hi hi' : ℕ} {ns : List ℕ} → hi ≤ hi' → Rising lo ns hi → Rising lo ns hi'
rising_widen l (up_to m) = up_to (le_trans m l)
rising_widen l (up_by m u) = up_by m (rising_widen l u)

pub rising_add : {lo hi n : ℕ} {ns : List ℕ} → hi ≤ n → Rising lo ns hi → Rising lo (ns ++ (n ∷ [])) (suc n)
rising_add l (up_to m) = up_by (le_trans m l) (up_to (le_refl _))
rising_add l (up_by m u) = up_by m (rising_add l u)

pub rising_rises : {lo hi : ℕ} {ns : List ℕ} → Rising lo ns hi → Rises lo ns
rising_rises (up_to m) = risen
rising_rises (up_by m u) = rises m (rising_rises u)

pub rising_le : {lo hi : ℕ} {ns : List ℕ} → Rising lo ns hi → lo ≤ hi
rising_le (up_to m) = m
rising_le (up_by m u) = let v = rising_le u in omega arith

pub rising_among : {lo hi n : ℕ} {ns : List ℕ} → Rising lo ns hi → Among n ns → n < hi
rising_among (up_to m) w = elim w [ ]
rising_among (up_by m u) here = rising_le u
rising_among (up_by m u) (there w) = rising_among u w

pub rising_low : {lo hi n : ℕ} {ns : List ℕ} → Rising lo ns hi → Among n ns → lo ≤ n
rising_low (up_to m) w = elim w [ ]
rising_low (up_by m u) here = m
rising_low (up_by m u) (there w) = let v = rising_low u w in omega arith

pub among_left : {n : ℕ} {ns : List ℕ} (ms : List ℕ) → Among n ns → Among n (ns ++ ms)
among_left ms here = here
among_left ms (there w) = there (among_left ms w)

pub among_last : (ns : List ℕ) (n : ℕ) → Among n (ns ++ (n ∷ []))
among_last [] n = here
among_last (m ∷ ns) n = there (among_last ns n)

pub among_split : {n : ℕ} (ns : List ℕ) {m : ℕ} → Among n (ns ++ (m ∷ [])) → Among n ns ⊎ (n ≡ m)
among_split [] here = inr refl
among_split [] (there w) = elim w [ ]
among_split (k ∷ ns) here = inl here
among_split (k ∷ ns) (there w) = elim (among_split ns w) [ inl u ↦ inl (there u) | inr e ↦ inr e ]

pub bears_more : {g : List Message} {ns : List ℕ} {ms : List Message} (xs : List Message) → Bears g ns ms → Bears (g ++ xs) ns ms
bears_more xs bears_none = bears_none
bears_more {g} xs (bears {n = n} e b) = bears (numbered_append g n xs e) (bears_more xs b)

pub bears_add : {g : List Message} {ns : List ℕ} {ms : List Message} (n : ℕ) (m : Message) → numbered g n ≡ some m →
    Bears g ns ms → Bears g (ns ++ (n ∷ [])) (ms ++ (m ∷ []))
bears_add n m e bears_none = bears e bears_none
bears_add n m e (bears f b) = bears f (bears_add n m e b)

-- what is called after a settling: the one settled, and every other
pub settle_here : (c : ℕ → Status) (n : ℕ) (s : Status) → settle c n s n ≡ s
settle_here c n s = rw (eq-eqb n n refl)

pub settle_else : (c : ℕ → Status) (n : ℕ) (s : Status) (j : ℕ) → (j ≡ n → ⊥) → settle c n s j ≡ c j
settle_else c n s j f = rw (ne_eqb j n f)

-- a number called x after a settling is the one settled, or was called so before
pub settle_split : (c : ℕ → Status) (n : ℕ) (s x : Status) (j : ℕ) → settle c n s j ≡ x → ((j ≡ n) × (s ≡ x)) ⊎ ((j ≡ n → ⊥) × (c j ≡ x))
settle_split c n s x j e = go (eqb j n) refl e
  where
    go : (t : Bool) → eqb j n ≡ t → cond t s (c j) ≡ x → ((j ≡ n) × (s ≡ x)) ⊎ ((j ≡ n → ⊥) × (c j ≡ x))
    go true f u = inl (eqb-true j n f, u)
    go false f u = inr (eqb-false j n f, u)

pub length_rev : (ds us : List Text) → length (reverse_aux ds us) ≡ length ds + length us
length_rev [] us = omega arith
length_rev (d ∷ ds) us = let e = length_rev ds (d ∷ us) in omega arith
