-- How many blocks of a sender are to-do, through its ticks and its acknowledgments. Assumes nothing.
use Rattle.std.proofs.Common.{◌≡◌, ℕ, zero, suc, ◌+◌, ◌<◌, ◌≤◌, Bool, true, false, cond, eqb, List, [], ◌∷◌, ◌++◌, length, sym, refl, ◌∙◌, subst, arith, length-append, eq-eqb, ne_eqb, eqb-true}
use mathlib.Core.Option.{Option, none, some}
use native.Mathlib.Decide.{ℕ_discrete}
use Rattle.law.specs.Directions.{Direction}
use Rattle.law.specs.Receivers.{identifier}
use Rattle.law.specs.Rounds.{OnTime, size_at, left_at, total}
use Rattle.law.specs.Senders.{Message, message, Status, unsettled, delivered, not_delivered, in_doubt, Course, course, Phase, idle, ready, out, Sender, sender, numbered, settle, Unsettled, Begun, between, Submits, submits, Withdraws, from_ready, from_out, unbegun, Block, Sends, first, further, again, Quiet, early, empty, Current, Counts, settles, advances, unnamed, stale}

-- the message under way, if there is one, is unsettled
abbrev pub UnderWay : List Message → (ℕ → Status) → Phase → Type 0
UnderWay g c (idle m) = Unit {0}
UnderWay g c (ready (course n l ds t us)) = Unsettled g c n
UnderWay g c (out (course n l ds t us)) = Unsettled g c n

abbrev pub Held : Sender → Type 0
Held (sender g c ph p s) = UnderWay g c ph

-- the blocks of message n, of so many, that are not acknowledged, by the phase
abbrev pub rest_of : Phase → ℕ → ℕ → ℕ
rest_of (idle m) n k = k
rest_of (ready (course j l ds t us)) n k = cond (eqb n j) (suc (length us)) k
rest_of (out (course j l ds t us)) n k = cond (eqb n j) (suc (length us)) k

-- the blocks of message n that are to be acknowledged
abbrev pub left : List Message → (ℕ → Status) → Phase → ℕ → ℕ
left g c ph n = left_at (c n) (rest_of ph n (size_at (numbered g n)))

-- those of a sender
abbrev pub to_do : Sender → ℕ
to_do (sender g c ph p s) = total (λ j. left g c ph (suc j)) (length g)

-- sums that agree
pub total_same : (f h : ℕ → ℕ) (n : ℕ) → ((i : ℕ) → i < n → f i ≡ h i) → total f n ≡ total h n
total_same f h zero e = refl
total_same f h (suc n) e =
    let a : total f n ≡ total h n = total_same f h n (λ i q. e i (omega arith)) in
    let b : f n ≡ h n = e n (omega arith) in
    cc

pub total_zero : (f : ℕ → ℕ) (n : ℕ) → ((i : ℕ) → i < n → f i ≡ 0) → total f n ≡ 0
total_zero f zero e = refl
total_zero f (suc n) e =
    let a : total f n ≡ 0 = total_zero f n (λ i q. e i (omega arith)) in
    let b : f n ≡ 0 = e n (omega arith) in
    omega arith

-- sums that agree but at one place, where the first has one more
pub total_less : (f h : ℕ → ℕ) (n j : ℕ) → j < n → f j ≡ suc (h j) → ((i : ℕ) → (i ≡ j → ⊥) → f i ≡ h i) → total f n ≡ suc (total h n)
total_less f h zero j q s e = absurd (omega arith)
total_less f h (suc n) j q s e = go (ℕ_discrete j n) (λ k. total_less f h n j k s e)
  where
    go : Dec (j ≡ n) → (j < n → total f n ≡ suc (total h n)) → total f n + f n ≡ suc (total h n + h n)
    go (yes k) ih =
        let a : total f n ≡ total h n = total_same f h n (λ i v. e i (λ d. omega arith)) in
        let b : f n ≡ suc (h n) = subst (λ (x : ℕ). f x ≡ suc (h x)) k s in
        omega arith
    go (no k) ih =
        let l : j < n = omega arith in
        let a : total f n ≡ suc (total h n) = ih l in
        let b : f n ≡ h n = e n (λ d. k (sym d)) in
        omega arith

-- a choice by a test of equal numbers
cond_here : {A : Type 0} (n : ℕ) (a b : A) → cond (eqb n n) a b ≡ a
cond_here n a b = rw (eq-eqb n n refl)

cond_apart : {A : Type 0} (i n : ℕ) (a b : A) → (i ≡ n → ⊥) → cond (eqb i n) a b ≡ b
cond_apart i n a b h = rw (ne_eqb i n h)

-- what is unsettled stays so while other messages are settled and given
unsettled_more : {g : List Message} {c : ℕ → Status} {n : ℕ} (m : Message) → Unsettled g c n → Unsettled (g ++ (m ∷ [])) c n
unsettled_more {g} m u =
    let e = length-append g (m ∷ []) in
    let w = u.within in
    record { given = u.given; within = omega arith; open_yet = u.open_yet }

unsettled_apart : {g : List Message} {c : ℕ → Status} {n : ℕ} (j : ℕ) (x : Status) → (n ≡ j → ⊥) → Unsettled g c n → Unsettled g (settle c j x) n
unsettled_apart {g} {c} {n} j x h u =
    record { given = u.given; within = u.within; open_yet = cond_apart n j x (c n) h ∙ u.open_yet }

pub held_submits : {s s' : Sender} {m : Message} → Submits s m s' → Held s → Held s'
held_submits (submits {ph = idle b} h) k = tt
held_submits (submits {ph = ready (course n l ds t us)} h) k = unsettled_more _ k
held_submits (submits {ph = out (course n l ds t us)} h) k = unsettled_more _ k

pub held_withdraws : {N : ℕ} {s : Sender} {n : ℕ} {s' : Sender} → Withdraws N s n s' → Held s → Held s'
held_withdraws (from_ready h) k = tt
held_withdraws (from_out h) k = tt
held_withdraws (unbegun {ph = idle b} u h) k = tt
held_withdraws (unbegun {ph = ready (course n l ds t us)} {n = j} u h) k =
    unsettled_apart j not_delivered (λ e. h (subst (λ (x : ℕ). Begun (ready (course n l ds t us)) x) e between)) k
held_withdraws (unbegun {ph = out (course n l ds t us)} {n = j} u h) k =
    unsettled_apart j not_delivered (λ e. h (subst (λ (x : ℕ). Begun (out (course n l ds t us)) x) e Begun.current)) k

pub held_sends : {d : Direction} {b : Bool} {s s' : Sender} {z : Course} {k : Block} → Sends d b s z k s' → Held s → Held s'
held_sends (first ch e) h = ch.waits
held_sends (further {z = course n l ds t us}) h = h
held_sends (again {z = course n l ds t us}) h = h

pub held_counts : {s s' : Sender} {a : Option ℕ} {k : Option (ℕ × ℕ)} → Counts s a k s' → Held s → Held s'
held_counts settles h = tt
held_counts advances h = h
held_counts unnamed h = h
held_counts (stale x) h = h

-- a tick that puts a block leaves the count as it is
pub count_sends : {d : Direction} {b : Bool} {s s' : Sender} {z : Course} {k : Block} → Sends d b s z k s' → to_do s' ≡ to_do s
count_sends (first {m = m} {g = g} {c = c} {n = n} {l = l} {t = t} {us = us} ch e) =
    total_same (λ j. left g c (out (course n l [] t us)) (suc j)) (λ j. left g c (idle m) (suc j)) (length g) (λ i q. go (suc i) (eqb (suc i) n) refl)
  where
    go : (i : ℕ) (b : Bool) → eqb i n ≡ b → left g c (out (course n l [] t us)) i ≡ left g c (idle m) i
    go i true h =
        let e' : numbered g i ≡ some (message l (t ∷ us)) = subst (λ (j : ℕ). numbered g j ≡ some (message l (t ∷ us))) (sym (eqb-true i n h)) e in
        rw (h, e')
    go i false h = rw h
count_sends (further {z = course n l ds t us}) = refl
count_sends (again {z = course n l ds t us}) = refl

-- a sender that has nothing to put although its current block would be due has nothing to-do
pub count_quiet : {b : Bool} {s : Sender} → Quiet b s → OnTime b s → to_do s ≡ 0
count_quiet early o = let z : ◌≡◌ {A = ℕ} 0 1 = cc in absurd (omega arith)
count_quiet (empty {m = m} {g = g} {c = c} h) o = total_zero (λ j. left g c (idle m) (suc j)) (length g) (λ i q. go (suc i) (omega arith) q (c (suc i)) refl)
  where
    go : (i : ℕ) → 1 ≤ i → i ≤ length g → (x : Status) → c i ≡ x → left_at (c i) (size_at (numbered g i)) ≡ 0
    go i p q unsettled e = absurd (h i (record { given = p; within = q; open_yet = e }))
    go i p q delivered e = rw e
    go i p q not_delivered e = rw e
    go i p q in_doubt e = rw e

-- an acknowledgment that counts leaves one block less
pub count_counts : {s s' : Sender} {a : Option ℕ} {k : ℕ × ℕ} → Counts s a (some k) s' → Held s → to_do s ≡ suc (to_do s')
count_counts (settles {n = zero}) h = let z = h.given in absurd (omega arith)
count_counts (settles {g = g} {c = c} {n = suc n} {l = l} {ds = ds} {t = t}) h =
    total_less (λ j. left g c (out (course (suc n) l ds t [])) (suc j)) (λ j. left g (settle c (suc n) delivered) (idle false) (suc j)) (length g) n h.within
    (rw (h.open_yet, eq-eqb (suc n) (suc n) refl)) (λ i d. rw (ne_eqb (suc i) (suc n) (λ e. d (omega arith))))
count_counts (advances {n = zero}) h = let z = h.given in absurd (omega arith)
count_counts (advances {g = g} {c = c} {n = suc n} {l = l} {ds = ds} {t = t} {u = u} {us = us}) h =
    total_less (λ j. left g c (out (course (suc n) l ds t (u ∷ us))) (suc j)) (λ j. left g c (ready (course (suc n) l (t ∷ ds) u us)) (suc j)) (length g) n h.within
    (rw (h.open_yet, eq-eqb (suc n) (suc n) refl)) (λ i d. rw (ne_eqb (suc i) (suc n) (λ e. d (omega arith))))

-- an acknowledgment that does not count leaves the sender as it is
pub same_counts : {s s' : Sender} {a : Option ℕ} → Counts s a none s' → s' ≡ s
same_counts unnamed = refl
same_counts (stale h) = refl

-- the current block has not gone out
pub data NotOut : Sender → Type 0 where
  is_idle : {g : List Message} {c : ℕ → Status} {m : Bool} {p : Option ℕ} {s : ℕ} → NotOut (sender g c (idle m) p s)
  is_ready : {g : List Message} {c : ℕ → Status} {z : Course} {p : Option ℕ} {s : ℕ} → NotOut (sender g c (ready z) p s)

-- the current block has gone out under identifier i
pub data OutUnder (i : ℕ) : Sender → Type 0 where
  is_out : {g : List Message} {c : ℕ → Status} {z : Course} {s : ℕ} → OutUnder i (sender g c (out z) (some i) s)

-- then nothing counts
pub none_counts : {s s' : Sender} {a : Option ℕ} {k : ℕ × ℕ} → NotOut s → Counts s a (some k) s' → ⊥
none_counts is_idle c = elim c [ ]
none_counts is_ready c = elim c [ ]

-- one that counts leaves a sender whose current block has not gone out
pub counts_once : {s s' : Sender} {a : Option ℕ} {k : ℕ × ℕ} → Counts s a (some k) s' → NotOut s'
counts_once settles = is_idle
counts_once advances = is_ready

-- one that names a current block which has gone out counts
pub names_counts : {i j : ℕ} {s s' : Sender} → OutUnder i s → i ≡ j → Counts s (some j) none s' → ⊥
names_counts {i} (is_out {g} {c} {z} {s}) e (stale h) = h (subst (λ k. Current (sender g c (out z) (some i) s) k) e Current.current)

pub sends_out : {d : Direction} {b : Bool} {s s' : Sender} {z : Course} {k : Block} → Sends d b s z k s' → OutUnder (identifier k) s'
sends_out (first {n = n} {l = l} {t = t} {us = us} ch e) = is_out
sends_out (further {z = course n l ds t us}) = is_out
sends_out (again {z = course n l ds t us}) = is_out

pub quiet_idle : {b : Bool} {s : Sender} → Quiet b s → OnTime b s → NotOut s
quiet_idle early o = let z : ◌≡◌ {A = ℕ} 0 1 = cc in absurd (omega arith)
quiet_idle (empty h) o = is_idle
