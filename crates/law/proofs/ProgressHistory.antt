-- What a sender has to do is what its calls left unacknowledged. Assumes nothing.
use Rattle.std.proofs.Common.{◌≡◌, ℕ, zero, suc, ◌+◌, ◌-◌, ◌<◌, Bool, true, false, cond, eqb, ltb, List, [], ◌∷◌, ◌++◌, length, sym, refl, ap, ◌∙◌, subst, arith, eqb-true}
use mathlib.Core.Option.{Option, none}
use Rattle.std.proofs.lemmas.Bool.Decides.{nat_tests}
use Rattle.law.specs.Directions.{Direction}
use Rattle.law.specs.Senders.{Text, Message, message, Status, unsettled, delivered, not_delivered, in_doubt, Course, course, Phase, idle, ready, out, Sender, sender, nth, numbered, settle, Unsettled, verdict, Submits, submits, Withdraws, from_ready, from_out, unbegun, Block, Sends, first, further, again, Counts, settles, advances, unnamed, stale}
use Rattle.law.specs.Links.{Packet, End, called_by, Hears, passes, hears_response, hears_block, Doing, submitted, heard, Answer, Move, submit, withdraw, tick_block, tick_response, tick_nothing, hear, hear_nothing, collect, collect_nothing, outcome, refuse, Side, air, ground, Event, Link, Step, at_air, at_ground, Run, begin, ◌then◌}
use Rattle.law.specs.Truth.{sender_in, sender_of, calls, submissions}
use Rattle.law.specs.Rounds.{acknowledged_by, missing, size_at, total, left_at, blocks_left, unacknowledged}
use Rattle.law.proofs.ProgressCounts.{UnderWay, Held, rest_of, left, to_do, total_same}
use Rattle.law.proofs.ProgressRuns.{held}

-- how many blocks of message n are acknowledged, by the phase
abbrev done : Phase → ℕ → ℕ
done (idle m) n = 0
done (ready (course j l ds t us)) n = cond (eqb n j) (length ds) 0
done (out (course j l ds t us)) n = cond (eqb n j) (length ds) 0

-- the message under way has the blocks of its course
abbrev Sized : List Message → Phase → Type 0
Sized g (idle m) = Unit {0}
Sized g (ready (course n l ds t us)) = size_at (numbered g n) ≡ length ds + suc (length us)
Sized g (out (course n l ds t us)) = size_at (numbered g n) ≡ length ds + suc (length us)

-- what the calls of an end record of its sender
record Records (h : List Doing) (g : List Message) (c : ℕ → Status) (ph : Phase) : Type 0 where
  given : submissions h ≡ g
  sized : Sized g ph
  blocks : (n i : ℕ) → c n ≡ unsettled → missing h n i ≡ cond (ltb i (done ph n)) 0 1

abbrev Recorded : List Doing → Sender → Type 0
Recorded h (sender g c ph p s) = Records h g c ph

-- a number that was given keeps its message
nth_more : (g : List Message) (m : Message) (k : ℕ) → k < length g → nth (g ++ (m ∷ [])) k ≡ nth g k
nth_more [] m k h = absurd (omega arith)
nth_more (x ∷ g) m zero h = refl
nth_more (x ∷ g) m (suc k) h = nth_more g m k (omega arith)

numbered_more : {g : List Message} {c : ℕ → Status} {n : ℕ} (m : Message) → Unsettled g c n → numbered (g ++ (m ∷ [])) n ≡ numbered g n
numbered_more {g} {n = zero} m u = refl
numbered_more {g} {n = suc k} m u = nth_more g m k u.within

sized_more : (c : ℕ → Status) (g : List Message) (ph : Phase) (m : Message) → UnderWay g c ph → Sized g ph → Sized (g ++ (m ∷ [])) ph
sized_more c g (idle b) m u z = tt
sized_more c g (ready (course n l ds t us)) m u z = ap size_at (numbered_more m u) ∙ z
sized_more c g (out (course n l ds t us)) m u z = ap size_at (numbered_more m u) ∙ z

record_submits : (h : List Doing) {s s' : Sender} {m : Message} → Submits s m s' → Held s → Recorded h s → Recorded (submitted m ∷ h) s'
record_submits h (submits {g} {c} {ph} {p} {s} {l} {t} {ts} f) u r = record {
  given = ap (λ x. x ++ (message l (t ∷ ts) ∷ [])) r.given;
  sized = sized_more c g ph (message l (t ∷ ts)) u r.sized;
  blocks = r.blocks;
}

-- what is unsettled after a message was settled is another message, and was unsettled
record Apart (c : ℕ → Status) (n j : ℕ) : Type 0 where
  test : eqb j n ≡ false
  was : c j ≡ unsettled

apart : (c : ℕ → Status) (n j : ℕ) (x : Status) → (x ≡ unsettled → ⊥) → settle c n x j ≡ unsettled → Apart c n j
apart c n j x a e = go (eqb j n) refl
  where
    go : (b : Bool) → eqb j n ≡ b → Apart c n j
    go true h = absurd (a (rw h at e))
    go false h = record { test = h; was = rw h at e }

not_unsettled : not_delivered ≡ unsettled → ⊥
not_unsettled e = let z : ◌≡◌ {A = ℕ} 0 1 = cc in omega arith

delivered_settles : delivered ≡ unsettled → ⊥
delivered_settles e = let z : ◌≡◌ {A = ℕ} 0 1 = cc in omega arith

verdict_settles : (us : List Text) → verdict us ≡ unsettled → ⊥
verdict_settles [] e = let z : ◌≡◌ {A = ℕ} 0 1 = cc in omega arith
verdict_settles (u ∷ us) e = not_unsettled e

record_withdraws : (h : List Doing) {N : ℕ} {s : Sender} {n : ℕ} {s' : Sender} → Withdraws N s n s' → Recorded h s → Recorded h s'
record_withdraws h (from_ready {c = c} {n = n} f) r = record {
  given = r.given;
  sized = tt;
  blocks = λ j i e. let a = apart c n j not_delivered not_unsettled e in let b = r.blocks j i a.was in rw a.test at b;
}
record_withdraws h (from_out {c = c} {n = n} {us = us} f) r = record {
  given = r.given;
  sized = tt;
  blocks = λ j i e. let a = apart c n j (verdict us) (verdict_settles us) e in let b = r.blocks j i a.was in rw a.test at b;
}
record_withdraws h (unbegun {c = c} {n = n} u f) r = record {
  given = r.given;
  sized = r.sized;
  blocks = λ j i e. r.blocks j i (apart c n j not_delivered not_unsettled e).was;
}

record_sends : (h : List Doing) {d : Direction} {b : Bool} {s s' : Sender} {z : Course} {k : Block} → Sends d b s z k s' → Recorded h s → Recorded h s'
record_sends h (first {n = n} {us = us} ch e) r = record {
  given = r.given;
  sized = ap size_at e ∙ omega arith;
  blocks = λ j i f. r.blocks j i f ∙ grind (arith, nat_tests);
}
record_sends h (further {z = course n l ds t us}) r = record { given = r.given; sized = r.sized; blocks = r.blocks }
record_sends h (again {z = course n l ds t us}) r = record { given = r.given; sized = r.sized; blocks = r.blocks }

-- a call that submits and acknowledges nothing
record_plain : (h : List Doing) (v : Doing) (s : Sender) → acknowledged_by v ≡ none → submissions (v ∷ h) ≡ submissions h → Recorded h s → Recorded (v ∷ h) s
record_plain h v (sender g c ph p k) q e r = record { given = e ∙ r.given; sized = r.sized; blocks = λ j i f. rw q (r.blocks j i f) }

record_counts : (h : List Doing) (m : ℕ) (x : Answer) {s s' : Sender} {a : Option ℕ} {k : Option (ℕ × ℕ)} → Counts s a k s' → Recorded h s → Recorded (heard m x k ∷ h) s'
record_counts h m x (settles {c = c} {n = n} {ds = ds}) r = record {
  given = r.given;
  sized = tt;
  blocks = λ j i f. let a = apart c n j delivered delivered_settles f in let b = r.blocks j i a.was in rw a.test (rw a.test at b);
}
record_counts h m x (advances {c = c} {n = n} {ds = ds} {us = us}) r = record {
  given = r.given;
  sized = r.sized ∙ omega arith;
  blocks = λ j i f. let b = r.blocks j i f in rw b (grind (arith, nat_tests));
}
record_counts h m x (unnamed {s = s}) r = record_plain h (heard m x none) s refl refl r
record_counts h m x (stale {s = s} f) r = record_plain h (heard m x none) s refl refl r

record_hears : (h : List Doing) (m : ℕ) {o n : Direction} {e e' : End} {p : Packet} {a : Answer} {k : Option (ℕ × ℕ)} →
    Hears o n e p a k e' → Recorded h (sender_in e) → Recorded (heard m a k ∷ h) (sender_in e')
record_hears h m (passes {e = e} x) r = record_plain h _ (sender_in e) refl refl r
record_hears h m (hears_response c) r = record_counts h m _ c r
record_hears h m (hears_block c t) r = record_counts h m _ c r

record_move : (h : List Doing) {d b : Direction} {e : End} {i o : List Packet} {v : Doing} {e' : End} {i' o' : List Packet} →
    Move d b e i o v e' i' o' → Held (sender_in e) → Recorded h (sender_in e) → Recorded (v ∷ h) (sender_in e')
record_move h (submit x) u r = record_submits h x u r
record_move h (withdraw {s' = s'} x) u r = record_plain h _ s' refl refl (record_withdraws h x r)
record_move h (tick_block {s' = s'} x c) u r = record_plain h _ s' refl refl (record_sends h x r)
record_move h (tick_response {s} q c) u r = record_plain h _ s refl refl r
record_move h (tick_nothing {s} q) u r = record_plain h _ s refl refl r
record_move h (hear gone x) u r = record_hears h (length gone) x r
record_move h (hear_nothing {e}) u r = record_plain h _ (sender_in e) refl refl r
record_move h (collect {s}) u r = record_plain h _ s refl refl r
record_move h (collect_nothing {s}) u r = record_plain h _ s refl refl r
record_move h (outcome {e} x y) u r = record_plain h _ (sender_in e) refl refl r
record_move h (refuse {e}) u r = record_plain h _ (sender_in e) refl refl r

-- of both sides, on every run
record BothRecorded (h : List Event) (l : Link) : Type 0 where
  of_air : Recorded (calls air h) (sender_of air l)
  of_ground : Recorded (calls ground h) (sender_of ground l)

recorded_step : {dn up : Direction} {h : List Event} {l l' : Link} {v : Event} → Run dn up h l → Step dn up l v l' → BothRecorded h l → BothRecorded (v ∷ h) l'
recorded_step {h = h} r (at_air m) b = record { of_air = record_move (calls air h) m (held air (record { history = h; run = r })) b.of_air; of_ground = b.of_ground }
recorded_step {h = h} r (at_ground m) b = record { of_air = b.of_air; of_ground = record_move (calls ground h) m (held ground (record { history = h; run = r })) b.of_ground }

fresh_record : Records [] [] (λ n. unsettled) (idle false)
fresh_record = record { given = refl; sized = tt; blocks = λ n i e. grind (arith, nat_tests) }

recorded_run : {dn up : Direction} {h : List Event} {l : Link} → Run dn up h l → BothRecorded h l
recorded_run begin = record { of_air = fresh_record; of_ground = fresh_record }
recorded_run (r then s) = recorded_step r s (recorded_run r)

-- a sum of what lies past k
total_past : (k n : ℕ) → total (λ i. cond (ltb i k) 0 1) n ≡ n - k
total_past k zero = omega arith
total_past k (suc n) = let e : total (λ i. cond (ltb i k) 0 1) n ≡ n - k = total_past k n in grind (arith, nat_tests)

-- what is left of size blocks past those done is the rest
part : (g : List Message) (j a b n : ℕ) → size_at (numbered g j) ≡ a + suc b →
    size_at (numbered g n) - cond (eqb n j) a 0 ≡ cond (eqb n j) (suc b) (size_at (numbered g n))
part g j a b n z = go (eqb n j) refl
  where
    go : (t : Bool) → eqb n j ≡ t → size_at (numbered g n) - cond (eqb n j) a 0 ≡ cond (eqb n j) (suc b) (size_at (numbered g n))
    go true h = let e : size_at (numbered g n) ≡ a + suc b = subst (λ (k : ℕ). size_at (numbered g k) ≡ a + suc b) (sym (eqb-true n j h)) z in rw h (omega arith)
    go false h = rw h (omega arith)

rest_is : (g : List Message) (ph : Phase) (n : ℕ) → Sized g ph → size_at (numbered g n) - done ph n ≡ rest_of ph n (size_at (numbered g n))
rest_is g (idle m) n z = omega arith
rest_is g (ready (course j l ds t us)) n z = part g j (length ds) (length us) n z
rest_is g (out (course j l ds t us)) n z = part g j (length ds) (length us) n z

-- each message's blocks
message_left : {h : List Doing} {g : List Message} {c : ℕ → Status} {ph : Phase} → Records h g c ph → (n : ℕ) → blocks_left h c n ≡ left g c ph n
message_left {h} {g} {c} {ph} r n = go (c n) refl
  where
    go : (x : Status) → c n ≡ x → left_at (c n) (total (missing h n) (size_at (numbered (submissions h) n))) ≡ left_at (c n) (rest_of ph n (size_at (numbered g n)))
    go unsettled e =
        let t = total_same (missing h n) (λ i. cond (ltb i (done ph n)) 0 1) (size_at (numbered g n)) (λ i q. r.blocks n i e) in
        let k = t ∙ (total_past (done ph n) (size_at (numbered g n)) ∙ rest_is g ph n r.sized) in
        rw (e, r.given) k
    go delivered e = rw e
    go not_delivered e = rw e
    go in_doubt e = rw e

sender_left : (h : List Doing) (s : Sender) → Recorded h s → total (λ j. blocks_left h (called_by s) (suc j)) (length (submissions h)) ≡ to_do s
sender_left h (sender g c ph p k) r =
    ap (λ ms. total (λ j. blocks_left h c (suc j)) (length ms)) r.given ∙
    total_same (λ j. blocks_left h c (suc j)) (λ j. left g c ph (suc j)) (length g) (λ i q. message_left r (suc i))

-- what the calls of a side left unacknowledged is what its sender has to do
pub left_is : {dn up : Direction} {h : List Event} {l : Link} (x : Side) → Run dn up h l → unacknowledged x h l ≡ to_do (sender_of x l)
left_is {h = h} {l = l} air r = sender_left (calls air h) (sender_of air l) (recorded_run r).of_air
left_is {h = h} {l = l} ground r = sender_left (calls ground h) (sender_of ground l) (recorded_run r).of_ground
