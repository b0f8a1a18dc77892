-- What each message is called, by the calls that settled it.
-- Assumes nothing.
use Rattle.std.proofs.Common.{◌≡◌, ℕ, suc, Bool, ◌⊎◌, ◌↔◌, List, [], ◌∷◌, length, sym, refl, ap, ◌∙◌, subst, inl, inr, arith}
use mathlib.Core.Option.{Option, some, some-injective}
use Rattle.law.specs.Directions.{Direction, Sound}
use Rattle.law.specs.Senders.{Text, Message, size, Status, unsettled, delivered, not_delivered, in_doubt, Course, course, Block, Sender, settle, verdict, numbered, Submits, submits, Withdraws, from_ready, from_out, unbegun, Sends, first, further, again, Counts, settles, advances, unnamed, stale}
use Rattle.law.specs.Receivers.{Receiver}
use Rattle.law.specs.Links.{Packet, an_end, called_by, passes, hears_response, hears_block, Answer, Doing, withdrew, heard, told, Move, submit, withdraw, tick_block, tick_response, tick_nothing, hear, hear_nothing, collect, collect_nothing, outcome, refuse, Side, air, ground, Event, at, Link, new_link, Step, at_air, at_ground, Run, begin, ◌then◌}
use Rattle.law.specs.Truth.{called, keep, calls, Passing, comes_in, goes_out, none_passes, passing, add_in, submissions, Made, now_made, made, Withdrawn, LastAcknowledged}
use Rattle.law.proofs.Numbers.{numbered_append, settle_here, settle_split, length_rev}
use Rattle.law.proofs.Logs.{whole}
use Rattle.law.proofs.Sending.{flown}
use Rattle.law.proofs.Steps.{Holds, holds}
use Rattle.law.proofs.Runs.{WayOf, run_held}
use Rattle.law.proofs.Settled.{Settled, step_keeps, made_holds}

-- what a call submitted before keeps its number
add_in_keeps : (p : Passing) (ms : List Message) (n : ℕ) {m : Message} → numbered ms n ≡ some m → numbered (add_in p ms) n ≡ some m
add_in_keeps (comes_in x) ms n e = numbered_append ms n (x ∷ []) e
add_in_keeps (goes_out x) ms n e = e
add_in_keeps none_passes ms n e = e

given_keeps : (x y : Side) (f : Doing) (h : List Doing) (n : ℕ) {m : Message} → numbered (submissions h) n ≡ some m → numbered (submissions (keep x y f h)) n ≡ some m
given_keeps air air f h n e = add_in_keeps (passing f) (submissions h) n e
given_keeps air ground f h n e = e
given_keeps ground air f h n e = e
given_keeps ground ground f h n e = add_in_keeps (passing f) (submissions h) n e

made_keeps : (x y : Side) (f : Doing) {e : Doing} {h : List Doing} → Made e h → Made e (keep x y f h)
made_keeps air air f w = made w
made_keeps air ground f w = w
made_keeps ground air f w = w
made_keeps ground ground f w = made w

-- an outcome says what is settled
outcome_now : {dn up : Direction} (x : Side) {n : ℕ} {v : Status} {l l' : Link} → Step dn up l (at x (told n v)) l' → Settled (called x l') n v
outcome_now air (at_air {a = an_end s r w} (outcome e f)) = record { is = e; shut = f }
outcome_now ground (at_ground {g = an_end s r w} (outcome e f)) = record { is = e; shut = f }

-- a withdrawal settles as not delivered or in doubt
abbrev AsWithdrawn : (ℕ → Status) → ℕ → Type 0
AsWithdrawn cl n = Settled cl n not_delivered ⊎ Settled cl n in_doubt

withdrew_not : (cl : ℕ → Status) (n : ℕ) → AsWithdrawn (settle cl n not_delivered) n
withdrew_not cl n = inl (record { is = settle_here cl n not_delivered; shut = λ e. let z : ◌≡◌ {A = ℕ} 0 1 = cc in omega arith })

withdrawn_now : {N n : ℕ} {s s' : Sender} → Withdraws N s n s' → AsWithdrawn (called_by s') n
withdrawn_now (from_ready {c = cl} {n = n} l) = withdrew_not cl n
withdrawn_now (from_out {c = cl} {n = n} {us = []} l) = inr (record { is = settle_here cl n in_doubt; shut = λ e. let z : ◌≡◌ {A = ℕ} 0 1 = cc in omega arith })
withdrawn_now (from_out {c = cl} {n = n} {us = u ∷ us} l) = withdrew_not cl n
withdrawn_now (unbegun {c = cl} {n = n} u f) = withdrew_not cl n

withdraw_now : {dn up : Direction} (x : Side) {n : ℕ} {l l' : Link} → Step dn up l (at x (withdrew n)) l' → AsWithdrawn (called x l') n
withdraw_now air (at_air (withdraw m)) = withdrawn_now m
withdraw_now ground (at_ground (withdraw m)) = withdrawn_now m

-- block i of message n was acknowledged: the message is known, and called delivered if that was its last block
record Acked (given : List Message) (cl : ℕ → Status) (n i : ℕ) : Type 0 where
  text : Message
  is : numbered given n ≡ some text
  ends : suc i ≡ size text → Settled cl n delivered

count_now : {d : Direction} {h : List Doing} {fs ks : List Packet} {r : Receiver} {ys : List Message} {ns : List ℕ} {a : Option ℕ} {n i : ℕ} {s s' : Sender} →
    Counts s a (some (n, i)) s' → Holds d h s fs r ks ys ns → Acked (submissions h) (called_by s') n i
count_now (settles {c = cl} {n = n} {l = l} {ds = ds} {t = t}) (holds W) = record {
  text = whole (course n l ds t []);
  is = ap (λ (y : List Message). numbered y n) W.told.given ∙ W.logged.texts W.c (course n l ds t []) (flown W.phased).0;
  ends = λ e. record { is = settle_here cl n delivered; shut = λ f. let z : ◌≡◌ {A = ℕ} 0 1 = cc in omega arith };
}
count_now (advances {n = n} {l = l} {ds = ds} {t = t} {u = u} {us = us}) (holds W) = record {
  text = whole (course n l ds t (u ∷ us));
  is = ap (λ (y : List Message). numbered y n) W.told.given ∙ W.logged.texts W.c (course n l ds t (u ∷ us)) (flown W.phased).0;
  ends = λ e. let f = length_rev ds (t ∷ u ∷ us) in absurd (omega arith);
}

hear_now : {d inn : Direction} {h : List Doing} {t : Receiver} {ys : List Message} {ns : List ℕ} {j : ℕ} {a : Answer} {n k : ℕ} {s s' : Sender} {r r' : Receiver} {w w' : Bool} {i i' o o' : List Packet} →
    Move d inn (an_end s r w) i o (heard j a (some (n, k))) (an_end s' r' w') i' o' → Holds d h s o t i ys ns → Acked (submissions h) (called_by s') n k
hear_now (hear gone (hears_response c)) W = count_now c W
hear_now (hear gone (hears_block c x)) W = count_now c W

acked_now : {dn up : Direction} (x : Side) (h : List Event) (ns : List ℕ) {j : ℕ} {a : Answer} {n i : ℕ} {l l' : Link} →
    Step dn up l (at x (heard j a (some (n, i)))) l' → WayOf dn up x h l ns → Acked (submissions (calls x (at x (heard j a (some (n, i))) ∷ h))) (called x l') n i
acked_now air h ns (at_air {a = an_end s r w} {a' = an_end s' r' w'} {g = an_end t q v} m) W = hear_now m W
acked_now ground h ns (at_ground {a = an_end s r w} {g = an_end t q v} {g' = an_end t' q' v'} m) W = hear_now m W

-- a number that becomes called delivered does so by a hear that acknowledges its last block
settle_cause : (cl : ℕ → Status) (j : ℕ) (st : Status) (n : ℕ) → (st ≡ delivered → ⊥) → settle cl j st n ≡ delivered → cl n ≡ delivered
settle_cause cl j st n f e = elim (settle_split cl j st delivered n e) [ inl u ↦ absurd (f u.1) | inr u ↦ u.1 ]

verdict_not : (us : List Text) → verdict us ≡ delivered → ⊥
verdict_not [] e = let z : ◌≡◌ {A = ℕ} 0 1 = cc in omega arith
verdict_not (u ∷ us) e = let z : ◌≡◌ {A = ℕ} 0 1 = cc in omega arith

withdraw_cause : {N j : ℕ} {s s' : Sender} (n : ℕ) → Withdraws N s j s' → called_by s' n ≡ delivered → called_by s n ≡ delivered
withdraw_cause n (from_ready {c = cl} {n = j} {t = t} l) e = settle_cause cl j not_delivered n (verdict_not (t ∷ [])) e
withdraw_cause n (from_out {c = cl} {n = j} {us = us} l) e = settle_cause cl j (verdict us) n (verdict_not us) e
withdraw_cause n (unbegun {c = cl} {n = j} x f) e = settle_cause cl j not_delivered n (verdict_not ([] ∷ [])) e

count_cause : {d : Direction} {h : List Doing} {fs ks : List Packet} {r : Receiver} {ys : List Message} {ns : List ℕ} {a : Option ℕ} {k : Option (ℕ × ℕ)} {s s' : Sender} (n j : ℕ) (x : Answer) →
    Counts s a k s' → Holds d h s fs r ks ys ns → called_by s' n ≡ delivered → (called_by s n ≡ delivered) ⊎ LastAcknowledged (heard j x k ∷ h) n
count_cause {h = h} n j x (settles {c = cl} {n = m} {l = l} {ds = ds} {t = t}) (holds W) e = elim (settle_split cl m delivered delivered n e) [
  | inl u ↦
      let f = length_rev ds (t ∷ []) in
      inr (subst (λ (y : ℕ). LastAcknowledged (heard j x (some (m, length ds)) ∷ h) y) (sym u.0) (record {
        text = whole (course m l ds t []);
        index = length ds;
        is = ap (λ (y : List Message). numbered y m) W.told.given ∙ W.logged.texts W.c (course m l ds t []) (flown W.phased).0;
        last = omega arith;
        dropped = j;
        answer = x;
        acknowledged = now_made;
      }))
  | inr u ↦ inl u.1
]
count_cause n j x advances W e = inl e
count_cause n j x unnamed W e = inl e
count_cause n j x (stale f) W e = inl e

send_cause : {d : Direction} {due : Bool} {s s' : Sender} {z : Course} {b : Block} (n : ℕ) → Sends d due s z b s' → called_by s' n ≡ delivered → called_by s n ≡ delivered
send_cause n (first c x) e = e
send_cause n further e = e
send_cause n again e = e

submit_cause : {m : Message} {s s' : Sender} (n : ℕ) → Submits s m s' → called_by s' n ≡ delivered → called_by s n ≡ delivered
submit_cause n (submits l) e = e

move_cause : {d inn : Direction} {h : List Doing} {t : Receiver} {ys : List Message} {ns : List ℕ} {e : Doing} {s s' : Sender} {r r' : Receiver} {w w' : Bool} {i i' o o' : List Packet} (n : ℕ) →
    Move d inn (an_end s r w) i o e (an_end s' r' w') i' o' → Holds d h s o t i ys ns → called_by s' n ≡ delivered → (called_by s n ≡ delivered) ⊎ LastAcknowledged (e ∷ h) n
move_cause n (submit m) W e = inl (submit_cause n m e)
move_cause n (withdraw x) W e = inl (withdraw_cause n x e)
move_cause n (tick_block x cs) W e = inl (send_cause n x e)
move_cause n (tick_response q cs) W e = inl e
move_cause n (tick_nothing q) W e = inl e
move_cause n (hear gone (passes p)) W e = inl e
move_cause n (hear {x = x} gone (hears_response c)) W e = count_cause n (length gone) x c W e
move_cause n (hear {x = x} gone (hears_block c y)) W e = count_cause n (length gone) x c W e
move_cause n hear_nothing W e = inl e
move_cause n collect W e = inl e
move_cause n collect_nothing W e = inl e
move_cause n (outcome x y) W e = inl e
move_cause n refuse W e = inl e

step_cause : {dn up : Direction} (x : Side) (h : List Event) (ns : List ℕ) {l l' : Link} {e : Event} (n : ℕ) →
    Step dn up l e l' → WayOf dn up x h l ns → called x l' n ≡ delivered → (called x l n ≡ delivered) ⊎ LastAcknowledged (calls x (e ∷ h)) n
step_cause air h ns n (at_air {a = an_end s r w} {a' = an_end s' r' w'} {g = an_end t q v} m) W e = move_cause n m W e
step_cause air h ns n (at_ground m) W e = inl e
step_cause ground h ns n (at_air m) W e = inl e
step_cause ground h ns n (at_ground {a = an_end s r w} {g = an_end t q v} {g' = an_end t' q' v'} m) W e = move_cause n m W e

acknowledged_keeps : (x y : Side) (f : Doing) {h : List Doing} {n : ℕ} → LastAcknowledged h n → LastAcknowledged (keep x y f h) n
acknowledged_keeps x y f {h} {n} A = record {
  text = A.text;
  index = A.index;
  is = given_keeps x y f h n A.is;
  last = A.last;
  dropped = A.dropped;
  answer = A.answer;
  acknowledged = made_keeps x y f A.acknowledged;
}

new_called : (x : Side) (n : ℕ) → called x new_link n ≡ unsettled
new_called air n = refl
new_called ground n = refl

cause : {dn up : Direction} (D : Sound dn) (U : Sound up) (x : Side) {h : List Event} {l : Link} (n : ℕ) → Run dn up h l → called x l n ≡ delivered → LastAcknowledged (calls x h) n
cause D U x n begin e = let f = new_called x n in let z : ◌≡◌ {A = ℕ} 0 1 = cc in absurd (omega arith)
cause D U x n (◌then◌ {h = h} {l = l} {x = at y f} r s) e = go (cause D U x n r) (step_cause x h (run_held D U x r).0 n s (run_held D U x r).1 e)
  where
    go : (called x l n ≡ delivered → LastAcknowledged (calls x h) n) → (called x l n ≡ delivered) ⊎ LastAcknowledged (calls x (at y f ∷ h)) n → LastAcknowledged (calls x (at y f ∷ h)) n
    go old (inl u) = acknowledged_keeps x y f (old u)
    go old (inr u) = u

-- what is called, by the calls alone
pub record Caused (h : List Doing) (cl : ℕ → Status) : Type 0 where
  pub answered : (n : ℕ) (v : Status) → Made (told n v) h → cl n ≡ v
  pub withdrawn : (n : ℕ) → Withdrawn h n → (cl n ≡ not_delivered) ⊎ (cl n ≡ in_doubt)
  pub acknowledged : (n : ℕ) → (cl n ≡ delivered) ↔ LastAcknowledged h n

as_called : {cl : ℕ → Status} {n : ℕ} → AsWithdrawn cl n → (cl n ≡ not_delivered) ⊎ (cl n ≡ in_doubt)
as_called (inl u) = inl u.is
as_called (inr u) = inr u.is

module _ {dn up : Direction} (D : Sound dn) (U : Sound up) (x : Side) where
  -- what is settled stays so, one step on
  settled_on : (n : ℕ) (v : Status) (h : List Event) (l l' : Link) (e : Event) → Run dn up h l → Step dn up l e l' → Settled (called x l) n v → Settled (called x l') n v
  settled_on n v h l l' e r s w = step_keeps x h (run_held D U x r).0 s (run_held D U x r).1 w

  withdrawn_on : (n : ℕ) (h : List Event) (l l' : Link) (e : Event) → Run dn up h l → Step dn up l e l' → AsWithdrawn (called x l) n → AsWithdrawn (called x l') n
  withdrawn_on n h l l' e r s (inl u) = inl (settled_on n not_delivered h l l' e r s u)
  withdrawn_on n h l l' e r s (inr u) = inr (settled_on n in_doubt h l l' e r s u)

  acked_on : (n i : ℕ) (h : List Event) (l l' : Link) (e : Event) → Run dn up h l → Step dn up l e l' →
      Acked (submissions (calls x h)) (called x l) n i → Acked (submissions (calls x (e ∷ h))) (called x l') n i
  acked_on n i h l l' (at y f) r s A = record {
    text = A.text;
    is = given_keeps x y f (calls x h) n A.is;
    ends = λ e. settled_on n delivered h l l' (at y f) r s (A.ends e);
  }

  delivers : {h : List Event} {l : Link} (n : ℕ) → Run dn up h l → LastAcknowledged (calls x h) n → called x l n ≡ delivered
  delivers n r L =
      let A = made_holds x (heard L.dropped L.answer (some (n, L.index))) (λ h l. Acked (submissions (calls x h)) (called x l) n L.index)
      (λ h l l' q s. acked_now x h (run_held D U x q).0 s (run_held D U x q).1) (acked_on n L.index) r L.acknowledged in
      (A.ends (L.last ∙ ap size (some-injective L.text A.text (sym L.is ∙ A.is)))).is

  pub caused : {h : List Event} {l : Link} → Run dn up h l → Caused (calls x h) (called x l)
  caused {h} {l} r = record {
    answered = λ n v w. (made_holds x (told n v) (λ h l. Settled (called x l) n v) (λ h l l' q s. outcome_now x s) (settled_on n v) r w).is;
    withdrawn = λ n w. as_called (made_holds x (withdrew n) (λ h l. AsWithdrawn (called x l) n) (λ h l l' q s. withdraw_now x s) (withdrawn_on n) r w);
    acknowledged = λ n. (cause D U x n r, delivers n r);
  }
