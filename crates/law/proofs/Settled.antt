-- What is settled stays so, and is what outcomes say.
-- Assumes nothing.
use Rattle.std.proofs.Common.{◌≡◌, ℕ, Bool, ◌⊎◌, List, ◌∷◌, sym, refl, ap, ◌∙◌, subst, inl, inr}
use mathlib.Core.Option.{Option}
use Rattle.law.specs.Directions.{Direction, Sound}
use Rattle.law.specs.Senders.{Message, Status, unsettled, delivered, not_delivered, Course, Block, Sender, settle, verdict, Submits, submits, Withdraws, from_ready, from_out, unbegun, Sends, first, further, again, Counts, settles, advances, unnamed, stale}
use Rattle.law.specs.Receivers.{Receiver}
use Rattle.law.specs.Links.{Packet, an_end, called_by, passes, hears_response, hears_block, Doing, Move, submit, withdraw, tick_block, tick_response, tick_nothing, hear, hear_nothing, collect, collect_nothing, outcome, refuse, Side, air, ground, Event, at, Link, Step, at_air, at_ground, Run, begin, ◌then◌, Onward, same, onward}
use Rattle.law.specs.Truth.{called, keep, calls, Made, now_made, made}
use Rattle.law.proofs.Numbers.{settle_else}
use Rattle.law.proofs.Sending.{flown}
use Rattle.law.proofs.Withdrawing.{under_way}
use Rattle.law.proofs.Steps.{Holds, holds}
use Rattle.law.proofs.Runs.{WayOf, run_held}

-- number n is called x, and that is no longer open
pub record Settled (cl : ℕ → Status) (n : ℕ) (x : Status) : Type 0 where
  pub is : cl n ≡ x
  pub shut : x ≡ unsettled → ⊥

-- a settling of an unsettled number leaves the others
settle_keeps : (cl : ℕ → Status) (j : ℕ) (st : Status) {n : ℕ} {x : Status} → cl j ≡ unsettled → Settled cl n x → Settled (settle cl j st) n x
settle_keeps cl j st {n} {x} u e = record {
  is = settle_else cl j st n (λ f. e.shut (sym e.is ∙ ap cl f ∙ u)) ∙ e.is;
  shut = e.shut;
}

withdraw_keeps : {d : Direction} {h : List Doing} {fs ks : List Packet} {r : Receiver} {ys : List Message} {ns : List ℕ} {j : ℕ} {s s' : Sender} {n : ℕ} {x : Status} →
    Withdraws d.ring s j s' → Holds d h s fs r ks ys ns → Settled (called_by s) n x → Settled (called_by s') n x
withdraw_keeps (from_ready {c = cl} {n = j} l) (holds W) e =
    let f = under_way W.logged W.phased in settle_keeps cl j not_delivered (ap cl f.1 ∙ f.2) e
withdraw_keeps (from_out {c = cl} {n = j} {us = us} l) (holds W) e =
    let f = flown W.phased in settle_keeps cl j (verdict us) (ap cl f.1 ∙ f.2) e
withdraw_keeps (unbegun {c = cl} {n = j} u f) W e = settle_keeps cl j not_delivered u.open_yet e

count_keeps : {d : Direction} {h : List Doing} {fs ks : List Packet} {r : Receiver} {ys : List Message} {ns : List ℕ} {a : Option ℕ} {k : Option (ℕ × ℕ)} {s s' : Sender} {n : ℕ} {x : Status} →
    Counts s a k s' → Holds d h s fs r ks ys ns → Settled (called_by s) n x → Settled (called_by s') n x
count_keeps (settles {c = cl} {n = j}) (holds W) e = let f = flown W.phased in settle_keeps cl j delivered (ap cl f.1 ∙ f.2) e
count_keeps advances W e = e
count_keeps unnamed W e = e
count_keeps (stale f) W e = e

send_keeps : {d : Direction} {due : Bool} {s s' : Sender} {z : Course} {b : Block} {n : ℕ} {x : Status} → Sends d due s z b s' → Settled (called_by s) n x → Settled (called_by s') n x
send_keeps (first c x) e = e
send_keeps further e = e
send_keeps again e = e

submit_keeps : {m : Message} {s s' : Sender} {n : ℕ} {x : Status} → Submits s m s' → Settled (called_by s) n x → Settled (called_by s') n x
submit_keeps (submits l) e = e

move_keeps : {d inn : Direction} {h : List Doing} {t : Receiver} {ys : List Message} {ns : List ℕ} {e : Doing} {s s' : Sender} {r r' : Receiver} {w w' : Bool} {i i' o o' : List Packet} {n : ℕ} {x : Status} →
    Move d inn (an_end s r w) i o e (an_end s' r' w') i' o' → Holds d h s o t i ys ns → Settled (called_by s) n x → Settled (called_by s') n x
move_keeps (submit m) W e = submit_keeps m e
move_keeps (withdraw x) W e = withdraw_keeps x W e
move_keeps (tick_block x cs) W e = send_keeps x e
move_keeps (tick_response q cs) W e = e
move_keeps (tick_nothing q) W e = e
move_keeps (hear gone (passes p)) W e = e
move_keeps (hear gone (hears_response c)) W e = count_keeps c W e
move_keeps (hear gone (hears_block c x)) W e = count_keeps c W e
move_keeps hear_nothing W e = e
move_keeps collect W e = e
move_keeps collect_nothing W e = e
move_keeps (outcome x y) W e = e
move_keeps refuse W e = e

pub step_keeps : {dn up : Direction} (x : Side) (h : List Event) (ns : List ℕ) {l l' : Link} {e : Event} {n : ℕ} {v : Status} →
    Step dn up l e l' → WayOf dn up x h l ns → Settled (called x l) n v → Settled (called x l') n v
step_keeps air h ns (at_air {a = an_end s r w} {a' = an_end s' r' w'} {g = an_end t q v} m) W e = move_keeps m W e
step_keeps air h ns (at_ground m) W e = e
step_keeps ground h ns (at_air m) W e = e
step_keeps ground h ns (at_ground {a = an_end s r w} {g = an_end t q v} {g' = an_end t' q' v'} m) W e = move_keeps m W e

pub onward_keeps : {dn up : Direction} (D : Sound dn) (U : Sound up) (x : Side) {h : List Event} {l : Link} {r : Run dn up h l} {h' : List Event} {l' : Link} {r' : Run dn up h' l'} {n : ℕ} {v : Status} →
    Onward dn up h l r h' l' r' → Settled (called x l) n v → Settled (called x l') n v
onward_keeps D U x same e = e
onward_keeps D U x (onward {h' = h} {r' = r} o s) e = step_keeps x h (run_held D U x r).0 s (run_held D U x r).1 (onward_keeps D U x o e)

-- a call of side x was made in the newest step, or before
pub made_split : (x y : Side) {e f : Doing} {h : List Doing} → Made e (keep x y f h) → ((x ≡ y) × (e ≡ f)) ⊎ Made e h
made_split air air now_made = inl (refl, refl)
made_split air air (made w) = inr w
made_split air ground w = inr w
made_split ground air w = inr w
made_split ground ground now_made = inl (refl, refl)
made_split ground ground (made w) = inr w

-- the newest step, of which that is known
pub made_step : {dn up : Direction} {x y : Side} {e f : Doing} {l l' : Link} → ((x ≡ y) × (e ≡ f)) → Step dn up l (at y f) l' → Step dn up l (at x e) l'
made_step {dn} {up} {x} {y} {e} {f} {l} {l'} q s =
    subst (λ (v : Doing). Step dn up l (at x v) l') (sym q.1) (subst (λ (v : Side). Step dn up l (at v f) l') (sym q.0) s)

-- what each step of side x by a call brings about, and every step keeps, holds wherever that call was made
pub made_holds : {dn up : Direction} (x : Side) (e : Doing) (F : List Event → Link → Type 0) →
    ((h : List Event) (l l' : Link) → Run dn up h l → Step dn up l (at x e) l' → F (at x e ∷ h) l') →
    ((h : List Event) (l l' : Link) (v : Event) → Run dn up h l → Step dn up l v l' → F h l → F (v ∷ h) l') →
    {h : List Event} {l : Link} → Run dn up h l → Made e (calls x h) → F h l
made_holds x e F new old begin w = elim w [ ]
made_holds x e F new old (◌then◌ {h = h} {l = l} {l' = l'} {x = at y f} r s) w = elim (made_split x y w) [
  | inl q ↦ subst (λ (v : Side). F (at v f ∷ h) l') q.0 (subst (λ (v : Doing). F (at x v ∷ h) l') q.1 (new h l l' r (made_step q s)))
  | inr u ↦ old h l l' (at y f) r s (made_holds x e F new old r u)
]
