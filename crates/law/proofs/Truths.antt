-- Truth and order on every run; the two refusals that never arise; what waits is what collects hand out.
-- Assumes nothing.
use Rattle.std.proofs.Common.{◌≡◌, ℕ, suc, ◌<◌, ◌≤◌, Bool, List, [], ◌∷◌, sym, refl, ap, subst, inl, inr, le_refl, arith}
use mathlib.Core.Option.{Option}
use native.Mathlib.Decide.{dec_le}
use Rattle.law.specs.Directions.{Direction, Sound}
use Rattle.law.specs.Senders.{Message, Status, unsettled, delivered, not_delivered, in_doubt, Phase, Block, Sender, sender}
use Rattle.law.specs.Receivers.{Part, receiver, Took}
use Rattle.law.specs.Links.{Packet, End, an_end, took, Doing, heard, collect, collect_nothing, Side, air, ground, Event, at, Link, link, Step, at_air, at_ground, Run}
use Rattle.law.specs.Truth.{other, end_of, waiting_in, called, calls, HandsOut, no_more_out, one_out, WaitingComeOut, completed, Made, Withdrawn, Among, Bears, TrueOf, TruthAndOrder, RefusalsNever}
use Rattle.law.proofs.Numbers.{rising_rises, rising_among, rising_low}
use Rattle.law.proofs.Ways.{Way}
use Rattle.law.proofs.Receiving.{Never, never_stray, never_seventeenth}
use Rattle.law.proofs.Sending.{low_tops}
use Rattle.law.proofs.Steps.{holds, move_never}
use Rattle.law.proofs.Runs.{WayOf, run_held, onward_extends}
use Rattle.law.proofs.Settled.{onward_keeps, made_holds}
use Rattle.law.proofs.Causes.{Caused, caused}

-- what holds of a way says what is promised
pub way_true : {d : Direction} {h : List Doing} {g : List Message} {cl : ℕ → Status} {ph : Phase} {p : Option ℕ} {s : ℕ} {fs : List (Option Block)}
    {o : Option ℕ} {pt : Part} {ks : List (Option ℕ)} {ms : List Message} {ns : List ℕ} → Way d h g cl ph p s fs o pt ks ms ns → Caused h cl → TrueOf h cl ms ns
way_true {h = h} {cl = cl} {ms = ms} {ns = ns} W says = record {
  borne = subst (λ (y : List Message). Bears y ns ms) (sym W.told.given) W.borne;
  order = rising_rises W.received.rising;
  missing = λ m n w one l f. go m one (let u = old n w in omega arith) f (cl m) refl;
  truly_delivered = W.statuses.truly;
  truly_not = λ n e w. W.statuses.never n e (W.statuses.lasts n w);
  doubt = λ n. (W.told.late n, W.told.doubtful n);
  answered = says.answered;
  delivered_when = says.acknowledged;
  withdrawn_when = λ n. (elim [ inl e ↦ W.told.not_withdrawn n e | inr e ↦ W.told.doubt_withdrawn n e ], says.withdrawn n);
  at_most_one = λ m n e f v w. let x = newest m v e in let y = newest n w f in omega arith;
}
  where
    old : (n : ℕ) → Among n ns → n ≤ W.k
    old n w =
        let u = rising_among W.received.rising w in
        let v = low_tops (suc W.k) W.logged (le_refl (suc W.k)) W.r in
        omega arith

    go : (m : ℕ) → 1 ≤ m → m < W.k → (Among m ns → ⊥) → (x : Status) → cl m ≡ x → Withdrawn h m
    go m one l f unsettled e = absurd (W.statuses.earlier m one l e)
    go m one l f delivered e = absurd (f (W.statuses.truly m e))
    go m one l f not_delivered e = W.told.not_withdrawn m e
    go m one l f in_doubt e = W.told.doubt_withdrawn m e

    newest : (n : ℕ) → Among n ns → cl n ≡ unsettled → n ≡ W.k
    newest n w e =
        let u = old n w in
        elim (dec_le (suc n) W.k) [
          | yes l ↦ absurd (W.statuses.earlier n (rising_low W.received.rising w) l e)
          | no l ↦ omega arith
        ]

held_true : (dn up : Direction) (x : Side) (h : List Event) (l : Link) (ns : List ℕ) → WayOf dn up x h l ns → Caused (calls x h) (called x l) → TrueOf (calls x h) (called x l) (completed (other x) h l) ns
held_true dn up air h (link (an_end (sender g cl ph p s) r w) (an_end s' (receiver o pt xs) w') d u) ns (holds W) says = way_true W says
held_true dn up ground h (link (an_end s (receiver o pt xs) w) (an_end (sender g cl ph p s') r w') d u) ns (holds W) says = way_true W says

run_true : (dn up : Direction) (D : Sound dn) (U : Sound up) (x : Side) (h : List Event) (l : Link) (r : Run dn up h l) →
    TrueOf (calls x h) (called x l) (completed (other x) h l) (run_held D U x r).0
run_true dn up D U x h l r = held_true dn up x h l (run_held D U x r).0 (run_held D U x r).1 (caused D U x r)

open_not : not_delivered ≡ unsettled → ⊥
open_not e = let z : ◌≡◌ {A = ℕ} 0 1 = cc in omega arith

-- truth and order
pub truth_and_order : TruthAndOrder
truth_and_order dn up D U x = record {
  numbering = λ h l r. (run_held D U x r).0;
  extends = λ h h' l l' r r' o. onward_extends D U x o;
  holds = λ h l r. run_true dn up D U x h l r;
  never = λ h h' l l' r r' o n e.
      (run_true dn up D U x h' l' r').truly_not n (onward_keeps D U x o (record { is = e; shut = open_not })).is;
}

-- no refusal of these kinds
never_step : {dn up : Direction} → Sound dn → Sound up → (x : Side) (h : List Event) (ns : List ℕ) {n : ℕ} {k : Option (ℕ × ℕ)} {t : Took} {l l' : Link} →
    Never t → Step dn up l (at x (heard n (took t) k)) l' → WayOf dn up (other x) h l ns → ⊥
never_step D U air h ns n (at_air {a = an_end s r w} {a' = an_end s' r' w'} {g = an_end t q v} m) W = move_never U n m W
never_step D U ground h ns n (at_ground {a = an_end s r w} {g = an_end t q v} {g' = an_end t' q' v'} m) W = move_never D n m W

never_made : {dn up : Direction} (D : Sound dn) (U : Sound up) {h : List Event} {l : Link} (x : Side) (n : ℕ) (k : Option (ℕ × ℕ)) {t : Took} → Never t → Run dn up h l →
    Made (heard n (took t) k) (calls x h) → ⊥
never_made D U x n k {t} v r w = made_holds x (heard n (took t) k) (λ h l. ⊥)
    (λ h l l' q s. never_step D U x h (run_held D U (other x) q).0 v s (run_held D U (other x) q).1) (λ h l l' e q s f. f) r w

pub refusals_never : RefusalsNever
refusals_never dn up D U h l r x n k = (never_made D U x n k never_stray r, never_made D U x n k never_seventeenth r)

-- collects until one finds nothing hand out what waits
out_all : {dn up : Direction} (y : Side) {l l' : Link} {ms : List Message} → HandsOut dn up y l ms l' → ms ≡ waiting_in (end_of y l)
out_all air (no_more_out (at_air collect_nothing)) = refl
out_all ground (no_more_out (at_ground collect_nothing)) = refl
out_all air (one_out {m = m} (at_air collect) o) = ap (λ (ms : List Message). m ∷ ms) (out_all air o)
out_all ground (one_out {m = m} (at_ground collect) o) = ap (λ (ms : List Message). m ∷ ms) (out_all ground o)

module _ (dn up : Direction) where
  -- and they can be called so
  out_air : (s : Sender) (o : Option ℕ) (pt : Part) (ms : List Message) (w : Bool) (g : End) (d u : List Packet) →
      (l' : Link) × HandsOut dn up air (link (an_end s (receiver o pt ms) w) g d u) ms l'
  out_air s o pt [] w g d u = (link (an_end s (receiver o pt []) w) g d u, no_more_out (at_air collect_nothing))
  out_air s o pt (m ∷ ms) w g d u = let r = out_air s o pt ms w g d u in (r.0, one_out (at_air collect) r.1)

  out_ground : (s : Sender) (o : Option ℕ) (pt : Part) (ms : List Message) (w : Bool) (a : End) (d u : List Packet) →
      (l' : Link) × HandsOut dn up ground (link a (an_end s (receiver o pt ms) w) d u) ms l'
  out_ground s o pt [] w a d u = (link a (an_end s (receiver o pt []) w) d u, no_more_out (at_ground collect_nothing))
  out_ground s o pt (m ∷ ms) w a d u = let r = out_ground s o pt ms w a d u in (r.0, one_out (at_ground collect) r.1)

  out_some : (y : Side) (l : Link) → (l' : Link) × HandsOut dn up y l (waiting_in (end_of y l)) l'
  out_some air (link (an_end s (receiver o pt ms) w) g d u) = out_air s o pt ms w g d u
  out_some ground (link a (an_end s (receiver o pt ms) w) d u) = out_ground s o pt ms w a d u

pub waiting_come_out_lem : WaitingComeOut
waiting_come_out_lem dn up y l = (λ ms l' o. out_all y o, out_some dn up y l)
