-- What holds of a way holds on every run, both ways, with a numbering that the run makes and later steps only extend.
-- Assumes nothing.
use Rattle.std.proofs.Common.{◌≡◌, ℕ, zero, suc, ◌-◌, ◌≤◌, false, List, [], ◌∷◌, ◌++◌, refl, ap, ◌∙◌, inr, append_assoc, le_refl, arith}
use mathlib.Core.Option.{none, some}
use Rattle.law.specs.Directions.{Direction, Sound}
use Rattle.law.specs.Senders.{Message, unsettled, idle, numbered, size}
use Rattle.law.specs.Receivers.{closed}
use Rattle.law.specs.Links.{an_end, Side, air, ground, Event, Link, link, Step, at_air, at_ground, Run, begin, ◌then◌, Onward, same, onward}
use Rattle.law.specs.Truth.{calls, handed_out, bears_none, Extends}
use Rattle.law.proofs.Ring.{not_yet}
use Rattle.law.proofs.Tracks.{nothing}
use Rattle.law.proofs.Numbers.{up_to}
use Rattle.law.proofs.Logs.{gap, unused}
use Rattle.law.proofs.Ways.{plain, Way}
use Rattle.law.proofs.Receiving.{same_numbers}
use Rattle.law.proofs.Steps.{Holds, holds, sender_step, receiver_step}

-- what holds of the way from side x on a link
abbrev pub WayOf : Direction → Direction → Side → List Event → Link → List ℕ → Type 0
WayOf dn up air h (link (an_end s r w) (an_end s' r' w') d u) ns = Holds dn (calls air h) s d r' u (handed_out (calls ground h)) ns
WayOf dn up ground h (link (an_end s r w) (an_end s' r' w') d u) ns = Holds up (calls ground h) s' u r d (handed_out (calls air h)) ns

-- nothing has happened yet
none_given : (n : ℕ) (m : Message) → numbered [] n ≡ some m → size m ≤ 16
none_given zero m e = let w : ◌≡◌ {A = ℕ} 0 1 = cc in absurd (omega arith)
none_given (suc k) m e = let w : ◌≡◌ {A = ℕ} 0 1 = cc in absurd (omega arith)

pub start : (d : Direction) → Sound d → Way d [] [] (λ n. unsettled) (idle false) none 0 [] none closed [] [] []
start d S =
    let two = S.two in
    record {
      log = λ q. none;
      a = d.ring - 1;
      r = d.ring - 1;
      c = d.ring - 1;
      k = 0;
      window = record { acked = le_refl _; taken = le_refl _; spent = omega arith; room = omega arith };
      putting = not_yet (omega arith);
      accepted = not_yet (omega arith);
      logged = record {
        future = λ q l. refl;
        past = λ q z e. let w : ◌≡◌ {A = ℕ} 0 1 = cc in absurd (omega arith);
        chain = λ q. gap;
        near = λ q n l s t ds us e. let w : ◌≡◌ {A = ℕ} 0 1 = cc in absurd (omega arith);
        risen = λ q j z l e. let w : ◌≡◌ {A = ℕ} 0 1 = cc in absurd (omega arith);
        texts = λ q z e. let w : ◌≡◌ {A = ℕ} 0 1 = cc in absurd (omega arith);
        begun = λ q z e. let w : ◌≡◌ {A = ℕ} 0 1 = cc in absurd (omega arith);
        sizes = none_given;
        known = omega arith;
      };
      phased = plain refl unused (inr refl);
      forth = nothing (le_refl _);
      back = nothing (le_refl _);
      received = record { part = refl; rising = up_to (le_refl 1); got = tt };
      borne = bears_none;
      statuses = record {
        earlier = λ n a b. absurd (omega arith);
        truly = λ n e. let w : ◌≡◌ {A = ℕ} 0 1 = cc in absurd (omega arith);
        lasts = λ n w. elim w [ ];
        never = λ n e. let w : ◌≡◌ {A = ℕ} 0 1 = cc in absurd (omega arith);
      };
      told = record {
        given = refl;
        gone = λ n i w. elim w [ ];
        sent = λ q z e. let w : ◌≡◌ {A = ℕ} 0 1 = cc in absurd (omega arith);
        not_withdrawn = λ n e. let w : ◌≡◌ {A = ℕ} 0 1 = cc in absurd (omega arith);
        doubt_withdrawn = λ n e. let w : ◌≡◌ {A = ℕ} 0 1 = cc in absurd (omega arith);
        late = λ n e. let w : ◌≡◌ {A = ℕ} 0 1 = cc in absurd (omega arith);
        doubtful = λ n w. elim w [ ];
      };
    }

-- a step keeps what holds of the way from side x
pub step_held : {dn up : Direction} → Sound dn → Sound up → (x : Side) (h : List Event) (ns : List ℕ) {l l' : Link} {e : Event} →
    Step dn up l e l' → WayOf dn up x h l ns → (ns' : List ℕ) × Extends ns ns' × WayOf dn up x (e ∷ h) l' ns'
step_held D U air h ns (at_air {a = an_end s r w} {a' = an_end s' r' w'} {g = an_end t q v} m) W = (ns, same_numbers ns, sender_step D m W)
step_held D U air h ns (at_ground {a = an_end s r w} {g = an_end t q v} {g' = an_end t' q' v'} m) W = receiver_step D m W
step_held D U ground h ns (at_air {a = an_end s r w} {a' = an_end s' r' w'} {g = an_end t q v} m) W = receiver_step U m W
step_held D U ground h ns (at_ground {a = an_end s r w} {g = an_end t q v} {g' = an_end t' q' v'} m) W = (ns, same_numbers ns, sender_step U m W)

-- so it holds on every run, with a numbering that the run makes
pub run_held : {dn up : Direction} → Sound dn → Sound up → (x : Side) {h : List Event} {l : Link} → Run dn up h l → (ns : List ℕ) × WayOf dn up x h l ns
run_held {dn} D U air begin = ([], holds (start dn D))
run_held {up = up} D U ground begin = ([], holds (start up U))
run_held D U x (◌then◌ {h = h} r s) = let W = run_held D U x r in let J = step_held D U x h W.0 s W.1 in (J.0, J.2)

extends_trans : {xs ys zs : List ℕ} → Extends xs ys → Extends ys zs → Extends xs zs
extends_trans {xs = xs} e f = record { more = e.more ++ f.more; is = f.is ∙ ap (λ (y : List ℕ). y ++ f.more) e.is ∙ append_assoc xs e.more f.more }

pub onward_extends : {dn up : Direction} (D : Sound dn) (U : Sound up) (x : Side) {h : List Event} {l : Link} {r : Run dn up h l} {h' : List Event} {l' : Link} {r' : Run dn up h' l'} →
    Onward dn up h l r h' l' r' → Extends (run_held D U x r).0 (run_held D U x r').0
unfolding run_held
onward_extends D U x {r = r} same = same_numbers (run_held D U x r).0
onward_extends D U x (onward {h' = h} {r' = r} o s) = extends_trans (onward_extends D U x o) (step_held D U x h (run_held D U x r).0 s (run_held D U x r).1).1
