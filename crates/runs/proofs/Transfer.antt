-- What the law says of its runs holds of the runs of two real ends. Assumes nothing.
use Rattle.std.proofs.Common.{◌≡◌, ℕ, List, ◌∷◌, ◌++◌, map, Some, sym, refl, ap, ◌∙◌, subst, inl, inr}
use Rattle.std.proofs.lemmas.List.{map-append}
use Rattle.stores.specs.Held.{Stored}
use Rattle.calls.specs.declared.types.Label.{Label}
use Rattle.ends.specs.Model.{Model}
use Rattle.law.specs.Senders as senders
use Rattle.law.specs.Senders.{Status, delivered, not_delivered, in_doubt}
use Rattle.law.specs.Links as law
use Rattle.law.specs.Links.{Side, air, ground}
use Rattle.law.specs.Truth as truth
use Rattle.law.specs.Truth.{other, Among, Extends}
use Rattle.law.proofs.Truths.{truth_and_order}
use Rattle.law.proofs.RealDirections.{real_directions}
use Rattle.runs.specs.Links.{Link, Event, ways_of}
use Rattle.runs.specs.History.{Message, message, end_of, calls, submissions, handed_out, completed, status_of, called, called_in, told_of, waits, room}
use Rattle.runs.specs.Truth.{Bears, bears_none, bears, TrueOf, Truthful, TruthAndOrder}
use Rattle.runs.proofs.Cuts.{counted_at, cuts_whole}
use Rattle.runs.proofs.Receivers.{WaitingAre, none_wait, one_waits}
use Rattle.runs.proofs.Relating.{EndIs, is_end}
use Rattle.runs.proofs.Mapped.{Names, down_of, up_of, LinkIs, link_is, RunIs, names_of, run_at, run_is, onward_is, at_names}
use Rattle.runs.proofs.Given.{Numbers, numbers_of_run}
use Rattle.runs.proofs.Deeds.{calls_are, cut, flat, submissions_same, handed_same, withdrawn_to, withdrawn_from, told_to, numbered_from, last_acknowledged_to, last_acknowledged_from, late_to, late_from}

-- a message cut and joined up again
flat_cut : (x : Side) (m : Message) → flat (cut (room x) m) ≡ m
flat_cut x m = ap (λ (t : List ℕ). message m.label t) (cuts_whole (room x) (counted_at x) m.text)

-- messages that wait
waits_same : {ss : List (Stored Label)} {ms : List senders.Message} → WaitingAre ss ms → map flat ms ≡ map waits ss
waits_same none_wait = refl
waits_same (one_waits {s = s} {ts = ts} {ms = ms} e q) =
    ap (λ (t : List ℕ). message s.«record».0 t ∷ map flat ms) (sym e) ∙ ap (λ (ys : List Message). message s.«record».0 s.text ∷ ys) (waits_same q)

-- an end and what the law sees of it
end_called : (x : Side) {told : ℕ → Status} {m : Model} {e : law.End} → EndIs (ways_of x) told m e → (n : ℕ) → law.called_by (truth.sender_in e) n ≡ called_in m.outbox.cells (told n) n
end_called x (is_end A S R) n = S.status n

end_waiting : (x : Side) {told : ℕ → Status} {m : Model} {e : law.End} → EndIs (ways_of x) told m e → map flat (truth.waiting_in e) ≡ map waits m.inbox.waiting
end_waiting x (is_end A S R) = waits_same R.waiting

-- the end at a side
pub side_is : (x : Side) {n : Names} {h : List Event} {l : Link} {k : law.Link} → LinkIs n h l k → EndIs (ways_of x) (told_of (calls x h)) (end_of x l) (truth.end_of x k)
side_is air (link_is A G D U B C) = A
side_is ground (link_is A G D U B C) = G

-- messages borne
bears_same : (x : Side) (ms : List Message) {ns : List ℕ} {ds : List senders.Message} → truth.Bears (map (cut (room x)) ms) ns ds → Bears ms ns (map flat ds)
bears_same x ms truth.bears_none = bears_none
bears_same x ms (truth.bears {n = n} {m = z} e q) =
    let N = numbered_from (room x) ms n z e in
    bears (N.is ∙ ap (λ (y : Message). Some y) (sym (ap flat N.same ∙ flat_cut x N.text))) (bears_same x ms q)

module _ (n : Names) (x : Side) where
  -- the law at these settings
  pub lawful : truth.Truthful (down_of n) (up_of n) x
  lawful = truth_and_order (down_of n) (up_of n) (real_directions.0 n.aircraft) (real_directions.1 n.ground_end) x

  -- the numbers of the completed messages
  abbrev pub numbers : {h : List Event} {l : Link} → RunIs n h l → List ℕ
  numbers I = lawful.numbering I.history I.end_link I.run

  pub called_same : {h : List Event} {l : Link} (I : RunIs n h l) (j : ℕ) → truth.called x I.end_link j ≡ called x h l j
  called_same I j = end_called x (side_is x I.is) j

  completed_same : {h : List Event} {l : Link} (I : RunIs n h l) → map flat (truth.completed (other x) I.history I.end_link) ≡ completed (other x) h l
  completed_same {h = h} I =
      map-append flat (truth.handed_out (truth.calls (other x) I.history)) (truth.waiting_in (truth.end_of (other x) I.end_link)) ∙
      ap (λ (ms : List Message). ms ++ map flat (truth.waiting_in (truth.end_of (other x) I.end_link))) (handed_same (calls_are (other x) I.maps)) ∙
      ap (λ (ms : List Message). handed_out (calls (other x) h) ++ ms) (end_waiting (other x) (side_is (other x) I.is))

  -- what holds of a run
  pub true_of : {h : List Event} {l : Link} (I : RunIs n h l) → Numbers (calls x h) (end_of x l) → TrueOf x (calls x h) (called x h l) (completed (other x) h l) (numbers I)
  true_of {h = h} {l = l} I N =
      let T = lawful.holds I.history I.end_link I.run in
      let c = calls_are x I.maps in
      let s = called_same I in
      record {
        given = N.given;
        borne = subst (Bears (submissions (calls x h)) (numbers I)) (completed_same I)
            (bears_same x (submissions (calls x h)) (subst (λ (ms : List senders.Message). truth.Bears ms (numbers I) (truth.completed (other x) I.history I.end_link)) (submissions_same c) T.borne));
        order = T.order;
        missing = λ j k a b d e. withdrawn_from j c (T.missing j k a b d e);
        truly_delivered = λ j e. T.truly_delivered j (s j ∙ e);
        truly_not = λ j e. T.truly_not j (s j ∙ e);
        delivered_when = λ j. let W = T.delivered_when j in (λ e. last_acknowledged_from x j c (W.0 (s j ∙ e)), λ q. sym (s j) ∙ W.1 (last_acknowledged_to x j c q));
        withdrawn_when = λ j.
            let W = T.withdrawn_when j in (
              λ e. withdrawn_from j c (W.0 (elim e [ inl a ↦ inl (s j ∙ a) | inr b ↦ inr (s j ∙ b) ])),
              λ q. elim (W.1 (withdrawn_to j c q)) [ inl a ↦ inl (sym (s j) ∙ a) | inr b ↦ inr (sym (s j) ∙ b) ],
            );
        doubt = λ j. let W = T.doubt j in (λ e. late_from x j c (W.0 (s j ∙ e)), λ q. sym (s j) ∙ W.1 (late_to x j c q));
        answered = λ j o q. sym (s j) ∙ T.answered j (status_of o) (told_to j o c q);
        at_most_one = λ j k a b d e. T.at_most_one j k (s j ∙ a) (s k ∙ b) d e;
      }

-- truth and order, both ways
pub truthful : (x : Side) → Truthful x
truthful x = record {
  numbering = λ h l r. numbers (names_of r) x (run_is r);
  extends = λ h h' l l' r r' o.
      let I = onward_is (names_of r) refl o in
      subst (Extends (numbers (names_of r) x (run_is r)))
      (at_names r' (λ (n : Names) (J : RunIs n h' l'). numbers n x J) (names_of r) I.names)
      ((lawful (names_of r) x).extends (run_is r).history (run_at (names_of r) r' I.names).history (run_is r).end_link (run_at (names_of r) r' I.names).end_link (run_is r).run (run_at (names_of r) r' I.names).run I.onward);
  holds = λ h l r. true_of (names_of r) x (run_is r) (numbers_of_run x r);
  never = λ h h' l l' r r' o n e a.
      let I = onward_is (names_of r) refl o in
      (lawful (names_of r) x).never (run_is r).history (run_at (names_of r) r' I.names).history (run_is r).end_link (run_at (names_of r) r' I.names).end_link (run_is r).run (run_at (names_of r) r' I.names).run I.onward n
      (called_same (names_of r) x (run_is r) n ∙ e)
      (subst (Among n) (sym (at_names r' (λ (k : Names) (J : RunIs k h' l'). numbers k x J) (names_of r) I.names)) a);
}

pub truth_and_order_lem : TruthAndOrder
truth_and_order_lem = truthful
