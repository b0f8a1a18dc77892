-- A run of two real ends is a run of the law, call for call. Assumes nothing.
use Rattle.std.proofs.Common.{◌≡◌, ℕ, List, [], ◌∷◌, sym, refl, ap, ◌∙◌, subst}
use Rattle.std.proofs.Math.Path.{path_j}
use Rattle.directions.specs.TextRules.{down_ring, up_ring, down_text, up_text}
use Rattle.calls.specs.declared.types.Settings.{Settings}
use Rattle.ends.specs.Model.{Ways, Model, new_model}
use Rattle.law.specs.Directions.{Direction}
use Rattle.law.specs.Real.{direction_of}
use Rattle.law.specs.Senders.{unsettled}
use Rattle.law.specs.Links as law
use Rattle.law.specs.Links.{Side, air, ground}
use Rattle.runs.specs.Links.{Strings, Link, link, Deed, down_way, up_way, ways_of, Event, at, Step, at_air, at_ground, Accepted, Run, begin, ◌then◌, Onward, same, onward}
use Rattle.runs.specs.History.{end_of, calls, told_of}
use Rattle.runs.proofs.Rings.{no_one}
use Rattle.runs.proofs.Senders.{new_sender_is}
use Rattle.runs.proofs.Receivers.{none_wait, shut}
use Rattle.runs.proofs.Says.{AllSay, none_waits}
use Rattle.runs.proofs.Relating.{EndIs, is_end, DeedIs}
use Rattle.runs.proofs.Serving.{serves_is, paired}

-- the settings of both ends: originators and registration
pub record Names : Type 0 where
  pub aircraft : ℕ
  pub ground_end : ℕ
  pub registration : List ℕ

-- the directions down and up
abbrev pub down_of : Names → Direction
down_of n = direction_of down_ring down_text n.aircraft

abbrev pub up_of : Names → Direction
up_of n = direction_of up_ring up_text n.ground_end

-- an end bears these settings
pub record Bears (m : Model) (originator : ℕ) (registration : List ℕ) : Type 0 where
  pub originator_is : m.settings.originator ≡ originator
  pub registration_is : m.settings.registration ≡ registration

-- a real link, after these calls, is this link of the law
pub data LinkIs (n : Names) : List Event → Link → law.Link → Type 0 where
  link_is : {h : List Event} {a g : Model} {d u : Strings} {ea eg : law.End} {pd pu : List law.Packet} →
      EndIs (ways_of air) (told_of (calls air h)) a ea → EndIs (ways_of ground) (told_of (calls ground h)) g eg →
      AllSay down_way n.registration d pd → AllSay up_way n.registration u pu →
      Bears a n.aircraft n.registration → Bears g n.ground_end n.registration →
      LinkIs n h (link a g d u) (law.link ea eg pd pu)

-- real calls, and what each is in the law
pub data HistoryIs : List Event → List law.Event → Type 0 where
  no_calls : HistoryIs [] []
  one_call : {h : List Event} {k : List law.Event} {x : Deed} {y : law.Doing} {m : Model} (s : Side) → DeedIs (ways_of s) m x y → HistoryIs h k → HistoryIs (at s x ∷ h) (law.at s y ∷ k)

-- a real link with its calls, as a run of the law
pub record RunIs (n : Names) (h : List Event) (l : Link) : Type 0 where
  pub history : List law.Event
  pub end_link : law.Link
  pub run : law.Run (down_of n) (up_of n) history end_link
  pub is : LinkIs n h l end_link
  pub maps : HistoryIs h history

-- one step more: a call at a side
pub record StepIs (n : Names) (h : List Event) (l l' : Link) (s : Side) (x : Deed) (k : law.Link) : Type 0 where
  pub doing : law.Doing
  pub after : law.Link
  pub step : law.Step (down_of n) (up_of n) k (law.at s doing) after
  pub is : LinkIs n (at s x ∷ h) l' after
  pub deed : DeedIs (ways_of s) (end_of s l) x doing

still_bears : {m m' : Model} {o : ℕ} {r : List ℕ} → m'.settings ≡ m.settings → Bears m o r → Bears m' o r
still_bears e B = record { originator_is = ap (λ (s : Settings). s.originator) e ∙ B.originator_is; registration_is = ap (λ (s : Settings). s.registration) e ∙ B.registration_is }

module _ (n : Names) (h : List Event) where
  pub step_is : {l l' : Link} {s : Side} {x : Deed} {k : law.Link} → Step l (at s x) l' → LinkIs n h l k → StepIs n h l l' s x k
  step_is (at_air {a = a} {a' = a'} {d = d} {d' = d'} {u = u} {u' = u'} {x = x} s) (link_is {ea = ea} {eg = eg} {pd = pd} {pu = pu} A G D U B C) =
      let V = serves_is (ways_of air) (paired air) n.ground_end (subst (λ (r : List ℕ). AllSay up_way r u pu) (sym B.registration_is) U) (subst (λ (r : List ℕ). AllSay down_way r d pd) (sym B.registration_is) D) A x s in
      record {
        doing = V.doing;
        after = law.link V.end_after eg V.out_after V.in_after;
        step = law.at_air (subst (λ (o : ℕ). law.Move (direction_of down_ring down_text o) (up_of n) ea pu pd V.doing V.end_after V.in_after V.out_after) B.originator_is V.move);
        is = link_is V.is G (subst (λ (r : List ℕ). AllSay down_way r d' V.out_after) B.registration_is V.out_say) (subst (λ (r : List ℕ). AllSay up_way r u' V.in_after) B.registration_is V.in_say)
            (still_bears V.settings B) C;
        deed = V.deed;
      }
  step_is (at_ground {g = g} {g' = g'} {d = d} {d' = d'} {u = u} {u' = u'} {x = x} s) (link_is {ea = ea} {eg = eg} {pd = pd} {pu = pu} A G D U B C) =
      let V = serves_is (ways_of ground) (paired ground) n.aircraft (subst (λ (r : List ℕ). AllSay down_way r d pd) (sym C.registration_is) D) (subst (λ (r : List ℕ). AllSay up_way r u pu) (sym C.registration_is) U) G x s in
      record {
        doing = V.doing;
        after = law.link ea V.end_after V.in_after V.out_after;
        step = law.at_ground (subst (λ (o : ℕ). law.Move (direction_of up_ring up_text o) (down_of n) eg pd pu V.doing V.end_after V.in_after V.out_after) C.originator_is V.move);
        is = link_is A V.is (subst (λ (r : List ℕ). AllSay down_way r d' V.in_after) C.registration_is V.in_say) (subst (λ (r : List ℕ). AllSay up_way r u' V.out_after) C.registration_is V.out_say)
            B (still_bears V.settings C);
        deed = V.deed;
      }

-- the settings with which a run began
unfoldable pub names_of : {h : List Event} {l : Link} → Run h l → Names
names_of (begin {a = a} {g = g} A G e) = record { aircraft = a.originator; ground_end = g.originator; registration = a.registration }
names_of (r then s) = names_of r

-- a new end
pub new_end_is : (w : Ways) (s : Settings) → Accepted s → EndIs w (λ n. unsettled) (new_model s) law.new_end
new_end_is w s A = is_end A (new_sender_is w.out.own w.out.text.room (new_model s).outbox refl refl refl refl no_one) (record { accepted = no_one; part = shut; waiting = none_wait; owing = refl })

-- every run is one of the law, over the directions of the settings with which it began
unfoldable pub run_at : (n : Names) {h : List Event} {l : Link} (r : Run h l) → names_of r ≡ n → RunIs n h l
unfolding names_of
run_at n (begin {a = a} {g = g} A G e) f = record {
  history = [];
  end_link = law.new_link;
  run = law.begin;
  is = link_is (new_end_is (ways_of air) a A) (new_end_is (ways_of ground) g G) none_waits none_waits
      (record { originator_is = ap (λ (y : Names). y.aircraft) f; registration_is = ap (λ (y : Names). y.registration) f })
      (record { originator_is = ap (λ (y : Names). y.ground_end) f; registration_is = sym e ∙ ap (λ (y : Names). y.registration) f });
  maps = no_calls;
}
run_at n (◌then◌ {h = h} {x = at s x} r t) f =
    let I = run_at n r f in
    let S = step_is n h t I.is in
    record { history = law.at s S.doing ∷ I.history; end_link = S.after; run = law.◌then◌ I.run S.step; is = S.is; maps = one_call s S.deed I.maps }

abbrev pub run_is : {h : List Event} {l : Link} (r : Run h l) → RunIs (names_of r) h l
run_is r = run_at (names_of r) r refl

-- a run that goes on goes on in the law
pub record OnwardIs (n : Names) {h h' : List Event} {l l' : Link} (r : Run h l) (e : names_of r ≡ n) (r' : Run h' l') : Type 0 where
  pub names : names_of r' ≡ n
  pub onward : law.Onward (down_of n) (up_of n) (run_at n r e).history (run_at n r e).end_link (run_at n r e).run (run_at n r' names).history (run_at n r' names).end_link (run_at n r' names).run

pub onward_is : (n : Names) {h : List Event} {l : Link} {r : Run h l} (e : names_of r ≡ n) {h' : List Event} {l' : Link} {r' : Run h' l'} → Onward h l r h' l' r' → OnwardIs n r e r'
unfolding names_of run_at
onward_is n e same = record { names = e; onward = law.same }
onward_is n e (onward {h' = h} {l' = l} {x = at y x} {r' = r'} o s) =
    let I = onward_is n e o in
    record { names = I.names; onward = law.onward I.onward (step_is n h s (run_at n r' I.names).is).step }

-- what is worked out at the settings of a run does not hang on the proof that they are its own
pub at_names : {T : Type 0} {h : List Event} {l : Link} (r : Run h l) (f : (n : Names) → RunIs n h l → T) (n : Names) (e : names_of r ≡ n) → f n (run_at n r e) ≡ f (names_of r) (run_is r)
at_names r f n e = path_j (λ (k : Names) (q : names_of r ≡ k). f k (run_at k r q) ≡ f (names_of r) (run_is r)) refl e
