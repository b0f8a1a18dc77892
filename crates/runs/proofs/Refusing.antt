-- Which refusals come between two ends of a link. Assumes nothing.
use Rattle.std.proofs.Common.{◌≡◌, ℕ, ◌+◌, ◌<◌, ◌≤◌, Bool, true, false, cond, eqb, leb, List, [], ◌∷◌, length, replicate, Some, Ok, Err, Result, sym, refl, ap, ◌∙◌, subst, inl, inr, zero-add, arith, eqb-true}
use mathlib.Core.Option.{Option}
use Rattle.std.proofs.lemmas.List.{length-replicate}
use Rattle.std.specs.List.{slice_get}
use Rattle.std.specs.declared.option.Option as std
use Rattle.blocks.specs.declared.fault.BlockFault.{BlockFault}
use Rattle.blocks.specs.Faults as block
use Rattle.blocks.specs.Reading.{pick}
use Rattle.writing.specs.Writing as writing
use Rattle.stores.specs.Held.{Stored}
use Rattle.calls.specs.declared.fault.LinkFault.{LinkFault}
use Rattle.calls.specs.declared.types.Heard.{Heard}
use Rattle.calls.specs.Faults.{number_of, place_of}
use Rattle.ends.specs.declared.types.Cell.{Cell}
use Rattle.ends.specs.declared.types.Plan.{Plan}
use Rattle.ends.specs.declared.types.Plan.TheVariants as plan
use Rattle.ends.specs.declared.types.Stage.TheVariants.{Unsettled}
use Rattle.ends.specs.Model.{Ways, Model}
use Rattle.ends.specs.Sending.{block_fields, response_fields, plan_of, plan_of_cell, otherwise, fresh_identifier, last_identifier}
use Rattle.ends.specs.Calls.{TickRefused, Unsound, on_time}
use Rattle.law.specs.Senders.{Message, Status, Phase}
use Rattle.law.specs.Receivers.{Part, duplicate, part, complete, stray, seventeenth, crowded}
use Rattle.law.specs.Directions.{fresh}
use Rattle.law.specs.Links as law
use Rattle.law.specs.Links.{Side, air, ground}
use Rattle.law.specs.Truth as truth
use Rattle.law.specs.Truth.{Among, here, there}
use Rattle.law.proofs.RealDirections.{real_directions}
use Rattle.law.proofs.Truths.{refusals_never}
use Rattle.runs.specs.Links.{Strings, Link, Place, Put, tick, hear, at, Step, at_air, at_ground, Serves, ticks, ways_of, Accepted}
use Rattle.runs.specs.History.{end_of}
use Rattle.runs.specs.Strings.{Unreadable}
use Rattle.runs.specs.Truth.{RefusalsBetween}
use Rattle.runs.proofs.Rings.{Is, fresh_is, last_is}
use Rattle.runs.proofs.Senders.{SenderIs}
use Rattle.runs.proofs.Receivers.{ReceiverIs}
use Rattle.runs.proofs.Firsts.{cell_of, First, first_of}
use Rattle.runs.proofs.Sends.{holds_at}
use Rattle.runs.proofs.Relating.{EndIs, is_end, AnswerIs, answer_passed, answer_response, answer_took, DeedIs, hear_one, hear_none}
use Rattle.runs.proofs.Local.{same_cell}
use Rattle.runs.proofs.Ticking.{acknowledged_same}
use Rattle.runs.proofs.Serving.{Paired, paired}
use Rattle.runs.proofs.Sounds.{block_sound, response_sound, sound_taken}
use Rattle.runs.proofs.Mapped.{Names, down_of, up_of, names_of, run_is, step_is}
use Rattle.runs.proofs.Transfer.{side_is}

-- a buffer long enough
enough : 238 ≤ length {A = ℕ} (replicate 238 0)
enough = let e = length-replicate {A = ℕ} 238 0 in omega (arith, e)

module _ (w : Ways) (P : Paired w) (some_room : 0 < w.out.text.room) (m : Model) (A : Accepted m.settings) {told : ℕ → Status} {g : List Message} {c : ℕ → Status} {ph : Phase} {pt : Option ℕ} {s : ℕ}
    (S : SenderIs w.out.own w.out.text.room told m.outbox g c ph pt s) {a : Option ℕ} {pr : Part} {ms : List Message} {owed : Bool} (R : ReceiverIs w.inn.own m.inbox a pr ms owed) (n : ℕ) (p : std.Option ℕ) where
  -- a response
  rest_sound : (b : Bool) → Unsound w m (otherwise b) n p → ⊥
  rest_sound true h =
      let I = last_is w.out.own P.out.own.many S.put in
      sound_taken w.out (response_fields w m) (replicate 238 0) enough (response_sound w P.out some_room m A I.0 I.1 (acknowledged_same w P.forth R)) n p h
  rest_sound false h = h

  -- the block of the first unsettled message
  first_sound : (F : First w.out.text.room 1 m.outbox.cells) (k : ℕ) → k ≡ F.place → (identifier i : ℕ) → Is w.out.own identifier i → (b : Stored Cell) → slice_get m.outbox.cells k ≡ Some b →
      writing.Refusal w.out (block_fields w m b F.acknowledged identifier) (replicate 238 0) n p → ⊥
  first_sound F k e identifier i N b t h =
      let d : Stored Cell = cell_of F.number F.label (Unsettled F.acknowledged F.gone) F.text in
      let z : b ≡ d = same_cell b d (sym (subst (λ (v : ℕ). slice_get m.outbox.cells v ≡ Some b) e t) ∙ F.there_is) in
      let good = (holds_at w.out.text.room g m.outbox.cells F.place d S.holds F.there_is).0 in
      sound_taken w.out (block_fields w m d F.acknowledged identifier) (replicate 238 0) enough (block_sound w P.out some_room m A d F.acknowledged identifier i good F.fits N (acknowledged_same w P.forth R)) n p
      (subst (λ (v : Stored Cell). writing.Refusal w.out (block_fields w m v F.acknowledged identifier) (replicate 238 0) n p) z h)

  pub plan_sound : (time : ℕ) → Unsound w m (plan_of m time) n p → ⊥
  plan_sound time h = elim (first_of w.out.text.room 1 m.outbox.numbered m.outbox.cells S.between S.orderly) [
    | inl F ↦ with_first F F.gone refl (subst (λ (y : Plan). Unsound w m y n p) (F.plan m time 0) h)
    | inr N ↦ rest_sound m.inbox.owed (subst (λ (y : Plan). Unsound w m y n p) (N.plan m time 0) h)
  ]
    where
      by_due : (F : First w.out.text.room 1 m.outbox.cells) (b : Bool) → Unsound w m (cond b (plan.Again (record { place = 0 + F.place; index = F.acknowledged })) (otherwise m.inbox.owed)) n p → ⊥
      by_due F true u = let I = last_is w.out.own P.out.own.many S.put in first_sound F (0 + F.place) (zero-add F.place) (last_identifier w.out.own m.outbox) I.0 I.1 u.0 u.1 u.2
      by_due F false u = rest_sound m.inbox.owed u

      with_first : (F : First w.out.text.room 1 m.outbox.cells) (gone : Bool) → F.gone ≡ gone → Unsound w m (plan_of_cell m time (0 + F.place) (Unsettled F.acknowledged F.gone)) n p → ⊥
      with_first F false f u =
          let v = subst (λ (y : Bool). Unsound w m (plan_of_cell m time (0 + F.place) (Unsettled F.acknowledged y)) n p) f u in
          first_sound F (0 + F.place) (zero-add F.place) (fresh_identifier w.out.own m.outbox) (fresh w.out.own.size m.outbox.passing pt) (fresh_is w.out.own P.out.own.many m.outbox.passing S.put) v.0 v.1 v.2
      with_first F true f u = by_due F (leb m.clock.due time) (subst (λ (y : Bool). Unsound w m (plan_of_cell m time (0 + F.place) (Unsettled F.acknowledged y)) n p) f u)

-- a tick refused is refused by 14
tick_by : (w : Ways) → Paired w → 0 < w.out.text.room → (m : Model) {told : ℕ → Status} {e : law.End} → EndIs w told m e → (time n : ℕ) (p : std.Option ℕ) → TickRefused w m time n p → n ≡ 14
tick_by w P r m (is_end A S R) time n p h = go (eqb n 14) refl h
  where
    go : (b : Bool) → eqb n 14 ≡ b → pick b (on_time m time ≡ false) ((on_time m time ≡ true) × Unsound w m (plan_of m time) n p) → n ≡ 14
    go true e x = eqb-true n 14 e
    go false e x = absurd (plan_sound w P r m A S R n p time x.1)

some_room : (x : Side) → 0 < (ways_of x).out.text.room
some_room air = omega arith
some_room ground = omega arith

serves_tick : {w : Ways} {m m' : Model} {i i' o o' : Strings} {time draw : ℕ} {f : LinkFault} {p : Put} {b : std.Option Place} → Serves w m i o (tick time draw (Err f) p b) m' i' o' → TickRefused w m time (number_of f) (place_of f)
serves_tick (ticks h a) = h.2

step_tick : (x : Side) {l l' : Link} {time draw : ℕ} {f : LinkFault} {p : Put} {b : std.Option Place} → Step l (at x (tick time draw (Err f) p b)) l' → TickRefused (ways_of x) (end_of x l) time (number_of f) (place_of f)
step_tick air (at_air s) = serves_tick s
step_tick ground (at_ground s) = serves_tick s

-- a string that says nothing is refused by 3, 4 or 5
unreadable_by : (f : BlockFault) → Unreadable (Err f) → Among (block.number_of f) (2 ∷ 3 ∷ 4 ∷ 5 ∷ 12 ∷ [])
unreadable_by f (inl e) = subst (λ (k : ℕ). Among k (2 ∷ 3 ∷ 4 ∷ 5 ∷ 12 ∷ [])) (sym e) (there here)
unreadable_by f (inr (inl e)) = subst (λ (k : ℕ). Among k (2 ∷ 3 ∷ 4 ∷ 5 ∷ 12 ∷ [])) (sym e) (there (there here))
unreadable_by f (inr (inr e)) = subst (λ (k : ℕ). Among k (2 ∷ 3 ∷ 4 ∷ 5 ∷ 12 ∷ [])) (sym e) (there (there (there here)))

-- a fault's number, 0 for an answer that is none
abbrev refused_by : Result Heard LinkFault → ℕ
refused_by (Ok h) = 0
refused_by (Err f) = number_of f

-- an answer is no refusal
abbrev is_taken : Result Heard LinkFault → ℕ
is_taken (Ok h) = 1
is_taken (Err f) = 0

taken_not : {h : Heard} {f : LinkFault} → ◌≡◌ {A = Result Heard LinkFault} (Ok h) (Err f) → ⊥
taken_not e = let z : ◌≡◌ {A = ℕ} 1 0 = ap is_taken e in omega (arith, z)

-- the answers that refuse, by what the law's hear answers
answer_by : {r : Result Heard LinkFault} {a : law.Answer} (f : LinkFault) → AnswerIs r a → r ≡ Err f → (a ≡ law.took stray → ⊥) → (a ≡ law.took seventeenth → ⊥) → Among (number_of f) (2 ∷ 3 ∷ 4 ∷ 5 ∷ 12 ∷ [])
answer_by f (answer_passed {f = x} u) e s z = subst (λ (k : ℕ). Among k (2 ∷ 3 ∷ 4 ∷ 5 ∷ 12 ∷ [])) (ap refused_by e) (unreadable_by x u)
answer_by f answer_response e s z = absurd (taken_not e)
answer_by f (answer_took {t = duplicate}) e s z = absurd (taken_not e)
answer_by f (answer_took {t = part}) e s z = absurd (taken_not e)
answer_by f (answer_took {t = complete}) e s z = absurd (taken_not e)
answer_by f (answer_took {t = stray}) e s z = absurd (s refl)
answer_by f (answer_took {t = seventeenth}) e s z = absurd (z refl)
answer_by f (answer_took {t = crowded}) e s z = subst (λ (k : ℕ). Among k (2 ∷ 3 ∷ 4 ∷ 5 ∷ 12 ∷ [])) (ap refused_by e) (there (there (there (there here))))

module _ (n : Names) (x : Side) where
  -- a call just made is among those of its side
  made_now : (d : law.Doing) (k : List law.Event) → truth.Made d (truth.calls x (law.at x d ∷ k))
  made_now d k = go x
    where
      go : (y : Side) → truth.Made d (truth.keep y y d (truth.calls y k))
      go air = truth.now_made
      go ground = truth.now_made

  hear_by : {m : Model} {f : LinkFault} {ds : Strings} {s : std.Option (List ℕ)} {b : std.Option Place} {d : law.Doing} (k : List law.Event) → DeedIs (ways_of x) m (hear (Err f) ds s b) d →
      ((j : ℕ) (i : Option (ℕ × ℕ)) → (truth.Made (law.heard j (law.took stray) i) (truth.calls x (law.at x d ∷ k)) → ⊥) × (truth.Made (law.heard j (law.took seventeenth) i) (truth.calls x (law.at x d ∷ k)) → ⊥)) →
      Among (number_of f) (2 ∷ 3 ∷ 4 ∷ 5 ∷ 12 ∷ [])
  hear_by {f = f} k (hear_one {ds = ds} {a = a} {k = i} u v) never =
      let N = never (length ds) i in
      answer_by f v refl
      (λ e. N.0 (subst (λ (y : law.Answer). truth.Made (law.heard (length ds) y i) (truth.calls x (law.at x (law.heard (length ds) a i) ∷ k))) e (made_now (law.heard (length ds) a i) k)))
      (λ e. N.1 (subst (λ (y : law.Answer). truth.Made (law.heard (length ds) y i) (truth.calls x (law.at x (law.heard (length ds) a i) ∷ k))) e (made_now (law.heard (length ds) a i) k)))
  hear_by k (hear_none u) never = subst (λ (v : ℕ). Among v (2 ∷ 3 ∷ 4 ∷ 5 ∷ 12 ∷ [])) (sym u) here

pub refusals_between_lem : RefusalsBetween
refusals_between_lem = record {
  ticks = λ x h l l' time draw f p b r s.
      tick_by (ways_of x) (paired x) (some_room x) (end_of x l) (side_is x (run_is r).is) time (number_of f) (place_of f) (step_tick x s);
  hears = λ x h l l' f dropped s b r t.
      let I = run_is r in
      let n = names_of r in
      let S = step_is n h t I.is in
      hear_by n x I.history S.deed (λ j i. refusals_never (down_of n) (up_of n) (real_directions.0 n.aircraft) (real_directions.1 n.ground_end) (law.at x S.doing ∷ I.history) S.after (law.◌then◌ I.run S.step) x j i);
}
