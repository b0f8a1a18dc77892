-- Clean rounds of two real ends are clean rounds of the law. Assumes nothing.
use Rattle.std.proofs.Common.{◌≡◌, ℕ, leb, List, [], ◌∷◌, Some, None, Ok, Err, Result, sym, refl, ap, ◌∙◌, subst, arith, le-leb}
use mathlib.Core.Option.{Option, none, some}
use Rattle.std.specs.declared.option.Option as std
use Rattle.calls.specs.declared.fault.LinkFault.{LinkFault}
use Rattle.calls.specs.declared.types.Label.{Label}
use Rattle.calls.specs.declared.types.Ticked.{Ticked}
use Rattle.calls.specs.declared.types.Heard.{Heard}
use Rattle.calls.specs.declared.types.Heard.TheVariants as heard
use Rattle.calls.specs.Faults.{number_of}
use Rattle.ends.specs.Model.{Model}
use Rattle.ends.specs.Sending.{current_out}
use Rattle.law.specs.Senders.{Status, Phase, idle, ready, out, sender}
use Rattle.law.specs.Receivers.{Took, duplicate, part, complete, stray, seventeenth, crowded}
use Rattle.law.specs.Links as law
use Rattle.law.specs.Links.{Side, air, ground}
use Rattle.law.specs.Truth as truth
use Rattle.law.specs.Truth.{other}
use Rattle.law.specs.Rounds as rounds
use Rattle.runs.specs.Links.{Link, Place, unput, put, Deed, tick, hear, collect, Event, at, Step, ways_of}
use Rattle.runs.specs.History.{end_of}
use Rattle.runs.specs.Rounds.{CleanTick, puts_one, puts_none, HandsOutOne, hands_out, FindsNone, finds_none, Silent, silent, Collecting, collected_all, collects, Draining, drained, drains, drains_last, spare, spare_after, tally, Listening, listened, listens, OnTime, Round, round, Rounds, no_round, one_more}
use Rattle.runs.proofs.Acks.{as_place, is_out, out_same}
use Rattle.runs.proofs.Takes.{answer_of}
use Rattle.runs.proofs.Relating.{EndIs, is_end, AnswerIs, answer_passed, answer_response, answer_took, DeedIs, tick_block, tick_response, tick_nothing, hear_one, hear_none, collect_one, collect_none, collect_refused}
use Rattle.runs.proofs.Mapped.{Names, down_of, up_of, LinkIs, StepIs, step_is}
use Rattle.runs.proofs.Transfer.{side_is}

-- a real link reached by some calls, as one of the law
pub record Reached (n : Names) (l : Link) (k : law.Link) : Type 0 where
  pub history : List Event
  pub is : LinkIs n history l k

-- a real link as one of the law, of which something holds
pub record Goes (n : Names) (l' : Link) (P : law.Link → Type 0) : Type 0 where
  pub after : law.Link
  pub reached : Reached n l' after
  pub so : P after

module _ (n : Names) where
  -- one call
  abbrev one : {l l' : Link} {s : Side} {x : Deed} {k : law.Link} → Step l (at s x) l' → (R : Reached n l k) → StepIs n R.history l l' s x k
  one {l} {l'} {s} {x} {k} t R = step_is n R.history t R.is

  abbrev now : {l l' : Link} {s : Side} {x : Deed} {k : law.Link} (R : Reached n l k) (S : StepIs n R.history l l' s x k) → Reached n l' S.after
  now {l} {l'} {s} {x} {k} R S = record { history = at s x ∷ R.history; is = S.is }

  -- a clean tick
  tick_one : {x : Side} {k k' : law.Link} {m : Model} {time draw : ℕ} {t : Ticked} {s : List ℕ} {b : std.Option Place} {y : law.Doing} →
      DeedIs (ways_of x) m (tick time draw (Ok t) (put s (s ∷ [])) b) y → law.Step (down_of n) (up_of n) k (law.at x y) k' → rounds.CleanTick (down_of n) (up_of n) x (leb m.clock.due time) k k'
  tick_one {x = x} {k = k} {k' = k'} {m = m} {time = time} (tick_block {n = j} {i = i} {p = p} {ps = ps} z) q =
      rounds.put_block (subst (λ (v : List law.Packet). law.Step (down_of n) (up_of n) k (law.at x (law.sent (leb m.clock.due time) j i p v)) k') (z refl) q)
  tick_one {x = x} {k = k} {k' = k'} {m = m} {time = time} (tick_response {p = p} {ps = ps} z) q =
      rounds.put_response (subst (λ (v : List law.Packet). law.Step (down_of n) (up_of n) k (law.at x (law.responded (leb m.clock.due time) p v)) k') (z refl) q)

  tick_none : {x : Side} {k k' : law.Link} {m : Model} {time draw : ℕ} {t : Ticked} {b : std.Option Place} {y : law.Doing} →
      DeedIs (ways_of x) m (tick time draw (Ok t) unput b) y → law.Step (down_of n) (up_of n) k (law.at x y) k' → rounds.CleanTick (down_of n) (up_of n) x (leb m.clock.due time) k k'
  tick_none tick_nothing q = rounds.put_nothing q

  pub clean_tick : {x : Side} {time : ℕ} {l l' : Link} {k : law.Link} → CleanTick x time l l' → Reached n l k → Goes n l' (λ k'. rounds.CleanTick (down_of n) (up_of n) x (leb (end_of x l).clock.due time) k k')
  clean_tick (puts_one s) R = let S = one s R in record { after = S.after; reached = now R S; so = tick_one S.deed S.step }
  clean_tick (puts_none s) R = let S = one s R in record { after = S.after; reached = now R S; so = tick_none S.deed S.step }

  -- collects
  not_one : (k : ℕ) → k ≡ 1 → k ≡ 2 → ⊥
  not_one k a b = omega (arith, a, b)

  bare_one : {y : Side} {k k' : law.Link} {m : Model} {f : LinkFault} {before after : List ℕ} {z : law.Doing} → number_of f ≡ 2 →
      DeedIs (ways_of y) m (collect before (Err f) after) z → law.Step (down_of n) (up_of n) k (law.at y z) k' → law.Step (down_of n) (up_of n) k (law.at y law.bare) k'
  bare_one two (collect_none u) q = q
  bare_one {f = f} two (collect_refused u) q = absurd (not_one (number_of f) u two)

  finds_one : {y : Side} {l l' : Link} {k : law.Link} → FindsNone y l l' → Reached n l k → Goes n l' (λ k'. law.Step (down_of n) (up_of n) k (law.at y law.bare) k')
  finds_one (finds_none two s) R = let S = one s R in record { after = S.after; reached = now R S; so = bare_one two S.deed S.step }

  -- a message that the law hands out as well
  pub record HandsOut (y : Side) (k k' : law.Link) : Type 0 where
    pub text : Rattle.law.specs.Senders.Message
    pub step : law.Step (down_of n) (up_of n) k (law.at y (law.collected text)) k'

  out_one : {y : Side} {k k' : law.Link} {m : Model} {label : Label} {c : ℕ} {before after : List ℕ} {z : law.Doing} →
      DeedIs (ways_of y) m (collect before (Ok (label, c)) after) z → law.Step (down_of n) (up_of n) k (law.at y z) k' → HandsOut y k k'
  out_one (collect_one u) q = record { text = _; step = q }

  hands_one : {y : Side} {l l' : Link} {k : law.Link} → HandsOutOne y l l' → Reached n l k → Goes n l' (HandsOut y k)
  hands_one (hands_out s) R = let S = one s R in record { after = S.after; reached = now R S; so = out_one S.deed S.step }

  pub collecting : {y : Side} {l l' : Link} {k : law.Link} → Collecting y l l' → Reached n l k → Goes n l' (rounds.Collecting (down_of n) (up_of n) y k)
  collecting (collected_all f) R = let G = finds_one f R in record { after = G.after; reached = G.reached; so = rounds.collected_all G.so }
  collecting (collects f c) R =
      let G = hands_one f R in
      let C = collecting c G.reached in
      record { after = C.after; reached = C.reached; so = rounds.collects G.so.step C.so }

  -- hears
  silent_one : {y : Side} {k k' : law.Link} {m : Model} {f : LinkFault} {b : std.Option Place} {z : law.Doing} →
      DeedIs (ways_of y) m (hear (Err f) [] None b) z → law.Step (down_of n) (up_of n) k (law.at y z) k' → law.Step (down_of n) (up_of n) k (law.at y (law.silent 0)) k'
  silent_one (hear_none u) q = q

  silence : {y : Side} {l l' : Link} {k : law.Link} → Silent y l l' → Reached n l k → Goes n l' (λ k'. law.Step (down_of n) (up_of n) k (law.at y (law.silent 0)) k')
  silence (silent two s) R = let S = one s R in record { after = S.after; reached = now R S; so = silent_one S.deed S.step }

  -- a string heard with nothing dropped, and what it was to the law
  pub record HeardOne (y : Side) (r : Result Heard LinkFault) (b : std.Option Place) (k k' : law.Link) : Type 0 where
    pub answer : law.Answer
    pub place : Option (ℕ × ℕ)
    pub answer_is : AnswerIs r answer
    pub place_is : as_place place ≡ b
    pub step : law.Step (down_of n) (up_of n) k (law.at y (law.heard 0 answer place)) k'

  string_one : {y : Side} {k k' : law.Link} {m : Model} {r : Result Heard LinkFault} {s : List ℕ} {b : std.Option Place} {z : law.Doing} →
      DeedIs (ways_of y) m (hear r [] (Some s) b) z → law.Step (down_of n) (up_of n) k (law.at y z) k' → HeardOne y r b k k'
  string_one (hear_one {a = a} {k = p} u v) q = record { answer = a; place = p; answer_is = v; place_is = u; step = q }

  hears_one : {y : Side} {l l' : Link} {k : law.Link} {r : Result Heard LinkFault} {s : List ℕ} {b : std.Option Place} → Step l (at y (hear r [] (Some s) b)) l' → Reached n l k → Goes n l' (HeardOne y r b k)
  hears_one s R = let S = one s R in record { after = S.after; reached = now R S; so = string_one S.deed S.step }

-- the answer complete, on both sides
abbrev is_whole : Result Heard LinkFault → ℕ
is_whole (Ok heard.Response) = 0
is_whole (Ok heard.Duplicate) = 0
is_whole (Ok heard.Part) = 0
is_whole (Ok heard.Complete) = 1
is_whole (Err f) = 0

complete_so : (t : Took) → answer_of t ≡ Ok heard.Complete → t ≡ complete
complete_so duplicate e = let z : ◌≡◌ {A = ℕ} 0 1 = ap is_whole e in absurd (omega (arith, z))
complete_so part e = let z : ◌≡◌ {A = ℕ} 0 1 = ap is_whole e in absurd (omega (arith, z))
complete_so complete e = refl
complete_so stray e = let z : ◌≡◌ {A = ℕ} 0 1 = ap is_whole e in absurd (omega (arith, z))
complete_so seventeenth e = let z : ◌≡◌ {A = ℕ} 0 1 = ap is_whole e in absurd (omega (arith, z))
complete_so crowded e = let z : ◌≡◌ {A = ℕ} 0 1 = ap is_whole e in absurd (omega (arith, z))

complete_answer : {r : Result Heard LinkFault} {a : law.Answer} → AnswerIs r a → r ≡ Ok heard.Complete → a ≡ law.took complete
complete_answer (answer_passed u) e = let z : ◌≡◌ {A = ℕ} 0 1 = ap is_whole e in absurd (omega (arith, z))
complete_answer answer_response e = let z : ◌≡◌ {A = ℕ} 0 1 = ap is_whole e in absurd (omega (arith, z))
complete_answer (answer_took {t = t}) e = ap law.took (complete_so t e)

-- a law's answer is complete only where the real one is
abbrev is_complete : law.Answer → ℕ
is_complete law.passed = 0
is_complete law.response = 0
is_complete (law.took duplicate) = 0
is_complete (law.took part) = 0
is_complete (law.took complete) = 1
is_complete (law.took stray) = 0
is_complete (law.took seventeenth) = 0
is_complete (law.took crowded) = 0

took_complete : (t : Took) → law.took t ≡ law.took complete → answer_of t ≡ Ok heard.Complete
took_complete duplicate e = let z : ◌≡◌ {A = ℕ} 0 1 = ap is_complete e in absurd (omega (arith, z))
took_complete part e = let z : ◌≡◌ {A = ℕ} 0 1 = ap is_complete e in absurd (omega (arith, z))
took_complete complete e = refl
took_complete stray e = let z : ◌≡◌ {A = ℕ} 0 1 = ap is_complete e in absurd (omega (arith, z))
took_complete seventeenth e = let z : ◌≡◌ {A = ℕ} 0 1 = ap is_complete e in absurd (omega (arith, z))
took_complete crowded e = let z : ◌≡◌ {A = ℕ} 0 1 = ap is_complete e in absurd (omega (arith, z))

answer_complete : {r : Result Heard LinkFault} {a : law.Answer} → AnswerIs r a → a ≡ law.took complete → r ≡ Ok heard.Complete
answer_complete (answer_passed u) e = let z : ◌≡◌ {A = ℕ} 0 1 = ap is_complete e in absurd (omega (arith, z))
answer_complete answer_response e = let z : ◌≡◌ {A = ℕ} 0 1 = ap is_complete e in absurd (omega (arith, z))
answer_complete (answer_took {t = t}) e = took_complete t e

-- one more block, or none
tally_same : (k : Option (ℕ × ℕ)) (b : std.Option Place) (c : ℕ) → as_place k ≡ b → rounds.tally k c ≡ tally b c
tally_same none b c e = ap (λ (v : std.Option Place). tally v c) e
tally_same (some p) b c e = ap (λ (v : std.Option Place). tally v c) e

-- a tick on time
sender_on_time : (x : Side) {told : ℕ → Status} {m : Model} {e : law.End} (time : ℕ) → EndIs (ways_of x) told m e → OnTime time m → rounds.OnTime (leb m.clock.due time) (truth.sender_in e)
sender_on_time x {m = m} time (is_end {g = g} {c = c} {ph = ph} {p = pt} {s = s} A S R) t = go ph (ap is_out S.phase ∙ out_same (ways_of x).out.text.room m.outbox.passing m.outbox.cells)
  where
    go : (p : Phase) → is_out p ≡ current_out m.outbox.cells → rounds.OnTime (leb m.clock.due time) (sender g c p pt s)
    go (idle b) e = tt
    go (ready z) e = tt
    go (out z) e = le-leb m.clock.due time (t (sym e))

module _ (n : Names) where
  pub draining : {y : Side} {l l' : Link} {k : law.Link} → Draining y l l' → Reached n l k → Goes n l' (rounds.Draining (down_of n) (up_of n) y k)
  draining (drained s) R = let G = silence n s R in record { after = G.after; reached = G.reached; so = rounds.drained G.so }
  draining (drains s d w) R =
      let G = hears_one n s R in
      let D = draining w G.reached in
      record { after = D.after; reached = D.reached; so = rounds.drains G.so.step (λ e. d (answer_complete G.so.answer_is e)) D.so }
  draining {y = y} {k = k} (drains_last s o w) R =
      let G = hears_one n s R in
      let O = hands_one n o G.reached in
      let D = draining w O.reached in
      record {
        after = D.after;
        reached = D.reached;
        so = rounds.drains_last (subst (λ (a : law.Answer). law.Step (down_of n) (up_of n) k (law.at y (law.heard 0 a G.so.place)) G.after) (complete_answer G.so.answer_is refl) G.so.step) O.so.step D.so;
      }
  draining (spare f w) R =
      let G = finds_one n f R in
      let D = draining w G.reached in
      record { after = D.after; reached = D.reached; so = rounds.spare G.so D.so }
  draining (spare_after w f) R =
      let D = draining w R in
      let G = finds_one n f D.reached in
      record { after = G.after; reached = G.reached; so = rounds.spare_after D.so G.so }

  pub listening : {x : Side} {l l' : Link} {c : ℕ} {k : law.Link} → Listening x l c l' → Reached n l k → Goes n l' (rounds.Listening (down_of n) (up_of n) x k c)
  listening (listened s) R = let G = silence n s R in record { after = G.after; reached = G.reached; so = rounds.listened G.so }
  listening {x = x} {k = k} (listens {b = b} {n = c} s w) R =
      let G = hears_one n s R in
      let L = listening w G.reached in
      record {
        after = L.after;
        reached = L.reached;
        so = subst (λ (v : ℕ). rounds.Listening (down_of n) (up_of n) x k v L.after) (tally_same G.so.place b c G.so.place_is) (rounds.listens G.so.step L.so);
      }

  pub clean_round : {x : Side} {l l' : Link} {c : ℕ} {k : law.Link} → Round x l c l' → Reached n l k → Goes n l' (rounds.Round (down_of n) (up_of n) x k c)
  clean_round {x = x} {l = l} (round {l₀ = l₀} {time = time} t a b d e f) R =
      let A = clean_tick n a R in
      let B = collecting n b A.reached in
      let D = draining d B.reached in
      let E = clean_tick n e D.reached in
      let F = listening f E.reached in
      record { after = F.after; reached = F.reached; so = rounds.round (sender_on_time x time (side_is x R.is) t) A.so B.so D.so E.so F.so }

  pub clean_rounds : {x : Side} {r : ℕ} {l l' : Link} {c : ℕ} {k : law.Link} → Rounds x r l c l' → Reached n l k → Goes n l' (rounds.Rounds (down_of n) (up_of n) x r k c)
  clean_rounds {k = k} no_round R = record { after = k; reached = R; so = rounds.no_round }
  clean_rounds (one_more a b) R =
      let A = clean_round a R in
      let B = clean_rounds b A.reached in
      record { after = B.after; reached = B.reached; so = rounds.one_more A.so B.so }
