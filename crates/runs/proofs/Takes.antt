-- A block heard is taken, or refused, as the law's receiver takes it. Assumes nothing.
use Rattle.std.proofs.Common.{◌≡◌, ℕ, ◌≤◌, Bool, true, false, cond, ◌&&◌, ltb, leb, List, [], ◌∷◌, ◌++◌, reverse, length, drop, Some, None, Ok, Err, Result, sym, refl, ap, ◌∙◌, subst, arith, ltb-false, ltb-true, eqb-true, leb-false, leb-true}
use Rattle.std.proofs.Math.Option.{none-ne-some}
use mathlib.Core.Option.{Option, some, some-injective}
use borrow.Author.Tests.{eqb-false, clash}
use Rattle.std.specs.declared.option.Option as std
use Rattle.directions.specs.Rings.{RingRule}
use Rattle.directions.specs.declared.marks.Mark.{Mark}
use Rattle.stores.specs.Held.{Stored, stored}
use Rattle.calls.specs.declared.fault.LinkFault.{LinkFault}
use Rattle.calls.specs.declared.fault.LinkFault.TheVariants.{Stray, Seventeenth, Crowded}
use Rattle.ends.specs.declared.types.PartHead.{PartHead}
use Rattle.calls.specs.declared.types.Heard.{Heard}
use Rattle.calls.specs.declared.types.Heard.TheVariants as heard
use Rattle.ends.specs.Model.{Ways, Inbox}
use Rattle.ends.specs.Hearing as hearing
use Rattle.law.specs.Directions.{is_next, Direction}
use Rattle.law.specs.Real as real
use Rattle.law.specs.Senders as sender
use Rattle.law.specs.Senders.{Text, Message}
use Rattle.law.specs.Receivers as law
use Rattle.runs.proofs.Rings.{Is, Same, no_one, one, same_index, is_next_same}
use Rattle.runs.proofs.Receivers.{joined_reverse, marks_back, shut, opened, PartAfter, no_part, a_part, mark_same, joins_same, waiting_add, waiting_length, ReceiverIs}

-- the answer of hear to a block that is taken so
abbrev pub answer_of : law.Took → Result Heard LinkFault
answer_of law.duplicate = Ok heard.Duplicate
answer_of law.part = Ok heard.Part
answer_of law.complete = Ok heard.Complete
answer_of law.stray = Err Stray
answer_of law.seventeenth = Err Seventeenth
answer_of law.crowded = Err Crowded

-- the identifier last accepted again, or another
again_yes : {r : RingRule} {a : std.Option ℕ} {o : Option ℕ} (c k : ℕ) → Same r a o → Is r c k → hearing.again a c ≡ true → o ≡ some k
again_yes c k no_one h e = absurd (clash e)
again_yes {r = r} c k (one {c = d} {i = j} q) h e = ap (λ (x : ℕ). some x) (eqb-true j k (sym (same_index r d c j k q h) ∙ e))

again_no : {r : RingRule} {a : std.Option ℕ} {o : Option ℕ} (c k : ℕ) → Same r a o → Is r c k → hearing.again a c ≡ false → o ≡ some k → ⊥
again_no c k no_one h e z = none-ne-some k z
again_no {r = r} c k (one {c = d} {i = j} q) h e z = eqb-false j k (sym (same_index r d c j k q h) ∙ e) (some-injective j k z)

module _ (w : Ways) (originator : ℕ) (two : 2 ≤ w.inn.own.size) where
  -- the direction heard, and a block of it
  abbrev pub heard_direction : Direction
  heard_direction = real.direction_of w.inn.own w.inn.text originator

  abbrev pub law_block : hearing.Block → ℕ → sender.Block
  law_block b k = sender.block k (real.place_of (w.inn.text.reads b.text)) b.label.0 (drop w.inn.text.opening b.text) b.last

  -- a block heard, and what the law's receiver does with it
  pub record TakenAs (b : hearing.Block) (k : ℕ) (o : Option ℕ) (pt : law.Part) (ms : List Message) (owed : Bool) (after : hearing.Answered) : Type 0 where
    pub took : law.Took
    pub accepted_after : Option ℕ
    pub part_after : law.Part
    pub waiting_after : List Message
    pub takes : law.Takes heard_direction (law.receiver o pt ms) (law_block b k) took (law.receiver accepted_after part_after waiting_after)
    pub is : ReceiverIs w.inn.own after.inbox accepted_after part_after waiting_after (law.owes took owed)
    pub answer : after.answer ≡ answer_of took

  module _ {i : Inbox} {o : Option ℕ} {pt : law.Part} {ms : List Message} {owed : Bool} (R : ReceiverIs w.inn.own i o pt ms owed) (b : hearing.Block) (k : ℕ) where
    -- a refusal changes nothing
    refuses : (x : law.Took) (f : LinkFault) → law.owes x owed ≡ owed → answer_of x ≡ Err f →
        law.Takes heard_direction (law.receiver o pt ms) (law_block b k) x (law.receiver o pt ms) → TakenAs b k o pt ms owed (hearing.refused_by i f)
    refuses x f e a t = record {
      took = x;
      accepted_after = o;
      part_after = pt;
      waiting_after = ms;
      takes = t;
      is = record { accepted = R.accepted; part = R.part; waiting = R.waiting; owing = R.owing ∙ sym e };
      answer = sym a;
    }

    -- the rule is told the same
    turn_same : Is w.inn.own b.identifier k →
        law.joining heard_direction o pt (law_block b k) ≡ law.joined (real.turn_of (hearing.joining_of w i b)) pt b.label.0 (drop w.inn.text.opening b.text)
    turn_same h =
        ap (λ (x : std.Option Mark). law.joined (real.turn_of (w.inn.text.joining x (real.mark_of (real.place_of (w.inn.text.reads b.text))) (is_next w.inn.own.size o k))) pt b.label.0 (drop w.inn.text.opening b.text)) (mark_same R.part) ∙
        ap (λ (x : Mark). law.joined (real.turn_of (w.inn.text.joining (hearing.mark_of i.part) x (is_next w.inn.own.size o k))) pt b.label.0 (drop w.inn.text.opening b.text)) (marks_back (w.inn.text.reads b.text)) ∙
        ap (λ (x : Bool). law.joined (real.turn_of (w.inn.text.joining (hearing.mark_of i.part) (w.inn.text.reads b.text) x)) pt b.label.0 (drop w.inn.text.opening b.text)) (sym (is_next_same w.inn.own two b.identifier k R.accepted h))

    -- a duplicate
    pub duplicate_is : o ≡ some k → TakenAs b k o pt ms owed (record { answer = Ok heard.Duplicate; inbox = hearing.owing i })
    duplicate_is e = record {
      took = law.duplicate;
      accepted_after = o;
      part_after = pt;
      waiting_after = ms;
      takes = subst (λ (x : Option ℕ). law.Takes heard_direction (law.receiver x pt ms) (law_block b k) law.duplicate (law.receiver x pt ms)) (sym e) law.takes_duplicate;
      is = record { accepted = R.accepted; part = R.part; waiting = R.waiting; owing = refl };
      answer = refl;
    }

    -- a block with a new identifier: refused, or it joins the part, or it completes it
    joined_is : Is w.inn.own b.identifier k → (o ≡ some k → ⊥) → (x : std.Option (Stored PartHead)) (y : Option (Text × List Text)) → PartAfter x (w.inn.text.reads b.text) y →
        law.joining heard_direction o pt (law_block b k) ≡ y → TakenAs b k o pt ms owed (hearing.joined i b x)
    joined_is h new x y no_part e = refuses law.stray Stray refl refl (law.refuses_stray new e)
    joined_is h new x y (a_part {p = p} {ts = ts} text count long) e = sixteen (ltb 16 p.«record».blocks) refl
      where
        joins : law.joining heard_direction o pt (law_block b k) ≡ some (p.«record».label.0, ts)
        joins = e

        full : length ts ≤ 16 → (t : Bool) → leb 4 (length i.waiting) ≡ t → b.last ≡ true →
            TakenAs b k o pt ms owed
            (cond t (hearing.refused_by i Crowded)
            (record { answer = Ok heard.Complete; inbox = record { accepted = Some b.identifier; owed = true; part = None; waiting = i.waiting ++ stored p.«record».label p.text ∷ [] } }))
        full few true d l =
            let v = leb-true 4 (length i.waiting) d in
            let q = waiting_length R.waiting in
            refuses law.crowded Crowded refl refl
            (subst (λ (z : Bool). law.Takes heard_direction (law.receiver o pt ms) (sender.block k (real.place_of p.«record».mark) b.label.0 (drop w.inn.text.opening b.text) z) law.crowded (law.receiver o pt ms)) (sym l)
            (law.refuses_crowded new joins few (omega (arith, v, q))))
        full few false d l =
            let v = leb-false 4 (length i.waiting) d in
            let q = waiting_length R.waiting in
            record {
              took = law.complete;
              accepted_after = some k;
              part_after = law.closed;
              waiting_after = ms ++ sender.message p.«record».label.0 (reverse ts) ∷ [];
              takes = subst (λ (z : Bool). law.Takes heard_direction (law.receiver o pt ms) (sender.block k (real.place_of p.«record».mark) b.label.0 (drop w.inn.text.opening b.text) z) law.complete
                  (law.receiver (some k) law.closed (ms ++ sender.message p.«record».label.0 (reverse ts) ∷ []))) (sym l) (law.takes_last new joins few (omega (arith, v, q)));
              is = record {
                accepted = one h;
                part = shut;
                waiting = waiting_add (stored p.«record».label p.text) (reverse ts) R.waiting (text few ∙ sym (joined_reverse ts));
                owing = refl;
              };
              answer = refl;
            }

        lasts : length ts ≤ 16 → (z : Bool) → b.last ≡ z →
            TakenAs b k o pt ms owed
            (cond (z && leb 4 (length i.waiting)) (hearing.refused_by i Crowded)
            (record {
              answer = Ok (cond z heard.Complete heard.Part);
              inbox =
                  cond z
                  (record { accepted = Some b.identifier; owed = true; part = None; waiting = i.waiting ++ stored p.«record».label p.text ∷ [] })
                  (record { accepted = Some b.identifier; owed = true; part = Some p; waiting = i.waiting });
            }))
        lasts few true l = full few (leb 4 (length i.waiting)) refl l
        lasts few false l = record {
          took = law.part;
          accepted_after = some k;
          part_after = law.open_part (real.place_of p.«record».mark) p.«record».label.0 ts;
          waiting_after = ms;
          takes = subst (λ (z : Bool). law.Takes heard_direction (law.receiver o pt ms) (sender.block k (real.place_of p.«record».mark) b.label.0 (drop w.inn.text.opening b.text) z) law.part
              (law.receiver (some k) (law.open_part (real.place_of p.«record».mark) p.«record».label.0 ts) ms)) (sym l) (law.takes_part new joins few);
          is = record { accepted = one h; part = opened (text few) count (long few); waiting = R.waiting; owing = refl };
          answer = refl;
        }

        sixteen : (t : Bool) → ltb 16 p.«record».blocks ≡ t →
            TakenAs b k o pt ms owed
            (cond t (hearing.refused_by i Seventeenth)
            (cond (b.last && leb 4 (length i.waiting)) (hearing.refused_by i Crowded)
            (record { answer = Ok (cond b.last heard.Complete heard.Part); inbox = hearing.accepted_part i b p })))
        sixteen true d =
            let v = ltb-true 16 p.«record».blocks d in
            refuses law.seventeenth Seventeenth refl refl (law.refuses_seventeenth new joins (omega (arith, v, count)))
        sixteen false d =
            let v = ltb-false 16 p.«record».blocks d in
            lasts (omega (arith, v, count)) b.last refl

    -- every block heard is taken or refused as the law says
    pub block_heard_is : Is w.inn.own b.identifier k → length (drop w.inn.text.opening b.text) ≤ 220 → TakenAs b k o pt ms owed (hearing.block_heard w i b)
    block_heard_is h short = go (hearing.again i.accepted b.identifier) refl
      where
        go : (t : Bool) → hearing.again i.accepted b.identifier ≡ t →
            TakenAs b k o pt ms owed
            (cond t (record { answer = Ok heard.Duplicate; inbox = hearing.owing i })
            (hearing.joined i b (hearing.part_after w (hearing.joining_of w i b) i.part b)))
        go true e = duplicate_is (again_yes b.identifier k R.accepted h e)
        go false e = joined_is h (again_no b.identifier k R.accepted h e) (hearing.part_after w (hearing.joining_of w i b) i.part b)
            (law.joined (real.turn_of (hearing.joining_of w i b)) pt b.label.0 (drop w.inn.text.opening b.text))
            (joins_same w b short (hearing.joining_of w i b) R.part) (turn_same h)
