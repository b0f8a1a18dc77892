-- A hear at an end, as a move of the law. Assumes nothing.
use Rattle.std.proofs.Common.{◌≡◌, ℕ, suc, ◌+◌, ◌≤◌, Bool, true, false, cond, ◌&&◌, leb, List, [], ◌∷◌, ◌++◌, length, drop, Some, None, Ok, Err, Result, sym, refl, ap, ◌∙◌, subst, inl, inr, arith, ltb, ◌||◌, leb-true}
use mathlib.Core.Option.{Option, none, some}
use Rattle.std.specs.declared.option.Option as std
use Rattle.std.proofs.lemmas.List.{length-drop}
use borrow.Author.Tests.{clash}
use Rattle.directions.specs.TextRules.{OpeningLaws}
use Rattle.blocks.specs.declared.block.Block.{Block}
use Rattle.blocks.specs.declared.fault.BlockFault.{BlockFault}
use Rattle.blocks.specs.Fields.{Head, response, message}
use Rattle.blocks.specs.Legal.{Way, Sound}
use Rattle.blocks.specs.Reading.{Reads}
use Rattle.writing.specs.RoundTrip.{RoundTrip}
use Rattle.paths.specs.Meaning.{Spoiled}
use Rattle.calls.specs.declared.fault.LinkFault.{LinkFault}
use Rattle.calls.specs.declared.types.Heard.{Heard}
use Rattle.calls.specs.Faults.{number_of}
use Rattle.ends.specs.Model.{Ways, Inbox, Model}
use Rattle.ends.specs.Sending.{names, current_out, counted, with_outbox}
use Rattle.ends.specs.Hearing as hearing
use Rattle.ends.specs.Calls.{Hears, StringHeard, ReadHeard, FieldsHeard}
use Rattle.law.specs.Real as real
use Rattle.law.specs.Senders.{Message, Status, Phase, sender, Counts}
use Rattle.law.specs.Senders as senders
use Rattle.law.specs.Receivers.{receiver, owes}
use Rattle.law.specs.Links as law
use Rattle.law.specs.Links.{Packet, packet, spoiled}
use Rattle.runs.specs.Links.{Strings, Place, Takes, current, acknowledged, hear, Accepted}
use Rattle.runs.proofs.Rings.{Is, Same}
use Rattle.runs.proofs.Senders.{SenderIs}
use Rattle.runs.proofs.Receivers.{ReceiverIs}
use Rattle.runs.proofs.Acks.{AckIs, ack_is, as_place, box_if, place_if}
use Rattle.runs.proofs.Currents.{acknowledged_none, current_moves}
use Rattle.runs.proofs.Spoils.{spoiled_refused}
use Rattle.runs.proofs.Says.{Says, says_nothing, says_response, says_block, AllSay, none_waits, one_waits, parted, fields_heard}
use Rattle.runs.proofs.Takes.{block_heard_is}
use Rattle.runs.proofs.Relating.{WayLaws, EndIs, is_end, AnswerIs, answer_passed, answer_response, answer_took, DeedIs, Served, hear_one, hear_none}
use Rattle.runs.proofs.Local.{outward, inward}

-- both of two tests hold
pub both_left : (a b : Bool) → (a && b) ≡ true → a ≡ true
both_left true b e = refl
both_left false b e = e

pub both_right : (a b : Bool) → (a && b) ≡ true → b ≡ true
both_right true b e = e
both_right false b e = absurd (clash e)

-- strings and what they say are as many
pub all_say_length : {w : Way} {g : List ℕ} {ss : Strings} {ps : List Packet} → AllSay w g ss ps → length ps ≡ length ss
all_say_length none_waits = refl
all_say_length (one_waits s x) = ap suc (all_say_length x)

module _ (w : Ways) (L : WayLaws w.out) (told : ℕ → Status) (m : Model) where
  -- an acknowledgment counted at an end
  pub record CountedIs (g : List Message) (c : ℕ → Status) (ph : Phase) (p : Option ℕ) (s : ℕ) (a : std.Option ℕ) (a' : Option ℕ) (m' : Model) : Type 0 where
    pub called_after : ℕ → Status
    pub phase_after : Phase
    pub spent_after : ℕ
    pub place : Option (ℕ × ℕ)
    pub counts : Counts (sender g c ph p s) a' place (sender g called_after phase_after p spent_after)
    pub is : SenderIs w.out.own w.out.text.room told m'.outbox g called_after phase_after p spent_after
    pub inbox : m'.inbox ≡ m.inbox
    pub settings : m'.settings ≡ m.settings
    pub place_is : as_place place ≡ acknowledged m m'

  pub counted_is : {g : List Message} {c : ℕ → Status} {ph : Phase} {p : Option ℕ} {s : ℕ} → SenderIs w.out.own w.out.text.room told m.outbox g c ph p s → (a : std.Option ℕ) (a' : Option ℕ) → Same w.out.own a a' →
      CountedIs g c ph p s a a' (counted w m a)
  counted_is {g = g} {c = c} {ph = ph} {p = p} {s = s} S a a' q = go (names a m.outbox.put && current_out m.outbox.cells) refl (ack_is w.out.text.room L.counted w.out.own S m.outbox.put refl S.put a a' q)
    where
      go : (b : Bool) → (names a m.outbox.put && current_out m.outbox.cells) ≡ b → AckIs w.out.text.room L.counted w.out.own told m.outbox g c ph p s a' b →
          CountedIs g c ph p s a a' (cond b (with_outbox m (box_if w.out.text.room L.counted w.out.own true m.outbox)) m)
      go b e K = subst (CountedIs g c ph p s a a') (model_after b) record {
        called_after = K.called_after;
        phase_after = K.phase_after;
        spent_after = K.spent_after;
        place = K.place;
        counts = K.counts;
        is = K.is;
        inbox = refl;
        settings = refl;
        place_is = K.place_is ∙ sym (place_of b e);
      }
        where
          model_after : (b : Bool) → with_outbox m (box_if w.out.text.room L.counted w.out.own b m.outbox) ≡ cond b (with_outbox m (box_if w.out.text.room L.counted w.out.own true m.outbox)) m
          model_after true = refl
          model_after false = refl

          place_of : (b : Bool) → (names a m.outbox.put && current_out m.outbox.cells) ≡ b →
              acknowledged m (with_outbox m (box_if w.out.text.room L.counted w.out.own b m.outbox)) ≡ place_if b m.outbox.cells
          place_of true e = ap (λ (b : Bool). cond b None (current m)) (current_moves w.out.text.room L.counted g 1 m.outbox.numbered m.outbox.cells S.between S.holds S.orderly (both_right (names a m.outbox.put) (current_out m.outbox.cells) e))
          place_of false e = acknowledged_none m m refl

-- a block's text has at most 220 message characters
pub short : (w : Way) → OpeningLaws w.text → (h : Head) (l t : List ℕ) (e : Bool) → Sound w (message h l e t) → length (drop w.text.opening t) ≤ 220
short w O h l t e u =
    let n = leb-true (length t) (w.text.opening + w.text.room) (both_left (leb (length t) (w.text.opening + w.text.room)) (ltb 0 (length t) || e)
    (both_right (leb w.text.opening (length t)) (leb (length t) (w.text.opening + w.text.room) && (ltb 0 (length t) || e)) u.text.0)) in
    let f = O.full in
    let d = length-drop w.text.opening t in
    omega (arith, n, f, d)

-- a string heard, by what it says
pub record HeardIs (w : Ways) (theirs : ℕ) (told : ℕ → Status) (m m' : Model) (e : law.End) (p : Packet) (r : Result Heard LinkFault) : Type 0 where
  pub answer : law.Answer
  pub place : Option (ℕ × ℕ)
  pub end_after : law.End
  pub hears : law.Hears (outward w m.settings.originator) (inward w theirs) e p answer place end_after
  pub is : EndIs w told m' end_after
  pub answer_is : AnswerIs r answer
  pub place_is : as_place place ≡ acknowledged m m'
  pub settings : m'.settings ≡ m.settings

module _ (w : Ways) (L : WayLaws w.out) (K : WayLaws w.inn) (T : RoundTrip w.inn) (back : w.inn.other ≡ w.out.own) (theirs : ℕ) {told : ℕ → Status} {m m' : Model} where
  spoiled_is : {e : law.End} → EndIs w told m e → (s : List ℕ) → Spoiled s → (r : Result Heard LinkFault) → StringHeard w m s r m' → HeardIs w theirs told m m' e spoiled r
  spoiled_is {e = e} E s x r h = go h.result h.read h.heard
    where
      go : (y : Result Block BlockFault) → Reads w.inn s y → ReadHeard w m y r m' → HeardIs w theirs told m m' e spoiled r
      go (Ok b) q z = absurd (spoiled_refused w.inn s x (Ok b) q)
      go (Err f) q z = record {
        answer = law.passed;
        place = none;
        end_after = e;
        hears = law.passes law.unreadable;
        is = subst (λ (v : Model). EndIs w told v e) (sym z.1) E;
        answer_is = subst (λ (v : Result Heard LinkFault). AnswerIs v law.passed) (sym z.0) (answer_passed (spoiled_refused w.inn s x (Err f) q));
        place_is = sym (acknowledged_none m m' (ap (λ (v : Model). v.outbox.cells) z.1));
        settings = ap (λ (v : Model). v.settings) z.1;
      }

  response_is : {e : law.End} → EndIs w told m e → (h : Head) (a : Option ℕ) → Same w.inn.other h.acknowledgment a → (r : Result Heard LinkFault) → FieldsHeard w m (response h) r m' → HeardIs w theirs told m m' e (packet a none) r
  response_is (is_end {g = g} {c = c} {ph = ph} {p = p} {s = s} {a = o} {pt = pt} {ms = ms} {owed = owed} A S R) h a q r z =
      let C = counted_is w L told m S h.acknowledgment a (subst (λ (v : _). Same v h.acknowledgment a) back q) in
      record {
        answer = law.response;
        place = C.place;
        end_after = law.an_end (sender g C.called_after C.phase_after p C.spent_after) (receiver o pt ms) owed;
        hears = law.hears_response C.counts;
        is = subst (λ (v : Model). EndIs w told v (law.an_end (sender g C.called_after C.phase_after p C.spent_after) (receiver o pt ms) owed)) (sym z.1)
            (is_end (subst Accepted (sym C.settings) A) C.is (subst (λ (v : Inbox). ReceiverIs w.inn.own v o pt ms owed) (sym C.inbox) R));
        answer_is = subst (λ (v : Result Heard LinkFault). AnswerIs v law.response) (sym z.0) answer_response;
        place_is = C.place_is ∙ ap (acknowledged m) (sym z.1);
        settings = ap (λ (v : Model). v.settings) z.1 ∙ C.settings;
      }

  block_is : {e : law.End} → EndIs w told m e → (h : Head) (a : Option ℕ) (k : ℕ) (l t : List ℕ) (last : Bool) → Same w.inn.other h.acknowledgment a → Is w.inn.own h.identifier k →
      Sound w.inn (message h l last t) → (r : Result Heard LinkFault) → FieldsHeard w m (message h l last t) r m' →
      HeardIs w theirs told m m' e (packet a (some (senders.block k (real.place_of (w.inn.text.reads t)) l (drop w.inn.text.opening t) last))) r
  block_is (is_end {g = g} {c = c} {ph = ph} {p = p} {s = s} {a = o} {pt = pt} {ms = ms} {owed = owed} A S R) h a k l t last q n u r z =
      let C = counted_is w L told m S h.acknowledgment a (subst (λ (v : _). Same v h.acknowledgment a) back q) in
      let b : hearing.Block = record { identifier = h.identifier; label = record { 0 = l }; last = last; text = t } in
      let B = block_heard_is w theirs K.own.many (subst (λ (v : Inbox). ReceiverIs w.inn.own v o pt ms owed) (sym C.inbox) R) b k n (short w.inn K.opens h l t last u) in
      record {
        answer = law.took B.took;
        place = C.place;
        end_after = law.an_end (sender g C.called_after C.phase_after p C.spent_after) (receiver B.accepted_after B.part_after B.waiting_after) (owes B.took owed);
        hears = law.hears_block C.counts B.takes;
        is = subst (λ (v : Model). EndIs w told v (law.an_end (sender g C.called_after C.phase_after p C.spent_after) (receiver B.accepted_after B.part_after B.waiting_after) (owes B.took owed))) (sym z.1)
            (is_end (subst Accepted (sym C.settings) A) C.is B.is);
        answer_is = subst (λ (v : Result Heard LinkFault). AnswerIs v (law.took B.took)) (sym (z.0 ∙ B.answer)) answer_took;
        place_is = C.place_is ∙ ap (acknowledged m) (sym z.1);
        settings = ap (λ (v : Model). v.settings) z.1 ∙ C.settings;
      }

  -- any string
  pub string_is : {e : law.End} → EndIs w told m e → (s : List ℕ) (p : Packet) → Says w.inn m.settings.registration s p → (r : Result Heard LinkFault) → StringHeard w m s r m' → HeardIs w theirs told m m' e p r
  string_is E s p (says_nothing x) r h = spoiled_is E s x r h
  string_is E s p (says_response {h = hd} {a = a} u v q) r h = response_is E hd a q r (fields_heard w T m m' (response hd) r u v h)
  string_is E s p (says_block {h = hd} {a = a} {i = i} {l = l} {t = t} {e = last} u v q n) r h = block_is E hd a i l t last q n u r (fields_heard w T m m' (message hd l last t) r u v h)

  module _ {i i' o : Strings} {ps qs : List Packet} (p : AllSay w.inn m.settings.registration i ps) (q : AllSay w.out m.settings.registration o qs) where
    -- a string was taken
    hears_one : {e : law.End} → EndIs w told m e → (dropped : Strings) (s : List ℕ) → i ≡ dropped ++ s ∷ i' → (r : Result Heard LinkFault) → StringHeard w m s r m' →
        Served w (outward w m.settings.originator) (inward w theirs) m.settings.registration told m m' i' o (hear r dropped (Some s) (acknowledged m m')) e ps qs
    hears_one {e = e} E dropped s f r h =
        let D = parted dropped (subst (λ (v : Strings). AllSay w.inn m.settings.registration v ps) f p) in
        go D.first D.rest D.whole D.first_say D.rest_say
      where
        go : (first rest : List Packet) → ps ≡ first ++ rest → AllSay w.inn m.settings.registration dropped first → AllSay w.inn m.settings.registration (s ∷ i') rest →
            Served w (outward w m.settings.originator) (inward w theirs) m.settings.registration told m m' i' o (hear r dropped (Some s) (acknowledged m m')) e ps qs
        go first [] g x y = elim y [ ]
        go first (k ∷ rest) g x (one_waits y z) =
            let H = string_is E s k y r h in
            record {
              doing = law.heard (length first) H.answer H.place;
              end_after = H.end_after;
              in_after = rest;
              out_after = qs;
              move = subst (λ (v : List Packet). law.Move (outward w m.settings.originator) (inward w theirs) e v qs (law.heard (length first) H.answer H.place) H.end_after rest qs) (sym g) (law.hear first H.hears);
              is = H.is;
              in_say = z;
              out_say = q;
              deed = subst (λ (v : ℕ). DeedIs w m (hear r dropped (Some s) (acknowledged m m')) (law.heard v H.answer H.place)) (sym (all_say_length x)) (hear_one H.place_is H.answer_is);
              settings = H.settings;
            }

    -- nothing was left to take
    hears_none : {e : law.End} → EndIs w told m e → (dropped : Strings) → i ≡ dropped → i' ≡ [] → (f : LinkFault) → number_of f ≡ 2 → m' ≡ m →
        Served w (outward w m.settings.originator) (inward w theirs) m.settings.registration told m m' i' o (hear (Err f) dropped None (acknowledged m m')) e ps qs
    hears_none {e = e} E dropped g k f two h = record {
      doing = law.silent (length ps);
      end_after = e;
      in_after = [];
      out_after = qs;
      move = law.hear_nothing;
      is = subst (λ (v : Model). EndIs w told v e) (sym h) E;
      in_say = subst (λ (v : Strings). AllSay w.inn m.settings.registration v []) (sym k) none_waits;
      out_say = q;
      deed = subst (λ (v : std.Option Place). DeedIs w m (hear (Err f) dropped None v) (law.silent (length ps))) (sym (acknowledged_none m m' (ap (λ (v : Model). v.outbox.cells) h)))
          (subst (λ (v : ℕ). DeedIs w m (hear (Err f) dropped None None) (law.silent v)) (sym (all_say_length p ∙ ap length g)) (hear_none two));
      settings = ap (λ (v : Model). v.settings) h;
    }

    pub hear_serves : {e : law.End} → EndIs w told m e → (dropped : Strings) (x : std.Option (List ℕ)) (r : Result Heard LinkFault) → Hears (Takes dropped x) w m r m' i i' →
        Served w (outward w m.settings.originator) (inward w theirs) m.settings.registration told m m' i' o (hear r dropped x (acknowledged m m')) e ps qs
    hear_serves {e = e} E dropped x r (inl (s, t, h)) =
        subst (λ (v : std.Option (List ℕ)). Served w (outward w m.settings.originator) (inward w theirs) m.settings.registration told m m' i' o (hear r dropped v (acknowledged m m')) e ps qs) (sym t.0) (hears_one E dropped s t.1 r h)
    hear_serves {e = e} E dropped x r (inr (t, h, (f, u, v, n))) =
        subst (λ (y : std.Option (List ℕ)). Served w (outward w m.settings.originator) (inward w theirs) m.settings.registration told m m' i' o (hear r dropped y (acknowledged m m')) e ps qs) (sym t.0)
        (subst (λ (y : Result Heard LinkFault). Served w (outward w m.settings.originator) (inward w theirs) m.settings.registration told m m' i' o (hear y dropped None (acknowledged m m')) e ps qs) (sym u)
        (hears_none E dropped t.1.0 t.1.1 f v h))
