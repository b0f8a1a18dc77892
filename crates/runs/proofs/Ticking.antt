-- A tick at an end, as a move of the law. Assumes nothing.
use Rattle.std.proofs.Common.{◌≡◌, ℕ, ◌+◌, ◌<◌, Bool, true, false, cond, leb, List, [], ◌∷◌, ◌++◌, length, Some, None, Ok, Err, Result, sym, refl, ap, ◌∙◌, subst, inl, inr, zero-add, arith}
use mathlib.Core.Option.{Option, none, some}
use Rattle.std.specs.declared.option.Option as std
use Rattle.std.specs.List.{slice_get}
use Rattle.stores.specs.Held.{Stored}
use Rattle.paths.specs.Meaning.{Spoiled, Arrives, Each}
use Rattle.blocks.specs.Fields.{Fields, written}
use Rattle.blocks.specs.Legal.{Way, Sound}
use Rattle.calls.specs.declared.fault.LinkFault.{LinkFault}
use Rattle.calls.specs.declared.types.Ticked.{Ticked}
use Rattle.calls.specs.declared.types.Ticked.TheVariants as ticked
use Rattle.ends.specs.declared.types.Cell.{Cell}
use Rattle.ends.specs.declared.types.Plan.{Plan}
use Rattle.ends.specs.declared.types.Plan.TheVariants as plan
use Rattle.ends.specs.declared.types.Stage.TheVariants.{Unsettled}
use Rattle.ends.specs.Model.{Ways, Inbox, Model}
use Rattle.ends.specs.Sending.{block_fields, response_fields, plan_of, plan_of_cell, otherwise, owed_by, paid, fresh_identifier, last_identifier, sent_fresh, sent_again, sent_response}
use Rattle.ends.specs.Calls.{BlockPut, ResponsePut, Sends, Ticks}
use Rattle.law.specs.Directions.{Direction}
use Rattle.law.specs.Senders.{Text, Message, Status, Course, course, number_of, index_of, block_of, Phase, Sender, sender, Quiet}
use Rattle.law.specs.Senders as senders
use Rattle.law.specs.Receivers.{Part, receiver}
use Rattle.law.specs.Links as law
use Rattle.law.specs.Links.{Packet, packet, acknowledgment}
use Rattle.runs.specs.Links.{Strings, Place, Put, unput, put, Adds, Answers, block_put, current, tick, Accepted}
use Rattle.runs.specs.Strings.{cuts}
use Rattle.runs.proofs.Rings.{Is, Same, no_one}
use Rattle.runs.proofs.Cuts.{cuts_length}
use Rattle.runs.proofs.Cells.{course_from, Holds}
use Rattle.runs.proofs.Courses.{apart}
use Rattle.runs.proofs.Senders.{SenderIs}
use Rattle.runs.proofs.Receivers.{ReceiverIs}
use Rattle.runs.proofs.Firsts.{cell_of, First, first_of}
use Rattle.runs.proofs.Sends.{holds_at, quiet_is, early_is, fresh_sends, again_sends}
use Rattle.runs.proofs.Withdrawals.{course_number}
use Rattle.runs.proofs.Says.{Says, AllSay, all_say_add, copied}
use Rattle.runs.proofs.Speaks.{block_said, response_said}
use Rattle.runs.proofs.Relating.{WayLaws, EndIs, is_end, DeedIs, Served, tick_block, tick_response, tick_nothing, tick_refused}
use Rattle.runs.proofs.Local.{outward, same_cell, refused_is}

-- what is written is never spoiled
pub written_whole : (f : Fields) → Spoiled (written f) → ⊥
written_whole f s = s.not_01 refl

abbrev first_string : Strings → List ℕ
first_string [] = []
first_string (s ∷ ss) = s

-- one copy of the string itself is one intact copy
pub copied_one : {w : Way} {g : List ℕ} {s : List ℕ} {p : Packet} (q : Says w g s p) → (Spoiled s → ⊥) → (cs : Strings) (e : Each (Arrives s) cs) → cs ≡ s ∷ [] → (copied q cs e).packets ≡ p ∷ []
unfolding copied
copied_one q n [] e z = let l : ◌≡◌ {A = ℕ} 0 1 = ap length z in absurd (omega (arith, l))
copied_one q n (c ∷ []) (inl f, e) z = refl
copied_one q n (c ∷ []) (inr f, e) z = absurd (n (subst Spoiled (ap first_string z) f))
copied_one {s = s} q n (c ∷ d ∷ cs) e z = let l : length (c ∷ d ∷ cs) ≡ 1 = ap length z in absurd (omega (arith, l))

-- the index of a message's current block
pub course_index : (n : ℕ) (l : List ℕ) (ts : List Text) (a : ℕ) → a < length ts → index_of (course_from n l [] ts a) ≡ a
course_index n l ts a h =
    let A = apart n l [] ts a h in
    ap index_of A.is ∙ A.count ∙ zero-add a

-- the acknowledgment that goes with a string
pub acknowledged_same : (w : Ways) → w.out.other ≡ w.inn.own → {i : Inbox} {a : Option ℕ} {pt : Part} {ms : List Message} {owed : Bool} → ReceiverIs w.inn.own i a pt ms owed →
    Same w.out.other (owed_by i) (acknowledgment owed (receiver a pt ms))
acknowledged_same w x {i = i} {a = a} {pt = pt} {ms = ms} {owed = owed} R =
    subst (λ (b : Bool). Same w.out.other (cond b i.accepted None) (acknowledgment owed (receiver a pt ms))) (sym R.owing) (go owed)
  where
    go : (b : Bool) → Same w.out.other (cond b i.accepted None) (acknowledgment b (receiver a pt ms))
    go true = subst (λ (y : _). Same y i.accepted a) (sym x) R.accepted
    go false = no_one

-- nothing is owed any more
paid_is : (w : Ways) {i : Inbox} {a : Option ℕ} {pt : Part} {ms : List Message} {owed : Bool} → ReceiverIs w.inn.own i a pt ms owed → ReceiverIs w.inn.own (paid i) a pt ms false
paid_is w R = record { accepted = R.accepted; part = R.part; waiting = R.waiting; owing = refl }

-- the first unsettled message of an end
module _ (w : Ways) (L : WayLaws w.out) (m : Model) where
  abbrev pub its_course : First w.out.text.room 1 m.outbox.cells → Course
  its_course F = course_from F.number F.label.0 [] (cuts w.out.text.room F.text) F.acknowledged

  abbrev pub its_cell : First w.out.text.room 1 m.outbox.cells → Stored Cell
  its_cell F = cell_of F.number F.label (Unsettled F.acknowledged F.gone) F.text

  pub place_first : (F : First w.out.text.room 1 m.outbox.cells) → current m ≡ Some (number_of (its_course F), index_of (its_course F))
  place_first F =
      F.current ∙
      ap (λ (n : ℕ). Some (n, F.acknowledged)) (sym (course_number F.number F.label.0 [] (cuts w.out.text.room F.text) F.acknowledged)) ∙
      ap (λ (n : ℕ). Some (number_of (its_course F), n))
      (sym (course_index F.number F.label.0 (cuts w.out.text.room F.text) F.acknowledged (let k = cuts_length w.out.text.room L.counted F.text in let f = F.fits in omega (arith, k, f))))

  -- the string of its current block, under an identifier
  pub says_first : length m.settings.flight ≡ 6 → (g : List Message) → Holds w.out.text.room g m.outbox.cells → (F : First w.out.text.room 1 m.outbox.cells) → (identifier j k : ℕ) (b : Stored Cell) →
      k ≡ F.place → slice_get m.outbox.cells k ≡ Some b → Sound w.out (block_fields w m b F.acknowledged identifier) → Is w.out.own identifier j → {y : Option ℕ} → Same w.out.other (owed_by m.inbox) y →
      Says w.out m.settings.registration (written (block_fields w m b F.acknowledged identifier)) (packet y (some (block_of (outward w m.settings.originator) j (its_course F))))
  says_first six g H F identifier j k b e f u n {y = y} q =
      let z : b ≡ its_cell F = same_cell b (its_cell F) (sym (subst (λ (v : ℕ). slice_get m.outbox.cells v ≡ Some b) e f) ∙ F.there_is) in
      let good = (holds_at w.out.text.room g m.outbox.cells F.place (its_cell F) H F.there_is).0 in
      subst (λ (v : Stored Cell). Says w.out m.settings.registration (written (block_fields w m v F.acknowledged identifier)) (packet y (some (block_of (outward w m.settings.originator) j (its_course F))))) (sym z)
      (block_said w L m six (its_cell F) F.acknowledged (L.counted.most (length F.text) good.long) F.fits identifier j (subst (λ (v : Stored Cell). Sound w.out (block_fields w m v F.acknowledged identifier)) z u) n q)

module _ (w : Ways) (L : WayLaws w.out) (inn : Direction) (x : w.out.other ≡ w.inn.own) {told : ℕ → Status} {m m' : Model} {i o o' : Strings} {ps qs : List Packet}
    (p : AllSay w.inn m.settings.registration i ps) (q : AllSay w.out m.settings.registration o qs) (time draw : ℕ) where
  -- a tick that put a block
  block_serves : {g : List Message} {c : ℕ → Status} {ph : Phase} {pt : Option ℕ} {s : ℕ} {a : Option ℕ} {part : Part} {ms : List Message} {owed : Bool} (z : Course) (j : ℕ) (s' : Sender) (f : Fields) →
      senders.Sends (outward w m.settings.originator) (leb m.clock.due time) (sender g c ph pt s) z (block_of (outward w m.settings.originator) j z) s' →
      Says w.out m.settings.registration (written f) (packet (acknowledgment owed (receiver a part ms)) (some (block_of (outward w m.settings.originator) j z))) →
      EndIs w told m' (law.an_end s' (receiver a part ms) false) → m'.settings ≡ m.settings → current m ≡ Some (number_of z, index_of z) → (t : Put) → Adds t o (written f) o' →
      Served w (outward w m.settings.originator) inn m.settings.registration told m m' i o' (tick time draw (Ok ticked.Block) t (current m)) (law.an_end (sender g c ph pt s) (receiver a part ms) owed) ps qs
  block_serves z j s' f sends says is same cur unput h = absurd h
  block_serves {g = g} {c = c} {ph = ph} {pt = pt} {s = s} {a = a} {part = part} {ms = ms} {owed = owed} z j s' f sends says is same cur (put t cs) h =
      let K = copied says cs h.2 in
      record {
        doing = law.sent (leb m.clock.due time) (number_of z) (index_of z) (packet (acknowledgment owed (receiver a part ms)) (some (block_of (outward w m.settings.originator) j z))) K.packets;
        end_after = law.an_end s' (receiver a part ms) false;
        in_after = ps;
        out_after = qs ++ K.packets;
        move = law.tick_block sends K.copies;
        is = is;
        in_say = p;
        out_say = subst (λ (y : Strings). AllSay w.out m.settings.registration y (qs ++ K.packets)) (sym h.1) (all_say_add q K.say);
        deed = subst (λ (y : std.Option Place). DeedIs w m (tick time draw (Ok ticked.Block) (put t cs) y)
            (law.sent (leb m.clock.due time) (number_of z) (index_of z) (packet (acknowledgment owed (receiver a part ms)) (some (block_of (outward w m.settings.originator) j z))) K.packets))
            (sym cur) (tick_block (λ e. copied_one says (written_whole f) cs h.2 (e ∙ ap (λ (y : List ℕ). y ∷ []) h.0)));
        settings = same;
      }

  -- a tick with no block to put
  rest_serves : {g : List Message} {c : ℕ → Status} {ph : Phase} {pt : Option ℕ} {s : ℕ} {a : Option ℕ} {part : Part} {ms : List Message} {owed : Bool} →
      Accepted m.settings → SenderIs w.out.own w.out.text.room told m.outbox g c ph pt s → ReceiverIs w.inn.own m.inbox a part ms owed →
      Quiet (leb m.clock.due time) (sender g c ph pt s) → (t : Put) (r : Ticked) → Answers (Ok r) t → Sends (Adds t) w m (otherwise m.inbox.owed) time draw r m' o o' →
      Served w (outward w m.settings.originator) inn m.settings.registration told m m' i o' (tick time draw (Ok r) t (block_put (Ok r) m)) (law.an_end (sender g c ph pt s) (receiver a part ms) owed) ps qs
  rest_serves {g = g} {c = c} {ph = ph} {pt = pt} {s = s} {a = a} {part = part} {ms = ms} {owed = owed} A S R quiet t r answers h =
      by_owed owed R.owing R (subst (λ (b : Bool). Sends (Adds t) w m (otherwise b) time draw r m' o o') R.owing h)
    where
      respond : (b : Bool) → b ≡ true → ReceiverIs w.inn.own m.inbox a part ms b → ResponsePut (Adds t) w m o o' → m' ≡ sent_response m time → (t' : Put) → t ≡ t' →
          Served w (outward w m.settings.originator) inn m.settings.registration told m m' i o' (tick time draw (Ok ticked.Response) t' None) (law.an_end (sender g c ph pt s) (receiver a part ms) true) ps qs
      respond b e R' u v unput f = absurd (subst (λ (y : Put). Adds y o (written (response_fields w m)) o') f u.put)
      respond b e R' u v (put ss cs) f =
          let d = subst (λ (y : Put). Adds y o (written (response_fields w m)) o') f u.put in
          let says = response_said w L m A.six u.sound (acknowledged_same w x (subst (ReceiverIs w.inn.own m.inbox a part ms) e R')) in
          let K = copied says cs d.2 in
          record {
            doing = law.responded (leb m.clock.due time) (packet (acknowledgment true (receiver a part ms)) none) K.packets;
            end_after = law.an_end (sender g c ph pt s) (receiver a part ms) false;
            in_after = ps;
            out_after = qs ++ K.packets;
            move = law.tick_response quiet K.copies;
            is = subst (λ (y : Model). EndIs w told y (law.an_end (sender g c ph pt s) (receiver a part ms) false)) (sym v) (is_end A S (paid_is w R'));
            in_say = p;
            out_say = subst (λ (y : Strings). AllSay w.out m.settings.registration y (qs ++ K.packets)) (sym d.1) (all_say_add q K.say);
            deed = tick_response (λ z. copied_one says (written_whole (response_fields w m)) cs d.2 (z ∙ ap (λ (y : List ℕ). y ∷ []) d.0));
            settings = ap (λ (y : Model). y.settings) v;
          }

      by_owed : (b : Bool) → m.inbox.owed ≡ b → ReceiverIs w.inn.own m.inbox a part ms b → Sends (Adds t) w m (otherwise b) time draw r m' o o' →
          Served w (outward w m.settings.originator) inn m.settings.registration told m m' i o' (tick time draw (Ok r) t (block_put (Ok r) m)) (law.an_end (sender g c ph pt s) (receiver a part ms) b) ps qs
      by_owed true e R' u =
          subst (λ (y : Ticked). Served w (outward w m.settings.originator) inn m.settings.registration told m m' i o' (tick time draw (Ok y) t (block_put (Ok y) m)) (law.an_end (sender g c ph pt s) (receiver a part ms) true) ps qs)
          (sym u.0) (respond true refl R' u.1 u.2 t refl)
      by_owed false e R' u =
          let f : t ≡ unput = subst (λ (y : Ticked). Answers (Ok y) t) u.0 answers in
          subst (λ (y : Ticked). Served w (outward w m.settings.originator) inn m.settings.registration told m m' i o' (tick time draw (Ok y) t (block_put (Ok y) m)) (law.an_end (sender g c ph pt s) (receiver a part ms) false) ps qs)
          (sym u.0)
          (subst (λ (y : Put). Served w (outward w m.settings.originator) inn m.settings.registration told m m' i o' (tick time draw (Ok ticked.Nothing) y None) (law.an_end (sender g c ph pt s) (receiver a part ms) false) ps qs)
          (sym f)
          (record {
            doing = law.rested (leb m.clock.due time);
            end_after = law.an_end (sender g c ph pt s) (receiver a part ms) false;
            in_after = ps;
            out_after = qs;
            move = law.tick_nothing quiet;
            is = subst (λ (y : Model). EndIs w told y (law.an_end (sender g c ph pt s) (receiver a part ms) false)) (sym u.2) (is_end A S R');
            in_say = p;
            out_say = subst (λ (y : Strings). AllSay w.out m.settings.registration y qs) (sym u.1) q;
            deed = tick_nothing;
            settings = ap (λ (y : Model). y.settings) u.2;
          }))

  -- a tick that is not refused
  module _ {g : List Message} {c : ℕ → Status} {ph : Phase} {pt : Option ℕ} {s : ℕ} {a : Option ℕ} {part : Part} {ms : List Message} {owed : Bool}
      (A : Accepted m.settings) (S : SenderIs w.out.own w.out.text.room told m.outbox g c ph pt s) (R : ReceiverIs w.inn.own m.inbox a part ms owed) where
    new_serves : (F : First w.out.text.room 1 m.outbox.cells) → F.gone ≡ false → (t : Put) (k : ℕ) → k ≡ F.place → BlockPut (Adds t) w m k F.acknowledged (fresh_identifier w.out.own m.outbox) o o' →
        m' ≡ sent_fresh w m k F.acknowledged time draw →
        Served w (outward w m.settings.originator) inn m.settings.registration told m m' i o' (tick time draw (Ok ticked.Block) t (current m)) (law.an_end (sender g c ph pt s) (receiver a part ms) owed) ps qs
    new_serves F f t k e h v =
        let I = fresh_sends w.out.text.room L.counted w.out.own w.out.text m.settings.originator L.own.many (let u = L.own.seven in omega (arith, u)) S (leb m.clock.due time) F f in
        block_serves (its_course w L m F) I.identifier (sender g c (senders.out (its_course w L m F)) (some I.identifier) I.spent_after)
        (block_fields w m h.cell F.acknowledged (fresh_identifier w.out.own m.outbox)) I.sends
        (says_first w L m A.six g S.holds F (fresh_identifier w.out.own m.outbox) I.identifier k h.cell e h.there h.sound I.named (acknowledged_same w x R))
        (subst (λ (y : Model). EndIs w told y (law.an_end (sender g c (senders.out (its_course w L m F)) (some I.identifier) I.spent_after) (receiver a part ms) false))
        (sym (v ∙ ap (λ (y : ℕ). sent_fresh w m y F.acknowledged time draw) e)) (is_end A I.is (paid_is w R)))
        (ap (λ (y : Model). y.settings) v) (place_first w L m F) t h.put

    again_serves : (F : First w.out.text.room 1 m.outbox.cells) → F.gone ≡ true → leb m.clock.due time ≡ true → (t : Put) (k : ℕ) → k ≡ F.place →
        BlockPut (Adds t) w m k F.acknowledged (last_identifier w.out.own m.outbox) o o' → m' ≡ sent_again m time draw →
        Served w (outward w m.settings.originator) inn m.settings.registration told m m' i o' (tick time draw (Ok ticked.Block) t (current m)) (law.an_end (sender g c ph pt s) (receiver a part ms) owed) ps qs
    again_serves F f d t k e h v =
        let I = again_sends w.out.text.room L.counted w.out.own w.out.text m.settings.originator L.own.many (let u = L.own.seven in omega (arith, u)) S F f in
        block_serves (its_course w L m F) I.identifier (sender g c ph pt s)
        (block_fields w m h.cell F.acknowledged (last_identifier w.out.own m.outbox))
        (subst (λ (y : Bool). senders.Sends (outward w m.settings.originator) y (sender g c ph pt s) (its_course w L m F) (block_of (outward w m.settings.originator) I.identifier (its_course w L m F)) (sender g c ph pt s)) (sym d) I.sends)
        (says_first w L m A.six g S.holds F (last_identifier w.out.own m.outbox) I.identifier k h.cell e h.there h.sound I.named (acknowledged_same w x R))
        (subst (λ (y : Model). EndIs w told y (law.an_end (sender g c ph pt s) (receiver a part ms) false)) (sym v) (is_end A S (paid_is w R)))
        (ap (λ (y : Model). y.settings) v) (place_first w L m F) t h.put

    taken : (t : Put) (r : Ticked) → Answers (Ok r) t → Sends (Adds t) w m (plan_of m time) time draw r m' o o' →
        Served w (outward w m.settings.originator) inn m.settings.registration told m m' i o' (tick time draw (Ok r) t (block_put (Ok r) m)) (law.an_end (sender g c ph pt s) (receiver a part ms) owed) ps qs
    taken t r answers h = elim (first_of w.out.text.room 1 m.outbox.numbered m.outbox.cells S.between S.orderly) [
      | inl F ↦ with_first F F.gone refl (subst (λ (y : Plan). Sends (Adds t) w m y time draw r m' o o') (F.plan m time 0) h)
      | inr N ↦ rest_serves A S R (quiet_is w.out.text.room L.counted w.out.own w.out.text m.settings.originator L.own.many (let u = L.own.seven in omega (arith, u)) S (leb m.clock.due time) N) t r answers
          (subst (λ (y : Plan). Sends (Adds t) w m y time draw r m' o o') (N.plan m time 0) h)
    ]
      where
        as_block : (r ≡ ticked.Block) → Served w (outward w m.settings.originator) inn m.settings.registration told m m' i o' (tick time draw (Ok ticked.Block) t (current m)) (law.an_end (sender g c ph pt s) (receiver a part ms) owed) ps qs →
            Served w (outward w m.settings.originator) inn m.settings.registration told m m' i o' (tick time draw (Ok r) t (block_put (Ok r) m)) (law.an_end (sender g c ph pt s) (receiver a part ms) owed) ps qs
        as_block e u = subst (λ (y : Ticked). Served w (outward w m.settings.originator) inn m.settings.registration told m m' i o' (tick time draw (Ok y) t (block_put (Ok y) m)) (law.an_end (sender g c ph pt s) (receiver a part ms) owed) ps qs) (sym e) u

        due_or_not : (F : First w.out.text.room 1 m.outbox.cells) → F.gone ≡ true → (b : Bool) → leb m.clock.due time ≡ b →
            Sends (Adds t) w m (cond b (plan.Again (record { place = 0 + F.place; index = F.acknowledged })) (otherwise m.inbox.owed)) time draw r m' o o' →
            Served w (outward w m.settings.originator) inn m.settings.registration told m m' i o' (tick time draw (Ok r) t (block_put (Ok r) m)) (law.an_end (sender g c ph pt s) (receiver a part ms) owed) ps qs
        due_or_not F f true d u = as_block u.0 (again_serves F f d t (0 + F.place) (zero-add F.place) u.1 u.2)
        due_or_not F f false d u = rest_serves A S R (subst (λ (y : Bool). Quiet y (sender g c ph pt s)) (sym d)
            (early_is w.out.text.room L.counted w.out.own w.out.text m.settings.originator L.own.many (let u = L.own.seven in omega (arith, u)) S F f)) t r answers u

        with_first : (F : First w.out.text.room 1 m.outbox.cells) (gone : Bool) → F.gone ≡ gone → Sends (Adds t) w m (plan_of_cell m time (0 + F.place) (Unsettled F.acknowledged F.gone)) time draw r m' o o' →
            Served w (outward w m.settings.originator) inn m.settings.registration told m m' i o' (tick time draw (Ok r) t (block_put (Ok r) m)) (law.an_end (sender g c ph pt s) (receiver a part ms) owed) ps qs
        with_first F false f u =
            let v = subst (λ (y : Bool). Sends (Adds t) w m (plan_of_cell m time (0 + F.place) (Unsettled F.acknowledged y)) time draw r m' o o') f u in
            as_block v.0 (new_serves F f t (0 + F.place) (zero-add F.place) v.1 v.2)
        with_first F true f u = due_or_not F f (leb m.clock.due time) refl (subst (λ (y : Bool). Sends (Adds t) w m (plan_of_cell m time (0 + F.place) (Unsettled F.acknowledged y)) time draw r m' o o') f u)

  -- every tick
  pub tick_serves : {e : law.End} → EndIs w told m e → (t : Put) (r : Result Ticked LinkFault) → Ticks (Adds t) w m time draw r m' o o' → Answers r t →
      Served w (outward w m.settings.originator) inn m.settings.registration told m m' i o' (tick time draw r t (block_put r m)) e ps qs
  tick_serves (is_end A S R) t (Ok r) h answers = taken A S R t r answers h.1
  tick_serves {e = e} E t (Err f) h answers =
      subst (λ (y : Put). Served w (outward w m.settings.originator) inn m.settings.registration told m m' i o' (tick time draw (Err f) y None) e ps qs) (sym answers)
      (subst (λ (y : Strings). Served w (outward w m.settings.originator) inn m.settings.registration told m m' i y (tick time draw (Err f) unput None) e ps qs) (sym h.1)
      (refused_is (tick time draw (Err f) unput None) tick_refused E p q h.0))
