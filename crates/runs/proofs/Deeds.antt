-- What is read off the calls of a real end is what is read off the law's. Assumes nothing.
use Rattle.std.proofs.Common.{◌≡◌, ℕ, zero, suc, Bool, List, [], ◌∷◌, ◌++◌, map, length, Some, None, Ok, sym, refl, ap, ◌∙◌, subst, append-nil}
use mathlib.Core.Option.{Option, none, some}
use Rattle.std.proofs.Math.Option.{none-ne-some}
use mathlib.Core.Option.{some-injective}
use Rattle.std.proofs.lemmas.List.{map-append}
use Rattle.std.proofs.lemmas.Option.{none-some}
use Rattle.std.specs.List.{slice_get}
use Rattle.std.specs.declared.option.Option as std
use Rattle.calls.specs.declared.types.Outcome.{Outcome}
use Rattle.ends.specs.Model.{Ways, Model}
use Rattle.law.specs.Senders as senders
use Rattle.law.specs.Links as law
use Rattle.law.specs.Links.{Side, air, ground}
use Rattle.law.specs.Truth as truth
use Rattle.runs.specs.Links.{Deed, withdraw, hear, outcome, Event, ways_of}
use Rattle.runs.specs.History.{Message, message, calls, submissions, handed_out, numbered, status_of, Made, now_made, made, GoneOut, now_out, out_before, Acknowledged, now_acknowledged, acknowledged_before, room, size, LastOut, LastAcknowledged, WithdrawnLate, now_late, late_before}
use Rattle.runs.specs.Strings.{cuts, joined_up}
use Rattle.runs.proofs.Cuts.{counted_at, cuts_length}
use Rattle.runs.proofs.Acks.{as_place}
use Rattle.runs.proofs.Relating.{DeedIs, submit_taken, submit_refused, withdraw_taken, withdraw_refused, tick_block, tick_response, tick_nothing, tick_refused, hear_one, hear_none, collect_one, collect_none, collect_refused, outcome_told, outcome_refused}
use Rattle.runs.proofs.Mapped.{HistoryIs, no_calls, one_call}

-- calls of one end, and what each is in the law
pub data CallsAre (w : Ways) : List Deed → List law.Doing → Type 0 where
  no_deeds : CallsAre w [] []
  one_deed : {m : Model} {h : List Deed} {k : List law.Doing} {x : Deed} {y : law.Doing} → DeedIs w m x y → CallsAre w h k → CallsAre w (x ∷ h) (y ∷ k)

pub calls_are : (s : Side) {h : List Event} {k : List law.Event} → HistoryIs h k → CallsAre (ways_of s) (calls s h) (truth.calls s k)
calls_are s no_calls = no_deeds
calls_are air (one_call air d q) = one_deed d (calls_are air q)
calls_are air (one_call ground d q) = calls_are air q
calls_are ground (one_call air d q) = calls_are ground q
calls_are ground (one_call ground d q) = one_deed d (calls_are ground q)

-- a message cut into its blocks, and a message of blocks joined up
abbrev pub cut : ℕ → Message → senders.Message
cut r m = senders.message m.label (cuts r m.text)

abbrev pub flat : senders.Message → Message
flat (senders.message l ts) = message l (joined_up ts)

-- the messages submitted, and those handed out
module _ {w : Ways} where
  pub submissions_same : {h : List Deed} {k : List law.Doing} → CallsAre w h k → truth.submissions k ≡ map (cut w.out.text.room) (submissions h)
  submissions_same no_deeds = refl
  submissions_same (one_deed {h = h} {k = k} d c) = go d (submissions_same c)
    where
      none_more : truth.submissions k ≡ map (cut w.out.text.room) (submissions h) → truth.submissions k ≡ map (cut w.out.text.room) (submissions h ++ [])
      none_more ih = ih ∙ ap (map (cut w.out.text.room)) (sym (append-nil (submissions h)))

      go : {m : Model} {x : Deed} {y : law.Doing} → DeedIs w m x y → truth.submissions k ≡ map (cut w.out.text.room) (submissions h) →
          truth.submissions (y ∷ k) ≡ map (cut w.out.text.room) (submissions (x ∷ h))
      go (submit_taken {l = l} {t = t}) ih =
          ap (λ (ms : List senders.Message). ms ++ senders.message l.0 (cuts w.out.text.room t) ∷ []) ih ∙
          sym (map-append (cut w.out.text.room) (submissions h) (message l.0 t ∷ []))
      go submit_refused ih = none_more ih
      go withdraw_taken ih = none_more ih
      go withdraw_refused ih = none_more ih
      go (tick_block z) ih = none_more ih
      go (tick_response z) ih = none_more ih
      go tick_nothing ih = none_more ih
      go tick_refused ih = none_more ih
      go (hear_one u v) ih = none_more ih
      go (hear_none u) ih = none_more ih
      go (collect_one u) ih = none_more ih
      go (collect_none u) ih = none_more ih
      go (collect_refused u) ih = none_more ih
      go outcome_told ih = none_more ih
      go outcome_refused ih = none_more ih

  pub handed_same : {h : List Deed} {k : List law.Doing} → CallsAre w h k → map flat (truth.handed_out k) ≡ handed_out h
  handed_same no_deeds = refl
  handed_same (one_deed {h = h} {k = k} d c) = go d (handed_same c)
    where
      none_more : map flat (truth.handed_out k) ≡ handed_out h → map flat (truth.handed_out k) ≡ handed_out h ++ []
      none_more ih = ih ∙ sym (append-nil (handed_out h))

      go : {m : Model} {x : Deed} {y : law.Doing} → DeedIs w m x y → map flat (truth.handed_out k) ≡ handed_out h → map flat (truth.handed_out (y ∷ k)) ≡ handed_out (x ∷ h)
      go submit_taken ih = none_more ih
      go submit_refused ih = none_more ih
      go withdraw_taken ih = none_more ih
      go withdraw_refused ih = none_more ih
      go (tick_block z) ih = none_more ih
      go (tick_response z) ih = none_more ih
      go tick_nothing ih = none_more ih
      go tick_refused ih = none_more ih
      go (hear_one u v) ih = none_more ih
      go (hear_none u) ih = none_more ih
      go (collect_one {after = after} {l = l} {n = n} {ts = ts} u) ih =
          map-append flat (truth.handed_out k) (senders.message l.0 ts ∷ []) ∙
          ap (λ (ms : List Message). ms ++ message l.0 (joined_up ts) ∷ []) ih ∙
          ap (λ (t : List ℕ). handed_out h ++ message l.0 t ∷ []) (sym u)
      go (collect_none u) ih = none_more ih
      go (collect_refused u) ih = none_more ih
      go outcome_told ih = none_more ih
      go outcome_refused ih = none_more ih

  -- withdrawals
  pub withdrawn_to : (n : ℕ) {h : List Deed} {k : List law.Doing} → CallsAre w h k → Made (withdraw n (Ok tt)) h → truth.Made (law.withdrew n) k
  withdrawn_to n no_deeds q = elim q [ ]
  withdrawn_to n (one_deed withdraw_taken c) now_made = truth.now_made
  withdrawn_to n (one_deed d c) (made q) = truth.made (withdrawn_to n c q)

  pub withdrawn_from : (n : ℕ) {h : List Deed} {k : List law.Doing} → CallsAre w h k → truth.Made (law.withdrew n) k → Made (withdraw n (Ok tt)) h
  withdrawn_from n no_deeds q = elim q [ ]
  withdrawn_from n (one_deed withdraw_taken c) truth.now_made = now_made
  withdrawn_from n (one_deed d c) (truth.made q) = made (withdrawn_from n c q)

  -- outcomes told
  pub told_to : (n : ℕ) (o : Outcome) {h : List Deed} {k : List law.Doing} → CallsAre w h k → Made (outcome (Ok (n, o))) h → truth.Made (law.told n (status_of o)) k
  told_to n o no_deeds q = elim q [ ]
  told_to n o (one_deed outcome_told c) now_made = truth.now_made
  told_to n o (one_deed d c) (made q) = truth.made (told_to n o c q)

  -- blocks gone out
  pub gone_to : (n i : ℕ) {h : List Deed} {k : List law.Doing} → CallsAre w h k → GoneOut n i h → truth.GoneOut n i k
  gone_to n i no_deeds q = elim q [ ]
  gone_to n i (one_deed (tick_block z) c) now_out = truth.now_out
  gone_to n i (one_deed d c) (out_before q) = truth.out_before (gone_to n i c q)

  sent_out : {m : Model} {x : Deed} {b : Bool} {n i : ℕ} {p : law.Packet} {ps : List law.Packet} {h : List Deed} → DeedIs w m x (law.sent b n i p ps) → GoneOut n i (x ∷ h)
  sent_out (tick_block z) = now_out

  pub gone_from : (n i : ℕ) {h : List Deed} {k : List law.Doing} → CallsAre w h k → truth.GoneOut n i k → GoneOut n i h
  gone_from n i no_deeds q = elim q [ ]
  gone_from n i (one_deed d c) truth.now_out = sent_out d
  gone_from n i (one_deed d c) (truth.out_before q) = out_before (gone_from n i c q)

-- messages by their numbers
pub slice_to : (r : ℕ) (ms : List Message) (k : ℕ) (m : Message) → slice_get ms k ≡ Some m → senders.nth (map (cut r) ms) k ≡ some (cut r m)
slice_to r [] k m e = absurd (none-some m e)
slice_to r (x ∷ ms) zero m e = ap (λ (y : std.Option Message). elim y [ None ↦ some (cut r m) | Some z ↦ some (cut r z) ]) e
slice_to r (x ∷ ms) (suc k) m e = slice_to r ms k m e

pub numbered_to : (r : ℕ) (ms : List Message) (n : ℕ) (m : Message) → numbered ms n ≡ Some m → senders.numbered (map (cut r) ms) n ≡ some (cut r m)
numbered_to r ms zero m e = absurd (none-some m e)
numbered_to r ms (suc k) m e = slice_to r ms k m e

-- a message of the law that bears a number, as the message that does
pub record Numbered (r : ℕ) (ms : List Message) (n : ℕ) (z : senders.Message) : Type 0 where
  pub text : Message
  pub is : numbered ms n ≡ Some text
  pub same : z ≡ cut r text

pub slice_from : (r : ℕ) (ms : List Message) (k : ℕ) (z : senders.Message) → senders.nth (map (cut r) ms) k ≡ some z → (m : Message) × (slice_get ms k ≡ Some m) × (z ≡ cut r m)
slice_from r [] k z e = absurd (none-ne-some z e)
slice_from r (x ∷ ms) zero z e = (x, refl, sym (some-injective (cut r x) z e))
slice_from r (x ∷ ms) (suc k) z e = slice_from r ms k z e

pub numbered_from : (r : ℕ) (ms : List Message) (n : ℕ) (z : senders.Message) → senders.numbered (map (cut r) ms) n ≡ some z → Numbered r ms n z
numbered_from r ms zero z e = absurd (none-ne-some z e)
numbered_from r ms (suc k) z e = let s = slice_from r ms k z e in record { text = s.0; is = s.1; same = s.2 }

-- the same block
as_place_some : (k : Option (ℕ × ℕ)) (p : ℕ × ℕ) → as_place k ≡ Some p → k ≡ some p
as_place_some none p e = absurd (none-some p e)
as_place_some (some q) p e = ap (λ (y : std.Option (ℕ × ℕ)). elim y [ None ↦ some q | Some z ↦ some z ]) e

module _ (x : Side) where
  size_same : (m : Message) → senders.size (cut (room x) m) ≡ size x m
  size_same m = cuts_length (room x) (counted_at x) m.text

  -- a call that acknowledged a block
  pub record HeardOf (n i : ℕ) (k : List law.Doing) : Type 0 where
    pub dropped : ℕ
    pub answer : law.Answer
    pub made : truth.Made (law.heard dropped answer (some (n, i))) k

  acknowledged_now : {m : Model} {d : Deed} {y : law.Doing} {k : List law.Doing} (n i : ℕ) → DeedIs (ways_of x) m d y → (g : List Deed) → Acknowledged n i (d ∷ g) → (Acknowledged n i g → HeardOf n i k) → HeardOf n i (y ∷ k)
  acknowledged_now {k = ks} n i (hear_one {ds = ds} {a = a} {k = q} u v) g now_acknowledged f =
      record { dropped = length ds; answer = a; made = subst (λ (z : Option (ℕ × ℕ)). truth.Made (law.heard (length ds) a (some (n, i))) (law.heard (length ds) a z ∷ ks)) (sym (as_place_some q (n, i) u)) truth.now_made }
  acknowledged_now n i d g (acknowledged_before q) f = let H = f q in record { dropped = H.dropped; answer = H.answer; made = truth.made H.made }

  pub acknowledged_to : (n i : ℕ) {h : List Deed} {k : List law.Doing} → CallsAre (ways_of x) h k → Acknowledged n i h → HeardOf n i k
  acknowledged_to n i no_deeds q = elim q [ ]
  acknowledged_to n i (one_deed {h = h} d c) q = acknowledged_now n i d h q (acknowledged_to n i c)

  heard_now : {m : Model} {d : Deed} {j : ℕ} {a : law.Answer} {n i : ℕ} {g : List Deed} → DeedIs (ways_of x) m d (law.heard j a (some (n, i))) → Acknowledged n i (d ∷ g)
  heard_now {n = n} {i = i} {g = g} (hear_one {r = r} {ds = ds} {s = s} {b = b} u v) = subst (λ (z : std.Option (ℕ × ℕ)). Acknowledged n i (hear r ds (Some s) z ∷ g)) u now_acknowledged

  pub acknowledged_from : (n i j : ℕ) (a : law.Answer) {h : List Deed} {k : List law.Doing} → CallsAre (ways_of x) h k → truth.Made (law.heard j a (some (n, i))) k → Acknowledged n i h
  acknowledged_from n i j a no_deeds q = elim q [ ]
  acknowledged_from n i j a (one_deed d c) truth.now_made = heard_now d
  acknowledged_from n i j a (one_deed d c) (truth.made q) = acknowledged_before (acknowledged_from n i j a c q)

  -- the last block of a message
  pub last_out_to : (n : ℕ) {h : List Deed} {k : List law.Doing} → CallsAre (ways_of x) h k → LastOut x h n → truth.LastOut k n
  last_out_to n {h = h} c L = record {
    text = cut (room x) L.last.text;
    index = L.index;
    is = subst (λ (ms : List senders.Message). senders.numbered ms n ≡ some (cut (room x) L.last.text)) (sym (submissions_same c)) (numbered_to (room x) (submissions h) n L.last.text L.last.is);
    last = L.last.last ∙ sym (size_same L.last.text);
    gone = gone_to n L.index c L.gone;
  }

  pub last_out_from : (n : ℕ) {h : List Deed} {k : List law.Doing} → CallsAre (ways_of x) h k → truth.LastOut k n → LastOut x h n
  last_out_from n {h = h} c L =
      let N = numbered_from (room x) (submissions h) n L.text (subst (λ (ms : List senders.Message). senders.numbered ms n ≡ some L.text) (submissions_same c) L.is) in
      record {
        index = L.index;
        last = record { text = N.text; is = N.is; last = L.last ∙ ap senders.size N.same ∙ size_same N.text };
        gone = gone_from n L.index c L.gone;
      }

  pub last_acknowledged_to : (n : ℕ) {h : List Deed} {k : List law.Doing} → CallsAre (ways_of x) h k → LastAcknowledged x h n → truth.LastAcknowledged k n
  last_acknowledged_to n {h = h} c L =
      let H = acknowledged_to n L.index c L.acknowledged in
      record {
        text = cut (room x) L.last.text;
        index = L.index;
        is = subst (λ (ms : List senders.Message). senders.numbered ms n ≡ some (cut (room x) L.last.text)) (sym (submissions_same c)) (numbered_to (room x) (submissions h) n L.last.text L.last.is);
        last = L.last.last ∙ sym (size_same L.last.text);
        dropped = H.dropped;
        answer = H.answer;
        acknowledged = H.made;
      }

  pub last_acknowledged_from : (n : ℕ) {h : List Deed} {k : List law.Doing} → CallsAre (ways_of x) h k → truth.LastAcknowledged k n → LastAcknowledged x h n
  last_acknowledged_from n {h = h} c L =
      let N = numbered_from (room x) (submissions h) n L.text (subst (λ (ms : List senders.Message). senders.numbered ms n ≡ some L.text) (submissions_same c) L.is) in
      record {
        index = L.index;
        last = record { text = N.text; is = N.is; last = L.last ∙ ap senders.size N.same ∙ size_same N.text };
        acknowledged = acknowledged_from n L.index L.dropped L.answer c L.acknowledged;
      }

  -- withdrawn after its last block had gone out
  late_now : (n : ℕ) {m : Model} {d : Deed} {y : law.Doing} {h : List Deed} {k : List law.Doing} → DeedIs (ways_of x) m d y → CallsAre (ways_of x) h k → WithdrawnLate x n (d ∷ h) → (WithdrawnLate x n h → truth.WithdrawnLate n k) → truth.WithdrawnLate n (y ∷ k)
  late_now n withdraw_taken c (now_late L) f = truth.now_late (last_out_to n c L)
  late_now n d c (late_before q) f = truth.late_before (f q)

  pub late_to : (n : ℕ) {h : List Deed} {k : List law.Doing} → CallsAre (ways_of x) h k → WithdrawnLate x n h → truth.WithdrawnLate n k
  late_to n no_deeds q = elim q [ ]
  late_to n (one_deed d c) q = late_now n d c q (late_to n c)

  late_was : (n : ℕ) {m : Model} {d : Deed} {y : law.Doing} {h : List Deed} {k : List law.Doing} → DeedIs (ways_of x) m d y → CallsAre (ways_of x) h k → truth.WithdrawnLate n (y ∷ k) → (truth.WithdrawnLate n k → WithdrawnLate x n h) → WithdrawnLate x n (d ∷ h)
  late_was n withdraw_taken c (truth.now_late L) f = now_late (last_out_from n c L)
  late_was n d c (truth.late_before q) f = late_before (f q)

  pub late_from : (n : ℕ) {h : List Deed} {k : List law.Doing} → CallsAre (ways_of x) h k → truth.WithdrawnLate n k → WithdrawnLate x n h
  late_from n no_deeds q = elim q [ ]
  late_from n (one_deed d c) q = late_was n d c q (late_from n c)
