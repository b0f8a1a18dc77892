-- The calls at an end that touch no path, as moves of the law: submit, withdraw, collect, outcome. Assumes nothing.
use Rattle.std.proofs.Common.{◌≡◌, ℕ, ◌<◌, ◌≤◌, Bool, true, false, cond, eqb, List, [], ◌∷◌, ◌++◌, length, take, drop, Some, None, Ok, Err, Result, sym, refl, ap, ◌∙◌, subst, arith, eq-eqb, eqb-true}
use Rattle.std.proofs.Math.Seq.{take-append_seam}
use Rattle.std.specs.declared.option.Option as std
use Rattle.blocks.specs.Reading.{pick}
use Rattle.stores.specs.Held.{Stored}
use Rattle.calls.specs.declared.fault.LinkFault.{LinkFault}
use Rattle.calls.specs.declared.types.Label.{Label}
use Rattle.calls.specs.declared.types.Outcome.{Outcome}
use Rattle.calls.specs.Faults.{number_of, place_of}
use Rattle.ends.specs.declared.types.Cell.{Cell}
use Rattle.ends.specs.declared.types.Stage.TheVariants.{Unsettled}
use Rattle.ends.specs.Model.{Ways, Model}
use Rattle.ends.specs.Sending.{block_count, with_cells, withdrawn}
use Rattle.ends.specs.Calls.{Submits, Submitted, Withdraws, Withdrew, Collects, Collected, CollectRefused, Tells, Told, too_many_spent}
use Rattle.law.specs.Directions.{Direction}
use Rattle.law.specs.Real.{direction_of}
use Rattle.law.specs.Senders.{Text, Message, message, Status, unsettled, sender}
use Rattle.law.specs.Senders as senders
use Rattle.law.specs.Receivers as receivers
use Rattle.law.specs.Links as law
use Rattle.law.specs.Links.{Packet}
use Rattle.runs.specs.Links.{Strings, Deed, submit, withdraw, collect, outcome}
use Rattle.runs.specs.History.{said_by, status_of, status_at, called_in}
use Rattle.runs.specs.Strings.{cuts}
use Rattle.runs.proofs.Cuts.{cuts_length}
use Rattle.runs.proofs.Senders.{SenderIs, submit_is, tell_is, settled_not}
use Rattle.runs.proofs.Receivers.{WaitingAre, none_wait, one_waits}
use Rattle.runs.proofs.Firsts.{cell_of}
use Rattle.runs.proofs.Places.{found}
use Rattle.runs.proofs.Withdraws.{withdraw_is, stands_get}
use Rattle.runs.proofs.Says.{AllSay}
use Rattle.runs.proofs.Relating.{WayLaws, EndIs, is_end, DeedIs, Served, submit_taken, submit_refused, withdraw_taken, withdraw_refused, collect_one, collect_none, collect_refused, outcome_told, outcome_refused}

-- the direction on which an end sends, by its originator, and the one that it hears, by the other's
abbrev pub outward : Ways → ℕ → Direction
outward w originator = direction_of w.out.own w.out.text originator

abbrev pub inward : Ways → ℕ → Direction
inward w originator = direction_of w.inn.own w.inn.text originator

-- one cell, however it is found
pub same_cell : (b c : Stored Cell) → ◌≡◌ {A = std.Option (Stored Cell)} (Some b) (Some c) → b ≡ c
same_cell b c e = ap (λ (x : std.Option (Stored Cell)). elim x [ None ↦ b | Some y ↦ y ]) e

-- a refused call changes nothing
pub refused_is : {w : Ways} {out inn : Direction} {g : List ℕ} {told : ℕ → Status} {m m' : Model} {i o : Strings} {e : law.End} {ps qs : List Packet} (x : Deed) →
    DeedIs w m x law.refused → EndIs w (λ n. said_by n x (told n)) m e → AllSay w.inn g i ps → AllSay w.out g o qs → m' ≡ m → Served w out inn g told m m' i o x e ps qs
refused_is {w = w} {told = told} {e = e} {ps = ps} {qs = qs} x d E p q f = record {
  doing = law.refused;
  end_after = e;
  in_after = ps;
  out_after = qs;
  move = law.refuse;
  is = subst (λ (y : Model). EndIs w (λ n. said_by n x (told n)) y e) (sym f) E;
  in_say = p;
  out_say = q;
  deed = d;
  settings = ap (λ (y : Model). y.settings) f;
}

module _ (w : Ways) (L : WayLaws w.out) (out inn : Direction) (ring : out.ring ≡ w.out.own.size) (registration : List ℕ) {told : ℕ → Status} {m m' : Model} {i o : Strings} {ps qs : List Packet}
    (p : AllSay w.inn registration i ps) (q : AllSay w.out registration o qs) where
  -- submit
  submits_taken : {e : law.End} → EndIs w told m e → (l : Label) (t : List ℕ) (n : ℕ) → length l.0 ≡ 2 → Submitted w m l t n m' → Served w out inn registration told m m' i o (submit l t (Ok n)) e ps qs
  submits_taken (is_end {g = g} {c = c} {ph = ph} {p = pt} {s = s} {a = a} {pt = part} {ms = ms} {owed = owed} A S R) l t n two h =
      go (cuts w.out.text.room t) refl (L.counted.some (length t)) (L.counted.most (length t) h.legal.long)
    where
      go : (ts : List Text) → cuts w.out.text.room t ≡ ts → 1 ≤ block_count w.out.text.room (length t) → block_count w.out.text.room (length t) ≤ 16 →
          Served w out inn registration told m m' i o (submit l t (Ok n)) (law.an_end (sender g c ph pt s) (receivers.receiver a part ms) owed) ps qs
      go [] f u v = let k = cuts_length w.out.text.room L.counted t in let z = ap length f in absurd (omega (arith, k, z, u))
      go (x ∷ xs) f u v = record {
        doing = law.submitted (message l.0 (cuts w.out.text.room t));
        end_after = law.an_end (sender (g ++ message l.0 (cuts w.out.text.room t) ∷ []) c ph pt s) (receivers.receiver a part ms) owed;
        in_after = ps;
        out_after = qs;
        move = law.submit (subst (λ (ys : List Text). senders.Submits (sender g c ph pt s) (message l.0 ys) (sender (g ++ message l.0 ys ∷ []) c ph pt s)) (sym f)
            (senders.submits (let k = cuts_length w.out.text.room L.counted t in let z = ap length f in omega (arith, k, z, v))));
        is = subst (λ (y : Model). EndIs w told y (law.an_end (sender (g ++ message l.0 (cuts w.out.text.room t) ∷ []) c ph pt s) (receivers.receiver a part ms) owed)) (sym h.after)
            (is_end A (submit_is w.out.own w.out.text.room L.counted S l t (record { two = two; label = h.legal.label; long = h.legal.long; text = h.legal.text })) R);
        in_say = p;
        out_say = q;
        deed = submit_taken;
        settings = ap (λ (y : Model). y.settings) h.after;
      }

  pub submit_serves : {e : law.End} → EndIs w told m e → (l : Label) (t : List ℕ) (r : Result ℕ LinkFault) → length l.0 ≡ 2 → Submits w m l t r m' → Served w out inn registration told m m' i o (submit l t r) e ps qs
  submit_serves E l t (Ok n) two h = submits_taken E l t n two h
  submit_serves E l t (Err f) two h = refused_is (submit l t (Err f)) submit_refused E p q h.0

  -- withdraw
  withdraws_taken : {e : law.End} → EndIs w told m e → (n : ℕ) (u : Unit {0}) → Withdrew w m n m' → Served w out inn registration told m m' i o (withdraw n (Ok u)) e ps qs
  withdraws_taken (is_end {g = g} {c = c} {ph = ph} {p = pt} {s = s} {a = a} {pt = part} {ms = ms} {owed = owed} A S R) n u h =
      let F = found n m.outbox.cells h.place h.found in
      let b = cell_of n F.label (Unsettled F.acknowledged F.gone) F.text in
      let z : h.cell ≡ b = same_cell h.cell b (sym h.there ∙ stands_get F.stands) in
      let I = withdraw_is w.out.own w.out.text.room L.counted S F.stands (subst (λ (y : Stored Cell). too_many_spent w m y.«record».stage ≡ false) z h.allowed) in
      record {
        doing = law.withdrew n;
        end_after = law.an_end (sender g I.called_after I.phase_after pt s) (receivers.receiver a part ms) owed;
        in_after = ps;
        out_after = qs;
        move = law.withdraw (subst (λ (k : ℕ). senders.Withdraws k (sender g c ph pt s) n (sender g I.called_after I.phase_after pt s)) (sym ring) I.withdraws);
        is = subst (λ (y : Model). EndIs w told y (law.an_end (sender g I.called_after I.phase_after pt s) (receivers.receiver a part ms) owed))
            (sym (h.after ∙ ap (λ (y : Stored Cell). withdrawn w m h.place y) z)) (is_end A I.is R);
        in_say = p;
        out_say = q;
        deed = withdraw_taken;
        settings = ap (λ (y : Model). y.settings) h.after;
      }

  pub withdraw_serves : {e : law.End} → EndIs w told m e → (n : ℕ) (r : Result (Unit {0}) LinkFault) → Withdraws w m n r m' → Served w out inn registration told m m' i o (withdraw n r) e ps qs
  withdraw_serves E n (Ok u) h = withdraws_taken E n u h
  withdraw_serves E n (Err f) h = refused_is (withdraw n (Err f)) withdraw_refused E p q h.0

  -- collect: the oldest message that waits
  collects_one : {e : law.End} → EndIs w told m e → (before after : List ℕ) (l : Label) (n : ℕ) → Collected m before l n m' after → Served w out inn registration told m m' i o (collect before (Ok (l, n)) after) e ps qs
  collects_one (is_end {g = g} {c = c} {ph = ph} {p = pt} {s = s} {a = a} {pt = part} {ms = ms} {owed = owed} A S R) before after l n h =
      go ms (subst (λ (xs : List (Stored Label)). WaitingAre xs ms) h.oldest R.waiting)
    where
      go : (ns : List Message) → WaitingAre (h.message ∷ h.rest) ns →
          Served w out inn registration told m m' i o (collect before (Ok (l, n)) after) (law.an_end (sender g c ph pt s) (receivers.receiver a part ns) owed) ps qs
      go [] x = elim x [ ]
      go (message k ts ∷ ns) (one_waits e x) = record {
        doing = law.collected (message l.0 ts);
        end_after = law.an_end (sender g c ph pt s) (receivers.receiver a part ns) owed;
        in_after = ps;
        out_after = qs;
        move = subst (λ (y : List ℕ). law.Move out inn (law.an_end (sender g c ph pt s) (receivers.receiver a part (message h.message.«record».0 ts ∷ ns)) owed) ps qs (law.collected (message y ts))
            (law.an_end (sender g c ph pt s) (receivers.receiver a part ns) owed) ps qs) (sym (ap (λ (y : Label). y.0) h.label_is)) law.collect;
        is = subst (λ (y : Model). EndIs w told y (law.an_end (sender g c ph pt s) (receivers.receiver a part ns) owed)) (sym h.after)
            (is_end A S (record { accepted = R.accepted; part = R.part; waiting = x; owing = R.owing }));
        in_say = p;
        out_say = q;
        deed = collect_one (ap (take n) h.holds ∙ ap (λ (k : ℕ). take k (h.message.text ++ drop n before)) h.long ∙ take-append_seam h.message.text (drop n before) ∙ e);
        settings = ap (λ (y : Model). y.settings) h.after;
      }

  -- nothing waits
  collects_none : {e : law.End} → EndIs w told m e → (before after : List ℕ) (f : LinkFault) → number_of f ≡ 2 → m.inbox.waiting ≡ [] → m' ≡ m →
      Served w out inn registration told m m' i o (collect before (Err f) after) e ps qs
  collects_none (is_end {g = g} {c = c} {ph = ph} {p = pt} {s = s} {a = a} {pt = part} {ms = ms} {owed = owed} A S R) before after f two none h =
      go ms (subst (λ (xs : List (Stored Label)). WaitingAre xs ms) none R.waiting) refl
    where
      go : (ns : List Message) → WaitingAre [] ns → ms ≡ ns →
          Served w out inn registration told m m' i o (collect before (Err f) after) (law.an_end (sender g c ph pt s) (receivers.receiver a part ms) owed) ps qs
      go ns none_wait z = record {
        doing = law.bare;
        end_after = law.an_end (sender g c ph pt s) (receivers.receiver a part ms) owed;
        in_after = ps;
        out_after = qs;
        move = subst (λ (y : List Message). law.Move out inn (law.an_end (sender g c ph pt s) (receivers.receiver a part y) owed) ps qs law.bare
            (law.an_end (sender g c ph pt s) (receivers.receiver a part y) owed) ps qs) (sym z) law.collect_nothing;
        is = subst (λ (y : Model). EndIs w told y (law.an_end (sender g c ph pt s) (receivers.receiver a part ms) owed)) (sym h) (is_end A S R);
        in_say = p;
        out_say = q;
        deed = collect_none two;
        settings = ap (λ (y : Model). y.settings) h;
      }

  pub collect_serves : {e : law.End} → EndIs w told m e → (before : List ℕ) (r : Result (Label × ℕ) LinkFault) (after : List ℕ) → Collects m before r m' after →
      Served w out inn registration told m m' i o (collect before r after) e ps qs
  collect_serves E before (Ok (l, n)) after h = collects_one E before after l n h
  collect_serves {e = e} E before (Err f) after h = go (place_of f) h.2
    where
      by_number : (b d : Bool) → eqb (number_of f) 1 ≡ b → eqb (number_of f) 2 ≡ d → pick b (length before < 3520) (pick d ((3520 ≤ length before) × (m.inbox.waiting ≡ [])) ⊥) →
          Served w out inn registration told m m' i o (collect before (Err f) after) e ps qs
      by_number true d x y z = refused_is (collect before (Err f) after) (collect_refused (eqb-true (number_of f) 1 x)) E p q h.0
      by_number false true x y z = collects_none E before after f (eqb-true (number_of f) 2 y) z.1 h.0
      by_number false false x y z = absurd z

      go : (place : std.Option ℕ) → CollectRefused m before (number_of f) place → Served w out inn registration told m m' i o (collect before (Err f) after) e ps qs
      go (Some k) z = absurd z
      go None z = by_number (eqb (number_of f) 1) (eqb (number_of f) 2) refl refl z

  -- outcome
  tells_one : {e : law.End} → EndIs w told m e → (n : ℕ) (x : Outcome) → Told m n x m' → Served w out inn registration told m m' i o (outcome (Ok (n, x))) e ps qs
  tells_one (is_end {g = g} {c = c} {ph = ph} {p = pt} {s = s} {a = a} {pt = part} {ms = ms} {owed = owed} A S R) n x h =
      let J = tell_is w.out.own w.out.text.room L.counted S h.cell h.rest x h.oldest h.settled in
      record {
        doing = law.told n (status_of x);
        end_after = law.an_end (sender g c ph pt s) (receivers.receiver a part ms) owed;
        in_after = ps;
        out_after = qs;
        move = law.outcome (S.status n ∙ ap (λ (xs : List (Stored Cell)). called_in xs (told n) n) h.oldest ∙
            ap (λ (y : Bool). cond y (status_at h.cell.«record».stage) (called_in h.rest (told n) n)) (eq-eqb n h.cell.«record».number h.number_is) ∙ ap status_at h.settled)
            (settled_not x);
        is = subst (λ (y : Model). EndIs w (λ k. said_by k (outcome (Ok (n, x))) (told k)) y (law.an_end (sender g c ph pt s) (receivers.receiver a part ms) owed)) (sym h.after)
            (is_end A (subst (λ (y : ℕ). SenderIs w.out.own w.out.text.room (λ k. cond (eqb k y) (status_of x) (told k)) (with_cells m.outbox h.rest) g c ph pt s) (sym h.number_is) J) R);
        in_say = p;
        out_say = q;
        deed = outcome_told;
        settings = ap (λ (y : Model). y.settings) h.after;
      }

  pub tell_serves : {e : law.End} → EndIs w told m e → (r : Result (ℕ × Outcome) LinkFault) → Tells m r m' → Served w out inn registration told m m' i o (outcome r) e ps qs
  tell_serves E (Ok (n, x)) h = tells_one E n x h
  tell_serves E (Err f) h = refused_is (outcome (Err f)) outcome_refused E p q h.0
