-- A withdrawal at the sending half of an end is one of the law's sender. Assumes nothing.
use Rattle.std.proofs.Common.{◌≡◌, ℕ, zero, suc, ◌+◌, ◌-◌, ◌<◌, ◌≤◌, Bool, true, false, cond, ◌&&◌, ◌||◌, eqb, ltb, List, [], ◌∷◌, length, Some, sym, refl, ap, ◌∙◌, subst, inl, inr, arith, eq-eqb, ne_eqb}
use mathlib.Core.Option.{Option}
use Rattle.std.proofs.Math.Bool.{or-false, or-true}
use Rattle.std.proofs.lemmas.Bool.{lt-ltb, ltb-false}
use borrow.Author.Tests.{clash}
use Rattle.std.specs.List.{slice_get}
use Rattle.directions.specs.Rings.{RingRule}
use Rattle.stores.specs.Held.{Stored}
use Rattle.calls.specs.declared.types.Label.{Label}
use Rattle.calls.specs.declared.types.Outcome.{Outcome}
use Rattle.calls.specs.declared.types.Outcome.TheVariants.{NotDelivered, InDoubt}
use Rattle.ends.specs.declared.types.Cell.{Cell}
use Rattle.ends.specs.declared.types.Stage.{Stage}
use Rattle.ends.specs.declared.types.Stage.TheVariants.{Unsettled, Settled}
use Rattle.ends.specs.Model.{Outbox}
use Rattle.ends.specs.Sending.{block_count, begun, stage_at, withdrawn_as}
use Rattle.law.specs.Senders.{Text, Message, Status, unsettled, not_delivered, in_doubt, settle, course, Phase, idle, ready, out, sender, ended, verdict, Begun, unbegun, from_ready, from_out}
use Rattle.law.specs.Senders as law
use Rattle.runs.specs.History.{status_of, called_in}
use Rattle.runs.specs.Strings.{cuts}
use Rattle.runs.proofs.Cuts.{Counted, cuts_length}
use Rattle.runs.proofs.Cells.{phase_of, Orderly, OrderlyBy, Between}
use Rattle.runs.proofs.Courses.{apart, last_block, restaged_between, restaged_holds, restaged_celled}
use Rattle.runs.proofs.Senders.{SenderIs, Bound}
use Rattle.runs.proofs.Firsts.{cell_of}
use Rattle.runs.proofs.Withdrawals.{Stands, stands_here, stands_later, stands_from, stage_restaged, stage_orderly, called_settled, none_begun, begun_phase, begun_after, unbegun_after, not_begun}

-- the cell at that place
pub stands_get : {n a : ℕ} {l : Label} {t : List ℕ} {g : Bool} {k : ℕ} {cs : List (Stored Cell)} → Stands n l t a g k cs → slice_get cs k ≡ Some (cell_of n l (Unsettled a g) t)
stands_get stands_here = refl
stands_get (stands_later q) = stands_get q

-- its number lies in the range, and is called unsettled
stands_to : {n a : ℕ} {l : Label} {t : List ℕ} {g : Bool} {k : ℕ} {cs : List (Stored Cell)} (lo hi : ℕ) → Stands n l t a g k cs → Between lo hi cs → n ≤ hi
stands_to lo hi stands_here b = b.1
stands_to lo hi (stands_later {c = c} q) b = stands_to (suc c.«record».number) hi q b.2

stands_called : {n a : ℕ} {l : Label} {t : List ℕ} {g : Bool} {k : ℕ} {cs : List (Stored Cell)} (lo hi : ℕ) → Stands n l t a g k cs → Between lo hi cs → (s : Status) → called_in cs s n ≡ unsettled
stands_called {n = n} lo hi stands_here b s = rw (eq-eqb n n refl) refl
stands_called {n = n} lo hi (stands_later {c = c} q) b s =
    let f = stands_from (suc c.«record».number) hi q b.2 in
    rw (ne_eqb n c.«record».number (λ z. omega (arith, f, z))) (stands_called (suc c.«record».number) hi q b.2 s)

-- a begun message has blocks left
stands_fits : (room : ℕ) {n a : ℕ} {l : Label} {t : List ℕ} {g : Bool} {k : ℕ} {cs : List (Stored Cell)} → Stands n l t a g k cs → Orderly room cs → begun (Unsettled a g) ≡ true →
    a < block_count room (length t)
stands_fits room stands_here o e = o.0
stands_fits room {n = n} {a = a} {l = l} {t = t} {g = g} (stands_later {c = c} {cs = cs} q) o e = go c.«record».stage o (λ w. stands_fits room q w e)
  where
    go : (s : Stage) → OrderlyBy room c s cs (Orderly room cs) → (Orderly room cs → a < block_count room (length t)) → a < block_count room (length t)
    go (Unsettled b y) w ih = absurd (none_begun q w.1 e)
    go (Settled y) w ih = ih w

-- the outgoing half after the message at a place, in this cell, is withdrawn
abbrev pub withdrawn_box : ℕ → Outbox → ℕ → Stored Cell → Outbox
withdrawn_box room o k b = record {
  numbered = o.numbered;
  cells = stage_at k (withdrawn_as (block_count room (length b.text)) b.«record».stage) o.cells;
  put = o.put;
  spent = o.spent;
  passing = o.passing || begun b.«record».stage;
}

-- what a withdrawn message whose current block has gone out is called
verdict_is : (us : List Text) (b : Bool) → ended us ≡ b → status_of (cond b InDoubt NotDelivered) ≡ verdict us
verdict_is [] true e = refl
verdict_is [] false e = absurd (clash (sym e))
verdict_is (u ∷ us) true e = absurd (clash e)
verdict_is (u ∷ us) false e = refl

module _ (r : RingRule) (room : ℕ) (C : Counted room) where
  pub record WithdrawIs (told : ℕ → Status) (o : Outbox) (g : List Message) (c : ℕ → Status) (ph : Phase) (p : Option ℕ) (s n k : ℕ) (b : Stored Cell) : Type 0 where
    pub called_after : ℕ → Status
    pub phase_after : Phase
    pub withdraws : law.Withdraws r.size (sender g c ph p s) n (sender g called_after phase_after p s)
    pub is : SenderIs r room told (withdrawn_box room o k b) g called_after phase_after p s

  -- settling a cell, whatever it comes to
  settled_is : {told : ℕ → Status} {o : Outbox} {g : List Message} {c : ℕ → Status} {ph : Phase} {p : Option ℕ} {s n a k : ℕ} {l : Label} {t : List ℕ} {gone : Bool} →
      SenderIs r room told o g c ph p s → Stands n l t a gone k o.cells → (x : Outcome) (m : Bool) (after : Phase) →
      after ≡ phase_of room m (stage_at k (Settled x) o.cells) → Bound r.size after m p s →
      SenderIs r room told (record { numbered = o.numbered; cells = stage_at k (Settled x) o.cells; put = o.put; spent = o.spent; passing = m }) g (settle c n (status_of x)) after p s
  settled_is {told = told} {o = o} {c = c} {n = n} {k = k} S q x m after f b = record {
    count = S.count;
    between = restaged_between 1 o.numbered (stage_restaged k (Settled x) o.cells) S.between;
    holds = restaged_holds room _ (stage_restaged k (Settled x) o.cells) S.holds;
    orderly = stage_orderly room k C x o.cells S.orderly;
    status = λ j. ap (λ (y : Status). cond (eqb j n) (status_of x) y) (S.status j) ∙ sym (called_settled 1 o.numbered q S.between x (told j) j);
    gone = λ j u h. elim (S.gone j u h) [ inl w ↦ inl (restaged_celled (stage_restaged k (Settled x) o.cells) w) | inr w ↦ inr w ];
    new = S.new;
    phase = f;
    put = S.put;
    spent = S.spent;
    bound = b;
  }

  pub withdraw_is : {told : ℕ → Status} {o : Outbox} {g : List Message} {c : ℕ → Status} {ph : Phase} {p : Option ℕ} {s n a k : ℕ} {l : Label} {t : List ℕ} {gone : Bool} →
      SenderIs r room told o g c ph p s → Stands n l t a gone k o.cells → (begun (Unsettled a gone) && ltb (r.size - 1) (o.spent + 2)) ≡ false →
      WithdrawIs told o g c ph p s n k (cell_of n l (Unsettled a gone) t)
  withdraw_is {told = told} {o = o} {g = g} {c = c} {ph = ph} {p = p} {s = s} {n = n} {a = zero} {k = k} {l = l} {t = t} {gone = false} S q h = record {
    called_after = settle c n not_delivered;
    phase_after = ph;
    withdraws = unbegun (record {
      given = stands_from 1 o.numbered q S.between;
      within = let e = S.count in let f = stands_to 1 o.numbered q S.between in omega (arith, e, f);
      open_yet = S.status n ∙ stands_called 1 o.numbered q S.between _;
    }) (λ w. not_begun room o.passing 1 o.numbered q S.between (subst (λ (y : Phase). Begun y n) S.phase w));
    is = subst (λ (m : Bool). SenderIs r room told (record { numbered = o.numbered; cells = stage_at k (Settled NotDelivered) o.cells; put = o.put; spent = o.spent; passing = m }) g (settle c n not_delivered) ph p s)
        (sym (or-false o.passing))
        (settled_is S q NotDelivered o.passing ph (S.phase ∙ sym (unbegun_after room o.passing q S.orderly NotDelivered)) S.bound);
  }
  withdraw_is {told = told} {o = o} {g = g} {c = c} {ph = ph} {p = p} {s = s} {n = n} {a = suc a} {k = k} {l = l} {t = t} {gone = false} S q h =
      let begun_is : begun (Unsettled (suc a) false) ≡ true = rw (lt-ltb 0 (suc a) (omega arith)) refl in
      let few : s + 2 ≤ r.size - 1 = (let e = S.spent in let f = ltb-false (r.size - 1) (o.spent + 2) (sym (ap (λ (b : Bool). b && ltb (r.size - 1) (o.spent + 2)) begun_is) ∙ h) in omega (arith, e, f)) in
      let A = apart n l.0 [] (cuts room t) (suc a) (let f = stands_fits room q S.orderly begun_is in let e = cuts_length room C t in omega (arith, e, f)) in
      record {
        called_after = settle c n not_delivered;
        phase_after = idle true;
        withdraws = subst (λ (y : Phase). law.Withdraws r.size (sender g c y p s) n (sender g (settle c n not_delivered) (idle true) p s))
            (sym (S.phase ∙ begun_phase room o.passing q S.orderly begun_is ∙ ap ready A.is)) (from_ready few);
        is = subst (λ (m : Bool). SenderIs r room told (record { numbered = o.numbered; cells = stage_at k (Settled NotDelivered) o.cells; put = o.put; spent = o.spent; passing = m }) g (settle c n not_delivered) (idle true) p s)
            (sym (ap (λ (b : Bool). o.passing || b) begun_is ∙ or-true o.passing))
            (settled_is S q NotDelivered true (idle true) (sym (begun_after room true q S.orderly begun_is NotDelivered)) few);
      }
  withdraw_is {told = told} {o = o} {g = g} {c = c} {ph = ph} {p = p} {s = s} {n = n} {a = a} {k = k} {l = l} {t = t} {gone = true} S q h =
      let begun_is : begun (Unsettled a true) ≡ true = or-true (ltb 0 a) in
      let few : s + 2 ≤ r.size - 1 = (let e = S.spent in let f = ltb-false (r.size - 1) (o.spent + 2) (sym (ap (λ (b : Bool). b && ltb (r.size - 1) (o.spent + 2)) begun_is) ∙ h) in omega (arith, e, f)) in
      let A = apart n l.0 [] (cuts room t) a (let f = stands_fits room q S.orderly begun_is in let e = cuts_length room C t in omega (arith, e, f)) in
      let x : Outcome = cond (eqb (a + 1) (block_count room (length t))) InDoubt NotDelivered in
      let v : status_of x ≡ verdict A.left = verdict_is A.left (eqb (a + 1) (block_count room (length t))) (last_block A ∙ ap (λ (z : ℕ). eqb (a + 1) z) (cuts_length room C t)) in
      record {
        called_after = settle c n (status_of x);
        phase_after = idle true;
        withdraws = subst (λ (y : Status). law.Withdraws r.size (sender g c ph p s) n (sender g (settle c n y) (idle true) p s)) (sym v)
            (subst (λ (y : Phase). law.Withdraws r.size (sender g c y p s) n (sender g (settle c n (verdict A.left)) (idle true) p s))
            (sym (S.phase ∙ begun_phase room o.passing q S.orderly begun_is ∙ ap out A.is)) (from_out few));
        is = subst (λ (m : Bool). SenderIs r room told (record { numbered = o.numbered; cells = stage_at k (Settled x) o.cells; put = o.put; spent = o.spent; passing = m }) g (settle c n (status_of x)) (idle true) p s)
            (sym (ap (λ (b : Bool). o.passing || b) begun_is ∙ or-true o.passing))
            (settled_is S q x true (idle true) (sym (begun_after room true q S.orderly begun_is x)) few);
      }
