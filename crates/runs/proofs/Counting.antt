-- An acknowledgment that counts: what it does to the cells, and to the sender that they are. Assumes nothing.
use Rattle.std.proofs.Common.{◌≡◌, ℕ, suc, ◌+◌, ◌<◌, ◌≤◌, min, Bool, true, false, cond, eqb, List, [], ◌∷◌, length, Some, sym, refl, ap, ◌∙◌, subst, inl, inr, arith, eq-eqb, ne_eqb, eqb-true}
use native.Mathlib.Nat.{min-eq_left}
use mathlib.Core.Option.{some}
use borrow.Author.Tests.{eqb-false, clash}
use Rattle.directions.specs.Rings.{RingRule}
use Rattle.stores.specs.Held.{Stored, stored}
use Rattle.ends.specs.declared.types.Cell.{Cell}
use Rattle.calls.specs.declared.types.Label.{Label}
use Rattle.ends.specs.declared.types.Stage.{Stage}
use Rattle.ends.specs.declared.types.Stage.TheVariants.{Unsettled, Settled}
use Rattle.calls.specs.declared.types.Outcome.TheVariants.{Delivered}
use Rattle.ends.specs.Model.{Outbox}
use Rattle.ends.specs.Sending.{block_count, staged, advanced, is_out, acknowledged_cells, current_out}
use Rattle.ends.specs.Sending as sending
use Rattle.law.specs.Senders.{Text, Message, Status, unsettled, delivered, settle, course, Phase, idle, ready, out, sender, Counts, settles, advances}
use Rattle.runs.specs.Links.{current_of}
use Rattle.runs.specs.History.{status_at, called_in}
use Rattle.runs.specs.Strings.{cuts}
use Rattle.runs.proofs.Cuts.{Counted, cuts_length}
use Rattle.runs.proofs.Cells.{course_from, phase_of, Unbegun, AllUnbegun, Orderly, OrderlyBy, Between, Holds}
use Rattle.runs.proofs.Courses.{text_at, Apart, apart, further, course_further, idle_unbegun, Restaged, no_cells, restaged, restaged_same, restaged_between, restaged_holds, restaged_celled}
use Rattle.runs.proofs.Senders.{SenderIs, Bound}

-- the cells after an acknowledgment differ in stages alone
pub acknowledged_restaged : (room : ℕ) (cs : List (Stored Cell)) → Restaged cs (acknowledged_cells room cs)
acknowledged_restaged room [] = no_cells
acknowledged_restaged room (c ∷ cs) = go (sending.unsettled c.«record».stage) (is_out c.«record».stage) (acknowledged_restaged room cs)
  where
    go : (u o : Bool) → Restaged cs (acknowledged_cells room cs) →
        Restaged (c ∷ cs)
        (cond u
        (cond o (stored (staged c.«record» (advanced (block_count room (length c.text)) c.«record».stage)) c.text) c ∷ cs)
        (c ∷ acknowledged_cells room cs))
    go true true q = restaged (restaged_same cs)
    go true false q = restaged (restaged_same cs)
    go false o q = restaged q

-- what an acknowledgment of the current block does: by the blocks that are left
abbrev pub After : ℕ → Bool → List (Stored Cell) → ℕ → List ℕ → List Text → Text → List Text → Type 0
After room m cs n l done now [] =
    (phase_of room m (acknowledged_cells room cs) ≡ idle m) ×
    ((s : Status) (j : ℕ) → called_in (acknowledged_cells room cs) s j ≡ cond (eqb j n) delivered (called_in cs s j))
After room m cs n l done now (u ∷ us) =
    (phase_of room m (acknowledged_cells room cs) ≡ ready (course n l (now ∷ done) u us)) ×
    ((s : Status) (j : ℕ) → called_in (acknowledged_cells room cs) s j ≡ called_in cs s j)

pub record Acknowledges (room : ℕ) (m : Bool) (lo : ℕ) (cs : List (Stored Cell)) : Type 0 where
  pub number : ℕ
  pub from : lo ≤ number
  pub label : List ℕ
  pub done : List Text
  pub now : Text
  pub left : List Text
  pub phase : phase_of room m cs ≡ out (course number label done now left)
  pub current : current_of cs ≡ Some (number, length done)
  pub after : After room m cs number label done now left
  pub orderly : Orderly room (acknowledged_cells room cs)

twice : {A : Type 0} (b : Bool) (x y z : A) → cond b x z ≡ cond b x (cond b y z)
twice true x y z = refl
twice false x y z = refl

module _ (room : ℕ) (C : Counted room) where
  pub unbegun_orderly : (cs : List (Stored Cell)) → AllUnbegun cs → Orderly room cs
  unbegun_orderly [] u = tt
  unbegun_orderly (c ∷ cs) u = go c.«record».stage u.0 (unbegun_orderly cs u.1)
    where
      go : (s : Stage) → Unbegun s → Orderly room cs → OrderlyBy room c s cs (Orderly room cs)
      go (Unsettled a o) w ih = let e = w.0 in let h = C.some (length c.text) in (omega (arith, e, h), u.1)
      go (Settled o) w ih = ih

  -- a cell, by its parts
  abbrev cell : ℕ → Label → Stage → List ℕ → Stored Cell
  cell n l s t = stored (record { number = n; label = l; stage = s }) t

  module _ (m : Bool) (lo hi n : ℕ) (l : Label) (t : List ℕ) (cs : List (Stored Cell)) where
    -- the first unsettled cell stands further on
    pass : (s : Stage) (x : Status) → status_at s ≡ x → (N : ℕ) → n < N → (L : List ℕ) (D : List Text) (W : Text) (left : List Text) →
        acknowledged_cells room (cell n l s t ∷ cs) ≡ cell n l s t ∷ acknowledged_cells room cs →
        phase_of room m (cell n l s t ∷ acknowledged_cells room cs) ≡ phase_of room m (acknowledged_cells room cs) →
        After room m cs N L D W left → After room m (cell n l s t ∷ cs) N L D W left
    pass s x f N lt L D W [] e q h = (
      ap (phase_of room m) e ∙ q ∙ h.0,
      λ v j. ap (λ (xs : List (Stored Cell)). called_in xs v j) e ∙
          ap (λ (y : Status). cond (eqb j n) (status_at s) y) (h.1 v j) ∙ swap j (called_in cs v j) (eqb j n) refl,
    )
      where
        swap : (j : ℕ) (y : Status) (b : Bool) → eqb j n ≡ b → cond b (status_at s) (cond (eqb j N) delivered y) ≡ cond (eqb j N) delivered (cond b (status_at s) y)
        swap j y true d = let k = eqb-true j n d in rw (ne_eqb j N (λ z. omega (arith, k, lt, z))) refl
        swap j y false d = refl
    pass s x f N lt L D W (u ∷ us) e q h = (
      ap (phase_of room m) e ∙ q ∙ h.0,
      λ v j. ap (λ (xs : List (Stored Cell)). called_in xs v j) e ∙ ap (λ (y : Status). cond (eqb j n) (status_at s) y) (h.1 v j),
    )

    -- the current block is this cell's
    here_after : (a : ℕ) → AllUnbegun cs → (A : Apart n l.0 [] (cuts room t) a) → length (cuts room t) ≡ block_count room (length t) →
        block_count room (length t) ≤ 16 → Acknowledges room m n (cell n l (Unsettled a true) t ∷ cs)
    here_after a u A k few = record {
      number = n;
      from = omega arith;
      label = l.0;
      done = A.done;
      now = text_at (cuts room t) a;
      left = A.left;
      phase = ap out A.is;
      current = let e = A.count in let d : a ≡ length A.done = omega (arith, e) in ap (λ (j : ℕ). Some (n, j)) d;
      after = go A.left A.is A.rest;
      orderly = ord (eqb (a + 1) (block_count room (length t))) refl;
    }
      where
        -- a message has sixteen blocks at most
        small : min (a + 1) 255 ≡ a + 1
        small = let r = A.rest in min-eq_left (omega (arith, r, k, few))

        lasting : (st : Stage) → st ≡ Settled Delivered → (D : List Text) (W : Text) →
            (phase_of room m (cell n l st t ∷ cs) ≡ idle m) ×
            ((s : Status) (j : ℕ) → called_in (cell n l st t ∷ cs) s j ≡ cond (eqb j n) delivered (called_in (cell n l (Unsettled a true) t ∷ cs) s j))
        lasting st e D W = rw e (idle_unbegun room m cs u, λ s j. twice (eqb j n) delivered unsettled (called_in cs s j))

        going : (st : Stage) → st ≡ Unsettled (suc a) false → (D : List Text) (W v : Text) (vs : List Text) → course_from n l.0 [] (cuts room t) (suc a) ≡ course n l.0 (W ∷ D) v vs →
            (phase_of room m (cell n l st t ∷ cs) ≡ ready (course n l.0 (W ∷ D) v vs)) ×
            ((s : Status) (j : ℕ) → called_in (cell n l st t ∷ cs) s j ≡ called_in (cell n l (Unsettled a true) t ∷ cs) s j)
        going st e D W v vs q = rw e (ap ready q, λ s j. refl)

        go : (left : List Text) → course_from n l.0 [] (cuts room t) a ≡ course n l.0 A.done (text_at (cuts room t) a) left → suc a + length left ≡ length (cuts room t) →
            After room m (cell n l (Unsettled a true) t ∷ cs) n l.0 A.done (text_at (cuts room t) a) left
        go [] i e = lasting (advanced (block_count room (length t)) (Unsettled a true))
            (rw (eq-eqb (a + 1) (block_count room (length t)) (omega (arith, e, k))) refl) A.done (text_at (cuts room t) a)
        go (v ∷ vs) i e = going (advanced (block_count room (length t)) (Unsettled a true))
            (let d : min (a + 1) 255 ≡ suc a = small ∙ omega arith in rw (ne_eqb (a + 1) (block_count room (length t)) (λ y. omega (arith, e, k, y))) (ap (λ (j : ℕ). Unsettled j false) d)) A.done (text_at (cuts room t) a) v vs
            (course_further n l.0 [] (cuts room t) a (omega (arith, e)) ∙ ap further i)

        ord : (b : Bool) → eqb (a + 1) (block_count room (length t)) ≡ b → Orderly room (cell n l (cond b (Settled Delivered) (Unsettled (min (a + 1) 255) false)) t ∷ cs)
        ord true e = unbegun_orderly cs u
        ord false e =
            let d = eqb-false (a + 1) (block_count room (length t)) e in
            let r = A.rest in
            (omega (arith, d, r, k, small), u)

    head : (s : Stage) → block_count room (length t) ≤ 16 → (Orderly room cs → current_out cs ≡ true → Acknowledges room m (suc n) cs) →
        Orderly room (cell n l s t ∷ cs) → current_out (cell n l s t ∷ cs) ≡ true → Acknowledges room m n (cell n l s t ∷ cs)
    head (Unsettled a false) few ih o e = absurd (clash e)
    head (Unsettled a true) few ih o e =
        let k = cuts_length room C t in
        let h = o.0 in
        here_after a o.1 (apart n l.0 [] (cuts room t) a (omega (arith, h, k))) k few
    head (Settled y) few ih o e =
        let A = ih o e in
        let f = A.from in
        record {
          number = A.number;
          from = omega (arith, f);
          label = A.label;
          done = A.done;
          now = A.now;
          left = A.left;
          phase = A.phase;
          current = A.current;
          after = pass (Settled y) (status_at (Settled y)) refl A.number (omega (arith, f)) A.label A.done A.now A.left refl refl A.after;
          orderly = A.orderly;
        }

  pub acknowledges : (g : List Message) (m : Bool) (lo hi : ℕ) (cs : List (Stored Cell)) → Between lo hi cs → Holds room g cs → Orderly room cs → current_out cs ≡ true → Acknowledges room m lo cs
  acknowledges g m lo hi [] b H o e = absurd (clash e)
  acknowledges g m lo hi (c ∷ cs) b H o e =
      let A = head m lo hi c.«record».number c.«record».label c.text cs c.«record».stage (C.most (length c.text) H.0.long) (acknowledges g m (suc c.«record».number) hi cs b.2 H.2) o e in
      let f = A.from in
      let low = b.0 in
      record {
        number = A.number;
        from = omega (arith, f, low);
        label = A.label;
        done = A.done;
        now = A.now;
        left = A.left;
        phase = A.phase;
        current = A.current;
        after = A.after;
        orderly = A.orderly;
      }

  -- the outgoing half after an acknowledgment that counts
  abbrev pub counted_box : Outbox → Outbox
  counted_box o = record { numbered = o.numbered; cells = acknowledged_cells room o.cells; put = o.put; spent = 0; passing = o.passing }

  -- an acknowledgment of the current block counts: the block that it acknowledges, and the sender after it
  pub record CountIs (r : RingRule) (told : ℕ → Status) (o : Outbox) (g : List Message) (c : ℕ → Status) (ph : Phase) (i s : ℕ) : Type 0 where
    pub called_after : ℕ → Status
    pub phase_after : Phase
    pub place : ℕ × ℕ
    pub counts : Counts (sender g c ph (some i) s) (some i) (some place) (sender g called_after phase_after (some i) 0)
    pub is : SenderIs r room told (counted_box o) g called_after phase_after (some i) 0
    pub current : current_of o.cells ≡ Some place

  pub count_is : (r : RingRule) {told : ℕ → Status} {o : Outbox} {g : List Message} {c : ℕ → Status} {ph : Phase} {i s : ℕ} →
      SenderIs r room told o g c ph (some i) s → current_out o.cells ≡ true → CountIs r told o g c ph i s
  count_is r {told = told} {o = o} {g = g} {c = c} {ph = ph} {i = i} {s = s} S e = go A.left (S.phase ∙ A.phase) A.after
    where
      A : Acknowledges room o.passing 1 o.cells
      A = acknowledges g o.passing 1 o.numbered o.cells S.between S.holds S.orderly e

      Q : Restaged o.cells (acknowledged_cells room o.cells)
      Q = acknowledged_restaged room o.cells

      made : (c' : ℕ → Status) (ph' : Phase) → ((n : ℕ) → c' n ≡ called_in (acknowledged_cells room o.cells) (told n) n) →
          ph' ≡ phase_of room o.passing (acknowledged_cells room o.cells) → Bound r.size ph' o.passing (some i) 0 →
          SenderIs r room told (counted_box o) g c' ph' (some i) 0
      made c' ph' st p b = record {
        count = S.count;
        between = restaged_between 1 o.numbered Q S.between;
        holds = restaged_holds room g Q S.holds;
        orderly = A.orderly;
        status = st;
        gone = λ n u h. elim (S.gone n u h) [ inl x ↦ inl (restaged_celled Q x) | inr x ↦ inr x ];
        new = S.new;
        phase = p;
        put = S.put;
        spent = refl;
        bound = b;
      }

      go : (left : List Text) → ph ≡ out (course A.number A.label A.done A.now left) →
          After room o.passing o.cells A.number A.label A.done A.now left → CountIs r told o g c ph i s
      go [] p h =
          let b = subst (λ (y : Phase). Bound r.size y o.passing (some i) s) p S.bound in
          record {
            called_after = settle c A.number delivered;
            phase_after = idle false;
            place = (A.number, length A.done);
            counts = subst (λ (y : Phase). Counts (sender g c y (some i) s) (some i) (some (A.number, length A.done)) (sender g (settle c A.number delivered) (idle false) (some i) 0)) (sym p) settles;
            is = made (settle c A.number delivered) (idle false)
                (λ n. ap (λ (y : Status). cond (eqb n A.number) delivered y) (S.status n) ∙ sym (h.1 (told n) n)) (sym (h.0 ∙ ap idle b.0)) refl;
            current = A.current;
          }
      go (u ∷ us) p h =
          let b = subst (λ (y : Phase). Bound r.size y o.passing (some i) s) p S.bound in
          record {
            called_after = c;
            phase_after = ready (course A.number A.label (A.now ∷ A.done) u us);
            place = (A.number, length A.done);
            counts = subst (λ (y : Phase). Counts (sender g c y (some i) s) (some i) (some (A.number, length A.done)) (sender g c (ready (course A.number A.label (A.now ∷ A.done) u us)) (some i) 0)) (sym p) advances;
            is = made c (ready (course A.number A.label (A.now ∷ A.done) u us)) (λ n. S.status n ∙ sym (h.1 (told n) n)) (sym h.0) (b.0, refl);
            current = A.current;
          }
