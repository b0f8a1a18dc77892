-- A tick at the sending half: the block that it puts is one of the law's, or there is none to put. Assumes nothing.
use Rattle.std.proofs.Common.{◌≡◌, ℕ, zero, suc, ◌+◌, ◌-◌, ◌≤◌, min, Bool, true, false, cond, List, [], ◌∷◌, length, Some, None, sym, refl, ap, ◌∙◌, subst, inl, inr, arith}
use mathlib.Core.Option.{Option, some}
use native.Mathlib.Nat.{min-eq_left}
use Rattle.std.specs.List.{slice_get}
use Rattle.std.specs.declared.option.Option as std
use Rattle.directions.specs.Rings.{RingRule}
use Rattle.directions.specs.TextRules.{TextRule}
use Rattle.stores.specs.Held.{Stored}
use Rattle.ends.specs.declared.types.Cell.{Cell}
use Rattle.ends.specs.declared.types.Stage.TheVariants.{Unsettled}
use Rattle.ends.specs.Model.{Outbox}
use Rattle.ends.specs.Sending.{stage_at, fresh_identifier, last_identifier, or_else, spent_by}
use Rattle.law.specs.Directions.{fresh, cost}
use Rattle.law.specs.Real.{direction_of}
use Rattle.law.specs.Senders as law
use Rattle.law.specs.Senders.{Text, Message, message, numbered, Status, unsettled, Course, course, block_of, Phase, idle, ready, out, Sender, sender, Chosen, Quiet, early, empty}
use Rattle.runs.specs.Strings.{cuts}
use Rattle.runs.proofs.Rings.{Is, Same, one, fresh_is}
use Rattle.runs.proofs.Cuts.{Counted, cuts_length}
use Rattle.runs.proofs.Cells.{course_from, course_of, phase_by, Between, GoodCell, Holds, Celled, here, there}
use Rattle.runs.proofs.Courses.{restaged_between, restaged_holds, restaged_celled}
use Rattle.runs.proofs.Senders.{SenderIs, Bound, Has, has}
use Rattle.runs.proofs.Firsts.{cell_of, First, All-settled}

-- the outgoing half after a new block of the cell at a place
abbrev pub fresh_box : RingRule → Outbox → ℕ → ℕ → Outbox
fresh_box r o k a = record { numbered = o.numbered; cells = stage_at k (Unsettled a true) o.cells; put = Some (fresh_identifier r o); spent = spent_by o; passing = false }

-- the cell at a place is good, and holds the message that bears its number
abbrev cell_or_else : std.Option (Stored Cell) → Stored Cell → Stored Cell
cell_or_else None c = c
cell_or_else (Some b) c = b

pub holds_at : (room : ℕ) (g : List Message) (cs : List (Stored Cell)) (k : ℕ) (c : Stored Cell) → Holds room g cs → slice_get cs k ≡ Some c →
    GoodCell room c × (numbered g c.«record».number ≡ some (message c.«record».label.0 (cuts room c.text)))
holds_at room g [] k c h e = cc
holds_at room g (b ∷ cs) zero c h e =
    subst (λ (x : Stored Cell). GoodCell room x × (numbered g x.«record».number ≡ some (message x.«record».label.0 (cuts room x.text))))
    (ap (λ (x : std.Option (Stored Cell)). cell_or_else x c) e) (h.0, h.1)
holds_at room g (b ∷ cs) (suc k) c h e = holds_at room g cs k c h.2 e

celled_within : (lo hi n : ℕ) (cs : List (Stored Cell)) → Between lo hi cs → Celled n cs → n ≤ hi
celled_within lo hi n [] b x = elim x [ ]
celled_within lo hi n (c ∷ cs) b (here e) = let h = b.1 in omega (arith, e, h)
celled_within lo hi n (c ∷ cs) b (there x) = celled_within (suc c.«record».number) hi n cs b.2 x

module _ (room : ℕ) (C : Counted room) (r : RingRule) (tr : TextRule) (originator : ℕ) (two : 2 ≤ r.size) (small : r.size ≤ 256) where
  module _ {told : ℕ → Status} {o : Outbox} {g : List Message} {c : ℕ → Status} {ph : Phase} {p : Option ℕ} {s : ℕ} (S : SenderIs r room told o g c ph p s) where
    -- nothing is unsettled: there is no block to put
    pub quiet_is : (due : Bool) → All-settled room o.cells → Quiet due (sender g c ph p s)
    quiet_is due N = subst (λ (y : Phase). Quiet due (sender g c y p s)) (sym (S.phase ∙ N.phase o.passing))
        (empty (λ n u. N.settled (told n) n (S.gone n u.given (let a = S.count in let b = u.within in omega (arith, a, b))) (sym (S.status n) ∙ u.open_yet)))

    -- the identifiers that a new block spends stay short of the ring
    spends : (m : Bool) → o.passing ≡ m → Bound r.size (idle m) o.passing p s → (spent_by o ≡ s + cost m) × (s + cost m ≤ r.size - 1)
    spends true e b =
        let q = S.spent in
        (ap (λ (x : Bool). min (o.spent + cond x 2 1) 255) e ∙ min-eq_left (omega (arith, q, b, small)) ∙ omega (arith, q), b)
    spends false e b =
        let q = S.spent in
        (ap (λ (x : Bool). min (o.spent + cond x 2 1) 255) e ∙ min-eq_left (omega (arith, q, b)) ∙ omega (arith, q), omega (arith, b, two))

    -- a new block of the first unsettled message, by the mark and the sender before
    pub record FreshIs (due : Bool) (F : First room 1 o.cells) : Type 0 where
      pub identifier : ℕ
      pub spent_after : ℕ
      pub named : Is r (fresh_identifier r o) identifier
      pub sends : law.Sends (direction_of r tr originator) due (sender g c ph p s) (course_of room (cell_of F.number F.label (Unsettled F.acknowledged true) F.text) F.acknowledged)
          (block_of (direction_of r tr originator) identifier (course_of room (cell_of F.number F.label (Unsettled F.acknowledged true) F.text) F.acknowledged))
          (sender g c (out (course_of room (cell_of F.number F.label (Unsettled F.acknowledged true) F.text) F.acknowledged)) (some identifier) spent_after)
      pub is : SenderIs r room told (fresh_box r o F.place F.acknowledged) g c
          (out (course_of room (cell_of F.number F.label (Unsettled F.acknowledged true) F.text) F.acknowledged)) (some identifier) spent_after

    -- the sender after it
    sent_is : (F : First room 1 o.cells) (i s' : ℕ) → Is r (fresh_identifier r o) i → spent_by o ≡ s' → s' ≤ r.size - 1 →
        SenderIs r room told (fresh_box r o F.place F.acknowledged) g c
        (out (course_of room (cell_of F.number F.label (Unsettled F.acknowledged true) F.text) F.acknowledged)) (some i) s'
    sent_is F i s' n e b = record {
      count = S.count;
      between = restaged_between 1 o.numbered F.restaged_after S.between;
      holds = restaged_holds room g F.restaged_after S.holds;
      orderly = F.orderly_after;
      status = λ n. S.status n ∙ sym (F.called_after (told n) n);
      gone = λ n u h. elim (S.gone n u h) [ inl x ↦ inl (restaged_celled F.restaged_after x) | inr x ↦ inr x ];
      new = S.new;
      phase = sym (F.phase_after false);
      put = one n;
      spent = sym e;
      bound = (refl, has, b);
    }

    chosen : (F : First room 1 o.cells) → Chosen g c F.number
    chosen F =
        let w = celled_within 1 o.numbered F.number o.cells S.between F.celled in
        let k = S.count in
        record {
          waits = record { given = F.from; within = omega (arith, w, k); open_yet = S.status F.number ∙ F.open_yet (told F.number) };
          oldest = λ j u h e. F.oldest (told j) j h (S.gone j u (omega (arith, w, h))) (sym (S.status j) ∙ e);
        }

    -- the first block of the message chosen
    first_is : (due m : Bool) (n : ℕ) (l : List ℕ) (ts : List Text) → 1 ≤ length ts → Chosen g c n → numbered g n ≡ some (message l ts) →
        law.Sends (direction_of r tr originator) due (sender g c (idle m) p s) (course_from n l [] ts 0)
        (block_of (direction_of r tr originator) (fresh r.size m p) (course_from n l [] ts 0))
        (sender g c (out (course_from n l [] ts 0)) (some (fresh r.size m p)) (s + cost m))
    first_is due m n l [] h ch e = absurd (omega (arith, h))
    first_is due m n l (t ∷ us) h ch e = law.first ch e

    -- the phase, by how far the first unsettled message is
    phase_at : (F : First room 1 o.cells) (a : ℕ) (x : Bool) → F.acknowledged ≡ a → F.gone ≡ x →
        ph ≡ phase_by room (cell_of F.number F.label (Unsettled a x) F.text) (Unsettled a x) o.passing (idle o.passing)
    phase_at F a x e f =
        S.phase ∙ F.phase o.passing ∙
        ap (λ (k : ℕ). phase_by room (cell_of F.number F.label (Unsettled k F.gone) F.text) (Unsettled k F.gone) o.passing (idle o.passing)) e ∙
        ap (λ (y : Bool). phase_by room (cell_of F.number F.label (Unsettled a y) F.text) (Unsettled a y) o.passing (idle o.passing)) f

    bound_at : (y : Phase) → ph ≡ y → Bound r.size y o.passing p s
    bound_at y e = subst (λ (z : Phase). Bound r.size z o.passing p s) e S.bound

    idle_bound : (m : Bool) → o.passing ≡ m → ph ≡ idle o.passing → Bound r.size (idle m) o.passing p s
    idle_bound m e f = bound_at (idle m) (f ∙ ap idle e)

    pub fresh_sends : (due : Bool) (F : First room 1 o.cells) → F.gone ≡ false → FreshIs due F
    fresh_sends due F f = go F.acknowledged refl
      where
        its : numbered g F.number ≡ some (message F.label.0 (cuts room F.text))
        its = (holds_at room g o.cells F.place (cell_of F.number F.label (Unsettled F.acknowledged F.gone) F.text) S.holds F.there_is).1

        go : (a : ℕ) → F.acknowledged ≡ a → FreshIs due F
        go zero e =
            let q = phase_at F 0 false e f in
            let k = spends o.passing refl (idle_bound o.passing refl q) in
            let n = fresh_is r two o.passing S.put in
            let h = cuts_length room C F.text in
            let h' = C.some (length F.text) in
            record {
              identifier = fresh r.size o.passing p;
              spent_after = s + cost o.passing;
              named = n;
              sends = subst
                  (λ (b : ℕ). law.Sends (direction_of r tr originator) due (sender g c ph p s) (course_from F.number F.label.0 [] (cuts room F.text) b)
                  (block_of (direction_of r tr originator) (fresh r.size o.passing p) (course_from F.number F.label.0 [] (cuts room F.text) b))
                  (sender g c (out (course_from F.number F.label.0 [] (cuts room F.text) b)) (some (fresh r.size o.passing p)) (s + cost o.passing)))
                  (sym e)
                  (subst
                  (λ (y : Phase). law.Sends (direction_of r tr originator) due (sender g c y p s) (course_from F.number F.label.0 [] (cuts room F.text) 0)
                  (block_of (direction_of r tr originator) (fresh r.size o.passing p) (course_from F.number F.label.0 [] (cuts room F.text) 0))
                  (sender g c (out (course_from F.number F.label.0 [] (cuts room F.text) 0)) (some (fresh r.size o.passing p)) (s + cost o.passing)))
                  (sym q)
                  (first_is due o.passing F.number F.label.0 (cuts room F.text) (omega (arith, h, h')) (chosen F) its));
              is = sent_is F (fresh r.size o.passing p) (s + cost o.passing) n k.0 k.1;
            }
        go (suc a) e =
            let q = phase_at F (suc a) false e f in
            let b = bound_at (ready (course_from F.number F.label.0 [] (cuts room F.text) (suc a))) q in
            let k = spends false b.0 b.1 in
            let n = subst (λ (m : Bool). Is r (fresh_identifier r o) (fresh r.size m p)) b.0 (fresh_is r two o.passing S.put) in
            record {
              identifier = fresh r.size false p;
              spent_after = s + cost false;
              named = n;
              sends = subst
                  (λ (b : ℕ). law.Sends (direction_of r tr originator) due (sender g c ph p s) (course_from F.number F.label.0 [] (cuts room F.text) b)
                  (block_of (direction_of r tr originator) (fresh r.size false p) (course_from F.number F.label.0 [] (cuts room F.text) b))
                  (sender g c (out (course_from F.number F.label.0 [] (cuts room F.text) b)) (some (fresh r.size false p)) (s + cost false)))
                  (sym e)
                  (subst
                  (λ (y : Phase). law.Sends (direction_of r tr originator) due (sender g c y p s) (course_from F.number F.label.0 [] (cuts room F.text) (suc a))
                  (block_of (direction_of r tr originator) (fresh r.size false p) (course_from F.number F.label.0 [] (cuts room F.text) (suc a)))
                  (sender g c (out (course_from F.number F.label.0 [] (cuts room F.text) (suc a))) (some (fresh r.size false p)) (s + cost false)))
                  (sym q) law.further);
              is = sent_is F (fresh r.size false p) (s + cost false) n k.0 k.1;
            }

    -- the current block has gone out and is not due: there is no block to put
    pub early_is : (F : First room 1 o.cells) → F.gone ≡ true → Quiet false (sender g c ph p s)
    early_is F f = subst (λ (y : Phase). Quiet false (sender g c y p s)) (sym (phase_at F F.acknowledged true refl f)) early

    -- the current block again
    pub record AgainIs (F : First room 1 o.cells) : Type 0 where
      pub identifier : ℕ
      pub named : Is r (last_identifier r o) identifier
      pub sends : law.Sends (direction_of r tr originator) true (sender g c ph p s) (course_from F.number F.label.0 [] (cuts room F.text) F.acknowledged)
          (block_of (direction_of r tr originator) identifier (course_from F.number F.label.0 [] (cuts room F.text) F.acknowledged)) (sender g c ph p s)

    pub again_sends : (F : First room 1 o.cells) → F.gone ≡ true → AgainIs F
    again_sends F f = go p (bound_at (out (course_from F.number F.label.0 [] (cuts room F.text) F.acknowledged)) q).1 o.put S.put refl refl
      where
        q : ph ≡ out (course_from F.number F.label.0 [] (cuts room F.text) F.acknowledged)
        q = phase_at F F.acknowledged true refl f

        go : (x : Option ℕ) → Has x → (y : std.Option ℕ) → Same r y x → p ≡ x → o.put ≡ y → AgainIs F
        go x has y (one {c = w} {i = i} n) e d = record {
          identifier = i;
          named = subst (λ (v : std.Option ℕ). Is r (or_else v r.first) i) (sym d) n;
          sends = subst (λ (v : Option ℕ). law.Sends (direction_of r tr originator) true (sender g c ph v s) (course_from F.number F.label.0 [] (cuts room F.text) F.acknowledged)
              (block_of (direction_of r tr originator) i (course_from F.number F.label.0 [] (cuts room F.text) F.acknowledged)) (sender g c ph v s)) (sym e)
              (subst (λ (v : Phase). law.Sends (direction_of r tr originator) true (sender g c v (some i) s) (course_from F.number F.label.0 [] (cuts room F.text) F.acknowledged)
              (block_of (direction_of r tr originator) i (course_from F.number F.label.0 [] (cuts room F.text) F.acknowledged)) (sender g c v (some i) s)) (sym q) law.again);
        }
