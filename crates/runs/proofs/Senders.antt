-- The sending half of an end as a sender of the law: the relation, and what submit and outcome do to it. Assumes nothing.
use Rattle.std.proofs.Common.{◌≡◌, ℕ, suc, ◌+◌, ◌-◌, ◌<◌, ◌≤◌, Bool, true, false, cond, eqb, ◌⊎◌, List, [], ◌∷◌, ◌++◌, length, sym, refl, ap, ◌∙◌, subst, inl, inr, arith, length-append, ne_eqb, eqb-true}
use mathlib.Core.Option.{Option, none, some}
use borrow.Author.Tests.{eqb-false}
use Rattle.directions.specs.Rings.{RingRule}
use Rattle.stores.specs.Held.{Stored, stored}
use Rattle.calls.specs.declared.types.Label.{Label}
use Rattle.ends.specs.declared.types.Cell.{Cell}
use Rattle.ends.specs.declared.types.Stage.{Stage}
use Rattle.ends.specs.declared.types.Stage.TheVariants.{Unsettled, Settled}
use Rattle.calls.specs.declared.types.Outcome.{Outcome}
use Rattle.calls.specs.declared.types.Outcome.TheVariants.{Delivered, NotDelivered, InDoubt}
use Rattle.ends.specs.Model.{Outbox}
use Rattle.ends.specs.Sending.{with_cells}
use Rattle.law.specs.Senders.{Message, message, numbered, Status, unsettled, Phase, idle, ready, out}
use Rattle.runs.specs.History.{status_of, status_at, called_in}
use Rattle.runs.specs.Strings.{cuts}
use Rattle.runs.proofs.Rings.{Same}
use Rattle.runs.proofs.Cuts.{Counted}
use Rattle.runs.proofs.Cells.{phase_by, phase_of, Orderly, OrderlyBy, Between, GoodCell, Holds, Celled, here, there, phase_add, orderly_add, called_add, between_add, nth_last, holds_more, holds_add, celled_add, celled_last, below_uncalled}

-- an identifier has been put
pub data Has : Option ℕ → Type 0 where
  has : {i : ℕ} → Has (some i)

-- the mark of a withdrawal and the count of the identifiers spent, by the phase
abbrev pub Bound : ℕ → Phase → Bool → Option ℕ → ℕ → Type 0
Bound N (idle false) m p s = s ≡ 0
Bound N (idle true) m p s = s + 2 ≤ N - 1
Bound N (ready z) m p s = (m ≡ false) × (s ≡ 0)
Bound N (out z) m p s = (m ≡ false) × Has p × (s ≤ N - 1)

-- the outgoing half of an end, with what its outcomes told so far, is this sender
pub record SenderIs (r : RingRule) (room : ℕ) (told : ℕ → Status) (o : Outbox) (g : List Message) (c : ℕ → Status) (ph : Phase) (p : Option ℕ) (s : ℕ) : Type 0 where
  pub count : length g ≡ o.numbered
  pub between : Between 1 o.numbered o.cells
  pub holds : Holds room g o.cells
  pub orderly : Orderly room o.cells
  pub status : (n : ℕ) → c n ≡ called_in o.cells (told n) n
  pub gone : (n : ℕ) → 1 ≤ n → n ≤ o.numbered → Celled n o.cells ⊎ (told n ≡ unsettled → ⊥)
  pub new : (n : ℕ) → o.numbered < n → told n ≡ unsettled
  pub phase : ph ≡ phase_of room o.passing o.cells
  pub put : Same r o.put p
  pub spent : s ≡ o.spent
  pub bound : Bound r.size ph o.passing p s

-- a new end
pub new_sender_is : (r : RingRule) (room : ℕ) (o : Outbox) → o.numbered ≡ 0 → o.cells ≡ [] → o.passing ≡ false → o.spent ≡ 0 → Same r o.put none →
    SenderIs r room (λ n. unsettled) o [] (λ n. unsettled) (idle false) none 0
new_sender_is r room o n cs m s p = record {
  count = sym n;
  between = subst (Between 1 o.numbered) (sym cs) tt;
  holds = subst (Holds room []) (sym cs) tt;
  orderly = subst (Orderly room) (sym cs) tt;
  status = λ k. sym (ap (λ (xs : List (Stored Cell)). called_in xs unsettled k) cs);
  gone = λ k l h. absurd (omega (arith, n, l, h));
  new = λ k h. refl;
  phase = sym (ap (λ (xs : List (Stored Cell)). phase_of room o.passing xs) cs ∙ ap idle m);
  put = p;
  spent = sym s;
  bound = refl;
}

-- what an outcome says is not unsettled
pub settled_not : (x : Outcome) → status_of x ≡ unsettled → ⊥
settled_not Delivered e = cc
settled_not NotDelivered e = cc
settled_not InDoubt e = cc

widen : (lo lo' hi : ℕ) (cs : List (Stored Cell)) → lo ≤ lo' → Between lo' hi cs → Between lo hi cs
widen lo lo' hi [] h u = tt
widen lo lo' hi (c ∷ cs) h u = let v = u.0 in (omega (arith, h, v), u.1, u.2)

-- the cell of a message just submitted
abbrev pub fresh_cell : Outbox → Label → List ℕ → Stored Cell
fresh_cell o l t = stored (record { number = suc o.numbered; label = l; stage = Unsettled 0 false }) t

module _ (r : RingRule) (room : ℕ) (C : Counted room) where
  -- an accepted submit
  pub submit_is : {told : ℕ → Status} {o : Outbox} {g : List Message} {c : ℕ → Status} {ph : Phase} {p : Option ℕ} {s : ℕ} → SenderIs r room told o g c ph p s →
      (l : Label) (t : List ℕ) →
      GoodCell room (fresh_cell o l t) →
      SenderIs r room told (record { numbered = suc o.numbered; cells = o.cells ++ fresh_cell o l t ∷ []; put = o.put; spent = o.spent; passing = o.passing })
      (g ++ message l.0 (cuts room t) ∷ []) c ph p s
  submit_is {told = told} {o = o} {g = g} {c = c} S l t good =
      let b : Stored Cell = fresh_cell o l t in
      record {
        count = length-append g (message l.0 (cuts room t) ∷ []) ∙ (let e = S.count in omega (arith, e));
        between = between_add 1 o.numbered o.cells b (omega arith) refl S.between;
        holds = holds_add room (g ++ message l.0 (cuts room t) ∷ []) o.cells b good
            (subst (λ (k : ℕ). numbered (g ++ message l.0 (cuts room t) ∷ []) (suc k) ≡ some (message l.0 (cuts room t))) S.count (nth_last g (message l.0 (cuts room t))))
            (holds_more room g (message l.0 (cuts room t) ∷ []) o.cells S.holds);
        orderly = orderly_add room b refl o.cells (C.some (length t)) S.orderly;
        status = λ n. S.status n ∙ sym (called_add room b refl o.cells (told n) n (λ e. S.new n (omega (arith, e))));
        gone = λ n u h. gone_on n u h (eqb n (suc o.numbered)) refl;
        new = λ n h. S.new n (omega (arith, h));
        phase = S.phase ∙ sym (phase_add room b refl o.passing o.cells);
        put = S.put;
        spent = S.spent;
        bound = S.bound;
      }
    where
      b : Stored Cell
      b = fresh_cell o l t

      gone_on : (n : ℕ) → 1 ≤ n → n ≤ suc o.numbered → (x : Bool) → eqb n (suc o.numbered) ≡ x → Celled n (o.cells ++ b ∷ []) ⊎ (told n ≡ unsettled → ⊥)
      gone_on n u h true e = inl (subst (λ (k : ℕ). Celled k (o.cells ++ b ∷ [])) (sym (eqb-true n (suc o.numbered) e)) (celled_last o.cells b))
      gone_on n u h false e =
          let d = eqb-false n (suc o.numbered) e in
          elim (S.gone n u (omega (arith, h, d))) [ inl x ↦ inl (celled_add n o.cells b x) | inr x ↦ inr x ]

  -- an outcome that told and freed the oldest cell
  pub tell_is : {told : ℕ → Status} {o : Outbox} {g : List Message} {c : ℕ → Status} {ph : Phase} {p : Option ℕ} {s : ℕ} → SenderIs r room told o g c ph p s →
      (b : Stored Cell) (rest : List (Stored Cell)) (x : Outcome) → o.cells ≡ b ∷ rest → b.«record».stage ≡ Settled x →
      SenderIs r room (λ n. cond (eqb n b.«record».number) (status_of x) (told n)) (with_cells o rest) g c ph p s
  tell_is {told = told} {o = o} {g = g} {c = c} {ph = ph} S b rest x e f =
      record {
        count = S.count;
        between = widen 1 (suc b.«record».number) o.numbered rest (omega arith) cells_between.2;
        holds = (subst (Holds room g) e S.holds).2;
        orderly = subst (λ (y : Stage). OrderlyBy room b y rest (Orderly room rest)) f (subst (Orderly room) e S.orderly);
        status = λ n. S.status n ∙ ap (λ (xs : List (Stored Cell)). called_in xs (told n) n) e ∙ status_on n (eqb n b.«record».number) refl;
        gone = λ n u h. gone_on n (eqb n b.«record».number) refl (subst (λ (xs : List (Stored Cell)). Celled n xs ⊎ (told n ≡ unsettled → ⊥)) e (S.gone n u h));
        new = λ n h. let v = cells_between.1 in rw (ne_eqb n b.«record».number (λ y. omega (arith, v, h, y))) (S.new n h);
        phase = S.phase ∙ ap (phase_of room o.passing) e ∙ ap (λ (y : Stage). phase_by room b y o.passing (phase_of room o.passing rest)) f;
        put = S.put;
        spent = S.spent;
        bound = S.bound;
      }
    where
      cells_between : Between 1 o.numbered (b ∷ rest)
      cells_between = subst (Between 1 o.numbered) e S.between

      status_on : (n : ℕ) (y : Bool) → eqb n b.«record».number ≡ y →
          cond y (status_at b.«record».stage) (called_in rest (told n) n) ≡ called_in rest (cond y (status_of x) (told n)) n
      status_on n true q =
          let d = eqb-true n b.«record».number q in
          ap status_at f ∙ sym (below_uncalled (suc b.«record».number) o.numbered n rest (status_of x) cells_between.2 (omega (arith, d)))
      status_on n false q = refl

      gone_on : (n : ℕ) (y : Bool) → eqb n b.«record».number ≡ y → Celled n (b ∷ rest) ⊎ (told n ≡ unsettled → ⊥) →
          Celled n rest ⊎ (cond y (status_of x) (told n) ≡ unsettled → ⊥)
      gone_on n true q h = inr (settled_not x)
      gone_on n false q (inr h) = inr h
      gone_on n false q (inl (here d)) = absurd (eqb-false n b.«record».number q d)
      gone_on n false q (inl (there d)) = inl d
