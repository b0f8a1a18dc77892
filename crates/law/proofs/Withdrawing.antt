-- A withdrawal keeps what holds of a way.
-- Assumes nothing.
use Rattle.std.proofs.Common.{◌≡◌, ℕ, suc, ◌+◌, ◌-◌, ◌<◌, ◌≤◌, true, ◌⊎◌, List, [], ◌∷◌, length, sym, refl, ap, ◌∙◌, subst, inl, inr, arith}
use mathlib.Core.Option.{Option, some, some-injective}
use native.Mathlib.Decide.{dec_le, ℕ_discrete}
use Rattle.law.specs.Directions.{Direction}
use Rattle.law.specs.Senders.{Text, Message, size, Status, unsettled, delivered, not_delivered, in_doubt, Course, course, number_of, index_of, Phase, idle, ready, out, Block, numbered, settle, Unsettled, Begun, between, current, verdict}
use Rattle.law.specs.Receivers.{Part}
use Rattle.law.specs.Links.{Doing, withdrew}
use Rattle.law.specs.Truth.{Withdrawn, GoneOut, out_before, now_made, made, WithdrawnLate, now_late, late_before, LastOut}
use Rattle.law.proofs.Numbers.{settle_here, settle_else, settle_split, length_rev}
use Rattle.law.proofs.Logs.{Log, top, whole, Lasted, Logged, no_later}
use Rattle.law.proofs.Sending.{flown}
use Rattle.law.proofs.Ways.{Phased, plain, marked, going, flying, Statuses, Told, Way, renew}

-- no last block of n stands where a block of n with more to come is the last new one
no_last : {N : ℕ} {g : List Message} {k a c n : ℕ} {l t u : Text} {ds us : List Text} {log : Log} →
    Logged N g k a c log → log c ≡ some (course n l ds t (u ∷ us)) → Lasted log n → ⊥
no_last {c = c} {n = n} {l = l} {t = t} {u = u} {ds = ds} {us = us} {log = log} L e x =
    let z = course n x.label x.before x.text [] in
    let m = no_later L x.place z x.is in
    elim (ℕ_discrete x.place c) [
      | yes f ↦
          let y : some (course n x.label x.before x.text []) ≡ some (course n l ds t (u ∷ us)) = sym x.is ∙ ap log f ∙ e in
          let w : ◌≡◌ {A = ℕ} 0 1 = cc in omega arith
      | no f ↦
          let r = L.risen x.place c (course n l ds t (u ∷ us)) (omega arith) e in
          let v : suc n ≤ n = subst (λ (o : Option Course). top o ≤ n) x.is r in
          omega arith
    ]

-- the last block of n has gone out exactly when it stands in the log
last_out : {N : ℕ} {h : List Doing} {g : List Message} {cl : ℕ → Status} {k a c n : ℕ} {log : Log} →
    Logged N g k a c log → Told h g cl log → Lasted log n → LastOut h n
last_out {g = g} {n = n} L T x =
    let z = course n x.label x.before x.text [] in
    let f = length_rev x.before (x.text ∷ []) in
    record {
      text = whole z;
      index = length x.before;
      is = ap (λ (y : List Message). numbered y n) T.given ∙ L.texts x.place z x.is;
      last = omega arith;
      gone = T.sent x.place z x.is;
    }

lasted : {N : ℕ} {h : List Doing} {g : List Message} {cl : ℕ → Status} {k a c n : ℕ} {log : Log} →
    Logged N g k a c log → Told h g cl log → LastOut h n → Lasted log n
lasted {g = g} {n = n} {log = log} L T x =
    let y = T.gone n x.index x.gone in
    go y.course_there y.place y.is y.number y.index x.text (ap (λ (v : List Message). numbered v n) (sym T.given) ∙ x.is) x.last
  where
    go : (z : Course) (q : ℕ) {i : ℕ} → log q ≡ some z → number_of z ≡ n → index_of z ≡ i → (m : Message) → numbered g n ≡ some m → suc i ≡ size m → Lasted log n
    go (course b l ds t []) q e f j m v w = subst (λ (y : ℕ). Lasted log y) f (record { label = l; before = ds; text = t; place = q; is = e })
    go (course b l ds t (u ∷ us)) q e f j m v w =
        let y : whole (course b l ds t (u ∷ us)) ≡ m = some-injective (whole (course b l ds t (u ∷ us))) m (sym (L.texts q (course b l ds t (u ∷ us)) e) ∙ ap (numbered g) f ∙ v) in
        let y₁ = ap size y in
        let y₂ = length_rev ds (t ∷ u ∷ us) in
        absurd (omega arith)

-- withdrawn late by the newest call, or before
late_split : {j n : ℕ} {h : List Doing} → WithdrawnLate j (withdrew n ∷ h) → ((n ≡ j) × LastOut h j) ⊎ WithdrawnLate j h
late_split (now_late x) = inl (refl, x)
late_split (late_before w) = inr w

withdrew_gone : {j i n : ℕ} {h : List Doing} → GoneOut j i (withdrew n ∷ h) → GoneOut j i h
withdrew_gone (out_before w) = w

-- a withdrawn message is called in doubt exactly where its last block stands in the log
abbrev Judged : Log → ℕ → Status → Type 0
Judged log n st = ((st ≡ not_delivered) × (Lasted log n → ⊥)) ⊎ ((st ≡ in_doubt) × Lasted log n)

judged_not : {log : Log} {n : ℕ} {st : Status} → Judged log n st → st ≡ not_delivered → Lasted log n → ⊥
judged_not (inl u) e x = u.1 x
judged_not (inr u) e x = let f = u.0 in let w : ◌≡◌ {A = ℕ} 0 1 = cc in omega arith

judged_doubt : {log : Log} {n : ℕ} {st : Status} → Judged log n st → st ≡ in_doubt → Lasted log n
judged_doubt (inl u) e = let f = u.0 in let w : ◌≡◌ {A = ℕ} 0 1 = cc in absurd (omega arith)
judged_doubt (inr u) e = u.1

judged_last : {log : Log} {n : ℕ} {st : Status} → Judged log n st → Lasted log n → st ≡ in_doubt
judged_last (inl u) x = absurd (u.1 x)
judged_last (inr u) x = u.0

judged_settled : {log : Log} {n : ℕ} {st : Status} → Judged log n st → st ≡ unsettled → ⊥
judged_settled (inl u) e = let f = u.0 in let w : ◌≡◌ {A = ℕ} 0 1 = cc in omega arith
judged_settled (inr u) e = let f = u.0 in let w : ◌≡◌ {A = ℕ} 0 1 = cc in omega arith

judged_withdrawn : {log : Log} {n : ℕ} {st : Status} → Judged log n st → st ≡ delivered → ⊥
judged_withdrawn (inl u) e = let f = u.0 in let w : ◌≡◌ {A = ℕ} 0 1 = cc in omega arith
judged_withdrawn (inr u) e = let f = u.0 in let w : ◌≡◌ {A = ℕ} 0 1 = cc in omega arith

module _ {d : Direction} {h : List Doing} {g : List Message} {cl : ℕ → Status} {ph : Phase} {p : Option ℕ} {s : ℕ} {fs : List (Option Block)}
    {o : Option ℕ} {pt : Part} {ks : List (Option ℕ)} {ms : List Message} {ns : List ℕ} (W : Way d h g cl ph p s fs o pt ks ms ns)
    (n : ℕ) (st : Status) (live : cl n ≡ unsettled) (J : Judged W.log n st) where
  withdrawn_told : Told (withdrew n ∷ h) g (settle cl n st) W.log
  withdrawn_told = record {
    given = W.told.given;
    gone = λ j i w. W.told.gone j i (withdrew_gone w);
    sent = λ q z e. out_before (W.told.sent q z e);
    not_withdrawn = λ j e. elim (settle_split cl n st not_delivered j e) [
      | inl u ↦ subst (λ (i : ℕ). Withdrawn (withdrew n ∷ h) i) (sym u.0) now_made
      | inr u ↦ made (W.told.not_withdrawn j u.1)
    ];
    doubt_withdrawn = λ j e. elim (settle_split cl n st in_doubt j e) [
      | inl u ↦ subst (λ (i : ℕ). Withdrawn (withdrew n ∷ h) i) (sym u.0) now_made
      | inr u ↦ made (W.told.doubt_withdrawn j u.1)
    ];
    late = λ j e. elim (settle_split cl n st in_doubt j e) [
      | inl u ↦ subst (λ (i : ℕ). WithdrawnLate i (withdrew n ∷ h)) (sym u.0) (now_late (last_out W.logged W.told (judged_doubt J u.1)))
      | inr u ↦ late_before (W.told.late j u.1)
    ];
    doubtful = λ j w. elim (late_split w) [
      | inl u ↦ subst (λ (i : ℕ). settle cl n st i ≡ in_doubt) u.0
          (settle_here cl n st ∙ judged_last J (lasted W.logged W.told (subst (λ (i : ℕ). LastOut h i) (sym u.0) u.1)))
      | inr u ↦
          let x = W.told.doubtful j u in
          settle_else cl n st j (λ e. let y = ap cl e in let z : ◌≡◌ {A = ℕ} 0 1 = cc in omega arith) ∙ x
    ];
  }

  withdrawn_statuses : Statuses (settle cl n st) W.k W.log (ns)
  withdrawn_statuses = record {
    earlier = λ j a b e. elim (settle_split cl n st unsettled j e) [
      | inl u ↦ judged_settled J u.1
      | inr u ↦ W.statuses.earlier j a b u.1
    ];
    truly = λ j e. elim (settle_split cl n st delivered j e) [
      | inl u ↦ absurd (judged_withdrawn J u.1)
      | inr u ↦ W.statuses.truly j u.1
    ];
    lasts = W.statuses.lasts;
    never = λ j e. elim (settle_split cl n st not_delivered j e) [
      | inl u ↦ subst (λ (i : ℕ). Lasted W.log i → ⊥) (sym u.0) (judged_not J u.1)
      | inr u ↦ W.statuses.never j u.1
    ];
  }

  withdrawn_as : (ph' : Phase) → Phased d.ring (settle cl n st) W.k W.c s W.log ph' →
      Way d (withdrew n ∷ h) g (settle cl n st) ph' p s fs o pt ks ms ns
  withdrawn_as ph' f = renew W W.logged f W.forth W.back W.borne withdrawn_statuses withdrawn_told

  -- of the message under way: one identifier is to be passed over
  withdrawn_begun : n ≡ W.k → s + 2 ≤ d.ring - 1 → Way d (withdrew n ∷ h) g (settle cl n st) (idle true) p s fs o pt ks ms ns
  withdrawn_begun e l = withdrawn_as (idle true)
      (marked (omega arith) (inl (λ f. judged_settled J (sym (settle_here cl n st) ∙ ap (settle cl n st) e ∙ f))))

-- a message under way whose current block has not gone out
pub under_way : {N : ℕ} {g : List Message} {cl : ℕ → Status} {k a c s n : ℕ} {log : Log} {l t : Text} {ds us : List Text} →
    Logged N g k a c log → Phased N cl k c s log (ready (course n l ds t us)) → (Lasted log n → ⊥) × (n ≡ k) × (cl k ≡ unsettled)
under_way L (going e f m x) = (no_last L f, m, x)

-- an unsettled last begun message is under way
begun_or : {N : ℕ} {cl : ℕ → Status} {k c s : ℕ} {log : Log} {ph : Phase} → Phased N cl k c s log ph → cl k ≡ unsettled → Begun ph k ⊎ (k ≡ 0)
begun_or (plain e v (inl f)) u = absurd (f u)
begun_or (plain e v (inr f)) u = inr f
begun_or (marked l (inl f)) u = absurd (f u)
begun_or (marked l (inr f)) u = inr f
begun_or (going {n = n} {l = l} {t = t} {u = v} {ds = ds} {us = us} e f m x) u =
    inl (subst (λ (j : ℕ). Begun (ready (course n l (t ∷ ds) v us)) j) m between)
begun_or (flying {z = course n l ds t us} e m x) u = inl (subst (λ (j : ℕ). Begun (out (course n l ds t us)) j) m current)

-- an unsettled message that is not under way is later than the last begun
not_begun : {N : ℕ} {g : List Message} {cl : ℕ → Status} {k c s n : ℕ} {log : Log} {ph : Phase} {ns : List ℕ} →
    Phased N cl k c s log ph → Statuses cl k log ns → Unsettled g cl n → (Begun ph n → ⊥) → k < n
not_begun {cl = cl} {k = k} {n = n} {ph = ph} P S U f = elim (dec_le (suc k) n) [
  | yes l ↦ l
  | no l ↦ elim (ℕ_discrete n k) [
    | yes e ↦ elim (begun_or P (subst (λ (j : ℕ). cl j ≡ unsettled) e U.open_yet)) [
      | inl x ↦ absurd (f (subst (λ (j : ℕ). Begun ph j) (sym e) x))
      | inr x ↦ let y = U.given in absurd (omega arith)
    ]
    | no e ↦ absurd (S.earlier n U.given (omega arith) U.open_yet)
  ]
]

-- what a phase says stays where a later message is settled
phased_else : {N : ℕ} {cl : ℕ → Status} {k c s n : ℕ} {log : Log} {ph : Phase} (st : Status) → k < n →
    Phased N cl k c s log ph → Phased N (settle cl n st) k c s log ph
phased_else {cl = cl} {k = k} {n = n} st l P = go P (settle_else cl n st k (omega arith))
  where
    ended_else : {x y : Status} → y ≡ x → (x ≡ unsettled → ⊥) ⊎ (k ≡ 0) → (y ≡ unsettled → ⊥) ⊎ (k ≡ 0)
    ended_else e (inl f) = inl (λ g. f (sym e ∙ g))
    ended_else e (inr f) = inr f

    go : {N c s : ℕ} {log : Log} {ph : Phase} → Phased N cl k c s log ph → settle cl n st k ≡ cl k → Phased N (settle cl n st) k c s log ph
    go (plain e v x) q = plain e v (ended_else q x)
    go (marked m x) q = marked m (ended_else q x)
    go (going e f m x) q = going e f m (q ∙ x)
    go (flying e m x) q = flying e m (q ∙ x)

module _ {d : Direction} {h : List Doing} {g : List Message} {cl : ℕ → Status} {p : Option ℕ} {s : ℕ} {fs : List (Option Block)}
    {o : Option ℕ} {pt : Part} {ks : List (Option ℕ)} {ms : List Message} {ns : List ℕ} where
  pub withdraw_ready : {n : ℕ} {l t : Text} {ds us : List Text} → s + 2 ≤ d.ring - 1 → Way d h g cl (ready (course n l ds t us)) p s fs o pt ks ms ns →
      Way d (withdrew n ∷ h) g (settle cl n not_delivered) (idle true) p s fs o pt ks ms ns
  withdraw_ready {n} room W =
      let f = under_way W.logged W.phased in
      withdrawn_begun W n not_delivered (ap cl f.1 ∙ f.2) (inl (refl, f.0)) f.1 room

  pub withdraw_out : {n : ℕ} {l t : Text} {ds : List Text} (us : List Text) → s + 2 ≤ d.ring - 1 → Way d h g cl (out (course n l ds t us)) p s fs o pt ks ms ns →
      Way d (withdrew n ∷ h) g (settle cl n (verdict us)) (idle true) p s fs o pt ks ms ns
  withdraw_out {n} {l} {t} {ds} [] room W =
      let f = flown W.phased in
      withdrawn_begun W n in_doubt (ap cl f.1 ∙ f.2)
      (inr (refl, record { label = l; before = ds; text = t; place = W.c; is = f.0 })) f.1 room
  withdraw_out {n} {l} {t} {ds} (u ∷ us) room W =
      let f = flown W.phased in
      withdrawn_begun W n not_delivered (ap cl f.1 ∙ f.2) (inl (refl, no_last W.logged f.0)) f.1 room

  pub withdraw_unbegun : {ph : Phase} {n : ℕ} → Unsettled g cl n → (Begun ph n → ⊥) → Way d h g cl ph p s fs o pt ks ms ns →
      Way d (withdrew n ∷ h) g (settle cl n not_delivered) ph p s fs o pt ks ms ns
  withdraw_unbegun {ph} {n} U fresh W =
      let l = not_begun W.phased W.statuses U fresh in
      withdrawn_as W n not_delivered U.open_yet
      (inl (refl, λ x. let y = W.logged.begun x.place (course n x.label x.before x.text []) x.is in omega arith))
      ph (phased_else not_delivered l W.phased)
