-- A receiver's steps keep what holds of a way; the two refusals that never arise.
-- Assumes nothing.
use Rattle.std.proofs.Common.{◌≡◌, ℕ, suc, ◌%◌, ◌<◌, ◌≤◌, true, List, [], ◌∷◌, ◌++◌, reverse, length, sym, refl, ap, ◌∙◌, subst, inl, inr, append_assoc, append-nil, le_refl, arith}
use mathlib.Core.List.{reverse_aux}
use mathlib.Core.Option.{Option, none, some, some-injective}
use Rattle.law.specs.Directions.{Direction, Sound, Turn, opens, is_next}
use Rattle.law.specs.Senders.{Text, Message, message, Status, Course, course, number_of, Phase, Block, block_of}
use Rattle.law.specs.Receivers.{Part, closed, open_part, Receiver, receiver, place_of, identifier, joined, joining, Took, stray, seventeenth, Takes, takes_duplicate, takes_part, takes_last, refuses_stray, refuses_seventeenth, refuses_crowded}
use Rattle.law.specs.Links.{Doing}
use Rattle.law.specs.Truth.{Bears, Extends}
use Rattle.law.proofs.Ring.{Names, names, is_next_yes, is_next_no, names_new}
use Rattle.law.proofs.Tracks.{Track, track_le, track_low, track_high, at_front, front}
use Rattle.law.proofs.Numbers.{Rising, rising_widen, rising_add, among_left, among_last, among_split, bears_add, length_rev}
use Rattle.law.proofs.Logs.{Log, Chain, Lasted, Logged, Over, chain_over, chain_back, over_shut, no_later}
use Rattle.law.proofs.Ways.{Window, Stands, part_after, Received, Statuses, Way, with_forth}

-- nothing more was numbered
pub same_numbers : (ns : List ℕ) → Extends ns ns
same_numbers ns = record { more = []; is = sym (append-nil ns) }

-- label and texts after a course's current block has joined
abbrev pub so_far : Course → Text × List Text
so_far (course n l ds t us) = (l, t ∷ ds)

its_identifier : (d : Direction) (i : ℕ) (z : Course) → identifier (block_of d i z) ≡ i
its_identifier d i (course n l ds t us) = refl

-- what stands right after the last accepted position
at_next : {N : ℕ} {g : List Message} {k a c q r : ℕ} {log : Log} {z : Course} → Logged N g k a c log → log q ≡ some z → q ≡ suc r → Chain (log r) (some z)
at_next {r = r} {log = log} L e h = subst (λ (x : Option Course). Chain (log r) x) (ap log (sym h) ∙ e) (L.chain r)

-- the two refusals that never arise
pub data Never : Took → Type 0 where
  never_stray : Never stray
  never_seventeenth : Never seventeenth

module _ (d : Direction) (S : Sound d) where
  -- a new block that stands in the log opens or continues as it should
  pub joins_right : {g : List Message} {k a r c s : ℕ} {log : Log} {o : Option ℕ} {pt : Part} {ns : List ℕ} →
      Window d.ring a r c s → Names d.ring o r → Logged d.ring g k a c log → Received d (log r) pt ns →
      (q : ℕ) (z : Course) → r < q → log q ≡ some z → joining d o pt (block_of d (q % d.ring) z) ≡ some (so_far z)
  joins_right {r = r} {c = c} {log = log} {o = o} {pt = pt} w nm L rc q (course n l [] t us) lt e =
      ap (λ (x : Turn). joined x pt l t) (go (log r) refl rc.part)
    where
      two : 2 ≤ d.ring
      two = S.two

      go : (w : Option Course) → log r ≡ w → pt ≡ part_after d w → d.turn (is_next d.ring o (q % d.ring)) (place_of pt) (d.place n 0) ≡ opens
      go none f p = rw p (S.alone n (is_next d.ring o (q % d.ring)))
      go (some (course m j es x [])) f p = rw p (S.alone n (is_next d.ring o (q % d.ring)))
      go (some (course m j es x (y ∷ ys))) f p =
          let far : q ≡ suc r → ⊥ = λ h. over_shut (subst Over f (chain_over (at_next L e h) tt)) tt in
          let b = no_later L q (course n l [] t us) e in
          rw (is_next_no q (omega arith) (omega arith) (omega arith) nm) (S.apart n (place_of pt))
  joins_right {r = r} {log = log} {o = o} {pt = pt} w nm L rc q (course n l (x ∷ ds) t us) lt e =
      let two = S.two in
      let near = L.near q n l x t ds us e in
      let h : q ≡ suc r = omega arith in
      let back : log r ≡ some (course n l ds x (t ∷ us)) = chain_back (at_next L e h) in
      let p : pt ≡ open_part (d.place n (length ds)) l (x ∷ ds) = rc.part ∙ ap (part_after d) back in
      let yes-next : is_next d.ring o (q % d.ring) ≡ true =
      subst (λ (j : ℕ). is_next d.ring o (j % d.ring) ≡ true) (sym h) (is_next_yes (omega arith) (L.past r (course n l ds x (t ∷ us)) back) nm) in
      rw (yes-next, p, S.follows n (length ds))

  module _ {h : List Doing} {g : List Message} {cl : ℕ → Status} {ph : Phase} {p : Option ℕ} {s : ℕ} {fs : List (Option Block)}
      {o : Option ℕ} {pt : Part} {ks : List (Option ℕ)} {ms : List Message} {ns : List ℕ} (W : Way d h g cl ph p s fs o pt ks ms ns) where
    -- the block at position q is accepted; ns' are the numbers completed then
    accept : (q : ℕ) (z : Course) (gs : List (Option Block)) (pt' : Part) (ns' : List ℕ) (ms' : List Message) → W.r < q → W.log q ≡ some z →
        Track (Stands d W.log) q gs W.c → Received d (some z) pt' ns' → Bears g ns' ms' →
        Statuses cl W.k W.log ns' → Way d h g cl ph p s gs (some (q % d.ring)) pt' ks ms' ns'
    accept q z gs pt' ns' ms' lt e t rc b st =
        let hi = track_le t in
        let lo = W.window.acked in
        record {
          log = W.log;
          a = W.a;
          r = q;
          c = W.c;
          k = W.k;
          window = record { acked = omega arith; taken = hi; spent = W.window.spent; room = W.window.room };
          putting = W.putting;
          accepted = names (W.logged.past q z e) refl;
          logged = W.logged;
          phased = W.phased;
          forth = t;
          back = track_high (omega arith) W.back;
          received = subst (λ (x : Option Course). Received d x pt' ns') (sym e) rc;
          borne = b;
          statuses = st;
          told = W.told;
        }

    -- what stands after the last accepted position has no smaller number than those completed allow
    higher : (q : ℕ) (z : Course) → W.r < q → W.log q ≡ some z → Rising 1 ns (number_of z)
    higher q z lt e = rising_widen (W.logged.risen W.r q z lt e) W.received.rising

    -- a last block of message n completes it
    complete_statuses : (q n : ℕ) (l t : Text) (ds : List Text) → W.log q ≡ some (course n l ds t []) →
        Statuses cl W.k W.log (ns ++ (n ∷ []))
    complete_statuses q n l t ds e = record {
      earlier = W.statuses.earlier;
      truly = λ j f. among_left (n ∷ []) (W.statuses.truly j f);
      lasts = λ j w. elim (among_split ns w) [
        | inl u ↦ W.statuses.lasts j u
        | inr u ↦ subst (λ (i : ℕ). Lasted W.log i) (sym u) (record { label = l; before = ds; text = t; place = q; is = e })
      ];
      never = W.statuses.never;
    }

    -- a block of the log that is not a duplicate stands after the last accepted one
    later : (q : ℕ) (z : Course) → W.r ≤ q → W.log q ≡ some z → (o ≡ some (q % d.ring) → ⊥) → W.r < q
    later q z le e new = names_new q (W.logged.past q z e) le W.accepted new

    -- and joins as it should
    joins_here : (q : ℕ) (z : Course) → W.r ≤ q → W.log q ≡ some z → (o ≡ some (q % d.ring) → ⊥) → joining d o pt (block_of d (q % d.ring) z) ≡ some (so_far z)
    joins_here q z le e new = joins_right W.window W.accepted W.logged W.received q z (later q z le e new) e

    joins_front : {b : Block} (q : ℕ) (y : Stands d W.log q b) → W.r ≤ q → (o ≡ some (identifier b) → ⊥) → joining d o pt b ≡ some (so_far y.0)
    joins_front q y le new = ap (joining d o pt) y.2 ∙
        joins_here q y.0 le y.1 (λ v. new (v ∙ ap {B = Option ℕ} some (sym (ap identifier y.2 ∙ its_identifier d (q % d.ring) y.0))))

    -- it is never a seventeenth
    few : (q : ℕ) (z : Course) → W.log q ≡ some z → length (so_far z).1 ≤ 16
    few q (course n l ds t us) e =
        let f = W.logged.texts q (course n l ds t us) e in
        let b = W.logged.sizes n (message l (reverse_aux ds (t ∷ us))) f in
        let k = length_rev ds (t ∷ us) in
        omega arith

  -- the block at position q is taken
  take_at : {h : List Doing} {g : List Message} {cl : ℕ → Status} {ph : Phase} {p : Option ℕ} {s : ℕ} {fs : List (Option Block)} {ns : List ℕ}
      (q : ℕ) (z : Course) {o : Option ℕ} {pt : Part} {ks : List (Option ℕ)} (ys xs : List Message)
      (W : Way d h g cl ph p s fs o pt ks (ys ++ xs) ns) (gs : List (Option Block)) {x : Took} {o' : Option ℕ} {pt' : Part} {xs' : List Message} →
      W.r ≤ q → W.log q ≡ some z → Track (Stands d W.log) q gs W.c →
      Takes d (receiver o pt xs) (block_of d (q % d.ring) z) x (receiver o' pt' xs') →
      (ns' : List ℕ) × Extends ns ns' × Way d h g cl ph p s gs o' pt' ks (ys ++ xs') ns'
  take_at {ns = ns} q (course n l ds t []) ys xs W gs le e w takes_duplicate = (ns, same_numbers ns, with_forth W gs (track_low le w))
  take_at {g = g} {ns = ns} q (course n l ds t []) ys xs W gs le e w (takes_last {k = k} {ts = ts} new j small room) =
      let f : (k, ts) ≡ (l, t ∷ ds) = some-injective (k, ts) (l, t ∷ ds) (sym j ∙ joins_here W q (course n l ds t []) le e new) in
      let lt = later W q (course n l ds t []) le e new in
      let m : message l (reverse_aux ds (t ∷ [])) ≡ message k (reverse ts) = ap (λ (y : Text × List Text). message y.0 (reverse y.1)) (sym f) in (
        ns ++ (n ∷ []),
        record { more = n ∷ []; is = refl },
        accept W q (course n l ds t []) gs closed (ns ++ (n ∷ [])) (ys ++ (xs ++ (message k (reverse ts) ∷ []))) lt e w
            (record { part = refl; rising = rising_add (le_refl n) (higher W q (course n l ds t []) lt e); got = among_last ns n })
            (subst (λ (y : List Message). Bears g (ns ++ (n ∷ [])) y) (append_assoc ys xs (message k (reverse ts) ∷ []))
            (bears_add n (message k (reverse ts)) (W.logged.texts q (course n l ds t []) e ∙ ap {B = Option Message} some m) W.borne))
            (complete_statuses W q n l t ds e),
      )
  take_at {ns = ns} q (course n l ds t []) ys xs W gs le e w (refuses_stray new j) = (ns, same_numbers ns, with_forth W gs (track_low le w))
  take_at {ns = ns} q (course n l ds t []) ys xs W gs le e w (refuses_seventeenth new j many) = (ns, same_numbers ns, with_forth W gs (track_low le w))
  take_at {ns = ns} q (course n l ds t []) ys xs W gs le e w (refuses_crowded new j small full) = (ns, same_numbers ns, with_forth W gs (track_low le w))
  take_at {ns = ns} q (course n l ds t (u ∷ us)) ys xs W gs le e w takes_duplicate = (ns, same_numbers ns, with_forth W gs (track_low le w))
  take_at {g = g} {cl = cl} {ns = ns} q (course n l ds t (u ∷ us)) ys xs W gs le e w (takes_part {k = k} {ts = ts} new j small) =
      let f : (k, ts) ≡ (l, t ∷ ds) = some-injective (k, ts) (l, t ∷ ds) (sym j ∙ joins_here W q (course n l ds t (u ∷ us)) le e new) in
      let lt = later W q (course n l ds t (u ∷ us)) le e new in (
        ns,
        same_numbers ns,
        accept W q (course n l ds t (u ∷ us)) gs (open_part (d.place n (length ds)) k ts) ns (ys ++ xs) lt e w
            (record {
              part = ap (λ (y : Text × List Text). open_part (d.place n (length ds)) y.0 y.1) f;
              rising = higher W q (course n l ds t (u ∷ us)) lt e;
              got = tt;
            })
            W.borne W.statuses,
      )
  take_at {ns = ns} q (course n l ds t (u ∷ us)) ys xs W gs le e w (refuses_stray new j) = (ns, same_numbers ns, with_forth W gs (track_low le w))
  take_at {ns = ns} q (course n l ds t (u ∷ us)) ys xs W gs le e w (refuses_seventeenth new j many) = (ns, same_numbers ns, with_forth W gs (track_low le w))

  -- the first that waits is taken
  pub take : {h : List Doing} {g : List Message} {cl : ℕ → Status} {ph : Phase} {p : Option ℕ} {s : ℕ} {b : Block} {fs : List (Option Block)} {ns : List ℕ}
      {o : Option ℕ} {pt : Part} {ks : List (Option ℕ)} (ys : List Message) {xs : List Message} {x : Took} {o' : Option ℕ} {pt' : Part} {xs' : List Message}
      (W : Way d h g cl ph p s (some b ∷ fs) o pt ks (ys ++ xs) ns) → Takes d (receiver o pt xs) b x (receiver o' pt' xs') →
      (ns' : List ℕ) × Extends ns ns' × Way d h g cl ph p s fs o' pt' ks (ys ++ xs') ns'
  take {fs = fs} {o = o} {pt = pt} ys {xs} {x} {o'} {pt'} {xs'} W tk = elim (front W.forth) [
    | at_front q l y w ↦ take_at q y.0 ys xs W fs l y.1 w (subst (λ (c : Block). Takes d (receiver o pt xs) c x (receiver o' pt' xs')) y.2 tk)
  ]

  -- a block that waits is never refused as one that neither opens nor continues, nor as a seventeenth
  pub never_refused : {h : List Doing} {g : List Message} {cl : ℕ → Status} {ph : Phase} {p : Option ℕ} {s : ℕ} {b : Block} {fs : List (Option Block)}
      {o : Option ℕ} {pt : Part} {ks : List (Option ℕ)} {ms : List Message} {ns : List ℕ} {xs : List Message} {x : Took} {rc : Receiver}
      (W : Way d h g cl ph p s (some b ∷ fs) o pt ks ms ns) → Never x → Takes d (receiver o pt xs) b x rc → ⊥
  never_refused {o = o} {pt = pt} W never_stray (refuses_stray new j) = elim (front W.forth) [
    | at_front q l y w ↦
        let f = joins_front W q y l new in
        let z : ◌≡◌ {A = ℕ} 0 1 = cc in absurd (omega arith)
  ]
  never_refused {o = o} {pt = pt} W never_seventeenth (refuses_seventeenth {k = k} {ts = ts} new j many) = elim (front W.forth) [
    | at_front q l y w ↦
        let g = some-injective (so_far y.0) (k, ts) (sym (joins_front W q y l new) ∙ j) in
        let v = ap (λ (x : Text × List Text). length x.1) g in
        let u = few W q y.0 y.1 in
        absurd (omega arith)
  ]
