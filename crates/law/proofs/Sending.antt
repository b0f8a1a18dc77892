-- A sender's steps keep what holds of a way: submits, acknowledgments, blocks put.
-- Assumes nothing.
use Rattle.std.proofs.Common.{◌≡◌, ℕ, zero, suc, ◌+◌, ◌%◌, ◌<◌, ◌≤◌, Bool, true, false, ◌⊎◌, List, [], ◌∷◌, ◌++◌, sym, refl, ap, ◌∙◌, subst, inl, inr, le_refl, arith, length-append}
use mathlib.Core.Option.{Option, none, some, some-injective}
use native.Mathlib.Decide.{dec_le, ℕ_discrete}
use Rattle.law.specs.Directions.{Direction, Sound, cost, fresh}
use Rattle.law.specs.Senders.{Text, Message, message, size, Status, unsettled, delivered, not_delivered, in_doubt, Course, course, number_of, index_of, Phase, idle, ready, out, Block, block_of, numbered, settle, Chosen, Unsettled}
use Rattle.law.specs.Receivers.{Part}
use Rattle.law.specs.Links.{Packet, packet, Copies, Doing, submitted, sent}
use Rattle.law.specs.Truth.{Among, GoneOut, now_out, out_before}
use Rattle.law.proofs.Ring.{window, Names, not_yet, names, fresh_is}
use Rattle.law.proofs.Packets.{the_block, each, copies_track}
use Rattle.law.proofs.Tracks.{Track, mute, stands, track_le, track_low, track_high, track_map, track_append, at_front, front}
use Rattle.law.proofs.Numbers.{numbered_append, numbered_given, nth_each, bears_more, settle_here, settle_else, settle_split}
use Rattle.law.proofs.Logs.{Log, Chain, after_gap, after_end, goes_on, top, put, put_here, put_else, put_split, whole, Lasted, Logged, Over, unused, over, no_later, logged_on, logged_new}
use Rattle.law.proofs.Ways.{Window, Phased, plain, marked, going, flying, Stands, Marks, Got, Received, Statuses, Stood, Told, Way, renew, with_back}
use Rattle.law.proofs.History.{told_plain, told_sent}

module _ {d : Direction} {h : List Doing} {g : List Message} {cl : ℕ → Status} {ph : Phase} {p : Option ℕ} {s : ℕ} {fs : List (Option Block)}
    {o : Option ℕ} {pt : Part} {ks : List (Option ℕ)} {ms : List Message} {ns : List ℕ} (W : Way d h g cl ph p s fs o pt ks ms ns) where
  -- a message more
  pub with_message : (m : Message) → size m ≤ 16 → Way d (submitted m ∷ h) (g ++ (m ∷ [])) cl ph p s fs o pt ks ms ns
  with_message m small = renew W
      (record {
        future = W.logged.future;
        past = W.logged.past;
        chain = W.logged.chain;
        near = W.logged.near;
        risen = W.logged.risen;
        texts = λ q z e. numbered_append g (number_of z) (m ∷ []) (W.logged.texts q z e);
        begun = W.logged.begun;
        sizes = sizes;
        known = simp length-append (let x = W.logged.known in omega arith);
      })
      W.phased W.forth W.back (bears_more (m ∷ []) W.borne) W.statuses
      (told_plain refl (ap (λ (x : List Message). x ++ (m ∷ [])) W.told.given) W.told)
    where
      sizes : (n : ℕ) (x : Message) → numbered (g ++ (m ∷ [])) n ≡ some x → size x ≤ 16
      sizes zero x e = let z : ◌≡◌ {A = ℕ} 0 1 = cc in absurd (omega arith)
      sizes (suc k) x e = nth_each (λ y. size y ≤ 16) g m (λ j y f. W.logged.sizes (suc j) y f) small k x e

  -- an acknowledgment that says nothing new is taken
  pub ack_stale : (x : Option ℕ) (js : List (Option ℕ)) → ks ≡ x ∷ js → Way d h g cl ph p s fs o pt js ms ns
  ack_stale x js e = with_back W js (go x (subst (λ (y : List (Option ℕ)). Track (Marks d.ring) W.a y W.r) e W.back))
    where
      go : (x : Option ℕ) → Track (Marks d.ring) W.a (x ∷ js) W.r → Track (Marks d.ring) W.a js W.r
      go none (mute t) = t
      go (some i) (stands q l w t) = track_low l t

-- the acknowledgment at hand names the last new position: that was accepted
name_of : {N i c : ℕ} → Names N (some i) c → i ≡ c % N
name_of (names l e) = e

acked_now : {d : Direction} {h : List Doing} {g : List Message} {cl : ℕ → Status} {ph : Phase} {i s : ℕ} {fs : List (Option Block)}
    {o : Option ℕ} {pt : Part} {js : List (Option ℕ)} {ms : List Message} {ns : List ℕ} (W : Way d h g cl ph (some i) s fs o pt (some i ∷ js) ms ns) →
    (W.c ≡ W.r) × Track (Marks d.ring) W.c js W.r
acked_now {d} {js = js} W = elim (front W.back) [
  | at_front q l w t ↦
      let w₁ = W.window.acked in
      let w₂ = W.window.taken in
      let w₃ = W.window.spent in
      let w₄ = W.window.room in
      let u = track_le t in
      let e : q ≡ W.c = window d.ring q W.c (omega arith) (omega arith) (sym w ∙ name_of W.putting) in
      (omega arith, subst (λ (x : ℕ). Track (Marks d.ring) x js W.r) e t)
]

-- the window closes on the last new position
shut : {N a r c s : ℕ} → Window N a r c s → c ≡ r → Window N c r c 0
shut w e =
    let w₁ = w.room in
    record { acked = omega arith; taken = w.taken; spent = omega arith; room = omega arith }

-- the current block is acknowledged: all positions up to it are
acked : {d : Direction} {h : List Doing} {g : List Message} {cl cl' : ℕ → Status} {ph ph' : Phase} {i s : ℕ} {fs : List (Option Block)}
    {o : Option ℕ} {pt : Part} {js : List (Option ℕ)} {ms : List Message} {ns : List ℕ} (W : Way d h g cl ph (some i) s fs o pt (some i ∷ js) ms ns) →
    Phased d.ring cl' W.k W.c 0 W.log ph' → Statuses cl' W.k W.log ns → Told h g cl' W.log →
    Way d h g cl' ph' (some i) 0 fs o pt js ms ns
acked W f x y =
    let e = (acked_now W).0 in
    let w₁ = W.window.acked in
    record {
      log = W.log;
      a = W.c;
      r = W.r;
      c = W.c;
      k = W.k;
      window = shut W.window e;
      putting = W.putting;
      accepted = W.accepted;
      logged = logged_on W.logged W.c (omega arith);
      phased = f;
      forth = W.forth;
      back = (acked_now W).1;
      received = W.received;
      borne = W.borne;
      statuses = x;
      told = y;
    }

phase_on : {N : ℕ} {cl : ℕ → Status} {k c s n : ℕ} {log : Log} {l t u : Text} {ds us : List Text} →
    Phased N cl k c s log (out (course n l ds t (u ∷ us))) → Phased N cl k c 0 log (ready (course n l (t ∷ ds) u us))
phase_on (flying e m x) = going refl e m x

-- it is not its message's last
pub advance : {d : Direction} {h : List Doing} {g : List Message} {cl : ℕ → Status} {i s n : ℕ} {l t u : Text} {ds us : List Text} {fs : List (Option Block)}
    {o : Option ℕ} {pt : Part} {js : List (Option ℕ)} {ms : List Message} {ns : List ℕ} →
    Way d h g cl (out (course n l ds t (u ∷ us))) (some i) s fs o pt (some i ∷ js) ms ns →
    Way d h g cl (ready (course n l (t ∷ ds) u us)) (some i) 0 fs o pt js ms ns
advance W = acked W (phase_on W.phased) W.statuses W.told

-- what the phase says where the current block has gone out
pub flown : {N : ℕ} {cl : ℕ → Status} {k c s : ℕ} {log : Log} {z : Course} → Phased N cl k c s log (out z) → (log c ≡ some z) × (number_of z ≡ k) × (cl k ≡ unsettled)
flown (flying e m x) = (e, m, x)

-- no status is another
pub apart_status : (x : Status) → x ≡ unsettled → x ≡ delivered → ⊥
apart_status x e f = let z : ◌≡◌ {A = ℕ} 0 1 = cc in omega arith

-- a settling as x: statuses and what was told, where x is neither not-delivered nor in-doubt
module _ {cl : ℕ → Status} {log : Log} (n : ℕ) (open_yet : cl n ≡ unsettled) where
  pub told_delivered : {h : List Doing} {g : List Message} → Told h g cl log → Told h g (settle cl n delivered) log
  told_delivered T = record {
    given = T.given;
    gone = T.gone;
    sent = T.sent;
    not_withdrawn = λ j e. elim (settle_split cl n delivered not_delivered j e) [
      | inl u ↦ let v = u.1 in let z : ◌≡◌ {A = ℕ} 0 1 = cc in absurd (omega arith)
      | inr u ↦ T.not_withdrawn j u.1
    ];
    doubt_withdrawn = λ j e. elim (settle_split cl n delivered in_doubt j e) [
      | inl u ↦ let v = u.1 in let z : ◌≡◌ {A = ℕ} 0 1 = cc in absurd (omega arith)
      | inr u ↦ T.doubt_withdrawn j u.1
    ];
    late = λ j e. elim (settle_split cl n delivered in_doubt j e) [
      | inl u ↦ let v = u.1 in let z : ◌≡◌ {A = ℕ} 0 1 = cc in absurd (omega arith)
      | inr u ↦ T.late j u.1
    ];
    doubtful = λ j w.
        let x = T.doubtful j w in
        settle_else cl n delivered j (λ e. let y = ap cl e in let z : ◌≡◌ {A = ℕ} 0 1 = cc in omega arith) ∙ x;
  }

  pub statuses_delivered : {k : ℕ} {ns : List ℕ} → Among n ns → Statuses cl k log ns → Statuses (settle cl n delivered) k log ns
  statuses_delivered {ns = ns} w S = record {
    earlier = λ j a b e. elim (settle_split cl n delivered unsettled j e) [
      | inl u ↦ let v = u.1 in let z : ◌≡◌ {A = ℕ} 0 1 = cc in absurd (omega arith)
      | inr u ↦ S.earlier j a b u.1
    ];
    truly = λ j e. elim (settle_split cl n delivered delivered j e) [
      | inl u ↦ subst (λ (i : ℕ). Among i ns) (sym u.0) w
      | inr u ↦ S.truly j u.1
    ];
    lasts = S.lasts;
    never = λ j e. elim (settle_split cl n delivered not_delivered j e) [
      | inl u ↦ let v = u.1 in let z : ◌≡◌ {A = ℕ} 0 1 = cc in absurd (omega arith)
      | inr u ↦ S.never j u.1
    ];
  }

-- it is its message's last: the message had completed
pub deliver : {d : Direction} {h : List Doing} {g : List Message} {cl : ℕ → Status} {i s n : ℕ} {l t : Text} {ds : List Text} {fs : List (Option Block)}
    {o : Option ℕ} {pt : Part} {js : List (Option ℕ)} {ms : List Message} {ns : List ℕ} →
    Way d h g cl (out (course n l ds t [])) (some i) s fs o pt (some i ∷ js) ms ns →
    Way d h g (settle cl n delivered) (idle false) (some i) 0 fs o pt js ms ns
deliver {cl = cl} {n = n} {l = l} {t = t} {ds = ds} {ns = ns} W =
    let e = (acked_now W).0 in
    let f = flown W.phased in
    let x : cl n ≡ unsettled = ap cl f.1 ∙ f.2 in
    let got : Among n ns = subst (λ (y : Option Course). Got y ns) (ap W.log (sym e) ∙ f.0) W.received.got in
    let here : settle cl n delivered W.k ≡ delivered = subst (λ (j : ℕ). settle cl n delivered j ≡ delivered) f.1 (settle_here cl n delivered) in
    acked W (plain refl (subst Over (sym f.0) over) (inl (λ y. apart_status (settle cl n delivered W.k) y here)))
    (statuses_delivered n x got W.statuses) (told_delivered n x W.told)

-- what stood in the log stands in it with a later position more
stood_on : {N : ℕ} {g : List Message} {k a c n i : ℕ} {log : Log} (b : ℕ) (z : Course) → Logged N g k a c log → c ≤ b → Stood log n i → Stood (put log (suc b) z) n i
stood_on {log = log} b z L l S = record {
  place = S.place;
  course_there = S.course_there;
  is = put_else log (suc b) z S.place (let x = no_later L S.place S.course_there S.is in omega arith) ∙ S.is;
  number = S.number;
  index = S.index;
}

-- a new block at position suc b
module _ {d : Direction} {h : List Doing} {g : List Message} {cl : ℕ → Status} {ph : Phase} {p : Option ℕ} {s : ℕ} {fs : List (Option Block)}
    {o : Option ℕ} {pt : Part} {ks : List (Option ℕ)} {ms : List Message} {ns : List ℕ} (W : Way d h g cl ph p s fs o pt ks ms ns)
    (b : ℕ) (z : Course) (above : W.c ≤ b) (live : cl (number_of z) ≡ unsettled) where
  new_told : (due : Bool) (pk : Packet) (ps : List Packet) → Told (sent due (number_of z) (index_of z) pk ps ∷ h) g cl (put W.log (suc b) z)
  new_told due pk ps = told_sent W.told
      (record { place = suc b; course_there = z; is = put_here W.log (suc b) z; number = refl; index = refl })
      (λ n i. stood_on b z W.logged above)
      (λ q y e. elim (put_split W.log (suc b) z y q e) [
        | inl u ↦ subst (λ (x : Course). GoneOut (number_of x) (index_of x) (sent due (number_of z) (index_of z) pk ps ∷ h)) u.1 now_out
        | inr u ↦ out_before (W.told.sent q y u.1)
      ])

  new_statuses : (j : ℕ) → ((n : ℕ) → 1 ≤ n → n < j → cl n ≡ unsettled → ⊥) → Statuses cl j (put W.log (suc b) z) (ns)
  new_statuses j old = record {
    earlier = old;
    truly = W.statuses.truly;
    lasts = λ n w. lasted_on (W.statuses.lasts n w);
    never = λ n e x. nevers n e x;
  }
    where
      lasted_on : {n : ℕ} → Lasted W.log n → Lasted (put W.log (suc b) z) n
      lasted_on {n} x = record {
        label = x.label;
        before = x.before;
        text = x.text;
        place = x.place;
        is = put_else W.log (suc b) z x.place (let y = no_later W.logged x.place (course n x.label x.before x.text []) x.is in omega arith) ∙ x.is;
      }

      nevers : (n : ℕ) → cl n ≡ not_delivered → Lasted (put W.log (suc b) z) n → ⊥
      nevers n e x = elim (put_split W.log (suc b) z (course n x.label x.before x.text []) x.place x.is) [
        | inl u ↦ let f : cl n ≡ unsettled = ap cl (sym (ap number_of u.1)) ∙ live in let w : ◌≡◌ {A = ℕ} 0 1 = cc in omega arith
        | inr u ↦ W.statuses.never n e (record { label = x.label; before = x.before; text = x.text; place = x.place; is = u.1 })
      ]

  new_block : (i t j : ℕ) (due : Bool) (pk : Packet) (ps : List Packet) (gs : List (Option Block)) →
      Logged d.ring g j W.a (suc b) (put W.log (suc b) z) → number_of z ≡ j → ((n : ℕ) → 1 ≤ n → n < j → cl n ≡ unsettled → ⊥) →
      W.a + t ≡ suc b → t < d.ring → d.ring ≤ suc b → i ≡ suc b % d.ring →
      Track (Stands d (put W.log (suc b) z)) (suc b) gs (suc b) →
      Way d (sent due (number_of z) (index_of z) pk ps ∷ h) g cl (out z) (some i) t (fs ++ gs) o pt ks ms ns
  new_block i t j due pk ps gs L nz old sp room base id tr =
      let w₂ = W.window.taken in
      let here : put W.log (suc b) z W.r ≡ W.log W.r = put_else W.log (suc b) z W.r (omega arith) in
      record {
        log = put W.log (suc b) z;
        a = W.a;
        r = W.r;
        c = suc b;
        k = j;
        window = record { acked = W.window.acked; taken = omega arith; spent = sp; room = room };
        putting = names base id;
        accepted = W.accepted;
        logged = L;
        phased = flying (put_here W.log (suc b) z) nz (subst (λ (n : ℕ). cl n ≡ unsettled) nz live);
        forth = track_append (track_high (omega arith) (track_map keeps W.forth)) tr;
        back = W.back;
        received = subst (λ (x : Option Course). Received d x pt (ns)) (sym here) W.received;
        borne = W.borne;
        statuses = new_statuses j old;
        told = new_told due pk ps;
      }
    where
      keeps : (q : ℕ) (x : Block) → q ≤ W.c → Stands d W.log q x → Stands d (put W.log (suc b) z) q x
      keeps q x l v = (v.0, put_else W.log (suc b) z q (omega arith) ∙ v.1, v.2)

  -- the place of what is put there
  new_place : (x : Block) → x ≡ block_of d (suc b % d.ring) z → Stands d (put W.log (suc b) z) (suc b) x
  new_place x e = (z, put_here W.log (suc b) z, e)

  -- copies of it join the path
  put_copies : (i t j : ℕ) (due : Bool) (a : Option ℕ) (ps : List Packet) →
      Logged d.ring g j W.a (suc b) (put W.log (suc b) z) → number_of z ≡ j → ((n : ℕ) → 1 ≤ n → n < j → cl n ≡ unsettled → ⊥) →
      W.a + t ≡ suc b → t < d.ring → d.ring ≤ suc b → i ≡ suc b % d.ring → Copies (packet a (some (block_of d i z))) ps →
      Way d (sent due (number_of z) (index_of z) (packet a (some (block_of d i z))) ps ∷ h) g cl (out z) (some i) t (fs ++ each the_block ps) o pt ks ms ns
  put_copies i t j due a ps L nz old sp room base id cs =
      new_block i t j due (packet a (some (block_of d i z))) ps (each the_block ps) L nz old sp room base id
      (copies_track the_block refl (suc b)
      (λ x e. new_place x (sym (some-injective (block_of d i z) x e) ∙ ap (λ (y : ℕ). block_of d y z) id)) cs)

-- a last block's number is over, another's is not
top_le : (z : Course) → top (some z) ≤ suc (number_of z)
top_le (course n l ds t []) = le_refl (suc n)
top_le (course n l ds t (u ∷ us)) = omega arith

over_chain : {o : Option Course} {n : ℕ} {l t : Text} {us : List Text} → Over o → Chain o (some (course n l [] t us))
over_chain unused = after_gap
over_chain over = after_end

base_of : {N : ℕ} {o : Option ℕ} {c : ℕ} → Names N o c → N ≤ suc c
base_of (not_yet e) = omega arith
base_of (names l e) = omega arith

-- what an idle phase says
idle_settled : {N : ℕ} {cl : ℕ → Status} {k c s : ℕ} {log : Log} {m : Bool} → Phased N cl k c s log (idle m) → (cl k ≡ unsettled → ⊥) ⊎ (k ≡ 0)
idle_settled (plain e v x) = x
idle_settled (marked l x) = x

plain_of : {N : ℕ} {cl : ℕ → Status} {k c s : ℕ} {log : Log} → Phased N cl k c s log (idle false) → (s ≡ 0) × Over (log c)
plain_of (plain e v x) = (e, v)

marked_of : {N : ℕ} {cl : ℕ → Status} {k c s : ℕ} {log : Log} → Phased N cl k c s log (idle true) → s + 2 < N
marked_of (marked l x) = l

-- a message that is unsettled, with none under way, is later than the last begun
later_than : {N : ℕ} {g : List Message} {cl : ℕ → Status} {k c s : ℕ} {log : Log} {m : Bool} {ns : List ℕ} (n : ℕ) →
    Phased N cl k c s log (idle m) → Statuses cl k log ns → Unsettled g cl n → k < n
later_than {cl = cl} {k = k} n ph S U = elim (dec_le (suc k) n) [
  | yes l ↦ l
  | no l ↦ elim (ℕ_discrete n k) [
    | yes e ↦ elim (idle_settled ph) [
      | inl f ↦ absurd (f (subst (λ (j : ℕ). cl j ≡ unsettled) e U.open_yet))
      | inr f ↦ let x = U.given in absurd (omega arith)
    ]
    | no e ↦ absurd (S.earlier n U.given (omega arith) U.open_yet)
  ]
]

-- all that stands in the log is of messages up to the last begun
pub low_tops : {N : ℕ} {g : List Message} {k a c : ℕ} {log : Log} (n : ℕ) → Logged N g k a c log → k < n → (q : ℕ) → top (log q) ≤ n
low_tops {k = k} {log = log} n L l q = go (log q) refl
  where
    go : (o : Option Course) → log q ≡ o → top (log q) ≤ n
    go none e = subst (λ (x : Option Course). top x ≤ n) (sym e) (omega arith)
    go (some z) e = subst (λ (x : Option Course). top x ≤ n) (sym e) (let u = L.begun q z e in let v = top_le z in omega arith)

-- what stands just before the next block of the message under way
record Ahead (cl : ℕ → Status) (k c s : ℕ) (log : Log) (z : Course) : Type 0 where
  unspent : s ≡ 0
  prior : Course
  there : log c ≡ some prior
  same_number : number_of prior ≡ number_of z
  same_message : whole prior ≡ whole z
  linked : Chain (log c) (some z)
  above : top (log c) ≤ number_of z
  last_begun : number_of z ≡ k
  live : cl (number_of z) ≡ unsettled

ahead : {N : ℕ} {cl : ℕ → Status} {k c s : ℕ} {log : Log} {z : Course} → Phased N cl k c s log (ready z) → Ahead cl k c s log z
ahead {cl = cl} (going {n = n} {l = l} {t = t} {u = u} {ds = ds} {us = us} e f m x) = record {
  unspent = e;
  prior = course n l ds t (u ∷ us);
  there = f;
  same_number = refl;
  same_message = refl;
  linked = subst (λ (o : Option Course). Chain o (some (course n l (t ∷ ds) u us))) (sym f) goes_on;
  above = subst (λ (o : Option Course). top o ≤ n) (sym f) (le_refl n);
  last_begun = m;
  live = ap cl m ∙ x;
}

module _ {d : Direction} (S : Sound d) {h : List Doing} {g : List Message} {cl : ℕ → Status} {p : Option ℕ} {s : ℕ} {fs : List (Option Block)}
    {o : Option ℕ} {pt : Part} {ks : List (Option ℕ)} {ms : List Message} {ns : List ℕ} where
  -- the first block of the message chosen goes out
  pub send_first : (m : Bool) (n : ℕ) (l t : Text) (us : List Text) (a : Option ℕ) (due : Bool) (ps : List Packet) →
      Way d h g cl (idle m) p s fs o pt ks ms ns → Chosen g cl n → numbered g n ≡ some (message l (t ∷ us)) →
      Copies (packet a (some (block_of d (fresh d.ring m p) (course n l [] t us)))) ps →
      Way d (sent due n 0 (packet a (some (block_of d (fresh d.ring m p) (course n l [] t us)))) ps ∷ h) g cl
      (out (course n l [] t us)) (some (fresh d.ring m p)) (s + cost m) (fs ++ each the_block ps) o pt ks ms ns
  send_first false n l t us a due ps W C is cs =
      let k = later_than n W.phased W.statuses C.waits in
      let base = base_of W.putting in
      let v = plain_of W.phased in
      let w₀ = v.0 in
      let w₃ = W.window.spent in
      let two = S.two in
      let id : fresh d.ring false p ≡ suc W.c % d.ring = fresh_is false (omega arith) W.putting ∙ ap (λ (j : ℕ). j % d.ring) (omega arith) in
      put_copies W W.c (course n l [] t us) (le_refl W.c) C.waits.open_yet (fresh d.ring false p) (s + 1) n due a ps
      (logged_new W.logged W.c n (course n l [] t us) (le_refl W.c) base (over_chain v.1) (inr after_gap)
      (λ q x. low_tops n W.logged k q) C.waits.given is (le_refl n) (omega arith) C.waits.within)
      refl C.oldest (omega arith) (omega arith) base id cs
  send_first true n l t us a due ps W C is cs =
      let k = later_than n W.phased W.statuses C.waits in
      let base = base_of W.putting in
      let w₀ = marked_of W.phased in
      let w₃ = W.window.spent in
      let id : fresh d.ring true p ≡ suc (suc W.c) % d.ring = fresh_is true (omega arith) W.putting ∙ ap (λ (j : ℕ). j % d.ring) (omega arith) in
      put_copies W (suc W.c) (course n l [] t us) (omega arith) C.waits.open_yet (fresh d.ring true p) (s + 2) n due a ps
      (logged_new W.logged (suc W.c) n (course n l [] t us) (omega arith) (omega arith)
      (subst (λ (x : Option Course). Chain x (some (course n l [] t us))) (sym (W.logged.future (suc W.c) (omega arith))) after_gap) (inr after_gap)
      (λ q x. low_tops n W.logged k q) C.waits.given is (le_refl n) (omega arith) C.waits.within)
      refl C.oldest (omega arith) (omega arith) (omega arith) id cs

  -- the next block of the message under way goes out
  pub send_further : (z : Course) (a : Option ℕ) (due : Bool) (ps : List Packet) → Way d h g cl (ready z) p s fs o pt ks ms ns →
      Copies (packet a (some (block_of d (fresh d.ring false p) z))) ps →
      Way d (sent due (number_of z) (index_of z) (packet a (some (block_of d (fresh d.ring false p) z))) ps ∷ h) g cl
      (out z) (some (fresh d.ring false p)) (s + cost false) (fs ++ each the_block ps) o pt ks ms ns
  send_further z a due ps W cs =
      let G = ahead W.phased in
      let base = base_of W.putting in
      let w₀ = G.unspent in
      let w₃ = W.window.spent in
      let w₅ = G.last_begun in
      let two = S.two in
      let L = W.logged in
      let id : fresh d.ring false p ≡ suc W.c % d.ring = fresh_is false (omega arith) W.putting ∙ ap (λ (j : ℕ). j % d.ring) (omega arith) in
      let text : numbered g (number_of z) ≡ some (whole z) =
      ap (numbered g) (sym G.same_number) ∙ L.texts W.c G.prior G.there ∙ ap {B = Option Message} some G.same_message in
      put_copies W W.c z (le_refl W.c) G.live (fresh d.ring false p) (s + 1) W.k due a ps
      (logged_new L W.c W.k z (le_refl W.c) base G.linked (inl (omega arith))
      (λ q x. elim (ℕ_discrete q W.c) [
        | yes e ↦ subst (λ (j : ℕ). top (W.log j) ≤ number_of z) (sym e) G.above
        | no e ↦ let y = L.risen q W.c G.prior (omega arith) G.there in let v = G.same_number in omega arith
      ])
      (numbered_given g (number_of z) text) text (omega arith) (le_refl W.k) L.known)
      w₅ W.statuses.earlier (omega arith) (omega arith) base id cs

-- the current block goes out again
pub send_again : {d : Direction} {h : List Doing} {g : List Message} {cl : ℕ → Status} {s : ℕ} {fs : List (Option Block)}
    {o : Option ℕ} {pt : Part} {ks : List (Option ℕ)} {ms : List Message} {ns : List ℕ} (z : Course) (i : ℕ) (a : Option ℕ) (ps : List Packet) → Way d h g cl (out z) (some i) s fs o pt ks ms ns →
    Copies (packet a (some (block_of d i z))) ps →
    Way d (sent true (number_of z) (index_of z) (packet a (some (block_of d i z))) ps ∷ h) g cl (out z) (some i) s (fs ++ each the_block ps) o pt ks ms ns
send_again {d} z i a ps W cs = renew W W.logged W.phased
    (track_append W.forth (copies_track the_block refl W.c
    (λ x e. (z, (flown W.phased).0, sym (some-injective (block_of d i z) x e) ∙ ap (λ (y : ℕ). block_of d y z) (name_of W.putting))) cs))
    W.back W.borne W.statuses
    (told_sent W.told (record { place = W.c; course_there = z; is = (flown W.phased).0; number = refl; index = refl })
    (λ n j x. x) (λ q y e. out_before (W.told.sent q y e)))
