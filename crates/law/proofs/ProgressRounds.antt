-- A clean round acknowledges exactly one block while a sender has any to do, and r rounds min (r, u). Assumes nothing.
use Rattle.std.proofs.Common.{◌≡◌, ℕ, suc, ◌+◌, min, Bool, true, false, List, [], ◌∷◌, ◌++◌, length, sym, refl, ap, ◌∙◌, subst, arith}
use mathlib.Core.Option.{Option, none, some}
use Rattle.law.specs.Directions.{Direction, Sound}
use Rattle.law.specs.Senders.{Message, Sender, Block, Counts}
use Rattle.law.specs.Receivers.{Part, Receiver, receiver, Took, complete, stray, seventeenth, identifier, Takes, takes_duplicate, takes_part, takes_last, refuses_stray, refuses_seventeenth, refuses_crowded, owes}
use Rattle.law.specs.Links.{Packet, packet, End, an_end, acknowledgment, Answer, took, Hears, passes, hears_response, hears_block, heard, Side, at, Link, Step, ◌then◌}
use Rattle.law.specs.Truth.{other, end_of, sender_in, waiting_in, sender_of, calls, Made, RefusalsNever}
use Rattle.law.specs.Rounds.{CleanTick, put_block, put_response, put_nothing, Collecting, collected_all, collects, Draining, drained, drains, drains_last, spare, spare_after, Listening, listened, listens, OnTime, Round, round, Rounds, no_round, one_more, Progress}
use Rattle.law.proofs.ProgressCounts.{to_do, NotOut, OutUnder, count_sends, count_quiet, count_counts, same_counts, none_counts, counts_once, names_counts, sends_out, quiet_idle}
use Rattle.law.proofs.ProgressHistory.{left_is}
use Rattle.law.proofs.ProgressRuns.{Reached, reached_then, held, newest}
use Rattle.law.proofs.ProgressViews.{put_by, near, far, uncovered, meaning}

-- the last string that waits holds a block under identifier i
data LastHolds (i : ℕ) : List Packet → Type 0 where
  holds_it : {a : Option ℕ} {b : Block} → identifier b ≡ i → LastHolds i (packet a (some b) ∷ [])
  holds_on : {p : Packet} {ps : List Packet} → LastHolds i ps → LastHolds i (p ∷ ps)

-- the last string that waits names identifier i
data LastNames (i : ℕ) : List Packet → Type 0 where
  names_it : {a : Option ℕ} {b : Option Block} → a ≡ some i → LastNames i (packet a b ∷ [])
  names_on : {p : Packet} {ps : List Packet} → LastNames i ps → LastNames i (p ∷ ps)

joins_holds : (o : List Packet) (a : Option ℕ) (b : Block) → LastHolds (identifier b) (o ++ (packet a (some b) ∷ []))
joins_holds [] a b = holds_it refl
joins_holds (p ∷ o) a b = holds_on (joins_holds o a b)

joins_names : (o : List Packet) (i : ℕ) (b : Option Block) → LastNames i (o ++ (packet (some i) b ∷ []))
joins_names [] i b = names_it refl
joins_names (p ∷ o) i b = names_on (joins_names o i b)

-- an end that has no completed message waiting has heard all, last accepted i, and owes its acknowledgment; or the
-- last string that waits holds a block under i
data Ahead (i : ℕ) : End → List Packet → Type 0 where
  arrived : {s : Sender} {j : ℕ} {pt : Part} → j ≡ i → Ahead i (an_end s (receiver (some j) pt []) true) []
  to_come : {s : Sender} {a : Option ℕ} {pt : Part} {w : Bool} {ps : List Packet} → LastHolds i ps → Ahead i (an_end s (receiver a pt []) w) ps

data Arrived (i : ℕ) : End → Type 0 where
  is_arrived : {s : Sender} {j : ℕ} {pt : Part} → j ≡ i → Arrived i (an_end s (receiver (some j) pt []) true)

-- what a hear makes of that; a completed message waits until it is collected
data AheadFull (i : ℕ) : Answer → End → List Packet → Type 0 where
  still : {a : Answer} {e : End} {ps : List Packet} → Ahead i e ps → AheadFull i a e ps
  arrived_full : {s : Sender} {j : ℕ} {pt : Part} {m : Message} → j ≡ i → AheadFull i (took complete) (an_end s (receiver (some j) pt (m ∷ [])) true) []
  to_come_full : {s : Sender} {a : Option ℕ} {pt : Part} {m : Message} {w : Bool} {ps : List Packet} → LastHolds i ps →
      AheadFull i (took complete) (an_end s (receiver a pt (m ∷ [])) w) ps

-- the last string, heard
takes_it : {d : Direction} {i : ℕ} {s : Sender} {o : Option ℕ} {pt : Part} {b : Block} {x : Took} (w : Bool) {r' : Receiver} →
    identifier b ≡ i → Takes d (receiver o pt []) b x r' → (x ≡ stray → ⊥) → (x ≡ seventeenth → ⊥) →
    AheadFull i (took x) (an_end s r' (owes x w)) []
takes_it w e takes_duplicate u v = still (arrived e)
takes_it w e (takes_part n j h) u v = still (arrived e)
takes_it w e (takes_last n j h k) u v = arrived_full e
takes_it w e (refuses_stray n j) u v = absurd (u refl)
takes_it w e (refuses_seventeenth n j h) u v = absurd (v refl)
takes_it w e (refuses_crowded n j h k) u v = absurd (omega arith)

-- a string before it, heard
takes_on : {d : Direction} {i : ℕ} {s : Sender} {o : Option ℕ} {pt : Part} {b : Block} {x : Took} (w : Bool) {r' : Receiver} {ps : List Packet} →
    LastHolds i ps → Takes d (receiver o pt []) b x r' → AheadFull i (took x) (an_end s r' (owes x w)) ps
takes_on w h takes_duplicate = still (to_come h)
takes_on w h (takes_part n j k) = still (to_come h)
takes_on w h (takes_last n j k m) = to_come_full h
takes_on w h (refuses_stray n j) = still (to_come h)
takes_on w h (refuses_seventeenth n j k) = still (to_come h)
takes_on w h (refuses_crowded n j k m) = still (to_come h)

-- a hear of the string in front
hears_on : {out inn : Direction} {i : ℕ} {e e' : End} {p : Packet} {ps : List Packet} {a : Answer} {k : Option (ℕ × ℕ)} →
    Ahead i e (p ∷ ps) → Hears out inn e p a k e' → (a ≡ took stray → ⊥) → (a ≡ took seventeenth → ⊥) → AheadFull i a e' ps
hears_on (to_come (holds_it q)) (passes x) u v = elim x [ ]
hears_on (to_come (holds_it q)) (hears_block {w = w} c t) u v = takes_it w q t (λ e. u (ap took e)) (λ e. v (ap took e))
hears_on (to_come (holds_on q)) (passes x) u v = still (to_come q)
hears_on (to_come (holds_on q)) (hears_response c) u v = still (to_come q)
hears_on (to_come (holds_on q)) (hears_block {w = w} c t) u v = takes_on w q t

-- a collect of the message completed
collect_on : {i : ℕ} {e : End} {a : Answer} {ps : List Packet} {m : Message} {ms : List Message} →
    AheadFull i a e ps → waiting_in e ≡ m ∷ ms → Ahead i (uncovered e) ps
collect_on (arrived_full q) h = arrived q
collect_on (to_come_full q) h = to_come q
collect_on (still (arrived q)) h = let z : ◌≡◌ {A = ℕ} 0 1 = cc in absurd (omega arith)
collect_on (still (to_come q)) h = let z : ◌≡◌ {A = ℕ} 0 1 = cc in absurd (omega arith)

-- an answer that completed nothing
settled : {i : ℕ} {a : Answer} {e : End} {ps : List Packet} → AheadFull i a e ps → (a ≡ took complete → ⊥) → Ahead i e ps
settled (still h) n = h
settled (arrived_full q) n = absurd (n refl)
settled (to_come_full q) n = absurd (n refl)

-- nothing waits
all_heard : {i : ℕ} {e : End} {ps : List Packet} → Ahead i e ps → 0 ≡ length ps → Arrived i e
all_heard (arrived q) h = is_arrived q
all_heard (to_come (holds_it q)) h = absurd (omega arith)
all_heard (to_come (holds_on q)) h = absurd (omega arith)

-- a hear that dropped nothing took the string in front
front : (gone ps qs : List Packet) (p : Packet) → 0 ≡ length gone → qs ≡ gone ++ (p ∷ ps) → qs ≡ p ∷ ps
front [] ps qs p n e = e
front (q ∷ gone) ps qs p n e = absurd (omega arith)

-- calls of the receiver leave the sender's end as it is
module _ {dn up : Direction} (x : Side) where
  collecting_kept : {l l' : Link} → Collecting dn up (other x) l l' → end_of x l' ≡ end_of x l
  collecting_kept (collected_all s) = (far x s).kept
  collecting_kept (collects s c) = collecting_kept c ∙ (far x s).kept

  draining_kept : {l l' : Link} → Draining dn up (other x) l l' → end_of x l' ≡ end_of x l
  draining_kept (drained s) = (far x s).kept
  draining_kept (drains s n d) = draining_kept d ∙ (far x s).kept
  draining_kept (drains_last s t d) = draining_kept d ∙ ((far x t).kept ∙ (far x s).kept)
  draining_kept (spare s d) = draining_kept d ∙ (far x s).kept
  draining_kept (spare_after d s) = (far x s).kept ∙ draining_kept d

  tick_kept : {b : Bool} {l l' : Link} → CleanTick dn up (other x) b l l' → end_of x l' ≡ end_of x l
  tick_kept (put_block s) = (far x s).kept
  tick_kept (put_response s) = (far x s).kept
  tick_kept (put_nothing s) = (far x s).kept

  tick_reached : {b : Bool} {l l' : Link} → CleanTick dn up x b l l' → Reached dn up l → Reached dn up l'
  tick_reached (put_block s) r = reached_then r s
  tick_reached (put_response s) r = reached_then r s
  tick_reached (put_nothing s) r = reached_then r s

-- after collecting no completed message waits, and what is on the way is as it was
record Emptied (dn up : Direction) (x : Side) (l l' : Link) : Type 0 where
  reached : Reached dn up l'
  on_way : put_by x l' ≡ put_by x l
  empty : waiting_in (end_of (other x) l') ≡ []

collecting : {dn up : Direction} (x : Side) {l l' : Link} → Collecting dn up (other x) l l' → Reached dn up l → Emptied dn up x l l'
collecting x (collected_all s) r =
    let m = meaning (far x s).moved in
    record { reached = reached_then r s; on_way = m.in_same; empty = rw m.same m.nothing }
collecting x (collects s c) r =
    let m = meaning (far x s).moved in
    let b = collecting x c (reached_then r s) in
    record { reached = b.reached; on_way = b.on_way ∙ m.in_same; empty = b.empty }

-- then the block on the way is ahead
lies_ahead : {i : ℕ} {ps : List Packet} (e : End) → waiting_in e ≡ [] → LastHolds i ps → Ahead i e ps
lies_ahead (an_end s (receiver a pt []) w) h q = to_come q
lies_ahead (an_end s (receiver a pt (m ∷ ms)) w) h q = let z : ◌≡◌ {A = ℕ} 0 1 = cc in absurd (omega arith)

-- the receiver hears until nothing waits: the last string, a block under i, is accepted or a duplicate
module _ (never : RefusalsNever) {dn up : Direction} (sd : Sound dn) (su : Sound up) (x : Side) where
  hears_front : {i : ℕ} {l l' : Link} {a : Answer} {k : Option (ℕ × ℕ)} → Step dn up l (at (other x) (heard 0 a k)) l' →
      Reached dn up l → Ahead i (end_of (other x) l) (put_by x l) → AheadFull i a (end_of (other x) l') (put_by x l')
  hears_front {i} {l} {l'} {a} {k} s r h =
      let m = meaning (far x s).moved in
      let v = at (other x) (heard 0 a k) in
      let n = never dn up sd su (v ∷ r.history) l' (r.run then s) (other x) 0 k in
      let c = newest (other x) (heard 0 a k) r.history in
      hears_on (subst (λ ps. Ahead i (end_of (other x) l) ps) (front m.gone (put_by x l') (put_by x l) m.p m.count m.waited) h) m.hears
      (λ e. n.0 (subst (λ b. Made (heard 0 b k) (calls (other x) (v ∷ r.history))) e c))
      (λ e. n.1 (subst (λ b. Made (heard 0 b k) (calls (other x) (v ∷ r.history))) e c))

  record Drained (i : ℕ) (l : Link) : Type 0 where
    reached : Reached dn up l
    ended : Arrived i (end_of (other x) l)

  draining : {i : ℕ} {l l' : Link} → Draining dn up (other x) l l' → Reached dn up l → Ahead i (end_of (other x) l) (put_by x l) → Drained i l'
  draining (drained s) r a =
      let m = meaning (far x s).moved in
      record { reached = reached_then r s; ended = rw m.same (all_heard a m.count) }
  draining (drains s n d) r a = draining d (reached_then r s) (settled (hears_front s r a) n)
  draining {i} (drains_last {l' = l'} {l'' = l''} s t d) r a =
      let m = meaning (far x t).moved in
      let b = collect_on (hears_front s r a) m.handed in
      draining d (reached_then (reached_then r s) t) (rw (m.after, m.in_same) b)
  draining (spare s d) r a =
      let m = meaning (far x s).moved in
      draining d (reached_then r s) (rw (m.same, m.in_same) a)
  draining (spare_after d s) r a =
      let m = meaning (far x s).moved in
      let b = draining d r a in
      record { reached = reached_then b.reached s; ended = rw m.same b.ended }

-- what the end will acknowledge, and whether it owes that
abbrev owed_by : End → Option ℕ
owed_by (an_end s r w) = acknowledgment w r

abbrev owing : End → Bool
owing (an_end s r w) = w

arrived_owes : {i : ℕ} {e : End} → Arrived i e → owed_by e ≡ some i
arrived_owes (is_arrived q) = ap some q

arrived_owing : {i : ℕ} {e : End} → Arrived i e → owing e ≡ true
arrived_owing (is_arrived q) = refl

-- the receiver's tick puts that acknowledgment
answers : {dn up : Direction} (x : Side) {i : ℕ} {b : Bool} {l l' : Link} → CleanTick dn up (other x) b l l' →
    Arrived i (end_of (other x) l) → LastNames i (put_by (other x) l')
answers x {i} {l = l} (put_block {p = p} s) a =
    let m = meaning (far x s).moved in
    let e : acknowledgment m.w m.r ≡ some i = sym (ap owed_by m.before) ∙ arrived_owes a in
    rw (m.joined, m.is, e) (joins_names (put_by (other x) l) i (some m.b))
answers x {i} {l = l} (put_response s) a =
    let m = meaning (far x s).moved in
    let e : acknowledgment true m.r ≡ some i = sym (ap owed_by m.before) ∙ arrived_owes a in
    rw (m.joined, m.is, e) (joins_names (put_by (other x) l) i none)
answers x (put_nothing s) a =
    let m = meaning (far x s).moved in
    let t : false ≡ true = sym (ap owing m.before) ∙ arrived_owing a in
    let z : ◌≡◌ {A = ℕ} 0 1 = cc in absurd (omega arith)

-- how the sender's tick begins a round: its current block is out and on the way as the last string, or it has none
data Begins (x : Side) (l l' : Link) : Type 0 where
  goes : {i : ℕ} → OutUnder i (sender_of x l') → LastHolds i (put_by x l') → to_do (sender_of x l') ≡ to_do (sender_of x l) → Begins x l l'
  has_none : NotOut (sender_of x l') → to_do (sender_of x l) ≡ 0 → to_do (sender_of x l') ≡ 0 → Begins x l l'

begins : {dn up : Direction} (x : Side) {b : Bool} {l l' : Link} → CleanTick dn up x b l l' → OnTime b (sender_of x l) → Begins x l l'
begins x {l = l} (put_block s) h =
    let m = meaning (near x s).moved in
    goes {i = identifier m.b} (subst (λ e. OutUnder (identifier m.b) (sender_in e)) (sym m.after) (sends_out m.sends))
    (subst (λ ps. LastHolds (identifier m.b) ps) (sym (m.joined ∙ ap (λ q. put_by x l ++ (q ∷ [])) m.is))
    (joins_holds (put_by x l) (acknowledgment m.w m.r) m.b))
    (ap (λ e. to_do (sender_in e)) m.after ∙ (count_sends m.sends ∙ sym (ap (λ e. to_do (sender_in e)) m.before)))
begins x {b} (put_response s) h =
    let m = meaning (near x s).moved in
    let o = subst (λ e. OnTime b (sender_in e)) m.before h in
    has_none (rw m.after (quiet_idle m.quiet o)) (rw m.before (count_quiet m.quiet o)) (rw m.after (count_quiet m.quiet o))
begins x {b} (put_nothing s) h =
    let m = meaning (near x s).moved in
    let o = subst (λ e. OnTime b (sender_in e)) m.before h in
    has_none (rw m.after (quiet_idle m.quiet o)) (rw m.before (count_quiet m.quiet o)) (rw m.after (count_quiet m.quiet o))

-- what a hear does to the sender
hears_none : {out inn : Direction} {e e' : End} {p : Packet} {a : Answer} → Hears out inn e p a none e' → sender_in e' ≡ sender_in e
hears_none (passes q) = refl
hears_none (hears_response c) = same_counts c
hears_none (hears_block c t) = same_counts c

record Counted (s : Sender) (k : ℕ × ℕ) (s' : Sender) : Type 0 where
  named : Option ℕ
  counts : Counts s named (some k) s'

hears_some : {out inn : Direction} {e e' : End} {p : Packet} {a : Answer} {k : ℕ × ℕ} → Hears out inn e p a (some k) e' → Counted (sender_in e) k (sender_in e')
hears_some (hears_response {a = a} c) = record { named = a; counts = c }
hears_some (hears_block {a = a} c t) = record { named = a; counts = c }

hears_naming : {out inn : Direction} {e e' : End} {n : Option ℕ} {b : Option Block} {a : Answer} {k : Option (ℕ × ℕ)} →
    Hears out inn e (packet n b) a k e' → Counts (sender_in e) n k (sender_in e')
hears_naming (passes q) = elim q [ ]
hears_naming (hears_response c) = c
hears_naming (hears_block c t) = c

-- a sender whose current block has not gone out hears nothing that counts
record Listened (n : ℕ) (s s' : Sender) : Type 0 where
  tallied : n ≡ 0
  same : s' ≡ s

listen_none : {dn up : Direction} (x : Side) {l l' : Link} {n : ℕ} → Listening dn up x l n l' → NotOut (sender_of x l) → Listened n (sender_of x l) (sender_of x l')
listen_none x (listened s) h = record { tallied = refl; same = ap sender_in (meaning (near x s).moved).same }
listen_none x (listens {k = none} s d) h =
    let e = hears_none (meaning (near x s).moved).hears in
    let b = listen_none x d (rw e h) in
    record { tallied = b.tallied; same = b.same ∙ e }
listen_none x (listens {k = some k} s d) h = absurd (none_counts h (hears_some (meaning (near x s).moved).hears).counts)

-- a sender whose current block has gone out hears exactly one that counts, where the last string names it
record Progressed (n : ℕ) (s s' : Sender) : Type 0 where
  tallied : n ≡ 1
  fewer : to_do s ≡ suc (to_do s')

names_some : {i : ℕ} {ps : List Packet} → LastNames i ps → 0 ≡ length ps → ⊥
names_some (names_it q) h = omega arith
names_some (names_on q) h = omega arith

names_next : {out inn : Direction} {i : ℕ} {e e' : End} {p : Packet} {ps : List Packet} {a : Answer} →
    LastNames i (p ∷ ps) → Hears out inn e p a none e' → OutUnder i (sender_in e) → LastNames i ps
names_next {e = e} {e' = e'} (names_it q) hr o = absurd (names_counts o refl (subst (λ n. Counts (sender_in e) n none (sender_in e')) q (hears_naming hr)))
names_next (names_on q) hr o = q

listen_one : {dn up : Direction} (x : Side) {i : ℕ} {l l' : Link} {n : ℕ} → Listening dn up x l n l' → Reached dn up l →
    OutUnder i (sender_of x l) → LastNames i (put_by (other x) l) → Progressed n (sender_of x l) (sender_of x l')
listen_one x (listened s) r o h = absurd (names_some h (meaning (near x s).moved).count)
listen_one x {i} {l} (listens {l' = l'} {k = none} s d) r o h =
    let m = meaning (near x s).moved in
    let f = front m.gone (put_by (other x) l') (put_by (other x) l) m.p m.count m.waited in
    let e = hears_none m.hears in
    let b = listen_one x d (reached_then r s) (rw e o) (names_next (subst (λ ps. LastNames i ps) f h) m.hears o) in
    record { tallied = b.tallied; fewer = ap to_do (sym e) ∙ b.fewer }
listen_one x (listens {k = some k} s d) r o h =
    let c = (hears_some (meaning (near x s).moved).hears).counts in
    let b = listen_none x d (counts_once c) in
    record { tallied = ap suc b.tallied; fewer = rw b.same (count_counts c (held x r)) }

-- what a round does: one block less, or none was left
data Advances : ℕ → ℕ → ℕ → Type 0 where
  one_less : {k u u' : ℕ} → k ≡ 1 → u ≡ suc u' → Advances k u u'
  none_left : {k u u' : ℕ} → k ≡ 0 → u ≡ 0 → u' ≡ 0 → Advances k u u'

module _ (never : RefusalsNever) {dn up : Direction} (sd : Sound dn) (su : Sound up) (x : Side) where
  record Rounded (k : ℕ) (l l' : Link) : Type 0 where
    reached : Reached dn up l'
    advances : Advances k (to_do (sender_of x l)) (to_do (sender_of x l'))

  listen_reached : {l l' : Link} {n : ℕ} → Listening dn up x l n l' → Reached dn up l → Reached dn up l'
  listen_reached (listened s) r = reached_then r s
  listen_reached (listens s d) r = listen_reached d (reached_then r s)

  draining_reached : {l l' : Link} → Draining dn up (other x) l l' → Reached dn up l → Reached dn up l'
  draining_reached (drained s) r = reached_then r s
  draining_reached (drains s n d) r = draining_reached d (reached_then r s)
  draining_reached (drains_last s t d) r = draining_reached d (reached_then (reached_then r s) t)
  draining_reached (spare s d) r = draining_reached d (reached_then r s)
  draining_reached (spare_after d s) r = reached_then (draining_reached d r) s

  one_round : {k : ℕ} {l l' : Link} → Round dn up x l k l' → Reached dn up l → Rounded k l l'
  one_round (round {l₀} {l₁} {l₂} {l₃} {l₄} {l₅} {n} {b} {b'} o t c d u h) r = go (begins x t o)
    where
      r₁ : Reached dn up l₁
      r₁ = tick_reached x t r

      c₂ : Emptied dn up x l₁ l₂
      c₂ = collecting x c r₁

      kept : end_of x l₄ ≡ end_of x l₁
      kept = tick_kept x u ∙ (draining_kept x d ∙ collecting_kept x c)

      r₄ : Reached dn up l₄
      r₄ = tick_reached (other x) u (draining_reached d c₂.reached)

      r₅ : Reached dn up l₅
      r₅ = listen_reached h r₄

      go : Begins x l₀ l₁ → Rounded n l₀ l₅
      go (goes {i} o p q) =
          let a = lies_ahead {i = i} (end_of (other x) l₂) c₂.empty (rw c₂.on_way p) in
          let v = draining never sd su x d c₂.reached a in
          let w = listen_one x h r₄ (rw kept o) (answers x u v.ended) in
          record { reached = r₅; advances = one_less w.tallied (sym q ∙ (sym (ap (λ e. to_do (sender_in e)) kept) ∙ w.fewer)) }
      go (has_none o p q) =
          let w = listen_none x h (rw kept o) in
          record { reached = r₅; advances = none_left w.tallied p (ap to_do w.same ∙ (ap (λ e. to_do (sender_in e)) kept ∙ q)) }

  step_min : (k n r : ℕ) {u u' : ℕ} → Advances k u u' → n ≡ min r u' → k + n ≡ min (suc r) u
  step_min k n r (one_less p q) e = omega arith
  step_min k n r (none_left p q s) e = omega arith

  all_rounds : {r k : ℕ} {l l' : Link} → Rounds dn up x r l k l' → Reached dn up l → k ≡ min r (to_do (sender_of x l))
  all_rounds no_round r = omega arith
  all_rounds (one_more {r = r} {k = k} {n = n} o m) h =
      let a = one_round o h in
      step_min k n r a.advances (all_rounds m a.reached)

-- exact progress, as no block is refused but for want of a cell
pub progress : RefusalsNever → Progress
progress never dn up sd su x h l l' r k run rounds = rw (left_is x run) (all_rounds never sd su x rounds (record { history = h; run = run }))
