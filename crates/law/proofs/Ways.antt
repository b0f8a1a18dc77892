-- One way of a link, from a sender to a receiver: what holds at every moment of a run.
-- Assumes nothing.
use Rattle.std.proofs.Common.{◌≡◌, ℕ, ◌+◌, ◌%◌, ◌<◌, ◌≤◌, true, false, ◌⊎◌, List, [], ◌∷◌, length, subst}
use mathlib.Core.Option.{Option, none, some}
use Rattle.law.specs.Directions.{Direction}
use Rattle.law.specs.Senders.{Text, Message, Status, unsettled, delivered, not_delivered, in_doubt, Course, course, number_of, index_of, Phase, idle, ready, out, Block, block_of}
use Rattle.law.specs.Receivers.{Part, closed, open_part}
use Rattle.law.specs.Links.{Doing}
use Rattle.law.specs.Truth.{submissions, Withdrawn, GoneOut, WithdrawnLate, Among, Bears}
use Rattle.law.proofs.Ring.{Names}
use Rattle.law.proofs.Tracks.{Track}
use Rattle.law.proofs.Numbers.{Rising}
use Rattle.law.proofs.Logs.{Log, top, Lasted, Logged, Over}

-- the positions of the last acknowledged block, the last accepted and the last new one, in a window shorter than the ring
pub record Window (N a r c s : ℕ) : Type 0 where
  pub acked : a ≤ r
  pub taken : r ≤ c
  pub spent : a + s ≡ c
  pub room : s < N

-- what a phase says of the last new position c, the last begun message k and what was spent
pub data Phased (N : ℕ) (cl : ℕ → Status) (k c s : ℕ) (log : Log) : Phase → Type 0 where
  plain : s ≡ 0 → Over (log c) → (cl k ≡ unsettled → ⊥) ⊎ (k ≡ 0) → Phased N cl k c s log (idle false)
  marked : s + 2 < N → (cl k ≡ unsettled → ⊥) ⊎ (k ≡ 0) → Phased N cl k c s log (idle true)
  going : {n : ℕ} {l t u : Text} {ds us : List Text} → s ≡ 0 → log c ≡ some (course n l ds t (u ∷ us)) → n ≡ k → cl k ≡ unsettled →
      Phased N cl k c s log (ready (course n l (t ∷ ds) u us))
  flying : {z : Course} → log c ≡ some z → number_of z ≡ k → cl k ≡ unsettled → Phased N cl k c s log (out z)

-- a block stands at a position
abbrev pub Stands : Direction → Log → ℕ → Block → Type 0
Stands d log q b = (z : Course) × (log q ≡ some z) × (b ≡ block_of d (q % d.ring) z)

-- an identifier is a position's
abbrev pub Marks : ℕ → ℕ → ℕ → Type 0
Marks N q i = i ≡ q % N

-- the part that is open after the block at the last accepted position
abbrev pub part_after : Direction → Option Course → Part
part_after d none = closed
part_after d (some (course n l ds t [])) = closed
part_after d (some (course n l ds t (u ∷ us))) = open_part (d.place n (length ds)) l (t ∷ ds)

-- a last block that was accepted has its number among those completed
abbrev pub Got : Option Course → List ℕ → Type 0
Got none ns = Unit {0}
Got (some (course n l ds t [])) ns = Among n ns
Got (some (course n l ds t (u ∷ us))) ns = Unit {0}

-- the receiver, by what stands at the last accepted position
pub record Received (d : Direction) (here : Option Course) (pt : Part) (ns : List ℕ) : Type 0 where
  pub part : pt ≡ part_after d here
  pub rising : Rising 1 ns (top here)
  pub got : Got here ns

-- what messages are called, by the log and the numbers completed
pub record Statuses (cl : ℕ → Status) (k : ℕ) (log : Log) (ns : List ℕ) : Type 0 where
  pub earlier : (n : ℕ) → 1 ≤ n → n < k → cl n ≡ unsettled → ⊥
  pub truly : (n : ℕ) → cl n ≡ delivered → Among n ns
  pub lasts : (n : ℕ) → Among n ns → Lasted log n
  pub never : (n : ℕ) → cl n ≡ not_delivered → Lasted log n → ⊥

-- block i of message n stands in the log
pub record Stood (log : Log) (n i : ℕ) : Type 0 where
  pub place : ℕ
  pub course_there : Course
  pub is : log place ≡ some course_there
  pub number : number_of course_there ≡ n
  pub index : index_of course_there ≡ i

-- what the calls of the sending end tell
pub record Told (h : List Doing) (g : List Message) (cl : ℕ → Status) (log : Log) : Type 0 where
  pub given : submissions h ≡ g
  pub gone : (n i : ℕ) → GoneOut n i h → Stood log n i
  pub sent : (q : ℕ) (z : Course) → log q ≡ some z → GoneOut (number_of z) (index_of z) h
  pub not_withdrawn : (n : ℕ) → cl n ≡ not_delivered → Withdrawn h n
  pub doubt_withdrawn : (n : ℕ) → cl n ≡ in_doubt → Withdrawn h n
  pub late : (n : ℕ) → cl n ≡ in_doubt → WithdrawnLate n h
  pub doubtful : (n : ℕ) → WithdrawnLate n h → cl n ≡ in_doubt

-- all that holds of one way: calls h of the sending end, its sender, what waits for the receiver, the receiver, what
-- waits for the sender, the messages completed and their numbers
pub record Way (d : Direction) (h : List Doing) (g : List Message) (cl : ℕ → Status) (ph : Phase) (p : Option ℕ) (s : ℕ)
    (fs : List (Option Block)) (o : Option ℕ) (pt : Part) (ks : List (Option ℕ)) (ms : List Message) (ns : List ℕ) : Type 0 where
  pub log : Log
  pub a : ℕ
  pub r : ℕ
  pub c : ℕ
  pub k : ℕ
  pub window : Window d.ring a r c s
  pub putting : Names d.ring p c
  pub accepted : Names d.ring o r
  pub logged : Logged d.ring g k a c log
  pub phased : Phased d.ring cl k c s log ph
  pub forth : Track (Stands d log) r fs c
  pub back : Track (Marks d.ring) a ks r
  pub received : Received d (log r) pt ns
  pub borne : Bears g ns ms
  pub statuses : Statuses cl k log ns
  pub told : Told h g cl log

module _ {d : Direction} {h : List Doing} {g : List Message} {cl : ℕ → Status} {ph : Phase} {p : Option ℕ} {s : ℕ} {fs : List (Option Block)}
    {o : Option ℕ} {pt : Part} {ks : List (Option ℕ)} {ms : List Message} {ns : List ℕ} (W : Way d h g cl ph p s fs o pt ks ms ns) where
  -- all that no position tells of may change
  pub renew : {h' : List Doing} {g' : List Message} {cl' : ℕ → Status} {ph' : Phase} {fs' : List (Option Block)} {ks' : List (Option ℕ)} {ms' : List Message} →
      Logged d.ring g' W.k W.a W.c W.log → Phased d.ring cl' W.k W.c s W.log ph' → Track (Stands d W.log) W.r fs' W.c → Track (Marks d.ring) W.a ks' W.r →
      Bears g' ns ms' → Statuses cl' W.k W.log ns → Told h' g' cl' W.log → Way d h' g' cl' ph' p s fs' o pt ks' ms' ns
  renew l f t b m x y = record {
    log = W.log;
    a = W.a;
    r = W.r;
    c = W.c;
    k = W.k;
    window = W.window;
    putting = W.putting;
    accepted = W.accepted;
    logged = l;
    phased = f;
    forth = t;
    back = b;
    received = W.received;
    borne = m;
    statuses = x;
    told = y;
  }

  -- one call more told
  pub with_told : (e : Doing) → Told (e ∷ h) g cl W.log → Way d (e ∷ h) g cl ph p s fs o pt ks ms ns
  with_told e t = renew W.logged W.phased W.forth W.back W.borne W.statuses t

  -- other blocks on the way forth
  pub with_forth : (gs : List (Option Block)) → Track (Stands d W.log) W.r gs W.c → Way d h g cl ph p s gs o pt ks ms ns
  with_forth gs t = renew W.logged W.phased t W.back W.borne W.statuses W.told

  -- other acknowledgments on the way back
  pub with_back : (js : List (Option ℕ)) → Track (Marks d.ring) W.a js W.r → Way d h g cl ph p s fs o pt js ms ns
  with_back js t = renew W.logged W.phased W.forth t W.borne W.statuses W.told

  -- the completed messages, written otherwise
  pub with_messages : (xs : List Message) → ms ≡ xs → Way d h g cl ph p s fs o pt ks xs ns
  with_messages xs e = renew W.logged W.phased W.forth W.back (subst (Bears g ns) e W.borne) W.statuses W.told
