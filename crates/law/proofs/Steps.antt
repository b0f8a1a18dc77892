-- One call at an end keeps what holds of the way from it, and of the way to it.
-- Assumes nothing.
use Rattle.std.proofs.Common.{◌≡◌, ℕ, Bool, true, false, List, [], ◌∷◌, ◌++◌, sym, refl, ◌∙◌, subst, append_assoc, arith}
use mathlib.Core.Option.{Option, none, some, some-injective}
use Rattle.law.specs.Directions.{Direction, Sound}
use Rattle.law.specs.Senders.{Message, Status, Phase, Course, number_of, index_of, message, Sender, sender, Block, Submits, submits, Withdraws, from_ready, from_out, unbegun, Sends, first, further, again, Counts, settles, advances, unnamed, stale}
use Rattle.law.specs.Receivers.{Part, Receiver, receiver, Took, Takes}
use Rattle.law.specs.Links.{Packet, spoiled, packet, Copies, unreadable, an_end, acknowledgment, passes, hears_response, hears_block, took, heard, Doing, sent, submitted, withdrew, Move, submit, withdraw, tick_block, tick_response, tick_nothing, hear, hear_nothing, collect, collect_nothing, outcome, refuse}
use Rattle.law.specs.Truth.{Extends, submissions, passing, add_out}
use Rattle.law.proofs.Ring.{Names, not_yet, names}
use Rattle.law.proofs.Packets.{the_block, the_ack, each, each_append, copies_track}
use Rattle.law.proofs.Tracks.{Track, nothing, mute, track_le, track_append, track_drop}
use Rattle.law.proofs.Ways.{Stands, Marks, Way, with_told, with_forth, with_back, with_messages}
use Rattle.law.proofs.History.{kind, told_plain}
use Rattle.law.proofs.Receiving.{same_numbers, take, Never, never_refused}
use Rattle.law.proofs.Sending.{with_message, ack_stale, advance, deliver, send_first, send_further, send_again}
use Rattle.law.proofs.Withdrawing.{withdraw_ready, withdraw_out, withdraw_unbegun}

-- what holds of the way from a sender to a receiver: calls h of the sending end, packets on the way forth and back,
-- messages ys handed out at the receiving end, numbers ns of the messages completed there
pub data Holds (d : Direction) (h : List Doing) : Sender → List Packet → Receiver → List Packet → List Message → List ℕ → Type 0 where
  holds : {g : List Message} {cl : ℕ → Status} {ph : Phase} {p : Option ℕ} {s : ℕ} {fs ks : List Packet} {o : Option ℕ} {pt : Part} {xs ys : List Message} {ns : List ℕ} →
      Way d h g cl ph p s (each the_block fs) o pt (each the_ack ks) (ys ++ xs) ns → Holds d h (sender g cl ph p s) fs (receiver o pt xs) ks ys ns

-- an acknowledgment that goes with a string names the last accepted position
acknowledges : {N r i : ℕ} {o : Option ℕ} (w : Bool) (pt : Part) (xs : List Message) → Names N o r → acknowledgment w (receiver o pt xs) ≡ some i → Marks N r i
acknowledges false pt xs nm e = let z : ◌≡◌ {A = ℕ} 0 1 = cc in absurd (omega arith)
acknowledges true pt xs (not_yet f) e = let z : ◌≡◌ {A = ℕ} 0 1 = cc in absurd (omega arith)
acknowledges {i = i} true pt xs (names {i = j} l f) e = sym (some-injective j i e) ∙ f

module _ {d : Direction} {h : List Doing} {g : List Message} {cl : ℕ → Status} {ph : Phase} {p : Option ℕ} {s : ℕ} {fs : List (Option Block)}
    {o : Option ℕ} {pt : Part} {ms : List Message} {ns : List ℕ} where
  -- strings dropped on the way back
  drop_back : (gone : List Packet) (is : List Packet) → Way d h g cl ph p s fs o pt (each the_ack (gone ++ is)) ms ns → Way d h g cl ph p s fs o pt (each the_ack is) ms ns
  drop_back gone is W = with_back W (each the_ack is)
      (track_drop (each the_ack gone) (subst (λ (x : List (Option ℕ)). Track (Marks d.ring) W.a x W.r) (each_append the_ack gone is) W.back))

  -- copies put on the way back
  join_back : (is : List Packet) {ps : List Packet} (w : Bool) (xs : List Message) {b : Option Block} → Copies (packet (acknowledgment w (receiver o pt xs)) b) ps →
      Way d h g cl ph p s fs o pt (each the_ack is) ms ns → Way d h g cl ph p s fs o pt (each the_ack (is ++ ps)) ms ns
  join_back is {ps} w xs c W = with_back W (each the_ack (is ++ ps))
      (subst (λ (x : List (Option ℕ)). Track (Marks d.ring) W.a x W.r) (sym (each_append the_ack is ps))
      (track_append W.back (copies_track the_ack refl W.r (λ x e. acknowledges w pt xs W.accepted e) c)))

module _ {d : Direction} {h : List Doing} {g : List Message} {cl : ℕ → Status} {ph : Phase} {p : Option ℕ} {s : ℕ}
    {o : Option ℕ} {pt : Part} {ks : List (Option ℕ)} {ms : List Message} {ns : List ℕ} where
  -- strings dropped on the way forth
  drop_forth : (gone : List Packet) (is : List Packet) → Way d h g cl ph p s (each the_block (gone ++ is)) o pt ks ms ns → Way d h g cl ph p s (each the_block is) o pt ks ms ns
  drop_forth gone is W = with_forth W (each the_block is)
      (track_drop (each the_block gone) (subst (λ (x : List (Option Block)). Track (Stands d W.log) W.r x W.c) (each_append the_block gone is) W.forth))

  -- packets put on the way forth, in one list
  join_forth : (is ps : List Packet) → Way d h g cl ph p s (each the_block is ++ each the_block ps) o pt ks ms ns → Way d h g cl ph p s (each the_block (is ++ ps)) o pt ks ms ns
  join_forth is ps W = with_forth W (each the_block (is ++ ps))
      (subst (λ (x : List (Option Block)). Track (Stands d W.log) W.r x W.c) (sym (each_append the_block is ps)) W.forth)

  -- a response says nothing on the way forth
  join_response : (is : List Packet) {ps : List Packet} {a : Option ℕ} → Copies (packet a none) ps → Way d h g cl ph p s (each the_block is) o pt ks ms ns →
      Way d h g cl ph p s (each the_block (is ++ ps)) o pt ks ms ns
  join_response is {ps} c W = join_forth is ps (with_forth W (each the_block is ++ each the_block ps)
      (track_append W.forth (copies_track the_block refl W.c (λ x e. let z : ◌≡◌ {A = ℕ} 0 1 = cc in absurd (omega arith)) c)))

  -- the first string says nothing on the way forth
  mute_forth : {fs : List (Option Block)} → Way d h g cl ph p s (none ∷ fs) o pt ks ms ns → Way d h g cl ph p s fs o pt ks ms ns
  mute_forth {fs} W = with_forth W fs (rest W.forth)
    where
      rest : {lo hi : ℕ} → Track (Stands d W.log) lo (none ∷ fs) hi → Track (Stands d W.log) lo fs hi
      rest (mute t) = t

-- what an acknowledgment does at the sender, the first string on the way back being taken
count : {d : Direction} {h : List Doing} {r : Receiver} {fs is : List Packet} {ys : List Message} {ns : List ℕ} {a : Option ℕ} {b : Option Block} {k : Option (ℕ × ℕ)} {s s' : Sender} →
    Counts s a k s' → Holds d h s fs r (packet a b ∷ is) ys ns → Holds d h s' fs r is ys ns
count settles (holds W) = holds (deliver W)
count advances (holds W) = holds (advance W)
count {is = is} unnamed (holds W) = holds (ack_stale W none (each the_ack is) refl)
count {is = is} (stale {i = i} f) (holds W) = holds (ack_stale W (some i) (each the_ack is) refl)

-- a call that submits, withdraws and sends nothing
tell : {d : Direction} {h : List Doing} {r : Receiver} {fs is : List Packet} {ys : List Message} {ns : List ℕ} {s : Sender} (e : Doing) →
    kind e ≡ 0 → submissions (e ∷ h) ≡ submissions h → Holds d h s fs r is ys ns → Holds d (e ∷ h) s fs r is ys ns
tell e q same (holds W) = holds (with_told W e (told_plain q (same ∙ W.told.given) W.told))

-- strings dropped on the way back
lose_back : {d : Direction} {h : List Doing} {r : Receiver} {fs : List Packet} {ys : List Message} {ns : List ℕ} {s : Sender} (gone is : List Packet) →
    Holds d h s fs r (gone ++ is) ys ns → Holds d h s fs r is ys ns
lose_back gone is (holds W) = holds (drop_back gone is W)

withdraw_step : {d : Direction} {h : List Doing} {r : Receiver} {fs is : List Packet} {ys : List Message} {ns : List ℕ} {n : ℕ} {s s' : Sender} →
    Withdraws d.ring s n s' → Holds d h s fs r is ys ns → Holds d (withdrew n ∷ h) s' fs r is ys ns
withdraw_step (from_ready l) (holds W) = holds (withdraw_ready l W)
withdraw_step (from_out {us = us} l) (holds W) = holds (withdraw_out us l W)
withdraw_step (unbegun u f) (holds W) = holds (withdraw_unbegun u f W)

send_step : {d : Direction} → Sound d → {h : List Doing} {r : Receiver} {fs is ps : List Packet} {ys : List Message} {ns : List ℕ} {due : Bool} {a : Option ℕ} {s s' : Sender} {z : Course} {b : Block} →
    Sends d due s z b s' → Copies (packet a (some b)) ps → Holds d h s fs r is ys ns →
    Holds d (sent due (number_of z) (index_of z) (packet a (some b)) ps ∷ h) s' (fs ++ ps) r is ys ns
send_step S {fs = fs} {ps = ps} {due = due} {a = a} (first {m = m} {n = n} {l = l} {t = t} {us = us} c e) cs (holds W) =
    holds (join_forth fs ps (send_first S m n l t us a due ps W c e cs))
send_step S {fs = fs} {ps = ps} {due = due} {a = a} (further {z = z}) cs (holds W) = holds (join_forth fs ps (send_further S z a due ps W cs))
send_step S {fs = fs} {ps = ps} {a = a} (again {i = j} {z = z}) cs (holds W) = holds (join_forth fs ps (send_again z j a ps W cs))

submit_step : {d : Direction} {h : List Doing} {r : Receiver} {fs is : List Packet} {ys : List Message} {ns : List ℕ} {m : Message} {s s' : Sender} →
    Submits s m s' → Holds d h s fs r is ys ns → Holds d (submitted m ∷ h) s' fs r is ys ns
submit_step (submits {l = l} {t = t} {ts = ts} x) (holds W) = holds (with_message W (message l (t ∷ ts)) x)

response_step : {d : Direction} {h : List Doing} {r : Receiver} {fs is ps : List Packet} {ys : List Message} {ns : List ℕ} {a : Option ℕ} {s : Sender} →
    Copies (packet a none) ps → Holds d h s fs r is ys ns → Holds d h s (fs ++ ps) r is ys ns
response_step {fs = fs} cs (holds W) = holds (join_response fs cs W)

silent_step : {d : Direction} {h : List Doing} {r : Receiver} {fs is : List Packet} {ys : List Message} {ns : List ℕ} {s : Sender} →
    Holds d h s fs r is ys ns → Holds d h s fs r [] ys ns
silent_step (holds W) = holds (with_back W [] (nothing (track_le W.back)))

pass_step : {d : Direction} {h : List Doing} {r : Receiver} {fs is : List Packet} {ys : List Message} {ns : List ℕ} {s : Sender} →
    Holds d h s fs r (spoiled ∷ is) ys ns → Holds d h s fs r is ys ns
pass_step {is = is} (holds W) = holds (ack_stale W none (each the_ack is) refl)

-- a call at the sending end
pub sender_step : {d inn : Direction} → Sound d → {h : List Doing} {t : Receiver} {ys : List Message} {ns : List ℕ} {e : Doing} {s s' : Sender} {r r' : Receiver} {w w' : Bool} {i i' o o' : List Packet} →
    Move d inn (an_end s r w) i o e (an_end s' r' w') i' o' → Holds d h s o t i ys ns → Holds d (e ∷ h) s' o' t i' ys ns
sender_step S (submit m) W = submit_step m W
sender_step S (withdraw x) W = withdraw_step x W
sender_step S (tick_block x cs) W = send_step S x cs W
sender_step S (tick_response q cs) W = tell _ refl refl (response_step cs W)
sender_step S (tick_nothing q) W = tell _ refl refl W
sender_step S {i' = i} (hear gone (passes unreadable)) W = tell _ refl refl (pass_step (lose_back gone (spoiled ∷ i) W))
sender_step S {i' = i} (hear gone (hears_response {a = a} c)) W = tell _ refl refl (count c (lose_back gone (packet a none ∷ i) W))
sender_step S {i' = i} (hear gone (hears_block {a = a} {b = b} c x)) W = tell _ refl refl (count c (lose_back gone (packet a (some b) ∷ i) W))
sender_step S hear_nothing W = tell _ refl refl (silent_step W)
sender_step S collect W = tell _ refl refl W
sender_step S collect_nothing W = tell _ refl refl W
sender_step S (outcome x y) W = tell _ refl refl W
sender_step S refuse W = tell _ refl refl W

-- what the receiving end's calls leave: perhaps one number more
abbrev pub Kept : Direction → List Doing → Sender → List Packet → Receiver → List Packet → List Message → List ℕ → Type 0
Kept d h t i r o ys ns = (ns' : List ℕ) × Extends ns ns' × Holds d h t i r o ys ns'

kept : {d : Direction} {h : List Doing} {t : Sender} {i o : List Packet} {r : Receiver} {ys : List Message} {ns : List ℕ} → Holds d h t i r o ys ns → Kept d h t i r o ys ns
kept {ns = ns} W = (ns, same_numbers ns, W)

acknowledge_step : {d : Direction} {h : List Doing} {t : Sender} {i o ps : List Packet} {r : Receiver} {ys : List Message} {ns : List ℕ} (w : Bool) {b : Option Block} →
    Copies (packet (acknowledgment w r) b) ps → Holds d h t i r o ys ns → Holds d h t i r (o ++ ps) ys ns
acknowledge_step {o = o} w cs (holds {xs = xs} W) = holds (join_back o w xs cs W)

lose_forth : {d : Direction} {h : List Doing} {t : Sender} (gone i : List Packet) {o : List Packet} {r : Receiver} {ys : List Message} {ns : List ℕ} →
    Holds d h t (gone ++ i) r o ys ns → Holds d h t i r o ys ns
lose_forth gone i (holds W) = holds (drop_forth gone i W)

mute_step : {d : Direction} {h : List Doing} {t : Sender} {i o : List Packet} {r : Receiver} {ys : List Message} {ns : List ℕ} {a : Option ℕ} →
    Holds d h t (packet a none ∷ i) r o ys ns → Holds d h t i r o ys ns
mute_step (holds W) = holds (mute_forth W)

spoiled_step : {d : Direction} {h : List Doing} {t : Sender} {i o : List Packet} {r : Receiver} {ys : List Message} {ns : List ℕ} →
    Holds d h t (spoiled ∷ i) r o ys ns → Holds d h t i r o ys ns
spoiled_step (holds W) = holds (mute_forth W)

take_step : {d : Direction} → Sound d → {h : List Doing} {t : Sender} {i o : List Packet} {ys : List Message} {ns : List ℕ} {a : Option ℕ} {x : Took} {b : Block} {r r' : Receiver} →
    Takes d r b x r' → Holds d h t (packet a (some b) ∷ i) r o ys ns → Kept d h t i r' o ys ns
take_step {d} S {h} {t} {i} {o} {ys} {ns} {r' = receiver o' pt' xs'} tk (holds W) =
    let J = take d S ys W tk in (J.0, J.1, holds J.2)

deaf_step : {d : Direction} {h : List Doing} {t : Sender} {i o : List Packet} {r : Receiver} {ys : List Message} {ns : List ℕ} →
    Holds d h t i r o ys ns → Holds d h t [] r o ys ns
deaf_step (holds W) = holds (with_forth W [] (nothing (track_le W.forth)))

collect_step : {d : Direction} {h : List Doing} {t : Sender} {i o : List Packet} {a : Option ℕ} {pt : Part} {m : Message} {ms ys : List Message} {ns : List ℕ} →
    Holds d h t i (receiver a pt (m ∷ ms)) o ys ns → Holds d h t i (receiver a pt ms) o (ys ++ (m ∷ [])) ns
collect_step {m = m} {ms = ms} {ys = ys} (holds W) = holds (with_messages W ((ys ++ (m ∷ [])) ++ ms) (sym (append_assoc ys (m ∷ []) ms)))

-- a call at the receiving end
pub receiver_step : {d out : Direction} → Sound d → {h : List Doing} {t : Sender} {ys : List Message} {ns : List ℕ} {e : Doing} {s s' : Sender} {r r' : Receiver} {w w' : Bool} {i i' o o' : List Packet} →
    Move out d (an_end s r w) i o e (an_end s' r' w') i' o' → Holds d h t i r o ys ns → Kept d h t i' r' o' (add_out (passing e) ys) ns
receiver_step S (submit m) W = kept W
receiver_step S (withdraw x) W = kept W
receiver_step S (tick_block {w = w} x cs) W = kept (acknowledge_step w cs W)
receiver_step S (tick_response q cs) W = kept (acknowledge_step true cs W)
receiver_step S (tick_nothing q) W = kept W
receiver_step S {i' = i} (hear gone (passes unreadable)) W = kept (spoiled_step (lose_forth gone (spoiled ∷ i) W))
receiver_step S {i' = i} (hear gone (hears_response {a = a} c)) W = kept (mute_step (lose_forth gone (packet a none ∷ i) W))
receiver_step S {i' = i} (hear gone (hears_block {a = a} {b = b} c x)) W = take_step S x (lose_forth gone (packet a (some b) ∷ i) W)
receiver_step S hear_nothing W = kept (deaf_step W)
receiver_step S collect W = kept (collect_step W)
receiver_step S collect_nothing W = kept W
receiver_step S (outcome x y) W = kept W
receiver_step S refuse W = kept W

-- no call at the receiving end refuses a block as one that neither opens nor continues, or as a seventeenth
refused_never : {d : Direction} → Sound d → {h : List Doing} {t : Sender} {i o : List Packet} {ys : List Message} {ns : List ℕ} {a : Option ℕ} {x : Took} {b : Block} {r r' : Receiver} →
    Never x → Takes d r b x r' → Holds d h t (packet a (some b) ∷ i) r o ys ns → ⊥
refused_never {d} S n tk (holds W) = never_refused d S W n tk

pub move_never : {d out : Direction} → Sound d → {h : List Doing} {t : Sender} {ys : List Message} {ns : List ℕ} {n : ℕ} {k : Option (ℕ × ℕ)} {x : Took} {s s' : Sender} {r r' : Receiver} {w w' : Bool} {i i' o o' : List Packet} →
    Never x → Move out d (an_end s r w) i o (heard n (took x) k) (an_end s' r' w') i' o' → Holds d h t i r o ys ns → ⊥
move_never S {i' = i} n (hear gone (hears_block {a = a} {b = b} c x)) W = refused_never S n x (lose_forth gone (packet a (some b) ∷ i) W)
