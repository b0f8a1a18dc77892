-- Two runs that deliver a message of two blocks: one over paths that repeat and spoil, one in three clean rounds, of which the
-- third has nothing to do. Assumes nothing.
use Rattle.std.proofs.Common.{◌≡◌, ℕ, ◌≤◌, true, false, List, [], ◌∷◌, refl, subst, arith, eq-eqb, ne_eqb}
use Rattle.std.proofs.Math.Option.{none-ne-some}
use mathlib.Core.Option.{none, some}
use Rattle.law.specs.Directions.{Direction, Sound, next}
use Rattle.law.specs.Senders.{Text, Message, message, Status, unsettled, delivered, course, idle, ready, sender, new_sender, settle, Unsettled, Chosen, block, submits, first, further, again, empty, settles, advances, unnamed, stale}
use Rattle.law.specs.Receivers.{closed, open_part, Receiver, receiver, new_receiver, part, complete, Takes, takes_duplicate, takes_part, takes_last}
use Rattle.law.specs.Links.{Packet, packet, spoiled, no_more, intact, spoilt, unreadable, End, an_end, new_end, passes, hears_response, hears_block, Doing, submitted, sent, responded, Move, submit, tick_block, tick_response, tick_nothing, hear, hear_nothing, collect, collect_nothing, Side, air, ground, Event, at, Link, link, Step, at_air, at_ground, Run, begin, ◌then◌}
use Rattle.law.specs.Truth.{other, sender_in, sender_of, called, calls, submissions, handed_out, Made, now_made, made}
use Rattle.law.specs.Rounds.{put_block, put_response, put_nothing, collected_all, drained, drains, drains_last, listened, listens, OnTime, Round, round, no_round, one_more}
use Rattle.law.specs.DeliveryWitness.{Delivers, DeliveriesHappen}
use Rattle.law.specs.RoundWitness.{HasRounds, RoundsHappen}

-- the message, and what it is called
abbrev label : Text
label = 49 ∷ 48 ∷ []

abbrev head : Text
head = 70 ∷ []

abbrev tail : Text
tail = 71 ∷ []

abbrev given : List Message
given = message label (head ∷ tail ∷ []) ∷ []

abbrev open_all : ℕ → Status
open_all n = unsettled

chosen : Chosen given open_all 1
chosen = record { waits = record { given = omega arith; within = omega arith; open_yet = refl }; oldest = λ j p q r. omega arith }

nothing_given : (n : ℕ) → Unsettled [] open_all n → ⊥
nothing_given n u = let p = u.given in let q = u.within in omega arith

all_settled : (n : ℕ) → Unsettled given (settle open_all 1 delivered) n → ⊥
all_settled n u =
    let p = u.given in
    let q = u.within in
    let e : n ≡ 1 = omega arith in
    let h : delivered ≡ unsettled = subst (λ (k : ℕ). settle open_all 1 delivered k ≡ unsettled) e u.open_yet in
    let z : ◌≡◌ {A = ℕ} 0 1 = cc in
    omega arith

-- the second identifier of a ring is not the first
second_apart : (n : ℕ) → 2 ≤ n → some 0 ≡ some (next n 0) → ⊥
second_apart n h e =
    let k : next n 0 ≡ 1 = rw (ne_eqb 1 n (λ q. omega arith)) in
    let z : ◌≡◌ {A = ℕ} 0 1 = cc in
    omega arith

-- links as they are seen from side x, whose blocks go in direction d: its end, the other end, what waits on the path that it
-- puts on, and on the other; and the steps at either end
record Seat (dn up d b : Direction) (x : Side) : Type 0 where
  seen : End → End → List Packet → List Packet → Link
  start : Run dn up [] (seen new_end new_end [] [])
  sends : (e f : End) (o i : List Packet) → sender_of x (seen e f o i) ≡ sender_in e
  here : {e e' f : End} {o o' i i' : List Packet} {v : Doing} → Move d b e i o v e' i' o' → Step dn up (seen e f o i) (at x v) (seen e' f o' i')
  there : {e f f' : End} {o o' i i' : List Packet} {v : Doing} → Move b d f o i v f' o' i' → Step dn up (seen e f o i) (at (other x) v) (seen e f' o' i')

module _ {dn up d b : Direction} {x : Side} (sound : Sound d) (seat : Seat dn up d b x) where
  open seat use {seen, start, sends, here, there}

  abbrev second : ℕ
  second = next d.ring 0

  -- the sender's end: given, ready for the second block, settled
  abbrev e₀ : End
  e₀ = an_end (sender given open_all (idle false) none 0) new_receiver false

  abbrev e₁ : End
  e₁ = an_end (sender given open_all (ready (course 1 label (head ∷ []) tail [])) (some 0) 0) new_receiver false

  abbrev e₂ : End
  e₂ = an_end (sender given (settle open_all 1 delivered) (idle false) (some second) 0) new_receiver false

  -- the receiver after the first block and after the second, its message collected
  abbrev r₁ : Receiver
  r₁ = receiver (some 0) (open_part (d.place 1 0) label (head ∷ [])) []

  abbrev r₂ : List Message → Receiver
  r₂ ms = receiver (some second) closed ms

  abbrev f₁ : End
  f₁ = an_end new_sender r₁ false

  abbrev f₂ : End
  f₂ = an_end new_sender (r₂ []) false

  takes_first : Takes d new_receiver (block 0 (d.place 1 0) label head false) part r₁
  takes_first = takes_part (none-ne-some 0) (rw (sound.alone 1 false)) (omega arith)

  takes_second : Takes d r₁ (block second (d.place 1 1) label tail true) complete (r₂ given)
  takes_second =
      takes_last {k = label} {ts = tail ∷ head ∷ []} (second_apart d.ring sound.two) (rw (eq-eqb second second refl, sound.follows 1 0)) (omega arith) (omega arith)

  any_time : (e f : End) → OnTime true (sender_in e) → OnTime true (sender_of x (seen e f [] []))
  any_time e f h = rw (sends e f [] []) h

  round₁ : Round dn up x (seen e₀ new_end [] []) 1 (seen e₁ f₁ [] [])
  round₁ =
      round (any_time e₀ new_end tt)
      (put_block (here (tick_block (first chosen refl) (intact no_more))))
      (collected_all (there collect_nothing))
      (drains (there (hear [] (hears_block unnamed takes_first))) (λ e. let z : ◌≡◌ {A = ℕ} 0 1 = cc in omega arith) (drained (there hear_nothing)))
      (put_response (there (tick_response {due = true} (empty nothing_given) (intact no_more))))
      (listens (here (hear [] (hears_response advances))) (listened (here hear_nothing)))

  round₂ : Round dn up x (seen e₁ f₁ [] []) 1 (seen e₂ f₂ [] [])
  round₂ =
      round (any_time e₁ f₁ tt)
      (put_block (here (tick_block further (intact no_more))))
      (collected_all (there collect_nothing))
      (drains_last (there (hear [] (hears_block unnamed takes_second))) (there collect) (drained (there hear_nothing)))
      (put_response (there (tick_response {due = true} (empty nothing_given) (intact no_more))))
      (listens (here (hear [] (hears_response settles))) (listened (here hear_nothing)))

  round₃ : Round dn up x (seen e₂ f₂ [] []) 0 (seen e₂ f₂ [] [])
  round₃ =
      round (any_time e₂ f₂ tt)
      (put_nothing (here (tick_nothing (empty all_settled))))
      (collected_all (there collect_nothing))
      (drained (there hear_nothing))
      (put_nothing (there (tick_nothing {due = true} (empty nothing_given))))
      (listened (here hear_nothing))

  happen : HasRounds dn up x 3 2
  happen = record {
    history = at x (submitted (message label (head ∷ tail ∷ []))) ∷ [];
    before = seen e₀ new_end [] [];
    after = seen e₂ f₂ [] [];
    run = start then here (submit (submits (omega arith)));
    rounds = one_more round₁ (one_more round₂ (one_more round₃ no_round));
  }

  -- over paths that repeat, spoil and lose: the first block goes out again, and that is lost
  abbrev delivery : (h : List Event) × (l : Link) × Run dn up h l
  delivery = (
    _,
    _,
    start
        then here (submit (submits {l = label} {t = head} {ts = tail ∷ []} (omega arith)))
        then here (tick_block {due = true} (first chosen refl) (spoilt (intact (intact no_more))))
        then here (tick_block {due = true} again no_more)
        then there (hear [] (passes unreadable))
        then there (hear [] (hears_block unnamed takes_first))
        then there (hear [] (hears_block unnamed takes_duplicate))
        then there (tick_response {due = true} (empty nothing_given) (intact (spoilt (intact no_more))))
        then here (hear [] (hears_response advances))
        then here (hear [] (passes unreadable))
        then here (hear [] (hears_response (stale (λ c. elim c [ ]))))
        then here (tick_block {due = true} further (intact (spoilt (intact no_more))))
        then there (hear [] (hears_block unnamed takes_second))
        then there (hear [] (passes unreadable))
        then there (hear [] (hears_block unnamed takes_duplicate))
        then there collect
        then there (tick_response {due = true} (empty nothing_given) (intact (spoilt (intact no_more))))
        then here (hear [] (hears_response settles)),
  )

  -- the last block as it was put, and its acknowledgment
  abbrev last_put : Packet
  last_put = packet none (some (block second (d.place 1 1) label tail true))

  abbrev last_answer : Packet
  last_answer = packet (some second) none

  delivers : submissions (calls x delivery.0) ≡ given → handed_out (calls (other x) delivery.0) ≡ given → called x delivery.1 1 ≡ delivered →
      Made (sent true 1 1 last_put (last_put ∷ spoiled ∷ last_put ∷ [])) (calls x delivery.0) →
      Made (responded true last_answer (last_answer ∷ spoiled ∷ last_answer ∷ [])) (calls (other x) delivery.0) → Delivers dn up x
  delivers p q r u v = record {
    text = message label (head ∷ tail ∷ []);
    history = delivery.0;
    reached = delivery.1;
    run = delivery.2;
    two_blocks = refl;
    submitted_it = p;
    handed_it_out = q;
    called_delivered = r;
    block_put = last_put;
    block_twice = u;
    answer_put = last_answer;
    answer_twice = v;
  }

abbrev at_the_air : (dn up : Direction) → Seat dn up dn up air
at_the_air dn up = record { seen = link; start = begin; sends = λ e f o i. refl; here = at_air; there = at_ground }

abbrev on_the_ground : (dn up : Direction) → Seat dn up up dn ground
on_the_ground dn up = record { seen = λ e f o i. link f e i o; start = begin; sends = λ e f o i. refl; here = at_ground; there = at_air }

pub rounds_happen_lem : RoundsHappen
rounds_happen_lem dn up sd su air = happen sd (at_the_air dn up)
rounds_happen_lem dn up sd su ground = happen su (on_the_ground dn up)

pub deliveries_happen_lem : DeliveriesHappen
deliveries_happen_lem dn up sd su air = delivers sd (at_the_air dn up) refl refl refl (made now_made) now_made
deliveries_happen_lem dn up sd su ground = delivers su (on_the_ground dn up) refl refl refl (made now_made) now_made
