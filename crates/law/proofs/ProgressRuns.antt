-- What holds at every link that a run reaches, as far as rounds need it. Assumes nothing.
use Rattle.std.proofs.Common.{ℕ, List, ◌∷◌}
use mathlib.Core.Option.{Option}
use Rattle.law.specs.Directions.{Direction}
use Rattle.law.specs.Links.{Packet, End, Hears, passes, hears_response, hears_block, Doing, Answer, Move, submit, withdraw, tick_block, tick_response, tick_nothing, hear, hear_nothing, collect, collect_nothing, outcome, refuse, Side, air, ground, Event, at, Link, Step, at_air, at_ground, Run, begin, ◌then◌}
use Rattle.law.specs.Truth.{sender_in, sender_of, calls, Made, now_made}
use Rattle.law.proofs.ProgressCounts.{Held, held_submits, held_withdraws, held_sends, held_counts}

-- a link that a run reaches
pub record Reached (dn up : Direction) (l : Link) : Type 0 where
  pub history : List Event
  pub run : Run dn up history l

pub reached_then : {dn up : Direction} {l l' : Link} {v : Event} → Reached dn up l → Step dn up l v l' → Reached dn up l'
reached_then {v = v} r s = record { history = v ∷ r.history; run = r.run then s }

held_hears : {out inn : Direction} {e e' : End} {p : Packet} {a : Answer} {k : Option (ℕ × ℕ)} →
    Hears out inn e p a k e' → Held (sender_in e) → Held (sender_in e')
held_hears (passes x) h = h
held_hears (hears_response c) h = held_counts c h
held_hears (hears_block c t) h = held_counts c h

held_move : {out inn : Direction} {e : End} {i o : List Packet} {v : Doing} {e' : End} {i' o' : List Packet} →
    Move out inn e i o v e' i' o' → Held (sender_in e) → Held (sender_in e')
held_move (submit x) h = held_submits x h
held_move (withdraw x) h = held_withdraws x h
held_move (tick_block x c) h = held_sends x h
held_move (tick_response q c) h = h
held_move (tick_nothing q) h = h
held_move (hear gone x) h = held_hears x h
held_move hear_nothing h = h
held_move collect h = h
held_move collect_nothing h = h
held_move (outcome x y) h = h
held_move refuse h = h

-- both senders hold
record Both (l : Link) : Type 0 where
  air_holds : Held (sender_of air l)
  ground_holds : Held (sender_of ground l)

both_step : {dn up : Direction} {l l' : Link} {v : Event} → Step dn up l v l' → Both l → Both l'
both_step (at_air m) b = record { air_holds = held_move m b.air_holds; ground_holds = b.ground_holds }
both_step (at_ground m) b = record { air_holds = b.air_holds; ground_holds = held_move m b.ground_holds }

both_run : {dn up : Direction} {h : List Event} {l : Link} → Run dn up h l → Both l
both_run begin = record { air_holds = tt; ground_holds = tt }
both_run (r then s) = both_step s (both_run r)

pub held : {dn up : Direction} (x : Side) {l : Link} → Reached dn up l → Held (sender_of x l)
held air r = (both_run r.run).air_holds
held ground r = (both_run r.run).ground_holds

-- the newest call of a side is among its calls
pub newest : (x : Side) (v : Doing) (h : List Event) → Made v (calls x (at x v ∷ h))
newest air v h = now_made
newest ground v h = now_made
