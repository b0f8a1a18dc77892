-- A real end as an end of the law, and a real call as a move of the law. Assumes nothing.
use Rattle.std.proofs.Common.{◌≡◌, ℕ, Bool, leb, List, [], ◌∷◌, length, take, Some, None, Ok, Err, Result}
use mathlib.Core.Option.{Option}
use Rattle.std.specs.declared.option.Option as std
use Rattle.directions.specs.Rings.{Cyclic}
use Rattle.directions.specs.TextRules.{Joins, OpeningLaws, OpenerLaws}
use Rattle.blocks.specs.declared.fault.BlockFault.{BlockFault}
use Rattle.blocks.specs.Legal.{Way}
use Rattle.calls.specs.declared.fault.LinkFault.{LinkFault}
use Rattle.calls.specs.declared.fault.LinkFault.TheVariants as fault
use Rattle.calls.specs.declared.types.Label.{Label}
use Rattle.calls.specs.declared.types.Outcome.{Outcome}
use Rattle.calls.specs.declared.types.Ticked.TheVariants as ticked
use Rattle.calls.specs.declared.types.Heard.{Heard}
use Rattle.calls.specs.declared.types.Heard.TheVariants as heard
use Rattle.calls.specs.Faults.{number_of}
use Rattle.ends.specs.Model.{Ways, Model}
use Rattle.law.specs.Directions.{Direction}
use Rattle.law.specs.Real.{direction_of}
use Rattle.law.specs.Senders.{Message, message, Status, Phase, sender}
use Rattle.law.specs.Receivers.{Part, receiver, Took}
use Rattle.law.specs.Links as law
use Rattle.law.specs.Links.{Packet, Side}
use Rattle.runs.specs.Links.{Strings, unput, put, Deed, submit, withdraw, tick, hear, collect, outcome, Accepted, ways_of}
use Rattle.runs.specs.History.{status_of, said_by}
use Rattle.runs.specs.Strings.{cuts, joined_up, Unreadable}
use Rattle.runs.proofs.Cuts.{Counted}
use Rattle.runs.proofs.Senders.{SenderIs}
use Rattle.runs.proofs.Receivers.{ReceiverIs}
use Rattle.runs.proofs.Acks.{as_place}
use Rattle.runs.proofs.Says.{AllSay}
use Rattle.runs.proofs.Takes.{answer_of}

-- the laws of a direction as a block sees it
pub record WayLaws (w : Way) : Type 0 where
  pub own : Cyclic w.own
  pub other : Cyclic w.other
  pub joins : Joins w.text
  pub opens : OpeningLaws w.text
  pub writes : OpenerLaws w.text
  pub counted : Counted w.text.room

-- the direction on which a side sends, and the one that it hears, by the originator of the end that sends
abbrev pub sends_on : Side → ℕ → Direction
sends_on x originator = direction_of (ways_of x).out.own (ways_of x).out.text originator

abbrev pub hears_on : Side → ℕ → Direction
hears_on x originator = direction_of (ways_of x).inn.own (ways_of x).inn.text originator

-- a real end, with what its outcomes told so far, is this end of the law
pub data EndIs (w : Ways) (told : ℕ → Status) (m : Model) : law.End → Type 0 where
  is_end : {g : List Message} {c : ℕ → Status} {ph : Phase} {p : Option ℕ} {s : ℕ} {a : Option ℕ} {pt : Part} {ms : List Message} {owed : Bool} →
      Accepted m.settings → SenderIs w.out.own w.out.text.room told m.outbox g c ph p s → ReceiverIs w.inn.own m.inbox a pt ms owed →
      EndIs w told m (law.an_end (sender g c ph p s) (receiver a pt ms) owed)

-- what a hear answers, and what the law's does
pub data AnswerIs : Result Heard LinkFault → law.Answer → Type 0 where
  answer_passed : {f : BlockFault} → Unreadable (Err f) → AnswerIs (Err (fault.Block f)) law.passed
  answer_response : AnswerIs (Ok heard.Response) law.response
  answer_took : {t : Took} → AnswerIs (answer_of t) (law.took t)

-- a call at an end m of these ways, and what it is in the law
pub data DeedIs (w : Ways) (m : Model) : Deed → law.Doing → Type 0 where
  submit_taken : {l : Label} {t : List ℕ} {n : ℕ} → DeedIs w m (submit l t (Ok n)) (law.submitted (message l.0 (cuts w.out.text.room t)))
  submit_refused : {l : Label} {t : List ℕ} {f : LinkFault} → DeedIs w m (submit l t (Err f)) law.refused
  withdraw_taken : {n : ℕ} {u : Unit {0}} → DeedIs w m (withdraw n (Ok u)) (law.withdrew n)
  withdraw_refused : {n : ℕ} {f : LinkFault} → DeedIs w m (withdraw n (Err f)) law.refused
  -- told whether the current block is due; one intact copy of the string is one intact copy of what it says
  tick_block : {time draw n i : ℕ} {s : List ℕ} {cs : Strings} {p : Packet} {ps : List Packet} → (cs ≡ s ∷ [] → ps ≡ p ∷ []) →
      DeedIs w m (tick time draw (Ok ticked.Block) (put s cs) (Some (n, i))) (law.sent (leb m.clock.due time) n i p ps)
  tick_response : {time draw : ℕ} {s : List ℕ} {cs : Strings} {p : Packet} {ps : List Packet} → (cs ≡ s ∷ [] → ps ≡ p ∷ []) →
      DeedIs w m (tick time draw (Ok ticked.Response) (put s cs) None) (law.responded (leb m.clock.due time) p ps)
  tick_nothing : {time draw : ℕ} → DeedIs w m (tick time draw (Ok ticked.Nothing) unput None) (law.rested (leb m.clock.due time))
  tick_refused : {time draw : ℕ} {f : LinkFault} → DeedIs w m (tick time draw (Err f) unput None) law.refused
  hear_one : {r : Result Heard LinkFault} {ds : Strings} {s : List ℕ} {b : std.Option (ℕ × ℕ)} {a : law.Answer} {k : Option (ℕ × ℕ)} →
      as_place k ≡ b → AnswerIs r a → DeedIs w m (hear r ds (Some s) b) (law.heard (length ds) a k)
  hear_none : {f : LinkFault} {ds : Strings} → number_of f ≡ 2 → DeedIs w m (hear (Err f) ds None None) (law.silent (length ds))
  collect_one : {before after : List ℕ} {l : Label} {n : ℕ} {ts : List (List ℕ)} → take n after ≡ joined_up ts →
      DeedIs w m (collect before (Ok (l, n)) after) (law.collected (message l.0 ts))
  collect_none : {before after : List ℕ} {f : LinkFault} → number_of f ≡ 2 → DeedIs w m (collect before (Err f) after) law.bare
  collect_refused : {before after : List ℕ} {f : LinkFault} → number_of f ≡ 1 → DeedIs w m (collect before (Err f) after) law.refused
  outcome_told : {n : ℕ} {o : Outcome} → DeedIs w m (outcome (Ok (n, o))) (law.told n (status_of o))
  outcome_refused : {f : LinkFault} → DeedIs w m (outcome (Err f)) law.refused

-- a call at an end is a move of the law: from the end m, which is e, over strings that say ps and qs, to the end m'
pub record Served (w : Ways) (out inn : Direction) (registration : List ℕ) (told : ℕ → Status) (m m' : Model) (i' o' : Strings) (x : Deed) (e : law.End) (ps qs : List Packet) : Type 0 where
  pub doing : law.Doing
  pub end_after : law.End
  pub in_after : List Packet
  pub out_after : List Packet
  pub move : law.Move out inn e ps qs doing end_after in_after out_after
  pub is : EndIs w (λ n. said_by n x (told n)) m' end_after
  pub in_say : AllSay w.inn registration i' in_after
  pub out_say : AllSay w.out registration o' out_after
  pub deed : DeedIs w m x doing
  pub settings : m'.settings ≡ m.settings
