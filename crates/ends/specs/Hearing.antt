-- The receiving half of an end: what a block heard does to it, and what hear answers.
-- Assumes nothing.
use Rattle.std.specs.Prelude.{ℕ, suc, ◌+◌, Bool, true, false, cond, ◌&&◌, List, [], ◌∷◌, ◌++◌, length, drop, Some, None, Ok, Err, Option, Result, ◌==◌, nat_le, nat_lt}
use Rattle.directions.specs.Rings.{RingRule, next}
use Rattle.directions.specs.declared.marks.Mark.{Mark}
use Rattle.directions.specs.declared.marks.Joining.{Joining}
use Rattle.directions.specs.declared.marks.Joining.TheVariants.{Opens, Continues, Neither}
use Rattle.stores.specs.Held.{Stored, stored}
use Rattle.calls.specs.declared.fault.LinkFault.{LinkFault}
use Rattle.calls.specs.declared.fault.LinkFault.TheVariants.{Stray, Seventeenth, Crowded}
use Rattle.calls.specs.declared.types.Label.{Label}
use Rattle.ends.specs.declared.types.PartHead.{PartHead}
use Rattle.calls.specs.declared.types.Heard.{Heard}
use Rattle.calls.specs.declared.types.Heard.TheVariants.{Duplicate, Part, Complete}
use Rattle.ends.specs.Model.{Ways, Inbox}

-- a message block as an end takes it: identifier, label, whether it is the last, text
pub record Block : Type 0 where
  pub identifier : ℕ
  pub label : Label
  pub last : Bool
  pub text : List ℕ

-- the identifier is the one last accepted
abbrev pub again : Option ℕ → ℕ → Bool
again None i = false
again (Some c) i = c == i

-- the identifier is the next after the one last accepted
abbrev pub is_next : RingRule → Option ℕ → ℕ → Bool
is_next r None i = false
is_next r (Some c) i = i == next r c

-- what the open part's newest block said of its place
abbrev pub mark_of : Option (Stored PartHead) → Option Mark
mark_of None = None
mark_of (Some p) = Some p.«record».mark

-- what a block does to the open part
abbrev pub joining_of : Ways → Inbox → Block → Joining
joining_of w i b = w.inn.text.joining (mark_of i.part) (w.inn.text.reads b.text) (is_next w.inn.own i.accepted b.identifier)

-- a text with more characters, if they fit its cell (sixteen blocks always do)
abbrev pub lengthened : List ℕ → List ℕ → List ℕ
lengthened t more = cond (nat_le (length t + length more) 3520) (t ++ more) t

-- the part after a block has opened or continued it; a continued part keeps its first label
abbrev pub opened_part : Ways → Block → Stored PartHead
opened_part w b =
    stored (record { label = b.label; mark = w.inn.text.reads b.text; blocks = 1 }) (lengthened [] (drop w.inn.text.opening b.text))

abbrev pub continued_part : Ways → Block → Stored PartHead → Stored PartHead
continued_part w b p =
    stored (record p.«record» { mark = w.inn.text.reads b.text; blocks = suc p.«record».blocks })
    (lengthened p.text (drop w.inn.text.opening b.text))

abbrev pub part_after : Ways → Joining → Option (Stored PartHead) → Block → Option (Stored PartHead)
part_after w Opens p b = Some (opened_part w b)
part_after w Continues None b = None
part_after w Continues (Some p) b = Some (continued_part w b p)
part_after w Neither p b = None

-- an acknowledgment is owed
abbrev pub owing : Inbox → Inbox
owing i = record i { owed = true }

-- the receiving half after a block was accepted: the part goes on, or it completes and joins the messages that wait
abbrev pub accepted_part : Inbox → Block → Stored PartHead → Inbox
accepted_part i b p =
    cond b.last
    (record { accepted = Some b.identifier; owed = true; part = None; waiting = i.waiting ++ stored p.«record».label p.text ∷ [] })
    (record i { accepted = Some b.identifier; owed = true; part = Some p })

-- what a block does: its answer, and the receiving half after it
pub record Answered : Type 0 where
  pub answer : Result Heard LinkFault
  pub inbox : Inbox

abbrev pub refused_by : Inbox → LinkFault → Answered
refused_by i f = record { answer = Err f; inbox = i }

-- a block with a new identifier: refused where it neither opens nor continues, would be a seventeenth, or completes while four messages wait
abbrev pub joined : Inbox → Block → Option (Stored PartHead) → Answered
joined i b None = refused_by i Stray
joined i b (Some p) =
    cond (nat_lt 16 p.«record».blocks) (refused_by i Seventeenth)
    (cond (b.last && nat_le 4 (length i.waiting)) (refused_by i Crowded)
    (record { answer = Ok (cond b.last Complete Part); inbox = accepted_part i b p }))

-- a message block: a duplicate is told first
abbrev pub block_heard : Ways → Inbox → Block → Answered
block_heard w i b =
    cond (again i.accepted b.identifier)
    (record { answer = Ok Duplicate; inbox = owing i })
    (joined i b (part_after w (joining_of w i b) i.part b))
