-- The model of an end.
-- Assumes nothing.
use Rattle.std.specs.Prelude.{◌≡◌, ℕ, List, [], Some, None, Ok, Err, Option, Result}
use Rattle.blocks.specs.Fields.{named}
use Rattle.stores.specs.Texts.{octets_of}
use Rattle.stores.specs.Held.{Stored, stored, held}
use Rattle.ends.specs.declared.types.PartHead.{PartHead}
use Rattle.ends.specs.declared.types.HeardBlock.{HeardBlock}
use Rattle.ends.specs.declared.end.Sender.{Sender}
use Rattle.ends.specs.declared.end.Receiver.{Receiver}
use Rattle.ends.specs.declared.end.End.{End}
use Rattle.ends.specs.declared.memory.Memory.{Memory}
use Rattle.calls.specs.declared.types.Settings.{Settings}
use Rattle.calls.specs.declared.types.Setting.{Setting}
use Rattle.calls.specs.declared.fault.LinkFault.{LinkFault}
use Rattle.calls.specs.declared.fault.LinkFault.TheVariants as fault
use Rattle.ends.specs.declared.checked.Checked.{Checked}
use Rattle.ends.specs.Model.{Outbox, Inbox, Model, new_model}
use Rattle.ends.specs.Hearing as hearing
use Rattle.calls.specs.Setting.{Good, FirstBad}

abbrev pub outbox_of : Sender → Outbox
outbox_of s = record { numbered = s.numbered; cells = held s.cells; put = named s.put; spent = s.spent; passing = s.passing }

-- the open part beside its text
abbrev pub part_of : Option PartHead → List ℕ → Option (Stored PartHead)
part_of None text = None
part_of (Some p) text = Some (stored p text)

abbrev pub inbox_of : Receiver → Inbox
inbox_of r = record { accepted = named r.accepted; owed = r.owed; part = part_of r.part (octets_of r.text); waiting = held r.waiting }

-- a message block as it is heard
abbrev pub block_of : HeardBlock → hearing.Block
block_of b = record { identifier = b.identifier.0; label = b.label; last = b.last; text = b.text.now }

-- memory of an end in which no message lies, and no text of a part
pub record Unused (m : Memory) : Type 0 where
  pub cells : held m.cells ≡ []
  pub waiting : held m.waiting ≡ []
  pub text : octets_of m.text ≡ []

-- settings whose waits are within their limits: good ones, or the first that is not good is named
abbrev pub Checks : Settings → Result Checked LinkFault → Type 0
Checks s (Ok c) = Good s × (c.values ≡ s)
Checks s (Err f) = (k : Setting) × (f ≡ fault.Setting k) × FirstBad s k

module _ {O I : Type 0} where
  abbrev pub model : End O I → Model
  model e = record { settings = e.settings.values; outbox = outbox_of e.sender; clock = e.clock; inbox = inbox_of e.receiver }

  -- making an end: the new end of good settings, or the first that is not good is named
  abbrev pub Made : Settings → Result (End O I) LinkFault → Type 0
  Made s (Ok e) = Good s × (model e ≡ new_model s)
  Made s (Err f) = (k : Setting) × (f ≡ fault.Setting k) × FirstBad s k
