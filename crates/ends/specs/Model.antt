-- What an end holds, as its calls see it.
-- Assumes nothing.
use Rattle.std.specs.Prelude.{ℕ, Bool, false, List, [], None, Option}
use Rattle.directions.specs.Rings.{RingRule}
use Rattle.directions.specs.TextRules.{TextRule}
use Rattle.blocks.specs.Legal.{Way, way}
use Rattle.stores.specs.Held.{Stored}
use Rattle.calls.specs.declared.types.Settings.{Settings}
use Rattle.calls.specs.declared.types.Label.{Label}
use Rattle.ends.specs.declared.types.Cell.{Cell}
use Rattle.ends.specs.declared.types.Clock.{Clock}
use Rattle.ends.specs.declared.types.PartHead.{PartHead}

-- the direction that an end sends on, and the one that it hears
pub record Ways : Type 0 where
  pub out : Way
  pub inn : Way

-- the ways of an end, by the members of the traits of the two directions: it sends on the first
abbrev pub ways : record { ring : RingRule; text : TextRule } → record { ring : RingRule; text : TextRule } → Ways
ways o i = record { out = way o i.ring; inn = way i o.ring }

-- the sending half: how many messages are numbered; the outgoing cells, oldest first; the identifier last put in a message block; how many identifiers are
-- spent since the last acknowledged one; whether a begun message was withdrawn since the last new block
pub record Outbox : Type 0 where
  pub numbered : ℕ
  pub cells : List (Stored Cell)
  pub put : Option ℕ
  pub spent : ℕ
  pub passing : Bool

-- the receiving half: the identifier last accepted, whether an acknowledgment is owed, the open part with its text, the completed messages that wait
pub record Inbox : Type 0 where
  pub accepted : Option ℕ
  pub owed : Bool
  pub part : Option (Stored PartHead)
  pub waiting : List (Stored Label)

pub record Model : Type 0 where
  pub settings : Settings
  pub outbox : Outbox
  pub clock : Clock
  pub inbox : Inbox

-- an end just made
abbrev pub new_model : Settings → Model
new_model s = record {
  settings = s;
  outbox = record { numbered = 0; cells = []; put = None; spent = 0; passing = false };
  clock = record { time = 0; due = 0; tries = 0 };
  inbox = record { accepted = None; owed = false; part = None; waiting = [] };
}
