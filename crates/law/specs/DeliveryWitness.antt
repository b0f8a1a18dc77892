-- Deliveries happen, over paths that repeat and spoil: truth and order are not about nothing.
-- Assumes nothing.
use Rattle.std.specs.Prelude.{◌≡◌, true, List, [], ◌∷◌}
use Rattle.law.specs.Directions.{Direction, Sound}
use Rattle.law.specs.Senders.{Message, size, delivered}
use Rattle.law.specs.Links.{Packet, spoiled, sent, responded, Side, Event, Link, Run}
use Rattle.law.specs.Truth.{other, called, calls, submissions, handed_out, Made}

-- a run on which side x's message of two blocks is submitted, handed out at the other side and called delivered
pub record Delivers (dn up : Direction) (x : Side) : Type 0 where
  pub text : Message
  pub history : List Event
  pub reached : Link
  pub run : Run dn up history reached
  pub two_blocks : size text ≡ 2
  pub submitted_it : submissions (calls x history) ≡ text ∷ []
  pub handed_it_out : handed_out (calls (other x) history) ≡ text ∷ []
  pub called_delivered : called x reached 1 ≡ delivered
  -- two copies of its last block joined the path, and a spoiled string; so did its acknowledgment
  pub block_put : Packet
  pub block_twice : Made (sent true 1 1 block_put (block_put ∷ spoiled ∷ block_put ∷ [])) (calls x history)
  pub answer_put : Packet
  pub answer_twice : Made (responded true answer_put (answer_put ∷ spoiled ∷ answer_put ∷ [])) (calls (other x) history)

-- over any two directions, and from either side
abbrev pub DeliveriesHappen : Type 0
DeliveriesHappen = (dn up : Direction) → Sound dn → Sound up → (x : Side) → Delivers dn up x
