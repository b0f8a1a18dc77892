-- What an input line is, and the line that answers it.
-- Assumes nothing.
use Rattle.std.specs.Prelude.{◌≡◌, ℕ, ◌^◌, ◌<◌, List, Option}
use Rattle.blocks.specs.Fields.{Fields, written}
use Rattle.blocks.specs.Legal.{Sound}
use Rattle.blocks.specs.Reading.{Refusal}
use Rattle.recordings.specs.declared.heading.Heading.{Heading}
use Rattle.recordings.specs.Recorded.{LineOf, Unread}
use Rattle.answers.specs.Printed.{Outcome, block, refused, unread, printed}
use Rattle.answers.specs.Laws.{way_of}

-- the line is that of a string which is a block of these fields
pub record BlockOf (line : List ℕ) (h : Heading) (f : Fields) : Type 0 where
  pub string : List ℕ
  pub recorded : LineOf h string line
  pub sound : Sound (way_of h) f
  pub made : string ≡ written f

-- the line is that of a string which is refused
pub record Refused (line : List ℕ) (h : Heading) (n : ℕ) (p : Option ℕ) : Type 0 where
  pub string : List ℕ
  pub recorded : LineOf h string line
  pub refusal : Refusal (way_of h) string n p

-- the line turns out to be this
abbrev pub Is : List ℕ → Outcome → Type 0
Is line (block h f) = BlockOf line h f
Is line (refused h n p) = Refused line h n p
Is line unread = Unread line

-- the text is the line of what the input line turns out to be
pub record Answered (line : List ℕ) (count : ℕ) (text : List ℕ) : Type 0 where
  pub outcome : Outcome
  pub is : Is line outcome
  pub text_is : text ≡ printed count outcome

-- what an input line turns out to be, and its count, can be told from its answer alone
abbrev pub AnswersApart : Type 0
AnswersApart =
    (k l : List ℕ) (m n : ℕ) (text : List ℕ) → m < 2 ^ 64 → n < 2 ^ 64 → (a : Answered k m text) (b : Answered l n text) →
    (m ≡ n) × (a.outcome ≡ b.outcome)
