-- The promise of a link.
-- Assumes nothing.
use Rattle.runs.specs.Truth.{TruthAndOrder, WaitingComeOut, RefusalsBetween}
use Rattle.runs.specs.Rounds.{Progress}

-- what holds of every run of a link, both ways
pub record LinkLaw : Type 0 where
  -- completed messages are the submitted ones, in order, each at most once, and only withdrawn ones are missing; outcomes are true
  pub truth : TruthAndOrder
  -- the completed messages that wait come out
  pub waiting : WaitingComeOut
  -- clean rounds make exact progress
  pub progress : Progress
  -- a tick is refused by 14 alone, a hear by 2, 3, 4, 5 or 12 alone
  pub refusals : RefusalsBetween
