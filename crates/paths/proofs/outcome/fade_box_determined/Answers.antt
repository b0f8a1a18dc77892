use Rattle.paths.proofs.Outcomes.{fade_determined}
use Rattle.paths.proofs.outcome.fade_box_determined.Goals as goal

pub returns : goal.returns
returns g c = λ d. fade_determined d
