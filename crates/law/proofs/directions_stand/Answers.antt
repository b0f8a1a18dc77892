use Rattle.law.proofs.RealDirections.{real_directions}
use Rattle.law.proofs.directions_stand.Goals as goal

pub returns : goal.returns
returns c = real_directions
