use Rattle.writing.proofs.Trips.{round_trips}
use Rattle.writing.proofs.round_trip_stands.Goals as goal

pub returns : goal.returns
returns c = round_trips
