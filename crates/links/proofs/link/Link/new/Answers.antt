use Rattle.std.proofs.Common.{refl}
use Rattle.links.specs.Links.{aircraft_of, ground_of}
use Rattle.links.proofs.Making.{second_bad, ready, makes, begins}
use Rattle.links.proofs.link.Link.new.Goals as goal

-- src/link.rt:37:22
pub returns-in_err-ground-clause-made : goal.returns-in_err-ground-clause-made
returns-in_err-ground-clause-made g c =
    second_bad _ _ _ _ _ _ _ c.from_residual-in_err-ground.ensures.0 c.from_residual-in_err-ground.ensures.1 c.with.ensures.value c.in_ok-aircraft.ensures.0 c.with-2.ensures.value c.in_err-ground.ensures

made_link : goal.returns-clause-made
made_link g c =
    makes g.P.AirPath.strings g.Q.AirPath.strings g.P.AirPath.takes g.Q.AirPath.takes (aircraft_of c.args.stations) (ground_of c.args.stations) (g.P.AirPath.sees c.args.down) (g.Q.AirPath.sees c.args.up) _ (ready _ _ _ c.with.ensures.value c.with.ensures.seven c.with.ensures.six c.in_ok-aircraft.ensures)
    (ready _ _ _ c.with-2.ensures.value c.with-2.ensures.seven c.with-2.ensures.six c.in_ok-ground.ensures)
    c.drain.ensures.exact c.drain.ensures.meaning c.drain-2.ensures.exact c.drain-2.ensures.meaning

-- src/link.rt:25:5
pub returns-clause-made : goal.returns-clause-made
returns-clause-made g c = made_link g c

-- src/link.rt:25:5
pub returns-clause-run : goal.returns-clause-run
returns-clause-run g c = begins g.P.AirPath.strings g.Q.AirPath.strings g.P.AirPath.takes g.Q.AirPath.takes (aircraft_of c.args.stations) (ground_of c.args.stations) (g.P.AirPath.sees c.args.down) (g.Q.AirPath.sees c.args.up) _ refl (made_link g c)
