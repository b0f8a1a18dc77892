use Rattle.std.proofs.Common.{refl}
use Rattle.calls.specs.declared.call.Side.TheVariants.{Aircraft, Ground}
use Rattle.links.proofs.Stepping.{steps_at}
use Rattle.links.proofs.Making.{link_law}
use Rattle.links.proofs.link.Link.serve.Goals as goal

-- src/link.rt:49:5
pub returns-in-Aircraft-clause-step : goal.returns-in-Aircraft-clause-step
returns-in-Aircraft-clause-step g c = steps_at g.P.AirPath.strings g.Q.AirPath.strings g.P.AirPath.puts g.P.AirPath.takes g.Q.AirPath.puts g.Q.AirPath.takes _ _ _ _ _ _ _ Aircraft c.in-Aircraft.is (c.serve.ensures, refl)

-- src/link.rt:49:5
pub returns-in-Aircraft-clause-law : goal.returns-in-Aircraft-clause-law
returns-in-Aircraft-clause-law g c = link_law

-- src/link.rt:49:5
pub returns-in-Ground-clause-step : goal.returns-in-Ground-clause-step
returns-in-Ground-clause-step g c = steps_at g.P.AirPath.strings g.Q.AirPath.strings g.P.AirPath.puts g.P.AirPath.takes g.Q.AirPath.puts g.Q.AirPath.takes _ _ _ _ _ _ _ Ground c.in-Ground.is (c.serve-in-Ground.ensures, refl)

-- src/link.rt:49:5
pub returns-in-Ground-clause-law : goal.returns-in-Ground-clause-law
returns-in-Ground-clause-law g c = link_law
