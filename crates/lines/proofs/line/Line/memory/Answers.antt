use Rattle.lines.specs.Holding.{lying}
use Rattle.lines.proofs.line.Line.memory.Goals as goal

pub returns-clause-lies : goal.returns-clause-lies
returns-clause-lies g c = lying g.L.Shape.layout c.args.self.now.store c.args.self.now.kept c.octets.result.now c.octets.ensures
