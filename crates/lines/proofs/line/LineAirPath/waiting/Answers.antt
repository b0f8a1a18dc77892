use Rattle.std.proofs.Common.{vec_items, rules}
use Rattle.lines.specs.Packing.{count_of}
use Rattle.lines.proofs.line.LineAirPath.waiting.Goals as goal

pub returns : goal.returns
returns g c =
    let strings = count_of g.L.Shape.layout c.args.self.now.store.count (vec_items c.args.self.now.store.octets) in
    search rules
