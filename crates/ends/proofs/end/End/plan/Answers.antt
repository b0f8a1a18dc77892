use Rattle.std.proofs.Common.{rules}
use Rattle.ends.specs.Ends.{model}
use Rattle.ends.proofs.Planning.{plan_by_found, planned}
use Rattle.ends.proofs.end.End.plan.Goals as goal

pub returns : goal.returns
returns g c =
    let m = model c.args.self.now in
    let e = plan_by_found m c.args.time c.current.result c.map_or.result (search rules) (search rules) in
    record { value = e; within = planned m c.args.time _ e }
