use Rattle.std.proofs.Common.{◌≡◌, ◌+◌, ◌-◌, ◌≤◌, length, take, drop, ap, ◌∙◌, arith, rules}
use Rattle.lines.specs.Stored.{memory_of, oldest_in}
use Rattle.lines.specs.Serving.{first_long, oldest_sized, oldest_fits, oldest_opens}
use Rattle.lines.proofs.line.Line.oldest.Goals as goal
use Rattle.lines.proofs.line.Line.oldest.Given.{Over}
use Rattle.lines.proofs.line.Line.oldest.Goals.{After-first}

record Found (g : Over) (c : After-first g) : Type 0 where
  first : c.first.result ≡ g.L.Shape.layout.first (memory_of c.args.self.now.store)
  fits : c.head_size-start.result + c.first.result ≤ length c.octets-run.result.now

found : (g : Over) (c : After-first g) → Found g c
found g c =
    let l = g.L.Shape.layout in
    let a = c.args.self.now.store in
    let some : 1 ≤ a.count = omega arith in
    let memory = c.octets-run.ensures in
    let first = c.first.ensures _ (ap (take l.size) memory ∙ oldest_opens l g.met.L.Shape.lawful a c.args.self.now.kept some) ∙ ap l.first memory in
    let fits = oldest_fits l g.met.L.Shape.lawful a c.args.self.now.kept some in
    record {
      first = first;
      fits = omega (arith, first, fits, first_long l g.met.L.Shape.lawful a c.args.self.now.kept some, ap length memory, a.within, a.octets.ok.0);
    }

pub overflow_add-result : goal.overflow_add-result
overflow_add-result g c = let f = (found g c).fits in search rules

pub slice_bounds-result-end : goal.slice_bounds-result-end
slice_bounds-result-end g c = let f = (found g c).fits in search rules

pub returns : goal.returns
returns g c =
    let l = g.L.Shape.layout in
    let a = c.args.self.now.store in
    let some : 1 ≤ a.count = omega arith in
    let f = (found g (goal.at.returns g c).After-first).first in
    let z : c.head_size-start.result + c.first.result - c.head_size-start.result ≡ c.first.result = omega arith in
    let string : take (c.head_size-start.result + c.first.result - c.head_size-start.result) (drop c.head_size-start.result c.octets-run.result.now) ≡ oldest_in l a = rw (z, f, c.head_size-start.ensures, c.octets-run.ensures) in
    record {
      none = search rules;
      some = string;
      sized = rw string (oldest_sized l g.met.L.Shape.lawful a c.args.self.now.kept some).most;
      within = rw string (oldest_fits l g.met.L.Shape.lawful a c.args.self.now.kept some);
    }
