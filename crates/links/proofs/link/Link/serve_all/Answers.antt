use Rattle.std.proofs.Common.{refl, sym, ap, ◌∙◌, arith, append-nil, [], ℕ, ◌+◌, ◌∷◌, ◌++◌}
use Rattle.links.specs.Links.{sight, ServedAt}
use Rattle.std.proofs.lemmas.List.{length_push}
use Rattle.links.specs.Turns.{InTurn, none_served}
use Rattle.links.proofs.Making.{link_law}
use Rattle.links.proofs.Going.{answers_more, goes_on, turn_more, turns_all}
use Rattle.links.proofs.link.Link.serve_all.Given as given
use Rattle.links.proofs.link.Link.serve_all.Goals as goal

-- src/turns.rt:28:13
pub returns-then-remaining_capacity-requests-clause-law :
    goal.returns-then-remaining_capacity-requests-clause-law
returns-then-remaining_capacity-requests-clause-law g c = link_law

-- src/turns.rt:30:9
pub loop-request-init : goal.loop-request-init
loop-request-init g c = ([], sym (append-nil c.args.answers.now.items), refl, none_served)

-- src/turns.rt:30:9
pub loop-request-preserved : goal.loop-request-preserved
loop-request-preserved g c =
    let i = c.loop-request.invariant in (
      i.0 ++ c.serve.result ∷ [],
      c.push.ensures.items ∙ answers_more c.args.answers.now.items c.loop-request.answers.items i.0 c.serve.result i.1,
      length_push i.0 c.serve.result ∙ ap (λ (n : ℕ). n + 1) i.2,
      turn_more _ _ _ _ _ _ _ c.args.requests.now i.0 c.loop-request.request-index _ _ c.loop-request-test.true i.3 c.serve.ensures.exact,
    )

all_served : (g : given.Over) (c : goal.After-loop-request g) → InTurn (ServedAt g.P.AirPath.strings g.Q.AirPath.strings g.P.AirPath.puts g.P.AirPath.takes g.Q.AirPath.puts g.Q.AirPath.takes)
    (sight g.P.AirPath.sees g.Q.AirPath.sees c.args.self.now) c.args.buffer.now c.args.requests.now c.loop-request.invariant.0 (sight g.P.AirPath.sees g.Q.AirPath.sees c.loop-request.self) c.loop-request.buffer
all_served g c =
    turns_all _ _ _ _ _ c.args.requests.now c.loop-request.invariant.0 c.loop-request.request-index c.loop-request-test.false c.loop-request.invariant.3

-- src/turns.rt:17:5
pub returns-clause-exact : goal.returns-clause-exact
returns-clause-exact g c = (c.loop-request.invariant.0, c.loop-request.invariant.1, omega (arith, c.remaining_capacity.ensures, c.if-remaining_capacity-requests.false), all_served g c)

-- src/turns.rt:17:5
pub returns-clause-run : goal.returns-clause-run
returns-clause-run g c =
    (c.loop-request.invariant.0, c.loop-request.invariant.1, goes_on g.P.AirPath.strings g.Q.AirPath.strings g.P.AirPath.puts g.P.AirPath.takes g.Q.AirPath.puts g.Q.AirPath.takes _ _ _ _ _ _ (all_served g c))

-- src/turns.rt:17:5
pub returns-clause-law : goal.returns-clause-law
returns-clause-law g c = link_law
