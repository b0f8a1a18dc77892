use Rattle.std.proofs.Common.{[]}
use Rattle.links.specs.Links.{sight}
use Rattle.links.proofs.Making.{link_law}
use Rattle.links.proofs.link.Link.run.Goals as goal

pub returns-in_err-link-clause-law : goal.returns-in_err-link-clause-law
returns-in_err-link-clause-law g c = link_law

pub returns-clause-run : goal.returns-clause-run
returns-clause-run g c =
    let served = c.in_ok-serve_all.ensures.run in
    let run = served.2 [] c.in_ok-link.ensures.run in
    (served.0, run.0, served.1, run.2, run.1)

pub returns-clause-exact : goal.returns-clause-exact
returns-clause-exact g c =
    let served = c.in_ok-serve_all.ensures.exact in
    record {
      fresh = sight g.P.AirPath.sees g.Q.AirPath.sees c.in_ok-link.link;
      made = c.in_ok-link.ensures.made;
      ys = served.0;
      answers = served.1;
      room = served.2;
      turns = served.3;
    }
