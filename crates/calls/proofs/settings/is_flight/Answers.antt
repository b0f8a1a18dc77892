use Rattle.std.proofs.Common.{◌∙◌, rules}
use Rattle.std.proofs.lemmas.Iterator.{YieldsList-from_slice}
use Rattle.std.proofs.lemmas.Iterator.Search.{all_from_yields_List}
use Rattle.directions.specs.TextRules.{is_letter_or_digit}
use Rattle.calls.proofs.Flights.{flight_tested}
use Rattle.calls.proofs.settings.is_flight.Goals as goal
use borrow.Author.Tests.{tests}

pub returns : goal.returns
returns c =
    all_from_yields_List (λ x. is_letter_or_digit x) _ _ _ c.all.ensures.ran (YieldsList-from_slice c.args.characters.now cc) (λ x b q k. search (rules, tests)) ∙
    flight_tested c.args.characters.now c.told-characters
