use Rattle.std.proofs.Common.{rules}
use Rattle.calls.proofs.Addresses.{address_tested}
use Rattle.calls.proofs.settings.is_address.Goals as goal

pub returns : goal.returns
returns c = let tested = address_tested c.args.characters.now c.address_fault.ensures.long c.address_fault.result c.address_fault.ensures.fault in search (rules, tested)
