-- What a path refuses, by number. Assumes nothing.
use Rattle.std.specs.Prelude.{ℕ}
use Rattle.paths.specs.declared.fault.PathFault.{PathFault}
use Rattle.paths.specs.declared.fault.PathFault.TheVariants.{BadLength, NothingWaits}

-- The number of each refusal: 1, a string is not 1 to 256 octets or a buffer is under 256; 2, nothing waits.
abbrev pub number : PathFault → ℕ
number BadLength = 1
number NothingWaits = 2
