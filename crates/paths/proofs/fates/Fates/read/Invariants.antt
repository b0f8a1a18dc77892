use Rattle.std.proofs.Common.{◌≡◌, ◌+◌, ◌++◌, map, length, take}
use Rattle.paths.specs.Fates.{fate_of}
use Rattle.paths.proofs.fates.Fates.read.Given as goal

abbrev pub invariant-loop-n : goal.invariant-loop-n
invariant-loop-n l = record {
  room : length l.held.items + l.n-iterator.n ≡ 64;
  read : l.held.items ++ map fate_of (take l.n-iterator.n l.n-iterator.iter.rest.now) ≡ map fate_of (take 64 l.numbers);
}
