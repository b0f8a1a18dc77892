-- The octets of the pairs so far.
use Rattle.std.proofs.Common.{◌≡◌, ℕ, ◌<◌, ◌≤◌, [], length, get_or}
use Rattle.recordings.specs.Recorded.{Spells, string_of}
use Rattle.recordings.proofs.string.RecordedString.decode.Given as goal

abbrev pub invariant-loop-high : goal.invariant-loop-high
invariant-loop-high l =
    (length (string_of l.self) ≡ l.high-index)
    × (length (string_of l.self) ≤ 511)
    × ((k : ℕ) → k < l.high-index → Spells (get_or (get_or l.pairs k []) 0 0) (get_or (get_or l.pairs k []) 1 0) (get_or (string_of l.self) k 0))
