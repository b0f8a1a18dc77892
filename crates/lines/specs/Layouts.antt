-- The layouts of the two lines. Assumes nothing.
use Rattle.std.specs.Prelude.{ℕ, ◌+◌, ◌*◌, ◌/◌, ◌%◌, Bool, true, ◌||◌, List, [], ◌∷◌, length, drop, ◌==◌, slice_index}
use Rattle.std.specs.List.{position_or_len}
use Rattle.lines.specs.Layout.{Layout}

-- The frame line: each string behind its length in two octets, the high one first.
abbrev pub framed : Layout
framed = record {
  head = λ s. (length s / 256) ∷ (length s % 256) ∷ [];
  size = 2;
  first = λ run. 256 * slice_index run 0 + slice_index run 1;
  plain = λ s. true;
}

-- The octets that tell where a string ends.
abbrev pub is_suffix : ℕ → Bool
is_suffix x = x == 0x83 || x == 0x97

-- The place of the first 83 or 97 hex; the length, if there is none.
abbrev pub suffix_at : List ℕ → ℕ
suffix_at s = position_or_len is_suffix s

-- The character line: each string behind AB 2A 16 16 hex; it ends three octets after its first 83 or 97 hex.
abbrev pub spelled : Layout
spelled = record {
  head = λ s. 0xAB ∷ 0x2A ∷ 0x16 ∷ 0x16 ∷ [];
  size = 4;
  first = λ run. suffix_at (drop 4 run) + 4;
  plain = λ s. (suffix_at s + 4 == length s);
}
