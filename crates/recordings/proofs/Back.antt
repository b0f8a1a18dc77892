-- The line of a string reads back as that string.
use Rattle.std.proofs.Common.{◌≡◌, ℕ, zero, suc, ◌+◌, ◌*◌, ◌/◌, ◌%◌, ◌<◌, Bool, true, false, List, [], ◌∷◌, length, get_or, Some, None, sym, refl, ◌∙◌, inl, inr, arith}
use Rattle.std.specs.List.{AllByRecursion}
use Rattle.std.proofs.lemmas.List.{ext_get_or}
use Rattle.std.proofs.lemmas.Bool.Decides.{nat_tests}
use Rattle.std.specs.Char.{digit_value}
use Rattle.recordings.specs.declared.heading.Heading.{Heading}
use Rattle.recordings.specs.Recorded.{letter, hex_digit, Digit, Spells, LineOf, string_of}
use Rattle.recordings.specs.Laws.{hex_of, LinesStand, LinesReadBack}
use Rattle.recordings.specs.declared.heading.Heading.TheVariants.{Down, Up}

-- the two letters differ
pub letter_apart : (h k : Heading) → letter h ≡ letter k → h ≡ k
letter_apart Down Down e = refl
letter_apart Down Up e = absurd (omega arith)
letter_apart Up Down e = absurd (omega arith)
letter_apart Up Up e = refl

-- a digit says its value
pub digit_is : (x v : ℕ) → v < 16 → Digit x v → digit_value x ≡ v
digit_is x v small (inl e) = grind (arith, nat_tests)
digit_is x v small (inr e) = grind (arith, nat_tests)

-- two digits spell one octet only
spells_apart : (x y o p : ℕ) → Spells x y o → Spells x y p → o ≡ p
spells_apart x y o p s t =
    let first = s.small in
    let second = t.small in
    let high : o / 16 ≡ p / 16 = sym (digit_is x (o / 16) (omega arith) s.high) ∙ digit_is x (p / 16) (omega arith) t.high in
    let low : o % 16 ≡ p % 16 = sym (digit_is y (o % 16) (omega arith) s.low) ∙ digit_is y (p % 16) (omega arith) t.low in
    omega arith

-- a line is the line of one string only
pub line_apart : (h k : Heading) (s t line : List ℕ) → LineOf h s line → LineOf k t line → (h ≡ k) × (s ≡ t)
line_apart h k s t line a b =
    let long : length s ≡ length t = omega (arith, a.long, b.long) in (
      letter_apart h k (sym a.direction ∙ b.direction),
      ext_get_or 0 s t long (λ i below. let also : i < length t = omega arith in spells_apart _ _ _ _ (a.digits i below) (b.digits i also)),
    )

pub lines_read_back : LinesReadBack
lines_read_back line None none = (λ h string is. none h string is, λ un. refl)
lines_read_back line (Some r) read = (
  λ h string is. line_apart r.heading h (string_of r.string) string line read is,
  λ un. absurd (un r.heading (string_of r.string) read),
)

-- the digits of a string, place by place
hex_long : (capital : ℕ → Bool) (s : List ℕ) → length (hex_of capital s) ≡ 2 * length s
hex_long capital [] = refl
hex_long capital (o ∷ os) = let ih = hex_long (λ (k : ℕ). capital (2 + k)) os in omega arith

hex_digit_is : (b : Bool) (v : ℕ) → Digit (hex_digit b v) v
hex_digit_is true v = inl refl
hex_digit_is false v = inr refl

hex_spells :
    (capital : ℕ → Bool) (s : List ℕ) (i : ℕ) → i < length s → AllByRecursion (λ (o : ℕ). o < 256) s →
    Spells (get_or (hex_of capital s) (2 * i) 0) (get_or (hex_of capital s) (1 + 2 * i) 0) (get_or s i 0)
hex_spells capital [] i below octets = absurd (omega arith)
hex_spells capital (o ∷ os) zero below (small, octets) =
    record { small = small; high = hex_digit_is (capital 0) (o / 16); low = hex_digit_is (capital 1) (o % 16) }
hex_spells capital (o ∷ os) (suc i) below (small, octets) =
    let ih = hex_spells (λ (k : ℕ). capital (2 + k)) os i (omega arith) octets in
    let first : 2 * suc i ≡ suc (suc (2 * i)) = omega arith in
    let second : 1 + 2 * suc i ≡ suc (suc (1 + 2 * i)) = omega arith in
    rw (second, first) ih

pub lines_stand_lem : LinesStand
lines_stand_lem h capital s short octets =
    let long = hex_long capital s in
    record {
      short = short;
      long = omega arith;
      direction = refl;
      comma = refl;
      digits = λ i below.
          let first : 2 + 2 * i ≡ suc (suc (2 * i)) = omega arith in
          let second : 3 + 2 * i ≡ suc (suc (1 + 2 * i)) = omega arith in
          rw (second, first) (hex_spells capital s i below octets);
    }
