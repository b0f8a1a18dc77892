-- What a direction adds to its ring: how the text of its blocks opens, how much of a message a block holds,
-- and which block opens or continues a message.
-- Assumes nothing.
use Rattle.std.specs.Prelude.{◌≡◌, ℕ, suc, ◌+◌, ◌-◌, ◌*◌, ◌/◌, ◌%◌, ◌<◌, Bool, true, false, cond, not, ◌&&◌, ◌||◌, List, [], ◌∷◌, ◌++◌, length, Some, None, Option, ◌==◌, nat_le, nat_lt, slice_index}
use Rattle.directions.specs.declared.marks.Mark.{Mark}
use Rattle.directions.specs.declared.marks.Mark.TheVariants.{Plain, Numbered}
use Rattle.directions.specs.declared.marks.Joining.{Joining}
use Rattle.directions.specs.declared.marks.Joining.TheVariants.{Opens, Continues, Neither}
use Rattle.directions.specs.Rings.{RingRule}

-- c stands from a to b
abbrev pub within : ℕ → ℕ → ℕ → Bool
within a b c = nat_le a c && nat_le c b

-- a letter A–Z; a digit 0–9; either
abbrev pub is_letter : ℕ → Bool
is_letter c = within 65 90 c

abbrev pub is_digit : ℕ → Bool
is_digit c = within 48 57 c

abbrev pub is_letter_or_digit : ℕ → Bool
is_letter_or_digit c = is_letter c || is_digit c

-- the text rule of a direction
pub record TextRule : Type 0 where
  -- how many characters of its own a block's text opens with
  pub opening : ℕ
  -- whether a character may stand at an index of that opening, after the character before it
  pub allows : ℕ → ℕ → ℕ → Bool
  -- how many message characters a block holds at most
  pub room : ℕ
  -- what a block says of its place: of an originator's message number n, the block with an index from 0
  pub mark : ℕ → ℕ → ℕ → Mark
  -- the opening of that block's text, given the flight as well
  pub opener : ℕ → List ℕ → ℕ → ℕ → List ℕ
  -- what the characters of a text say of its block's place
  pub reads : List ℕ → Mark
  -- what a block does to the open part, told whether its identifier is the next after the last accepted
  pub joining : Option Mark → Mark → Bool → Joining

-- the laws of a text rule
pub record Joins (t : TextRule) : Type 0 where
  -- with no part open, a first block opens one
  pub begins : (o n : ℕ) (next : Bool) → t.joining None (t.mark o n 0) next ≡ Opens
  -- a message's following block, told that its identifier is the next, continues it
  pub follows : (o n i : ℕ) → t.joining (Some (t.mark o n i)) (t.mark o n (suc i)) true ≡ Continues
  -- another message's first block, told that its identifier is not the next, never continues an open part: it opens
  pub parts : (part : Mark) (o n : ℕ) → t.joining (Some part) (t.mark o n 0) false ≡ Opens

-- the laws of a text's opening
pub record OpeningLaws (t : TextRule) : Type 0 where
  -- opening and message characters together are at most 220
  pub full : t.opening + t.room ≡ 220
  -- what is allowed is a seven-bit character
  pub seven : (i before c : ℕ) → t.allows i before c ≡ true → c < 128
  -- at each index of the opening some character is allowed after any other
  pub fillable : (i : ℕ) → (c : ℕ) × ((before : ℕ) → i < t.opening → t.allows i before c ≡ true)

-- the laws of the opening that a sender writes, of 16 blocks at most
pub record OpenerLaws (t : TextRule) : Type 0 where
  -- it has its length
  pub long : (o : ℕ) (flight : List ℕ) (n i : ℕ) → length flight ≡ 6 → length (t.opener o flight n i) ≡ t.opening
  -- it is allowed, where originator and flight are
  pub allowed : (o : ℕ) (flight : List ℕ) (n i : ℕ) → is_letter o ≡ true → length flight ≡ 6 → ((k : ℕ) → k < 6 → is_letter_or_digit (slice_index flight k) ≡ true) → i < 16 →
      (j : ℕ) → j < t.opening → t.allows j (slice_index (2 ∷ t.opener o flight n i) j) (slice_index (t.opener o flight n i) j) ≡ true
  -- it says the block's place, whatever follows
  pub says : (o : ℕ) (flight : List ℕ) (n i : ℕ) (rest : List ℕ) → length flight ≡ 6 → i < 16 → t.reads (t.opener o flight n i ++ rest) ≡ t.mark o n i

-- ten identifiers 0–9 down, twenty-six A–Z up
abbrev pub down_ring : RingRule
down_ring = record { first = 48; size = 10 }

abbrev pub up_ring : RingRule
up_ring = record { first = 65; size = 26 }

-- the opening of a downlink's text: originator A–Z, number 01–99, block letter A–P, six letters or digits of flight
abbrev pub down_allows : ℕ → ℕ → ℕ → Bool
down_allows i before c =
    cond (i == 0) (is_letter c)
    (cond (i == 1) (is_digit c)
    (cond (i == 2) (is_digit c && not (before == 48 && c == 48))
    (cond (i == 3) (within 65 80 c) (is_letter_or_digit c))))

-- message n bears the number ((n − 1) mod 99) + 1, and its block i the letter i after A
abbrev pub down_mark : ℕ → ℕ → ℕ → Mark
down_mark o n i = Numbered o ((n - 1) % 99 + 1) (65 + i)

-- the number in decimal digits, the letter, the flight
abbrev pub down_opener : ℕ → List ℕ → ℕ → ℕ → List ℕ
down_opener o flight n i = o ∷ (48 + ((n - 1) % 99 + 1) / 10) ∷ (48 + ((n - 1) % 99 + 1) % 10) ∷ (65 + i % 16) ∷ flight

abbrev pub down_reads : List ℕ → Mark
down_reads cs = cond (nat_lt 3 (length cs)) (Numbered (slice_index cs 0) ((slice_index cs 1 - 48) * 10 + (slice_index cs 2 - 48)) (slice_index cs 3)) Plain

-- letter A opens; another continues where a part is open with its originator, its number and the letter before
abbrev pub follows_mark : Option Mark → ℕ → ℕ → ℕ → Joining
follows_mark None o n l = Neither
follows_mark (Some Plain) o n l = Neither
follows_mark (Some (Numbered o' n' l')) o n l = cond (o' == o && (n' == n && l' + 1 == l)) Continues Neither

abbrev pub down_joining : Option Mark → Mark → Bool → Joining
down_joining part Plain next = Neither
down_joining part (Numbered o n l) next = cond (l == 65) Opens (follows_mark part o n l)

-- an uplink continues where a part is open and its identifier is the next; otherwise it opens
abbrev pub up_joining : Option Mark → Mark → Bool → Joining
up_joining None block next = Opens
up_joining (Some part) block next = cond next Continues Opens

abbrev pub down_text : TextRule
down_text = record { opening = 10; allows = down_allows; room = 210; mark = down_mark; opener = down_opener; reads = down_reads; joining = down_joining }

abbrev pub up_text : TextRule
up_text = record { opening = 0; allows = λ _ _ _. false; room = 220; mark = λ _ _ _. Plain; opener = λ _ _ _ _. []; reads = λ _. Plain; joining = up_joining }
