-- The answer to an input line.
use Rattle.std.proofs.Common.{◌≡◌, ℕ, ◌+◌, ◌<◌, true, ◌&&◌, ◌||◌, ltb, leb, List, map, length, Some, None, Ok, Err, Option, Result, sym, refl, subst, arith}
use lib.ListN.{length-map}
use Rattle.std.proofs.lemmas.Option.{cond_some}
use Rattle.std.proofs.lemmas.Bool.Decides.{nat_tests}
use Rattle.std.proofs.lemmas.Bool.{and_parts, leb-true, le-leb}
use Rattle.octets.specs.Parity.{character}
use Rattle.blocks.specs.declared.block.Block.{Block}
use Rattle.blocks.specs.declared.block.Block.TheVariants.{Response, Message}
use Rattle.blocks.specs.declared.fault.BlockFault.{BlockFault}
use Rattle.blocks.specs.Reading.{Reads}
use Rattle.recordings.specs.declared.heading.Heading.{Heading}
use Rattle.recordings.specs.declared.heading.Heading.TheVariants.{Down, Up}
use Rattle.recordings.specs.Recorded.{LineOf, Unread}
use Rattle.answers.specs.Printed.{unread, printed, outcome_of, fits_line}
use Rattle.recordings.specs.Split.{told}
use Rattle.answers.specs.Laws.{way_of}
use Rattle.answers.specs.Answered.{Answered}

-- how long a text may be in either direction
text_most : (h : Heading) → (way_of h).text.opening + (way_of h).text.room ≡ 220
text_most Down = refl
text_most Up = refl

-- what was read has a text that fits a line
pub read_fits : (h : Heading) (s : List ℕ) (r : Result Block BlockFault) → Reads (way_of h) s r → fits_line r ≡ true
read_fits h s (Err f) reads = refl
read_fits h s (Ok (Response a k i)) reads = refl
read_fits h s (Ok (Message a k l i e t)) reads =
    let n = length (map character t.now) in
    let w = (way_of h).text in
    let (low, more) = and_parts (leb w.opening n) (leb n (w.opening + w.room) && (ltb 0 n || e)) reads.sound.text.0 in
    let (high, some) = and_parts (leb n (w.opening + w.room)) (ltb 0 n || e) more in
    le-leb (length t.now) 220 (omega (arith, leb-true n (w.opening + w.room) high, text_most h, length-map t.now character))

-- the answer of reading is what the line turns out to be
pub answered :
    (line string : List ℕ) (count : ℕ) (h : Heading) (r : Result Block BlockFault) (text : List ℕ) →
    LineOf h string line → Reads (way_of h) string r → text ≡ printed count (outcome_of h r) → Answered line count text
answered line string count h (Ok b) text recorded read e =
    record { outcome = outcome_of h (Ok b); is = record { string = string; recorded = recorded; sound = read.sound; made = read.made }; text_is = e }
answered line string count h (Err f) text recorded read e =
    record { outcome = outcome_of h (Err f); is = record { string = string; recorded = recorded; refusal = read }; text_is = e }

-- a line that is no string's
pub answered_unread : (line : List ℕ) (count : ℕ) (text : List ℕ) → Unread line → text ≡ printed count unread → Answered line count text
answered_unread line count text none e = record { outcome = unread; is = none; text_is = e }

-- what is kept of a line is the line, or it is too long
told_some : (p l : List ℕ) → Some l ≡ told p → l ≡ p
told_some p l e = sym (cond_some (leb (length p) 1024) p l (sym e)).1

told_none : (p : List ℕ) → ◌≡◌ {A = Option (List ℕ)} None (told p) → 1024 < length p
told_none p e = grind (arith, nat_tests)

-- the answer to what is kept of a line is the answer to the line
pub answered_kept : (line p : List ℕ) (count : ℕ) (text : List ℕ) → Some line ≡ told p → Answered line count text → Answered p count text
answered_kept line p count text e a = subst (λ (l : List ℕ). Answered l count text) (told_some p line e) a

-- a line that is too long is no string's
pub answered_over : (p : List ℕ) (count : ℕ) (text : List ℕ) → ◌≡◌ {A = Option (List ℕ)} None (told p) → text ≡ printed count unread → Answered p count text
answered_over p count text e = answered_unread p count text (λ h string is. let long = told_none p e in omega (arith, is.short, is.long))
