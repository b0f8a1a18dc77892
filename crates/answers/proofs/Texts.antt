-- The parts that are added one after another make the line.
use Rattle.std.proofs.Common.{◌≡◌, ℕ, ◌+◌, ◌*◌, ◌≤◌, List, [], ◌∷◌, ◌++◌, length, Bool, true, false, cond, refl, Option, codes, decimal, sym, ap, ◌∙◌, append_assoc, arith, length-append}
use Rattle.std.proofs.lemmas.List.{take_all}
use Rattle.std.proofs.lemmas.Bool.Decides.{nat_tests}
use Rattle.std.specs.List.{flat_map}
use Rattle.blocks.specs.Fields.{Fields}
use Rattle.recordings.specs.declared.heading.Heading.{Heading}
use Rattle.recordings.specs.Recorded.{letter}
use Rattle.answers.specs.Printed.{printed, unread, block, refused, commas, detail, placed, escaped}
use Rattle.answers.specs.Room.{cut}
use Rattle.answers.proofs.Adding.{cut_then}

pub unread_line : (count : ℕ) → length (decimal count) ≤ 20 → cut (cut (decimal count) ++ codes ",-,0,unread\n") ≡ printed count unread
unread_line count short =
    cut_then 512 (decimal count) (codes ",-,0,unread\n")
    ∙ take_all 512 (decimal count ++ codes ",-,0,unread\n") (omega (arith, length-append (decimal count) (codes ",-,0,unread\n")))
    ∙ sym (append_assoc (decimal count) (codes ",-,0,unread") (10 ∷ []))

pub block_line :
    (count : ℕ) (h : Heading) (f : Fields) → length (decimal count) ≤ 20 → length (commas (codes "0" ∷ detail f)) ≤ 480 →
    cut (cut (cut (decimal count) ++ (44 ∷ letter h ∷ [])) ++ (44 ∷ (commas (codes "0" ∷ detail f) ++ (10 ∷ [])))) ≡ printed count (block h f)
block_line count h f short fits =
    let d = decimal count in
    let rest = commas (codes "0" ∷ detail f) in
    let whole : cut (cut (cut d ++ (44 ∷ letter h ∷ [])) ++ (44 ∷ (rest ++ (10 ∷ [])))) ≡ cut (printed count (block h f)) = simp (cut_then, append_assoc) in
    whole
    ∙ take_all 512 (printed count (block h f))
    (omega (arith, length-append (d ++ (44 ∷ letter h ∷ 44 ∷ rest)) (10 ∷ []), length-append d (44 ∷ letter h ∷ 44 ∷ rest)))

pub refused_line :
    (count : ℕ) (h : Heading) (n : ℕ) (p : Option ℕ) → length (decimal count) ≤ 20 → length (decimal n) + length (placed p) ≤ 40 →
    cut (cut (cut (decimal count) ++ (44 ∷ letter h ∷ [])) ++ (44 ∷ (decimal n ++ (44 ∷ (placed p ++ (10 ∷ [])))))) ≡ printed count (refused h n p)
refused_line count h n p short fits =
    let d = decimal count in
    let m = decimal n in
    let whole : cut (cut (cut d ++ (44 ∷ letter h ∷ [])) ++ (44 ∷ (m ++ (44 ∷ (placed p ++ (10 ∷ [])))))) ≡ cut (printed count (refused h n p)) = simp (cut_then, append_assoc) in
    whole
    ∙ take_all 512 (printed count (refused h n p))
    (omega (arith, length-append (d ++ (44 ∷ letter h ∷ 44 ∷ (m ++ (44 ∷ placed p)))) (10 ∷ []), length-append d (44 ∷ letter h ∷ 44 ∷ (m ++ (44 ∷ placed p))), length-append m (44 ∷ placed p)))

-- an escaped character takes two octets at most, and so do those of a text each
escaped_long : (c : ℕ) → length (escaped c) ≤ 2
escaped_long c = grind (arith, nat_tests)

pub text_long : (xs : List ℕ) → length (flat_map escaped xs) ≤ 2 * length xs
text_long [] = omega arith
text_long (x ∷ xs) = omega (arith, length-append (escaped x) (flat_map escaped xs), escaped_long x, text_long xs)

-- the word for a block that is or is not the last has four octets
pub word_long : (last : Bool) → length (cond last (codes "last") (codes "more")) ≡ 4
word_long true = refl
word_long false = refl

-- parts added one after another
seven_parts :
    (s p q r u v w z : List ℕ) →
    cut (cut (cut (cut (cut (cut (cut (s ++ p) ++ q) ++ r) ++ u) ++ v) ++ w) ++ z) ≡ cut (s ++ (p ++ (q ++ (r ++ (u ++ (v ++ (w ++ z)))))))
seven_parts s p q r u v w z = simp (cut_then, append_assoc)

-- the parts of a message
pub message_parts :
    (s a l e t : List ℕ) (k i : ℕ) →
    cut (cut (cut (cut (cut (cut (cut (s ++ codes ",0,message") ++ (44 ∷ (a ++ (44 ∷ k ∷ [])))) ++ (44 ∷ l)) ++ (44 ∷ i ∷ [])) ++ (44 ∷ e)) ++ (44 ∷ t)) ++ (10 ∷ []))
    ≡ cut (s ++ (44 ∷ (commas (codes "0" ∷ codes "message" ∷ a ∷ (k ∷ []) ∷ l ∷ (i ∷ []) ∷ e ∷ t ∷ []) ++ (10 ∷ []))))
message_parts s a l e t k i =
    let feed : List ℕ = 10 ∷ [] in
    let ended : List ℕ = 44 ∷ (t ++ feed) in
    let marked : List ℕ = 44 ∷ i ∷ 44 ∷ (e ++ ended) in
    seven_parts s (codes ",0,message") (44 ∷ (a ++ (44 ∷ k ∷ []))) (44 ∷ l) (44 ∷ i ∷ []) (44 ∷ e) (44 ∷ t) feed
    ∙ ap (λ (x : List ℕ). cut (s ++ (codes ",0,message," ++ x)))
    (append_assoc a (44 ∷ k ∷ []) (44 ∷ (l ++ marked))
    ∙ ap (λ (x : List ℕ). a ++ (44 ∷ k ∷ 44 ∷ x))
    (ap (λ (x : List ℕ). l ++ (44 ∷ i ∷ 44 ∷ x)) (sym (append_assoc e (44 ∷ t) feed))
    ∙ sym (append_assoc l (44 ∷ i ∷ 44 ∷ (e ++ (44 ∷ t))) feed))
    ∙ sym (append_assoc a (44 ∷ k ∷ 44 ∷ (l ++ (44 ∷ i ∷ 44 ∷ (e ++ (44 ∷ t))))) feed))
