-- What a memory holds after two parts were laid down, and that it keeps its length, as a part is laid down and as its octets are moved.
-- Assumes nothing.
use Rattle.std.specs.Prelude.{◌≡◌, ℕ, ◌+◌, ◌≤◌, List, ◌++◌, length, take, drop}
use Rattle.std.proofs.Common.{sym, ap, ◌∙◌, append_assoc, arith, length-append}
use Rattle.std.proofs.lemmas.List.{take_at, drop_at, drop-drop, length-take, length-take-le, length-drop}
use Rattle.lines.specs.Stored.{laid_at, moved_down}

-- Two parts, one behind the other.
pub laid_both : (place n k : ℕ) (memory a b first second : List ℕ) → n ≡ length a → k ≡ length b → place + n ≤ length memory → first ≡ take place memory ++ (a ++ drop (place + n) memory) → second ≡ take (place + n) first ++ (b ++ drop ((place + n) + k) first) → second ≡ take place memory ++ (a ++ (b ++ drop (place + (n + k)) memory))
laid_both place n k memory a b first second p q h e f =
    let first' : first ≡ (take place memory ++ a) ++ drop (place + n) memory = e ∙ sym (append_assoc (take place memory) a (drop (place + n) memory)) in
    let long : length (take place memory ++ a) ≡ place + n = omega (arith, length-append (take place memory) a, length-take-le place memory (omega arith)) in
    let front : take (place + n) first ≡ take place memory ++ a = ap (take (place + n)) first' ∙ take_at (take place memory ++ a) (drop (place + n) memory) (place + n) long in
    let end : drop (place + n) first ≡ drop (place + n) memory = ap (drop (place + n)) first' ∙ drop_at (take place memory ++ a) (drop (place + n) memory) (place + n) long in
    let total : (place + n) + k ≡ place + (n + k) = omega arith in
    let behind : drop ((place + n) + k) first ≡ drop (place + (n + k)) memory = sym (drop-drop k (place + n) first) ∙ ap (drop k) end ∙ drop-drop k (place + n) memory ∙ ap (λ (j : ℕ). drop j memory) total in
    f ∙ ap (λ (x : List ℕ). x ++ (b ++ drop ((place + n) + k) first)) front ∙ ap (λ (x : List ℕ). (take place memory ++ a) ++ (b ++ x)) behind ∙ append_assoc (take place memory) a (b ++ drop (place + (n + k)) memory)

pub laid_long : (place : ℕ) (head s memory : List ℕ) → place + (length head + length s) ≤ length memory → length (laid_at place head s memory) ≡ length memory
laid_long place head s memory h =
    let n = place + (length head + length s) in
    omega (arith, length-append (take place memory) (head ++ (s ++ drop n memory)), length-append head (s ++ drop n memory), length-append s (drop n memory), length-drop n memory, length-take-le place memory (omega arith))

pub moved_long : (used places : ℕ) (memory : List ℕ) → length (moved_down used places memory) ≡ length memory
moved_long used places memory =
    let front = take used memory in
    omega (arith, length-append (drop places front) (take places front ++ drop used memory), length-append (take places front) (drop used memory), length-drop places front, length-take places front, length-drop used memory, length-take used memory)
