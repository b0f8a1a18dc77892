-- What comes out of a fade box over a frame line, from what each says of itself. Assumes nothing.
use Rattle.std.proofs.Common.{◌≡◌, ℕ, ◌+◌, ◌≤◌, Bool, true, cond, leb, List, [], ◌∷◌, ◌++◌, length, take, drop, Ok, Err, Result, sym, refl, ap, ◌∙◌, subst, arith}
use Rattle.std.proofs.lemmas.List.{length-take, take-append-drop}
use Rattle.std.proofs.lemmas.Bool.{le-leb}
use Rattle.paths.specs.declared.fault.PathFault.{PathFault}
use Rattle.paths.specs.declared.fates.Fate.{Fate}
use Rattle.paths.specs.declared.fates.Fate.TheVariants.{Spoiled}
use Rattle.paths.specs.Fates.{next}
use Rattle.paths.specs.Fading.{FadeSight, FadePuts, FadeTakes, Faded, spoiled}
use Rattle.paths.specs.Meaning.{Takes}
use Rattle.lines.specs.Layouts.{framed}
use Rattle.lines.specs.Line.{LineSight, LinePuts, LineTakes}

long : (s : List ℕ) → length (spoiled s) ≡ length s
long [] = refl
long (x ∷ s) = refl

module _ (v w : FadeSight LineSight) (s : List ℕ) (room : ℕ) (fated : v.fates ≡ Spoiled ∷ []) (empty : v.below ≡ record { room = room; waiting = [] }) (put : FadePuts (LinePuts framed) v s w) (fits : 2 + length s ≤ room) where
  put_below : LinePuts framed (record { room = room; waiting = [] }) (spoiled s) w.below
  put_below =
      let faded = subst (λ (f : Fate). Faded (LinePuts framed) f v.below s w.below) (ap next fated) put.fades in
      subst (λ (u : LineSight). LinePuts framed u (spoiled s) w.below) empty faded

  waits : w.below.waiting ≡ spoiled s ∷ []
  waits =
      let kept : leb (0 + (2 + length (spoiled s))) room ≡ true = le-leb (0 + (2 + length (spoiled s))) room (omega (arith, long s)) in
      put_below.waiting ∙ ap (λ (t : Bool). cond t (spoiled s ∷ []) []) kept

  pub comes_out : (x : FadeSight LineSight) (b b' : List ℕ) (r : Result ℕ PathFault) → Takes (FadeTakes LineTakes) w b x b' r → 256 ≤ length b → (r ≡ Ok (length s)) × (b' ≡ spoiled s ++ drop (length s) b)
  comes_out x b b' (Ok n) t h =
      let both : spoiled s ∷ [] ≡ take n b' ∷ x.below.waiting = sym waits ∙ t.taken.takes_below.waiting in
      let string : take n b' ≡ spoiled s = cc in
      let count : n ≡ length s = omega (arith, ap length string, length-take n b', long s, t.size, t.count) in
      let front : b' ≡ spoiled s ++ drop n b = sym (take-append-drop n b') ∙ ap (λ (f : List ℕ). f ++ drop n b') string ∙ ap (λ (e : List ℕ). spoiled s ++ e) t.behind in
      (ap Ok count, front ∙ ap (λ (k : ℕ). spoiled s ++ drop k b) count)
  comes_out x b b' (Err f) t h =
      let none : spoiled s ∷ [] ≡ [] = sym waits ∙ (t.none h).1.takes_below.nothing in cc
