-- What a line does is a function of its state and the string. Assumes nothing.
use Rattle.std.proofs.Common.{◌≡◌, ℕ, List, [], ◌∷◌, Some, None, Option, sym, refl, ap, ◌∙◌}
use Rattle.paths.proofs.Outcomes.{Functional, determined, fade_determined}
use Rattle.lines.specs.Layout.{Layout}
use Rattle.lines.specs.Layouts.{framed, spelled}
use Rattle.lines.specs.Line.{LineSight, LinePuts, LineTakes}
use Rattle.lines.specs.Outcome.{LinesDetermined}

abbrev sight : ℕ → List (List ℕ) → LineSight
sight n ss = record { room = n; waiting = ss }

same_sight : (w x : LineSight) → w.room ≡ x.room → w.waiting ≡ x.waiting → w ≡ x
same_sight w x p q = ap (λ (n : ℕ). sight n w.waiting) p ∙ ap (λ (ss : List (List ℕ)). sight x.room ss) q

one_put : (l : Layout) (v : LineSight) (s : List ℕ) (w x : LineSight) → LinePuts l v s w → LinePuts l v s x → w ≡ x
one_put l v s w x p q = same_sight w x (p.room ∙ sym q.room) (p.waiting ∙ sym q.waiting)

one_take : (v : LineSight) (o p : Option (List ℕ)) (w x : LineSight) → LineTakes v o w → LineTakes v p x → (o ≡ p) × (w ≡ x)
one_take v (Some s) (Some t) w x p q =
    let both : s ∷ w.waiting ≡ t ∷ x.waiting = sym p.waiting ∙ q.waiting in
    (cc, same_sight w x (p.room ∙ sym q.room) cc)
one_take v (Some s) None w x p q = let both : s ∷ w.waiting ≡ [] = sym p.waiting ∙ q.nothing in cc
one_take v None (Some t) w x p q = let both : t ∷ x.waiting ≡ [] = sym q.waiting ∙ p.nothing in cc
one_take v None None w x p q = (refl, p.same ∙ sym q.same)

functional : (l : Layout) → Functional (LinePuts l) LineTakes
functional l = record { put = one_put l; take = one_take }

pub lines_determined_lem : LinesDetermined
lines_determined_lem = record {
  frame = determined (functional framed);
  character = determined (functional spelled);
  faded_frame = fade_determined (determined (functional framed));
  faded_character = fade_determined (determined (functional spelled));
}
