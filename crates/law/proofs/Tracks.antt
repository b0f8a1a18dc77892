-- What waits on a path, as positions that never go down: each entry says nothing, or stands at a position from the lower
-- bound on.
-- Assumes nothing.
use Rattle.std.proofs.Common.{ℕ, ◌≤◌, List, [], ◌∷◌, ◌++◌, le_trans}
use mathlib.Core.Option.{Option, none, some}

pub data Track {X : Type 0} (P : ℕ → X → Type 0) : ℕ → List (Option X) → ℕ → Type 0 where
  nothing : {lo hi : ℕ} → lo ≤ hi → Track P lo [] hi
  mute : {lo hi : ℕ} {xs : List (Option X)} → Track P lo xs hi → Track P lo (none ∷ xs) hi
  stands : {lo hi : ℕ} {x : X} {xs : List (Option X)} (q : ℕ) → lo ≤ q → P q x → Track P q xs hi → Track P lo (some x ∷ xs) hi

-- the first that waits, and the rest from its position on
pub data Front {X : Type 0} (P : ℕ → X → Type 0) (lo : ℕ) (x : X) (xs : List (Option X)) (hi : ℕ) : Type 0 where
  at_front : (q : ℕ) → lo ≤ q → P q x → Track P q xs hi → Front P lo x xs hi

module _ {X : Type 0} {P : ℕ → X → Type 0} where
  pub front : {lo hi : ℕ} {x : X} {xs : List (Option X)} → Track P lo (some x ∷ xs) hi → Front P lo x xs hi
  front (stands q l w t) = at_front q l w t

  pub track_le : {lo hi : ℕ} {xs : List (Option X)} → Track P lo xs hi → lo ≤ hi
  track_le (nothing l) = l
  track_le (mute t) = track_le t
  track_le (stands q l w t) = le_trans l (track_le t)

  pub track_low : {lo lo' hi : ℕ} {xs : List (Option X)} → lo' ≤ lo → Track P lo xs hi → Track P lo' xs hi
  track_low m (nothing l) = nothing (le_trans m l)
  track_low m (mute t) = mute (track_low m t)
  track_low m (stands q l w t) = stands q (le_trans m l) w t

  pub track_high : {lo hi hi' : ℕ} {xs : List (Option X)} → hi ≤ hi' → Track P lo xs hi → Track P lo xs hi'
  track_high m (nothing l) = nothing (le_trans l m)
  track_high m (mute t) = mute (track_high m t)
  track_high m (stands q l w t) = stands q l w (track_high m t)

  pub track_append : {lo hi hi' : ℕ} {xs ys : List (Option X)} → Track P lo xs hi → Track P hi ys hi' → Track P lo (xs ++ ys) hi'
  track_append (nothing l) u = track_low l u
  track_append (mute t) u = mute (track_append t u)
  track_append (stands q l w t) u = stands q l w (track_append t u)

  pub track_drop : {lo hi : ℕ} (xs : List (Option X)) {ys : List (Option X)} → Track P lo (xs ++ ys) hi → Track P lo ys hi
  track_drop [] t = t
  track_drop (none ∷ xs) (mute t) = track_drop xs t
  track_drop (some x ∷ xs) (stands q l w t) = track_low l (track_drop xs t)

pub track_map : {X : Type 0} {P Q : ℕ → X → Type 0} {lo hi : ℕ} {xs : List (Option X)} →
    ((q : ℕ) (x : X) → q ≤ hi → P q x → Q q x) → Track P lo xs hi → Track Q lo xs hi
track_map f (nothing l) = nothing l
track_map f (mute t) = mute (track_map f t)
track_map f (stands {x = x} q l w t) = stands q l (f q x (track_le t) w) (track_map f t)
