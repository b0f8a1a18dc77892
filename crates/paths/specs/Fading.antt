-- What a fade box does, precisely, over any path below it. Assumes nothing.
use Rattle.std.specs.Prelude.{◌≡◌, ℕ, List, [], ◌∷◌, Option}
use Rattle.paths.specs.declared.fates.Fate.{Fate}
use Rattle.paths.specs.declared.fates.Fate.TheVariants.{Lost, Intact, Twice, Spoiled}
use Rattle.paths.specs.Fates.{next, later}

-- What a fade box's calls depend on: the fates to come, and the path below.
pub record FadeSight (V : Type 0) : Type 0 where
  pub fates : List Fate
  pub below : V

-- A spoiled string: its first octet is made 0.
abbrev pub spoiled : List ℕ → List ℕ
spoiled [] = []
spoiled (x ∷ s) = 0 ∷ s

-- The string is put below twice.
pub record PutTwice {V : Type 0} (puts : V → List ℕ → V → Type 0) (v : V) (s : List ℕ) (w : V) : Type 0 where
  pub between : V
  pub first : puts v s between
  pub second : puts between s w

-- What each fate does to a string: it goes by, is put below, is put below twice, or is put below spoiled.
abbrev pub Faded : {V : Type 0} → (V → List ℕ → V → Type 0) → Fate → V → List ℕ → V → Type 0
Faded puts Lost v s w = w ≡ v
Faded puts Intact v s w = puts v s w
Faded puts Twice v s w = PutTwice puts v s w
Faded puts Spoiled v s w = puts v (spoiled s) w

-- A put on a fade box spends the next fate, and does below what that says.
pub record FadePuts {V : Type 0} (puts : V → List ℕ → V → Type 0) (v : FadeSight V) (s : List ℕ) (w : FadeSight V) : Type 0 where
  pub spends : w.fates ≡ later v.fates
  pub fades : Faded puts (next v.fates) v.below s w.below

-- A take on a fade box is a take below.
pub record FadeTakes {V : Type 0} (takes : V → Option (List ℕ) → V → Type 0) (v : FadeSight V) (o : Option (List ℕ)) (w : FadeSight V) : Type 0 where
  pub keeps : w.fates ≡ v.fates
  pub takes_below : takes v.below o w.below
