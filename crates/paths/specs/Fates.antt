-- The fates that a fade box holds. Assumes nothing.
use Rattle.std.specs.Prelude.{ℕ, cond, List, [], ◌∷◌, ◌==◌}
use Rattle.paths.specs.declared.fates.Fate.{Fate}
use Rattle.paths.specs.declared.fates.Fates.{Fates}
use Rattle.paths.specs.declared.fates.Fate.TheVariants.{Lost, Intact, Twice, Spoiled}

-- The fate of a number: 0 lost, 1 intact, 2 twice, 3 spoiled; any other counts as 1.
abbrev pub fate_of : ℕ → Fate
fate_of n = cond (n == 0) Lost (cond (n == 2) Twice (cond (n == 3) Spoiled Intact))

-- The fates of a store that are yet to come.
abbrev pub coming : Fates → List Fate
coming f = f.held

-- The next fate; once all are spent, intact.
abbrev pub next : List Fate → Fate
next [] = Intact
next (f ∷ fs) = f

-- What comes after the next fate.
abbrev pub later : List Fate → List Fate
later [] = []
later (f ∷ fs) = fs
