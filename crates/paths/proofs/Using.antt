-- What code above a path uses. Assumes nothing.
use Rattle.std.proofs.Common.{◌≡◌, ℕ, ◌<◌, List, [], ◌∷◌, ◌++◌, length, Ok, Err, Result, refl, ap, subst, arith, length-append}
use Rattle.paths.specs.declared.fault.PathFault.{PathFault}
use Rattle.paths.specs.Meaning.{Sized, Each, Removed, Puts}

-- A take that hands out a string leaves fewer.
pub fewer : (before : List (List ℕ)) (s : List ℕ) (after : List (List ℕ)) → Removed before s after → length after < length before
fewer before s after r = omega (arith, ap length r.next, length-append r.dropped (s ∷ after))

-- A string of 1 to 256 octets is never refused.
pub accepted : {V : Type 0} (does : V → List ℕ → V → Type 0) (v : V) (s : List ℕ) (w : V) (r : Result (Unit {0}) PathFault) → Sized s → Puts does v s w r → (r ≡ Ok tt) × does v s w
accepted does v s w (Ok u) z p = (refl, p.1)
accepted does v s w (Err f) z p = absurd (p.unfit z)

each_behind : (P : List ℕ → Type 0) (cs ds : List (List ℕ)) → Each P (cs ++ ds) → Each P ds
each_behind P [] ds e = e
each_behind P (c ∷ cs) ds e = each_behind P cs ds e.1

-- What a take hands out was waiting, so it has 1 to 256 octets.
pub handed_sized : (before : List (List ℕ)) (s : List ℕ) (after : List (List ℕ)) → Each Sized before → Removed before s after → Sized s
handed_sized before s after e r = (each_behind Sized r.dropped (s ∷ after) (subst (Each Sized) r.next e)).0
