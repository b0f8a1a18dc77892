-- Putting below twice, and putting below a spoiled string. Assumes nothing.
use Rattle.std.proofs.Common.{ℕ, List, [], ◌∷◌, ◌++◌, Ok, Err, Result, sym, ap, ◌∙◌, subst, inl, inr, append_assoc, arith}
use Rattle.paths.specs.declared.fault.PathFault.{PathFault}
use Rattle.paths.specs.Meaning.{Sized, Spoiled, Arrives, Each, Added, Puts}
use Rattle.paths.specs.Fading.{spoiled}
use Rattle.paths.proofs.Outcomes.{spoiled_sized}

each_append : (P : List ℕ → Type 0) (cs bs : List (List ℕ)) → Each P cs → Each P bs → Each P (cs ++ bs)
each_append P [] bs p q = q
each_append P (c ∷ cs) bs p q = (p.0, each_append P cs bs p.1 q)

each_map : (P Q : List ℕ → Type 0) → ((c : List ℕ) → P c → Q c) → (cs : List (List ℕ)) → Each P cs → Each Q cs
each_map P Q f [] p = tt
each_map P Q f (c ∷ cs) p = (f c p.0, each_map P Q f cs p.1)

added_twice : (a b d : List (List ℕ)) (s : List ℕ) → Added a s b → Added b s d → Added a s d
added_twice a b d s p q = record {
  copies = p.copies ++ q.copies;
  joined = q.joined ∙ ap (λ (x : List (List ℕ)). x ++ q.copies) p.joined ∙ append_assoc a p.copies q.copies;
  each = each_append (Arrives s) p.copies q.copies p.each q.each;
}

pub twice_means : (a b d : List (List ℕ)) (s : List ℕ) (r : Result (Unit {0}) PathFault) → Added a s b → Sized s → Puts Added b s d r → Puts Added a s d r
twice_means a b d s (Ok u) p z q = (z, added_twice a b d s p q.1)
twice_means a b d s (Err f) p z q = absurd (q.unfit z)

is_spoiled : (s : List ℕ) → Sized s → Spoiled (spoiled s)
is_spoiled [] z = absurd (omega (arith, z.some))
is_spoiled (x ∷ s) z = record { sized = spoiled_sized (x ∷ s) z; not_01 = omega arith; not_FF = omega arith }

arrives_spoiled : (s : List ℕ) → Sized s → (c : List ℕ) → Arrives (spoiled s) c → Arrives s c
arrives_spoiled s z c (inl e) = inr (subst Spoiled (sym e) (is_spoiled s z))
arrives_spoiled s z c (inr h) = inr h

pub spoiled_means : (a b : List (List ℕ)) (s : List ℕ) (r : Result (Unit {0}) PathFault) → Sized s → Puts Added a (spoiled s) b r → Puts Added a s b r
spoiled_means a b s (Ok u) z q =
    (z, record { copies = q.1.copies; joined = q.1.joined; each = each_map (Arrives (spoiled s)) (Arrives s) (arrives_spoiled s z) q.1.copies q.1.each })
spoiled_means a b s (Err f) z q = absurd (q.unfit (spoiled_sized s z))
