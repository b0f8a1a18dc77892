use Rattle.std.proofs.Common.{◌≡◌, ℕ, zero, suc, ◌+◌, ◌<◌, List, [], ◌∷◌, ◌++◌, map, length, take, sym, ◌∙◌, arith, append_assoc, rules}
use Rattle.std.proofs.lemmas.List.{append-nil}
use Rattle.paths.specs.declared.fates.Fate.{Fate}
use Rattle.paths.specs.Fates.{fate_of}
use Rattle.paths.proofs.fates.Fates.read.Goals as goal

-- One number more.
one_more : (held : List Fate) (k j n : ℕ) (ns : List ℕ) (whole : List Fate) → j + 1 ≡ k → held ++ map fate_of (take k (n ∷ ns)) ≡ whole → (held ++ fate_of n ∷ []) ++ map fate_of (take j ns) ≡ whole
one_more held zero j n ns whole h e = absurd (omega arith)
one_more held (suc k) j n ns whole h e =
    let q : j ≡ k = omega arith in
    append_assoc held (fate_of n ∷ []) (map fate_of (take j ns)) ∙ rw q e

no_more : (held : List Fate) (k : ℕ) (ns : List ℕ) (whole : List Fate) → (0 < k → length ns ≡ 0) → held ++ map fate_of (take k ns) ≡ whole → held ≡ whole
no_more held zero ns whole h e = sym (append-nil held) ∙ e
no_more held (suc k) [] whole h e = sym (append-nil held) ∙ e
no_more held (suc k) (n ∷ ns) whole h e = absurd (omega (arith, h (omega arith)))

pub loop-n-preserved : goal.loop-n-preserved
loop-n-preserved c =
    let steps = c.in-Some.ensures.steps in
    let part = one_more c.loop-n.held.items c.loop-n.n-iterator.n c.next.new.self.n c.in-Some.n.now c.next.new.self.iter.rest.now _ steps.1 (rw steps.0 at c.loop-n.invariant.read) in
    search rules

pub returns : goal.returns
returns c =
    let handed : c.into_iter.result ≡ c.loop-n.held.items = search rules in
    handed ∙ no_more c.loop-n.held.items c.loop-n.n-iterator.n c.loop-n.n-iterator.iter.rest.now _ (λ h. (c.in-None.ensures.steps h).0) c.loop-n.invariant.read
