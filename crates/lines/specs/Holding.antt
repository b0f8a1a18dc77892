-- A store that holds strings, as one is added and as one is removed, for any lawful layout. Assumes nothing.
use Rattle.std.specs.Prelude.{◌≡◌, ℕ, zero, suc, ◌+◌, ◌-◌, ◌≤◌, true, List, [], ◌∷◌, ◌++◌, length, take, drop, refl}
use Rattle.std.proofs.Common.{subst, sym, ap, ◌∙◌, append_assoc, arith, length-append}
use Rattle.std.proofs.lemmas.List.{take_at, drop_at, take-append-drop, length-take-le, length_push}
use Rattle.std.proofs.lemmas.Bool.{and_parts}
use Rattle.lines.specs.declared.store.Store.{Store}
use Rattle.lines.specs.Layout.{Layout, Lawful, holds, holds_all, packed, strings_of, occupied, Lies}
use Rattle.lines.specs.Stored.{memory_of, waiting_in, oldest_in, KeptIn}
use Rattle.lines.specs.Packing.{count_of, read_back, packed_long, packed_push, holds_push, few}

-- The strings of a store, by name: how they lie, how many octets they use and how many they are.
pub record Holds (l : Layout) (a : Store) (ss : List (List ℕ)) : Type 0 where
  pub behind : List ℕ
  pub lie : memory_of a ≡ packed l ss ++ behind
  pub uses : a.used ≡ occupied l ss
  pub counts : a.count ≡ length ss
  pub held : holds_all l ss ≡ true

-- The strings of a store lie from the start of its memory.
pub lying : (l : Layout) (a : Store) → KeptIn l a → (memory : List ℕ) → memory ≡ memory_of a → Lies l (waiting_in l a) memory
lying l a kept memory e = record {
  behind = drop a.used (memory_of a);
  lie = e ∙ sym (take-append-drop a.used (memory_of a)) ∙ ap (λ (x : List ℕ). x ++ drop a.used (memory_of a)) kept.laid;
}

module _ (l : Layout) (L : Lawful l) where
  pub holding : (a : Store) → KeptIn l a → Holds l a (waiting_in l a)
  holding a k = record {
    behind = drop a.used (memory_of a);
    lie = sym (take-append-drop a.used (memory_of a)) ∙ ap (λ (x : List ℕ). x ++ drop a.used (memory_of a)) k.laid;
    uses = sym (length-take-le a.used (memory_of a) (omega (arith, a.within, a.octets.ok.0))) ∙ ap length k.laid ∙ packed_long l L (waiting_in l a);
    counts = sym (count_of l a.count (memory_of a));
    held = k.held;
  }

  pub strings_are : (a : Store) (ss : List (List ℕ)) → Holds l a ss → waiting_in l a ≡ ss
  strings_are a ss h =
      ap (λ (n : ℕ). strings_of l n (memory_of a)) h.counts ∙ ap (strings_of l (length ss)) h.lie ∙ read_back l L ss h.behind h.held

  front : (a : Store) (ss : List (List ℕ)) → Holds l a ss → take a.used (memory_of a) ≡ packed l ss
  front a ss h = ap (take a.used) h.lie ∙ take_at (packed l ss) h.behind a.used (packed_long l L ss ∙ sym h.uses)

  pub keeping : (a : Store) (ss : List (List ℕ)) → Holds l a ss → KeptIn l a
  keeping a ss h =
      let e = sym (strings_are a ss h) in
      record { laid = front a ss h ∙ ap (packed l) e; held = ap (holds_all l) (sym e) ∙ h.held }

  pub few_held : (a : Store) (ss : List (List ℕ)) → Holds l a ss → a.count ≤ a.used
  few_held a ss h = omega (arith, h.counts, h.uses, few l L ss h.held)

  sum_push : (ss : List (List ℕ)) (s : List ℕ) → occupied l (ss ++ s ∷ []) ≡ occupied l ss + (l.size + length s)
  sum_push [] s = omega arith
  sum_push (t ∷ ss) s = omega (arith, sum_push ss s)

  pub one_added : (a b : Store) (ss : List (List ℕ)) (s rest : List ℕ) → Holds l a ss → holds l s ≡ true → memory_of b ≡ take a.used (memory_of a) ++ (l.head s ++ (s ++ rest)) → b.used ≡ a.used + (l.size + length s) → b.count ≡ a.count + 1 → Holds l b (ss ++ s ∷ [])
  one_added a b ss s rest h k e u n = record {
    behind = rest;
    lie = e ∙ ap (λ (x : List ℕ). x ++ (l.head s ++ (s ++ rest))) (front a ss h) ∙ ap (λ (x : List ℕ). packed l ss ++ x) (sym (append_assoc (l.head s) s rest)) ∙ sym (append_assoc (packed l ss) (l.head s ++ s) rest) ∙ ap (λ (x : List ℕ). x ++ rest) (sym (packed_push l L ss s));
    uses = omega (arith, h.uses, sum_push ss s);
    counts = omega (arith, h.counts, length_push ss s);
    held = holds_push l L ss s h.held k;
  }

  pub none_added : (a b : Store) (ss : List (List ℕ)) → Holds l a ss → memory_of b ≡ memory_of a → b.used ≡ a.used → b.count ≡ a.count → Holds l b ss
  none_added a b ss h e u n = record { behind = h.behind; lie = e ∙ h.lie; uses = u ∙ h.uses; counts = n ∙ h.counts; held = h.held }

  -- The memory from its start, where a string waits.
  pub oldest : (a : Store) (s : List ℕ) (ss : List (List ℕ)) → (h : Holds l a (s ∷ ss)) → memory_of a ≡ l.head s ++ (s ++ (packed l ss ++ h.behind))
  oldest a s ss h = h.lie ∙ append_assoc (l.head s) (s ++ packed l ss) h.behind ∙ ap (λ (x : List ℕ). l.head s ++ x) (append_assoc s (packed l ss) h.behind)

  pub first_is : (a : Store) (s : List ℕ) (ss : List (List ℕ)) → Holds l a (s ∷ ss) → l.first (memory_of a) ≡ length s
  first_is a s ss h =
      ap l.first (oldest a s ss h) ∙ L.found s (packed l ss ++ h.behind) (and_parts (holds l s) (holds_all l ss) h.held).0

  pub one_removed : (a b : Store) (n : ℕ) (s : List ℕ) (ss : List (List ℕ)) (rest : List ℕ) → Holds l a (s ∷ ss) → n ≡ l.size + length s → memory_of b ≡ drop n (take a.used (memory_of a)) ++ rest → b.used ≡ a.used - n → b.count ≡ a.count - 1 → Holds l b ss
  one_removed a b n s ss rest h q e u k =
      let long : length (l.head s ++ s) ≡ n = length-append (l.head s) s ∙ ap (λ (j : ℕ). j + length s) (L.head_long s) ∙ sym q in
      let cut : drop n (take a.used (memory_of a)) ≡ packed l ss = ap (drop n) (front a (s ∷ ss) h ∙ sym (append_assoc (l.head s) s (packed l ss))) ∙ drop_at (l.head s ++ s) (packed l ss) n long in
      record {
        behind = rest;
        lie = e ∙ ap (λ (x : List ℕ). x ++ rest) cut;
        uses = omega (arith, h.uses, q);
        counts = omega (arith, h.counts);
        held = (and_parts (holds l s) (holds_all l ss) h.held).1;
      }

  -- Where strings wait, the store holds the first, and others behind it.
  pub record Oldest (a : Store) : Type 0 where
    pub others : List (List ℕ)
    pub all : Holds l a (oldest_in l a ∷ others)

  pub oldest_of : (a : Store) → KeptIn l a → 1 ≤ a.count → Oldest a
  oldest_of a k some = go a.count refl
    where
      go : (n : ℕ) → a.count ≡ n → Oldest a
      go zero e = absurd (omega arith)
      go (suc n) e = record {
        others = strings_of l n (drop (l.size + l.first (memory_of a)) (memory_of a));
        all = subst (λ (k : ℕ). Holds l a (strings_of l k (memory_of a))) e (holding a k);
      }
