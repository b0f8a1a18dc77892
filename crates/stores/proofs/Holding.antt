-- What a store's messages mean.
use Rattle.std.proofs.Common.{◌≡◌, ℕ, zero, suc, ◌<◌, ◌≤◌, List, [], ◌∷◌, ◌++◌, length, map, take, drop, set, get_or, refl, ap, arith}
use Rattle.std.proofs.lemmas.List.{length-map, map-append}
use Rattle.std.proofs.lemmas.Option.{slice_get-map}
use Rattle.stores.specs.declared.text.Text.{Text}
use Rattle.stores.specs.declared.store.Message.{Message}
use Rattle.stores.specs.Texts.{octets_of}
use Rattle.stores.specs.Held.{Stored, stored, stored_of, with_record}

-- Records beside texts.
abbrev pub paired : {R : Type 0} → List R → List Text → List (Stored R)
paired [] ts = []
paired (r ∷ rs) [] = []
paired (r ∷ rs) (t ∷ ts) = stored r (octets_of t) ∷ paired rs ts

-- Messages without the one at a place.
abbrev pub without : {R : Type 0} → ℕ → List (Stored R) → List (Stored R)
without i ms = take i ms ++ drop (suc i) ms

module _ {R : Type 0} where
  -- A message with another record.
  pub with_record-map : (ms : List (Message R)) (i : ℕ) (r : R) (m : Message R) → i < length ms → m ≡ get_or ms i m →
      map stored_of (set ms i (record { «record» = r; text = m.text })) ≡ with_record i r (map stored_of ms)
  with_record-map [] i r m l e = absurd (omega arith)
  with_record-map (n ∷ ms) zero r m l e = cc
  with_record-map (n ∷ ms) (suc i) r m l e = ap (λ ns. stored_of n ∷ ns) (with_record-map ms i r m (omega arith) e)

  -- Past the end, the same messages.
  pub with_record_past : (ms : List (Stored R)) (i : ℕ) (r : R) → length ms ≤ i → with_record i r ms ≡ ms
  with_record_past [] i r l = refl
  with_record_past (m ∷ ms) zero r l = absurd (omega arith)
  with_record_past (m ∷ ms) (suc i) r l = ap (λ ns. m ∷ ns) (with_record_past ms i r (omega arith))

  -- The messages of a store are its records beside its texts.
  pub paired_held : (ms : List (Message R)) → paired (map (λ m. m.«record») ms) (map (λ m. m.text) ms) ≡ map stored_of ms
  paired_held [] = refl
  paired_held (m ∷ ms) = ap (λ ns. stored_of m ∷ ns) (paired_held ms)

  -- A record and a text taken out at a place: the messages without the one at that place.
  pub paired_removed : (rs : List R) (ts : List Text) (i : ℕ) → length rs ≡ length ts → paired (take i rs ++ drop (suc i) rs) (take i ts ++ drop (suc i) ts) ≡ without i (paired rs ts)
  paired_removed [] [] zero e = refl
  paired_removed [] [] (suc i) e = refl
  paired_removed [] (t ∷ ts) i e = absurd (omega arith)
  paired_removed (r ∷ rs) [] i e = absurd (omega arith)
  paired_removed (r ∷ rs) (t ∷ ts) zero e = refl
  paired_removed (r ∷ rs) (t ∷ ts) (suc i) e = ap (λ ms. stored r (octets_of t) ∷ ms) (paired_removed rs ts i (omega arith))

  pub removed : (rs rs' : List R) (ts ts' : List Text) (i : ℕ) → length rs ≡ length ts → rs' ≡ take i rs ++ drop (suc i) rs → ts' ≡ take i ts ++ drop (suc i) ts → paired rs' ts' ≡ without i (paired rs ts)
  removed rs rs' ts ts' i e p q =
      let h = paired_removed rs ts i e in
      cc

pub ruleset rows = (length-map, map-append, slice_get-map, with_record_past, with_record-map)
