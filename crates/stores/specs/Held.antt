-- What a store of messages holds, and what its calls do to it. Assumes nothing.
use Rattle.std.specs.Prelude.{◌≡◌, ℕ, zero, suc, ◌<◌, ◌≤◌, ◌⊎◌, List, [], ◌∷◌, ◌++◌, length, map, drop, vec_items, Some, None, Ok, Err, Option, Result}
use Rattle.std.specs.Option.{option_map}
use Rattle.std.specs.List.{slice_get}
use Rattle.stores.specs.declared.text.NoRoom.{NoRoom}
use Rattle.stores.specs.declared.store.Message.{Message}
use Rattle.stores.specs.declared.store.MessageStore.{MessageStore}
use Rattle.stores.specs.Texts.{octets_of}

-- A message in a store: its record and its text.
pub record Stored (R : Type 0) : Type 0 where
  pub «record» : R
  pub text : List ℕ

-- A message of a record and a text.
abbrev pub stored : {R : Type 0} → R → List ℕ → Stored R
stored r t = record { «record» = r; text = t }

-- What a message of the memory says.
abbrev pub stored_of : {R : Type 0} → Message R → Stored R
stored_of m = stored m.«record» (octets_of m.text)

-- The messages in a store, oldest first.
unfoldable pub held : {R : Type 0} → MessageStore R → List (Stored R)
held s = map stored_of (vec_items s.messages)

-- The record of the message at a place, if there is one.
abbrev pub record_at : {R : Type 0} → ℕ → List (Stored R) → Option R
record_at i ms = option_map (λ m. m.«record») (slice_get ms i)

-- The text of the message at a place, if there is one.
abbrev pub text_at : {R : Type 0} → ℕ → List (Stored R) → Option (List ℕ)
text_at i ms = option_map (λ m. m.text) (slice_get ms i)

-- Messages with another record at a place; past the end, the same messages.
abbrev pub with_record : {R : Type 0} → ℕ → R → List (Stored R) → List (Stored R)
with_record i r [] = []
with_record zero r (m ∷ ms) = stored r m.text ∷ ms
with_record (suc i) r (m ∷ ms) = m ∷ with_record i r ms

-- A message was added as the newest: there was room for it, and its text fits.
pub record Pushed {R : Type 0} (before : List (Stored R)) (r : R) (t : List ℕ) (after : List (Stored R)) : Type 0 where
  pub room : length before < 4
  pub fits : length t ≤ 3520
  pub joined : after ≡ before ++ stored r t ∷ []

-- A message was not added: there are four, or its text does not fit, and nothing is changed.
pub record NotPushed {R : Type 0} (before : List (Stored R)) (t : List ℕ) (after : List (Stored R)) : Type 0 where
  pub full : (length before ≡ 4) ⊎ (3520 < length t)
  pub same : after ≡ before

-- An addition of a message, by its answer.
abbrev pub Pushes : {R : Type 0} → List (Stored R) → R → List ℕ → List (Stored R) → Result (Unit {0}) NoRoom → Type 0
Pushes before r t after (Ok done) = Pushed before r t after
Pushes before r t after (Err fault) = NotPushed before t after

-- The oldest message was freed, and it had this record.
pub record Popped {R : Type 0} (before : List (Stored R)) (r : R) (after : List (Stored R)) : Type 0 where
  pub first : record_at 0 before ≡ Some r
  pub some : 0 < length before
  pub rest : after ≡ drop 1 before

-- There was no message to free, and there is none.
pub record NotPopped {R : Type 0} (before after : List (Stored R)) : Type 0 where
  pub none : before ≡ []
  pub same : after ≡ before

-- A freeing of the oldest message, by its answer.
abbrev pub Pops : {R : Type 0} → List (Stored R) → List (Stored R) → Option R → Type 0
Pops before after (Some r) = Popped before r after
Pops before after None = NotPopped before after
