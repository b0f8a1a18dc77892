-- A store that holds no message, and the waits of good settings. Assumes nothing.
use Rattle.std.proofs.Common.{◌≡◌, ◌≤◌, leb, List, [], ◌∷◌, None, refl}
use Rattle.stores.specs.Held.{Stored, record_at, text_at}
use Rattle.calls.specs.declared.types.Settings.{Settings}
use Rattle.calls.specs.declared.types.Setting.TheVariants.{Waits, Contact}
use Rattle.calls.specs.Setting.{Good}
use Rattle.std.proofs.lemmas.Bool.{and_parts, leb-true}

-- where there is no first record there is none
pub none_first : {R : Type 0} (xs : List (Stored R)) → None ≡ record_at 0 xs → xs ≡ []
none_first [] e = refl
none_first (x ∷ xs) e = cc

-- where there is no first text there is no message
pub no_first_text : {R : Type 0} (xs : List (Stored R)) → None ≡ text_at 0 xs → xs ≡ []
no_first_text [] e = refl
no_first_text (x ∷ xs) e = cc

-- the waits of good settings are within their limits
pub waits_within : (s : Settings) → Good s → (s.low ≤ s.high) × (s.high ≤ 600000) × (s.contact ≤ 3600000)
waits_within s g =
    let w = (and_parts (leb 1000 s.low) _ (g Waits)).1 in
    let a = and_parts (leb s.low s.high) (leb s.high 600000) w in
    let b = and_parts (leb s.high s.contact) (leb s.contact 3600000) (g Contact) in
    (leb-true _ _ a.0, leb-true _ _ a.1, leb-true _ _ b.1)
