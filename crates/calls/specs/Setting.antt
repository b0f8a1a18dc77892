-- Which settings are within their limits.
-- Assumes nothing.
use Rattle.std.specs.Prelude.{◌≡◌, ℕ, ◌<◌, Bool, true, false, ◌&&◌, List, nat_le}
use Rattle.directions.specs.TextRules.{is_letter, is_letter_or_digit}
use Rattle.blocks.specs.Legal.{at, address_allows}
use Rattle.calls.specs.declared.types.Settings.{Settings}
use Rattle.calls.specs.declared.types.Setting.{Setting}
use Rattle.calls.specs.declared.types.Setting.TheVariants.{Registration, Originator, Flight, Waits, Limit, Contact}

-- seven characters of an address
abbrev pub address_good : List ℕ → Bool
address_good a =
    address_allows 0 50 (at a 0) && (address_allows 1 (at a 0) (at a 1) && (address_allows 2 (at a 1) (at a 2) && (address_allows 3 (at a 2) (at a 3) &&
    (address_allows 4 (at a 3) (at a 4) && (address_allows 5 (at a 4) (at a 5) && address_allows 6 (at a 5) (at a 6))))))

-- six letters or digits
abbrev pub flight_good : List ℕ → Bool
flight_good f =
    is_letter_or_digit (at f 0) && (is_letter_or_digit (at f 1) && (is_letter_or_digit (at f 2) && (is_letter_or_digit (at f 3) && (is_letter_or_digit (at f 4) && is_letter_or_digit (at f 5)))))

-- the number of a setting
abbrev pub setting_number : Setting → ℕ
setting_number Registration = 1
setting_number Originator = 2
setting_number Flight = 3
setting_number Waits = 4
setting_number Limit = 5
setting_number Contact = 6

-- whether a setting is within its limits
abbrev pub setting_good : Settings → Setting → Bool
setting_good s Registration = address_good s.registration
setting_good s Originator = is_letter s.originator
setting_good s Flight = flight_good s.flight
setting_good s Waits = nat_le 1000 s.low && (nat_le s.low s.high && nat_le s.high 600000)
setting_good s Limit = nat_le 1 s.limit && nat_le s.limit 15
setting_good s Contact = nat_le s.high s.contact && nat_le s.contact 3600000

-- all six are
abbrev pub Good : Settings → Type 0
Good s = (k : Setting) → setting_good s k ≡ true

-- k is the first that is not
pub record FirstBad (s : Settings) (k : Setting) : Type 0 where
  pub before : (j : Setting) → setting_number j < setting_number k → setting_good s j ≡ true
  pub bad : setting_good s k ≡ false
