use Rattle.std.proofs.Common.{◌≡◌, Bool, true, false, cond, not, Some, None, MatchOption, refl, arith}
use Rattle.calls.specs.Setting.{setting_good, Good, FirstBad}
use Rattle.calls.specs.declared.types.Settings.{Settings}
use Rattle.calls.specs.declared.types.Setting.{Setting}
use Rattle.calls.specs.declared.types.Setting.TheVariants.{Registration, Originator, Flight, Waits, Limit, Contact}
use Rattle.calls.proofs.types.Settings.first_bad.Goals as goal

-- a fact of each setting
each : (P : Setting → Type 0) → P Registration → P Originator → P Flight → P Waits → P Limit → P Contact → (k : Setting) → P k
each P a b c d e f Registration = a
each P a b c d e f Originator = b
each P a b c d e f Flight = c
each P a b c d e f Waits = d
each P a b c d e f Limit = e
each P a b c d e f Contact = f

-- of the six in order, the first that is not good
first : (s : Settings) (a b c d e f : Bool) →
    setting_good s Registration ≡ a → setting_good s Originator ≡ b → setting_good s Flight ≡ c →
    setting_good s Waits ≡ d → setting_good s Limit ≡ e → setting_good s Contact ≡ f →
    MatchOption (cond (not a) (Some Registration) (cond (not b) (Some Originator) (cond (not c) (Some Flight)
    (cond (not d) (Some Waits) (cond (not e) (Some Limit) (cond (not f) (Some Contact) None))))))
    (Good s) (FirstBad s)
first s false b c d e f p q r t u v = record { before = each _ (λ h. absurd (omega arith)) (λ h. absurd (omega arith)) (λ h. absurd (omega arith)) (λ h. absurd (omega arith)) (λ h. absurd (omega arith)) (λ h. absurd (omega arith)); bad = p }
first s true false c d e f p q r t u v = record { before = each _ (λ _. p) (λ h. absurd (omega arith)) (λ h. absurd (omega arith)) (λ h. absurd (omega arith)) (λ h. absurd (omega arith)) (λ h. absurd (omega arith)); bad = q }
first s true true false d e f p q r t u v = record { before = each _ (λ _. p) (λ _. q) (λ h. absurd (omega arith)) (λ h. absurd (omega arith)) (λ h. absurd (omega arith)) (λ h. absurd (omega arith)); bad = r }
first s true true true false e f p q r t u v = record { before = each _ (λ _. p) (λ _. q) (λ _. r) (λ h. absurd (omega arith)) (λ h. absurd (omega arith)) (λ h. absurd (omega arith)); bad = t }
first s true true true true false f p q r t u v = record { before = each _ (λ _. p) (λ _. q) (λ _. r) (λ _. t) (λ h. absurd (omega arith)) (λ h. absurd (omega arith)); bad = u }
first s true true true true true false p q r t u v = record { before = each _ (λ _. p) (λ _. q) (λ _. r) (λ _. t) (λ _. u) (λ h. absurd (omega arith)); bad = v }
first s true true true true true true p q r t u v = each _ p q r t u v

pub returns : goal.returns
returns c = rw c.first_bad_of.ensures (first c.args.self.now _ _ _ _ _ _ refl refl refl refl refl refl)
