-- A link as its calls see it, and as the law knows it; what making one and serving a call do.
-- Assumes nothing.
use Rattle.std.specs.Prelude.{◌≡◌, ℕ, List, [], Option, ◌⊎◌}
use Rattle.paths.specs.Draining.{Drained}
use Rattle.calls.specs.declared.fault.LinkFault.{LinkFault}
use Rattle.calls.specs.declared.fault.LinkFault.TheVariants as fault
use Rattle.calls.specs.declared.types.Settings.{Settings}
use Rattle.calls.specs.declared.types.Setting.{Setting}
use Rattle.calls.specs.declared.call.Side.{Side}
use Rattle.calls.specs.declared.call.Side.TheVariants.{Aircraft, Ground}
use Rattle.calls.specs.declared.call.Call.{Call}
use Rattle.calls.specs.declared.call.Answer.{Answer}
use Rattle.calls.specs.Setting.{Good, FirstBad}
use Rattle.ends.specs.Ends.{model}
use Rattle.ends.specs.Model.{Model, new_model}
use Rattle.ends.specs.Calls.{PutsBoth, TakesBoth}
use Rattle.law.specs.Links as law
use Rattle.runs.specs.Links.{ways_of, Deed, Event, at, Step, Run, Accepted}
use Rattle.runs.specs.Links as runs
use Rattle.links.specs.declared.link.Link.{Link}
use Rattle.links.specs.declared.station.Station.{Station}
use Rattle.links.specs.declared.station.Stations.{Stations}
use Rattle.links.specs.Served.{Served, IsDeed}

-- the settings of an end: the registration, and what its station says
abbrev pub settings_of : List ℕ → Station → Settings
settings_of r s = record { registration = r; originator = s.originator; flight = s.flight; low = s.low; high = s.high; limit = s.limit; contact = s.contact }

abbrev pub aircraft_of : Stations → Settings
aircraft_of s = settings_of s.registration s.aircraft

abbrev pub ground_of : Stations → Settings
ground_of s = settings_of s.registration s.ground

-- what the calls of a link depend on: the models of its ends, and what its paths are seen as
pub record Sight (V U : Type 0) : Type 0 where
  pub aircraft : Model
  pub ground : Model
  pub down : V
  pub up : U

module _ {P Q V U : Type 0} where
  abbrev pub sight : (P → V) → (Q → U) → Link P Q → Sight V U
  sight f g l = record { aircraft = model l.aircraft; ground = model l.ground; down = f l.down; up = g l.up }

-- the ends, by the names that the law has for them
abbrev pub side_of : Side → law.Side
side_of Aircraft = law.air
side_of Ground = law.ground

module _ {V U : Type 0} (sv : V → List (List ℕ)) (su : U → List (List ℕ)) where
  -- a link as the law knows it: of its paths, the strings that wait
  abbrev pub seen : Sight V U → runs.Link
  seen s = runs.link s.aircraft s.ground (sv s.down) (su s.up)

  -- a link was made: both ends are new, nothing waits on the paths, and of a path only what waited was taken
  pub record Made (tv : V → Option (List ℕ) → V → Type 0) (tu : U → Option (List ℕ) → U → Type 0) (a g : Settings) (v : V) (u : U) (s : Sight V U) : Type 0 where
    pub aircraft : s.aircraft ≡ new_model a
    pub ground : s.ground ≡ new_model g
    pub good : Accepted a × Accepted g
    pub down : Drained tv v s.down × (sv s.down ≡ [])
    pub up : Drained tu u s.up × (su s.up ≡ [])

  -- a call was served as a step of a run: by a deed that is this call with its answer
  abbrev pub Steps : Side → Call → Answer → List ℕ → List ℕ → Sight V U → Sight V U → Type 0
  Steps x c a b b' s s' = (d : Deed) × IsDeed c a b b' d × Step (seen s) (at (side_of x) d) (seen s')

  -- a call was served at a side, by the definition of that call; the other end is as it was
  abbrev pub ServedAt : (V → List ℕ → V → Type 0) → (V → Option (List ℕ) → V → Type 0) → (U → List ℕ → U → Type 0) → (U → Option (List ℕ) → U → Type 0) →
      Side → Sight V U → List ℕ → Call → Answer → Sight V U → List ℕ → Type 0
  ServedAt pv tv pu tu Aircraft s b c a s' b' =
      Served (PutsBoth sv pv) (TakesBoth su tu) (ways_of law.air) s.aircraft s.down s.up b c a s'.aircraft s'.down s'.up b' × (s'.ground ≡ s.ground)
  ServedAt pv tv pu tu Ground s b c a s' b' =
      Served (PutsBoth su pu) (TakesBoth sv tv) (ways_of law.ground) s.ground s.up s.down b c a s'.ground s'.up s'.down b' × (s'.aircraft ≡ s.aircraft)

-- no link was made: the first bad setting is named, the aircraft's before the ground's
abbrev pub Unmade : Settings → Settings → LinkFault → Type 0
Unmade a g f = (k : Setting) × (f ≡ fault.Setting k) × (FirstBad a k ⊎ (Good a × FirstBad g k))
