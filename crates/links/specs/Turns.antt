-- Calls served in turn, by what serving one of them means, and the run that they make.
-- Assumes nothing.
use Rattle.std.specs.Prelude.{Some, Option, ◌≡◌, ℕ, ◌+◌, ◌<◌, ◌≤◌, List, [], ◌∷◌, ◌++◌, map, length, None, Ok, Err, Result, ◌⊎◌}
use Rattle.calls.specs.declared.fault.LinkFault.{LinkFault}
use Rattle.calls.specs.declared.call.Side.{Side}
use Rattle.calls.specs.declared.call.Call.{Call}
use Rattle.calls.specs.declared.call.Answer.{Answer}
use Rattle.calls.specs.declared.types.Settings.{Settings}
use Rattle.calls.specs.Setting.{Good}
use Rattle.calls.specs.Faults.{number_of, place_of}
use Rattle.runs.specs.Links.{Deed, Event, at, Run, Onward}
use Rattle.links.specs.declared.request.Request.{Request}
use Rattle.links.specs.Served.{IsDeed}
use Rattle.links.specs.Links.{Sight, seen, side_of, Made, Unmade, ServedAt}

-- an answer as a place of a list holds it
abbrev pub some_of : Answer → Option Answer
some_of a = Some a

module _ {S : Type 0} (serves : Side → S → List ℕ → Call → Answer → S → List ℕ → Type 0) where
  -- calls and their answers, one after the other
  pub data InTurn (s : S) (b : List ℕ) : List Request → List Answer → S → List ℕ → Type 0 where
    none_served : InTurn s b [] [] s b
    one_more : {qs : List Request} {ys : List Answer} {s' s'' : S} {b' b'' : List ℕ} {q : Request} {a : Answer} →
        InTurn s b qs ys s' b' → serves q.side s' b' q.call a s'' b'' → InTurn s b (qs ++ q ∷ []) (ys ++ a ∷ []) s'' b''

  -- a list of calls is served whole; or refused by 1, if there is no room for so many answers
  abbrev pub Served : ℕ → S → List ℕ → List Request → List (Option Answer) → Result (Unit {0}) LinkFault → List (Option Answer) → S → List ℕ → Type 0
  Served most s b qs before (Ok u) after s' b' =
      (ys : List Answer) × (after ≡ before ++ map some_of ys) × (length before + length qs ≤ most) × InTurn s b qs ys s' b'
  Served most s b qs before (Err f) after s' b' =
      (number_of f ≡ 1) × (place_of f ≡ None) × (most < length before + length qs) × (after ≡ before) × (s' ≡ s) × (b' ≡ b)

-- a history goes on by exactly these calls and answers
pub data Logged (h : List Event) : List Request → List Answer → List Event → Type 0 where
  none_logged : Logged h [] [] h
  one_logged : {qs : List Request} {ys : List Answer} {h' : List Event} (q : Request) (a : Answer) (b b' : List ℕ) (d : Deed) →
      Logged h qs ys h' → IsDeed q.call a b b' d → Logged h (qs ++ q ∷ []) (ys ++ a ∷ []) (at (side_of q.side) d ∷ h')

module _ {V U : Type 0} (sv : V → List (List ℕ)) (su : U → List (List ℕ)) where
  -- every run that ends in the link before goes on, by exactly these calls and answers, to a run that ends in the link after
  abbrev pub RunsOn : Sight V U → List Request → List Answer → Sight V U → Type 0
  RunsOn s qs ys s' = (h : List Event) (r : Run h (seen sv su s)) →
      (h' : List Event) × (r' : Run h' (seen sv su s')) × Logged h qs ys h' × Onward h (seen sv su s) r h' (seen sv su s') r'

  abbrev pub GoesOn : Sight V U → List Request → List (Option Answer) → List (Option Answer) → Sight V U → Type 0
  GoesOn s qs before after s' = (ys : List Answer) × (after ≡ before ++ map some_of ys) × RunsOn s qs ys s'

  -- a link was made and the calls were served on it in turn; the answers join those that stood there
  pub record Ran (pv : V → List ℕ → V → Type 0) (tv : V → Option (List ℕ) → V → Type 0) (pu : U → List ℕ → U → Type 0) (tu : U → Option (List ℕ) → U → Type 0)
      (most : ℕ) (a g : Settings) (v : V) (u : U) (b : List ℕ) (qs : List Request) (before after : List (Option Answer)) (s : Sight V U) (b' : List ℕ) : Type 0 where
    pub fresh : Sight V U
    pub made : Made sv su tv tu a g v u fresh
    pub ys : List Answer
    pub answers : after ≡ before ++ map some_of ys
    pub room : length before + length qs ≤ most
    pub turns : InTurn (ServedAt sv su pv tv pu tu) fresh b qs ys s b'

  -- a run from a new link, by exactly these calls and answers
  abbrev pub Began : List Request → List (Option Answer) → List (Option Answer) → Sight V U → Type 0
  Began qs before after s = (ys : List Answer) × (h : List Event) × (after ≡ before ++ map some_of ys) × Logged [] qs ys h × Run h (seen sv su s)

-- nothing was served: no link was made, or there is no room for so many answers
abbrev pub NotBegun : ℕ → Settings → Settings → List Request → List (Option Answer) → List (Option Answer) → List ℕ → List ℕ → LinkFault → Type 0
NotBegun most a g qs before after b b' f =
    (after ≡ before) × (b' ≡ b) × (Unmade a g f ⊎ (Good a × Good g × (number_of f ≡ 1) × (place_of f ≡ None) × (most < length before + length qs)))
