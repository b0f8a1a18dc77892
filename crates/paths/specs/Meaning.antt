-- What a one-way path means: the strings that wait in it, oldest first. Assumes nothing.
use Rattle.std.specs.Prelude.{◌≡◌, ℕ, ◌<◌, ◌≤◌, ◌≢◌, ◌⊎◌, List, [], ◌∷◌, ◌++◌, length, take, drop, Some, None, Ok, Err, Option, Result, slice_index_or}
use Rattle.paths.specs.declared.fault.PathFault.{PathFault}
use Rattle.paths.specs.Faults.{number}

-- A path carries strings of 1 to 256 octets.
pub record Sized (s : List ℕ) : Type 0 where
  pub some : 1 ≤ length s
  pub most : length s ≤ 256

-- A spoiled string has 1 to 256 octets and opens with neither 01 nor FF hex.
pub record Spoiled (c : List ℕ) : Type 0 where
  pub sized : Sized c
  pub not_01 : slice_index_or c 0 0 ≢ 1
  pub not_FF : slice_index_or c 0 0 ≢ 255

-- What may arrive of a string: the string itself, or a spoiled one.
abbrev pub Arrives : List ℕ → List ℕ → Type 0
Arrives s c = (c ≡ s) ⊎ Spoiled c

-- A fact of each string of a list.
abbrev pub Each : (List ℕ → Type 0) → List (List ℕ) → Type 0
Each P [] = Unit {0}
Each P (c ∷ cs) = P c × Each P cs

-- A put in general: any number of copies join the end, none included, each the string or spoiled.
pub record Added (before : List (List ℕ)) (s : List ℕ) (after : List (List ℕ)) : Type 0 where
  pub copies : List (List ℕ)
  pub joined : after ≡ before ++ copies
  pub each : Each (Arrives s) copies

-- A take in general that hands out a string: some are dropped from the front, and the next is removed.
pub record Removed (before : List (List ℕ)) (s : List ℕ) (after : List (List ℕ)) : Type 0 where
  pub dropped : List (List ℕ)
  pub next : before ≡ dropped ++ s ∷ after

-- A take in general, by what it hands out: a string, or none, and then nothing waits any more.
abbrev pub Left : List (List ℕ) → Option (List ℕ) → List (List ℕ) → Type 0
Left before (Some s) after = Removed before s after
Left before None after = after ≡ []

-- A put that is refused: by 1, and only a string that is not 1 to 256 octets; nothing is changed.
pub record PutRefused {V : Type 0} (v : V) (s : List ℕ) (w : V) (f : PathFault) : Type 0 where
  pub refusal : number f ≡ 1
  pub unfit : Sized s → ⊥
  pub same : w ≡ v

-- A put, for any relation of what an accepted string does to a path: `before` to `after`.
abbrev pub Puts : {V : Type 0} → (V → List ℕ → V → Type 0) → V → List ℕ → V → Result (Unit {0}) PathFault → Type 0
Puts does before s after (Ok u) = Sized s × does before s after
Puts does before s after (Err f) = PutRefused before s after f

-- A take that hands out a string, the first n octets of the buffer; what lies behind it is untouched.
pub record Handed {V : Type 0} (does : V → Option (List ℕ) → V → Type 0) (before : V) (b : List ℕ) (after : V) (b' : List ℕ) (n : ℕ) : Type 0 where
  pub room : 256 ≤ length b
  pub count : n ≤ 256
  pub taken : does before (Some (take n b')) after
  pub behind : drop n b' ≡ drop n b
  pub size : length b' ≡ length b

-- A take that is refused leaves the buffer: by 1, if that is under 256 octets, with nothing changed; else by 2.
pub record TakeRefused {V : Type 0} (does : V → Option (List ℕ) → V → Type 0) (before : V) (b : List ℕ) (after : V) (b' : List ℕ) (f : PathFault) : Type 0 where
  pub buffer : b' ≡ b
  pub short : length b < 256 → (number f ≡ 1) × (after ≡ before)
  pub none : 256 ≤ length b → (number f ≡ 2) × does before None after

-- A take, for any relation of what it does to a path, by the string that it hands out.
abbrev pub Takes : {V : Type 0} → (V → Option (List ℕ) → V → Type 0) → V → List ℕ → V → List ℕ → Result ℕ PathFault → Type 0
Takes does before b after b' (Ok n) = Handed does before b after b' n
Takes does before b after b' (Err f) = TakeRefused does before b after b' f
