-- Cutting the input into lines.
-- Assumes nothing.
use Rattle.std.specs.Prelude.{◌≡◌, ℕ, ◌<◌, ◌≤◌, cond, List, [], ◌∷◌, ◌++◌, map, length, take, Some, None, Option, ◌≢◌, nat_le}
use Rattle.std.specs.List.{flat_map, AllByRecursion}
use Rattle.recordings.specs.declared.splitter.Splitter.{Splitter}

-- what is kept of a line: itself, or that it is over 1,024 octets long
abbrev pub told : List ℕ → Option (List ℕ)
told p = cond (nat_le (length p) 1024) (Some p) None

-- the splitter has p of the line so far
abbrev pub Holds : Splitter → List ℕ → Type 0
Holds s p = s ≡ told p

-- no octet of the list is a line feed
abbrev pub Unbroken : List ℕ → Type 0
Unbroken xs = AllByRecursion (λ (c : ℕ). c ≢ 10) xs

-- what is kept of a line with octets behind it
abbrev pub joined : Option (List ℕ) → List ℕ → Option (List ℕ)
joined None octets = None
joined (Some line) octets = told (line ++ octets)

-- octets joined the line
abbrev pub Joins : Splitter → List ℕ → Splitter → Type 0
Joins before octets after = after ≡ joined before octets

-- a line with the line feed that ends it
abbrev pub closed : List ℕ → List ℕ
closed line = line ++ (10 ∷ [])

-- the first n octets ended the line: those before their last joined it, and their last is the first line feed
pub record Ended (before : Splitter) (octets : List ℕ) (after : Splitter) (n : ℕ) : Type 0 where
  pub front : List ℕ
  pub some : 0 < n
  pub within : n ≤ length octets
  pub taken : take n octets ≡ closed front
  pub unbroken : Unbroken front
  pub joins : Joins before front after

-- what feeding octets did: the line goes on, or it ended with the first n octets
abbrev pub Fed : Splitter → List ℕ → Splitter → Option ℕ → Type 0
Fed before octets after None = Unbroken octets × Joins before octets after
Fed before octets after (Some n) = Ended before octets after n

-- what the splitter says of the line that it has
abbrev pub Says : Splitter → Option (List ℕ) → Type 0
Says s a = (p : List ℕ) → Holds s p → a ≡ told p

-- a splitter that was fed an input in pieces, restarted after each line, with what it said of the lines
pub data Run : Splitter → List (Option (List ℕ)) → List ℕ → Type 0 where
  begun : {s : Splitter} → Holds s [] → Run s [] []
  fed : {s t : Splitter} {said : List (Option (List ℕ))} {input : List ℕ} (octets : List ℕ) → Run s said input → Fed s octets t None → Run t said (input ++ octets)
  ended : {s t u : Splitter} {said : List (Option (List ℕ))} {input : List ℕ} (octets : List ℕ) (n : ℕ) (a : Option (List ℕ)) →
      Run s said input → Fed s octets t (Some n) → Says t a → Holds u [] → Run u (said ++ (a ∷ [])) (input ++ take n octets)

-- an input is its lines, each with a line feed behind it, and the line so far; of each line the splitter said what is kept of it
pub record Cut (s : Splitter) (said : List (Option (List ℕ))) (input : List ℕ) : Type 0 where
  pub lines : List (List ℕ)
  pub last : List ℕ
  pub input_is : input ≡ flat_map closed lines ++ last
  pub unbroken : AllByRecursion Unbroken lines
  pub going : Unbroken last
  pub said_is : said ≡ map told lines
  pub holds : Holds s last

-- in whatever pieces the input comes, the splitter cuts it into its lines
abbrev pub LinesCut : Type 0
LinesCut = (s : Splitter) (said : List (Option (List ℕ))) (input : List ℕ) → Run s said input → Cut s said input
