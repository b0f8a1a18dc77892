-- The splitter keeps the line so far, and cuts an input into its lines.
use Rattle.std.proofs.Common.{◌≡◌, ℕ, ◌+◌, ◌<◌, ◌≤◌, eqb, List, [], ◌∷◌, ◌++◌, map, length, get_or, take, Some, None, Option, sym, refl, ap, subst, take_all, ◌∙◌, append_assoc, arith, length-append}
use Rattle.std.proofs.lemmas.Bool.{eqb-true, eqb-false}
use Rattle.std.proofs.lemmas.Bool.Decides.{nat_tests}
use Rattle.std.proofs.lemmas.List.Quantifiers.{position-Some}
use Rattle.std.proofs.lemmas.List.Sums.{fails_before_first}
use Rattle.std.specs.List.{flat_map, position, position_or_len}
use Rattle.std.proofs.lemmas.List.{take_more, get_or-take, append-nil, flat_map_more, map_push, length-take-le}
use Rattle.std.proofs.ByRecursion.{All-push, All-append, All-from_get_or}
use Rattle.recordings.specs.declared.splitter.Splitter.{Splitter}
use Rattle.std.specs.Option.{option_map, unwrap_or}
use Rattle.recordings.specs.Split.{told, Unbroken, joined, Joins, Fed, Ended, closed, begun, fed, ended, LinesCut}

-- what is kept of a line takes octets behind it as the line does
pub joined_told : (p octets : List ℕ) → joined (told p) octets ≡ told (p ++ octets)
joined_told p octets = grind (arith, nat_tests, length-append p octets)

-- an octet that is no line feed
abbrev pub Plain : ℕ → Type 0
Plain c = c ≡ 10 → ⊥

-- a piece in which the first line feed stands at n
pub ended_at :
    (s t : Splitter) (octets : List ℕ) (n : ℕ) → Some n ≡ position (λ (x : ℕ). eqb x 10) octets → Joins s (take n octets) t → Ended s octets t (n + 1)
ended_at s t octets n first joins =
    let (within, feed, plain) = position-Some (λ (x : ℕ). eqb x 10) octets n 0 (sym first) in
    record {
      front = take n octets;
      some = omega arith;
      within = omega arith;
      taken = take_more octets n 0 within ∙ ap (λ (x : ℕ). take n octets ++ (x ∷ [])) (eqb-true (get_or octets n 0) 10 feed);
      unbroken = All-from_get_or Plain (take n octets) 0 (λ k below.
          let fits : k < n = omega (arith, length-take-le n octets (omega arith)) in
          rw (get_or-take n octets k 0 fits) (eqb-false (get_or octets k 0) 10 (plain k fits)));
      joins = joins;
    }

-- a piece with no line feed
pub unbroken_all : (octets : List ℕ) → ◌≡◌ {A = Option ℕ} None (position (λ (x : ℕ). eqb x 10) octets) → Unbroken octets
unbroken_all octets none =
    let all : length octets ≤ position_or_len (λ (x : ℕ). eqb x 10) octets = grind (arith, nat_tests) in
    All-from_get_or Plain octets 0 (λ k below. eqb-false (get_or octets k 0) 10 (fails_before_first (λ (x : ℕ). eqb x 10) octets k 0 (omega arith)))

-- a piece up to its first line feed, or all of one that has none
pub fed_at :
    (s t : Splitter) (octets : List ℕ) (end r : Option ℕ) → end ≡ position (λ (x : ℕ). eqb x 10) octets → r ≡ option_map (λ (n : ℕ). n + 1) end →
    Joins s (take (unwrap_or end (length octets)) octets) t → Fed s octets t r
fed_at s t octets None r first answer joins =
    subst (Fed s octets t) (sym answer) (unbroken_all octets first, joins ∙ ap (joined s) (take_all (length octets) octets (omega arith)))
fed_at s t octets (Some n) r first answer joins = subst (Fed s octets t) (sym answer) (ended_at s t octets n first joins)

pub lines_cut : LinesCut
lines_cut s said input (begun holds) =
    record { lines = []; last = []; input_is = refl; unbroken = tt; going = tt; said_is = refl; holds = holds }
lines_cut s said input (fed octets run (unbroken, joins)) =
    let cut = lines_cut _ _ _ run in
    record {
      lines = cut.lines;
      last = cut.last ++ octets;
      input_is = ap (λ (q : List ℕ). q ++ octets) cut.input_is ∙ append_assoc (flat_map closed cut.lines) cut.last octets;
      unbroken = cut.unbroken;
      going = All-append Plain cut.last octets cut.going unbroken;
      said_is = cut.said_is;
      holds = joins ∙ ap (λ (o : Option (List ℕ)). joined o octets) cut.holds ∙ joined_told cut.last octets;
    }
lines_cut s said input (ended octets n a run done says fresh) =
    let cut = lines_cut _ _ _ run in
    let line = cut.last ++ done.front in
    let before = flat_map closed cut.lines in
    record {
      lines = cut.lines ++ (line ∷ []);
      last = [];
      input_is =
          ap (λ (q : List ℕ). q ++ take n octets) cut.input_is
          ∙ ap (λ (q : List ℕ). (before ++ cut.last) ++ q) done.taken
          ∙ append_assoc before cut.last (closed done.front)
          ∙ ap (λ (q : List ℕ). before ++ q) (sym (append_assoc cut.last done.front (10 ∷ [])))
          ∙ flat_map_more closed [] cut.lines line
          ∙ sym (append-nil (flat_map closed (cut.lines ++ (line ∷ []))));
      unbroken = All-push Unbroken cut.lines line cut.unbroken (All-append Plain cut.last done.front cut.going done.unbroken);
      going = tt;
      said_is =
          ap (λ (q : List (Option (List ℕ))). q ++ (a ∷ [])) cut.said_is
          ∙ ap (λ (x : Option (List ℕ)). map told cut.lines ++ (x ∷ [])) (says line (done.joins ∙ ap (λ (o : Option (List ℕ)). joined o done.front) cut.holds ∙ joined_told cut.last done.front))
          ∙ sym (map_push told cut.lines line);
      holds = fresh;
    }
