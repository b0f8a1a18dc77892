-- Clean rounds of two real ends make exact progress. Assumes nothing.
use Rattle.std.proofs.Common.{◌≡◌, ℕ, zero, suc, min, Bool, cond, List, [], ◌∷◌, map, length, refl, ap, ◌∙◌, arith}
use mathlib.Core.Option.{Option, none, some}
use Rattle.std.proofs.lemmas.List.{length-map}
use Rattle.std.specs.List.{slice_get}
use Rattle.ends.specs.Model.{Ways, Model}
use Rattle.law.specs.Senders as senders
use Rattle.law.specs.Senders.{Status}
use Rattle.law.specs.Links as law
use Rattle.law.specs.Links.{Side}
use Rattle.law.specs.Truth as truth
use Rattle.law.specs.Rounds as rounds
use Rattle.law.specs.Rounds.{total, left_at}
use Rattle.law.proofs.RealDirections.{real_directions}
use Rattle.law.proofs.ProgressRounds.{progress}
use Rattle.law.proofs.Truths.{refusals_never}
use Rattle.runs.specs.Links.{Link, Deed, Event}
use Rattle.runs.specs.History.{Message, calls, submissions, numbered, called, room}
use Rattle.runs.specs.Rounds.{acknowledged_by, is_block, missing, size_at, blocks_left, unacknowledged, Progress}
use Rattle.runs.proofs.Cuts.{counted_at, cuts_length}
use Rattle.runs.proofs.Acks.{as_place}
use Rattle.runs.proofs.Relating.{DeedIs, submit_taken, submit_refused, withdraw_taken, withdraw_refused, tick_block, tick_response, tick_nothing, tick_refused, hear_one, hear_none, collect_one, collect_none, collect_refused, outcome_told, outcome_refused}
use Rattle.runs.proofs.Mapped.{Names, down_of, up_of, RunIs, names_of, run_is}
use Rattle.runs.proofs.Deeds.{CallsAre, no_deeds, one_deed, calls_are, cut, submissions_same}
use Rattle.runs.proofs.Transfer.{called_same}
use Rattle.runs.proofs.Clean.{clean_rounds}

-- sums of equal numbers
total_same : (f g : ℕ → ℕ) → ((j : ℕ) → f j ≡ g j) → (n : ℕ) → total f n ≡ total g n
total_same f g e zero = refl
total_same f g e (suc n) = let a = total_same f g e n in let b = e n in omega (arith, a, b)

-- the block that a call acknowledged
ack_same : {w : Ways} {m : Model} {x : Deed} {y : law.Doing} → DeedIs w m x y → as_place (rounds.acknowledged_by y) ≡ acknowledged_by x
ack_same submit_taken = refl
ack_same submit_refused = refl
ack_same withdraw_taken = refl
ack_same withdraw_refused = refl
ack_same (tick_block z) = refl
ack_same (tick_response z) = refl
ack_same tick_nothing = refl
ack_same tick_refused = refl
ack_same (hear_one u v) = u
ack_same (hear_none u) = refl
ack_same (collect_one u) = refl
ack_same (collect_none u) = refl
ack_same (collect_refused u) = refl
ack_same outcome_told = refl
ack_same outcome_refused = refl

block_same : (n i : ℕ) (k : Option (ℕ × ℕ)) → rounds.is_block n i k ≡ is_block n i (as_place k)
block_same n i none = refl
block_same n i (some p) = refl

missing_same : {w : Ways} {h : List Deed} {k : List law.Doing} → CallsAre w h k → (n i : ℕ) → rounds.missing k n i ≡ missing h n i
missing_same no_deeds n i = refl
missing_same (one_deed {h = h} {k = k} {y = y} d c) n i =
    ap (λ (v : ℕ). cond (rounds.is_block n i (rounds.acknowledged_by y)) 0 v) (missing_same c n i) ∙
    ap (λ (b : Bool). cond b 0 (missing h n i)) (block_same n i (rounds.acknowledged_by y) ∙ ap (is_block n i) (ack_same d))

-- how many blocks a message has
slice_size : (x : Side) (ms : List Message) (k : ℕ) → rounds.size_at (senders.nth (map (cut (room x)) ms) k) ≡ size_at x (slice_get ms k)
slice_size x [] k = refl
slice_size x (m ∷ ms) zero = cuts_length (room x) (counted_at x) m.text
slice_size x (m ∷ ms) (suc k) = slice_size x ms k

size_same : (x : Side) (ms : List Message) (n : ℕ) → rounds.size_at (senders.numbered (map (cut (room x)) ms) n) ≡ size_at x (numbered ms n)
size_same x ms zero = refl
size_same x ms (suc k) = slice_size x ms k

module _ (n : Names) (x : Side) {h : List Event} {l : Link} (I : RunIs n h l) where
  left_same : (j : ℕ) → rounds.blocks_left (truth.calls x I.history) (truth.called x I.end_link) j ≡ blocks_left x (calls x h) (called x h l j) j
  left_same j =
      let c = calls_are x I.maps in
      ap (λ (s : Status). left_at s (total (rounds.missing (truth.calls x I.history) j) (rounds.size_at (senders.numbered (truth.submissions (truth.calls x I.history)) j)))) (called_same n x I j) ∙
      ap (left_at (called x h l j))
      (ap (total (rounds.missing (truth.calls x I.history) j))
      (ap (λ (ms : List senders.Message). rounds.size_at (senders.numbered ms j)) (submissions_same c) ∙ size_same x (submissions (calls x h)) j) ∙
      total_same (rounds.missing (truth.calls x I.history) j) (missing (calls x h) j) (missing_same c j) (size_at x (numbered (submissions (calls x h)) j)))

  pub unacknowledged_same : rounds.unacknowledged x I.history I.end_link ≡ unacknowledged x h l
  unacknowledged_same =
      ap (total (λ j. rounds.blocks_left (truth.calls x I.history) (truth.called x I.end_link) (suc j)))
      (ap length (submissions_same (calls_are x I.maps)) ∙ length-map (submissions (calls x h)) (cut (room x))) ∙
      total_same (λ j. rounds.blocks_left (truth.calls x I.history) (truth.called x I.end_link) (suc j)) (λ j. blocks_left x (calls x h) (called x h l (suc j)) (suc j)) (λ j. left_same (suc j)) (length (submissions (calls x h)))

pub progress_lem : Progress
progress_lem x h l l' r k run rs =
    let I = run_is run in
    let n = names_of run in
    let G = clean_rounds n rs (record { history = h; is = I.is }) in
    progress refusals_never (down_of n) (up_of n) (real_directions.0 n.aircraft) (real_directions.1 n.ground_end) x I.history I.end_link G.after r k I.run G.so ∙
    ap (min r) (unacknowledged_same n x I)
