-- What the calls of an end tell, as one more call is made.
-- Assumes nothing.
use Rattle.std.proofs.Common.{◌≡◌, ℕ, Bool, ◌⊎◌, List, ◌∷◌, refl, subst, inl, inr, arith}
use mathlib.Core.Option.{some}
use Rattle.law.specs.Senders.{Message, Status, Course, number_of, index_of}
use Rattle.law.specs.Links.{Packet, Doing, submitted, withdrew, sent, responded, rested, heard, silent, collected, bare, told, refused}
use Rattle.law.specs.Truth.{submissions, made, GoneOut, now_out, out_before, WithdrawnLate, now_late, late_before}
use Rattle.law.proofs.Logs.{Log}
use Rattle.law.proofs.Ways.{Stood, Told}

-- calls that withdraw (1), that send (2), and others (0)
abbrev pub kind : Doing → ℕ
kind (submitted m) = 0
kind (withdrew n) = 1
kind (sent b n i p ps) = 2
kind (responded b p ps) = 0
kind (rested b) = 0
kind (heard n a k) = 0
kind (silent n) = 0
kind (collected m) = 0
kind bare = 0
kind (told n s) = 0
kind refused = 0

plain_gone : {n i : ℕ} {e : Doing} {h : List Doing} → kind e ≡ 0 → GoneOut n i (e ∷ h) → GoneOut n i h
plain_gone f now_out = absurd (omega arith)
plain_gone f (out_before w) = w

plain_late : {n : ℕ} {e : Doing} {h : List Doing} → kind e ≡ 0 → WithdrawnLate n (e ∷ h) → WithdrawnLate n h
plain_late f (now_late x) = absurd (omega arith)
plain_late f (late_before w) = w

-- a call that withdraws and sends nothing
pub told_plain : {h : List Doing} {g g' : List Message} {cl : ℕ → Status} {log : Log} {e : Doing} → kind e ≡ 0 → submissions (e ∷ h) ≡ g' → Told h g cl log → Told (e ∷ h) g' cl log
told_plain p q T = record {
  given = q;
  gone = λ n i w. T.gone n i (plain_gone p w);
  sent = λ q z e. out_before (T.sent q z e);
  not_withdrawn = λ n e. made (T.not_withdrawn n e);
  doubt_withdrawn = λ n e. made (T.doubt_withdrawn n e);
  late = λ n e. late_before (T.late n e);
  doubtful = λ n w. T.doubtful n (plain_late p w);
}

-- a block has gone out by the newest call, or before
sent_split : {n i m k : ℕ} {b : Bool} {p : Packet} {ps : List Packet} {h : List Doing} →
    GoneOut n i (sent b m k p ps ∷ h) → ((m ≡ n) × (k ≡ i)) ⊎ GoneOut n i h
sent_split now_out = inl (refl, refl)
sent_split (out_before w) = inr w

sent_late : {n m i : ℕ} {b : Bool} {p : Packet} {ps : List Packet} {h : List Doing} → WithdrawnLate n (sent b m i p ps ∷ h) → WithdrawnLate n h
sent_late (late_before w) = w

-- a call that sent block k of message m, by a log that holds it
pub told_sent : {h : List Doing} {g : List Message} {cl : ℕ → Status} {log log' : Log} {b : Bool} {m k : ℕ} {p : Packet} {ps : List Packet} →
    Told h g cl log → Stood log' m k → ((n i : ℕ) → Stood log n i → Stood log' n i) →
    ((q : ℕ) (z : Course) → log' q ≡ some z → GoneOut (number_of z) (index_of z) (sent b m k p ps ∷ h)) → Told (sent b m k p ps ∷ h) g cl log'
told_sent {log' = log'} {k = k} T new old out-now = record {
  given = T.given;
  gone = λ n i w. elim (sent_split w) [
    | inl u ↦ subst (λ (x : ℕ). Stood log' n x) u.1 (subst (λ (x : ℕ). Stood log' x k) u.0 new)
    | inr u ↦ old n i (T.gone n i u)
  ];
  sent = out-now;
  not_withdrawn = λ n e. made (T.not_withdrawn n e);
  doubt_withdrawn = λ n e. made (T.doubt_withdrawn n e);
  late = λ n e. late_before (T.late n e);
  doubtful = λ n w. T.doubtful n (sent_late w);
}
