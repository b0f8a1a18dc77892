-- The receiving half of an end as a receiver of the law: what a block does to it. Assumes nothing.
use Rattle.std.proofs.Common.{◌≡◌, ℕ, suc, ◌+◌, ◌*◌, ◌≤◌, Bool, List, [], ◌∷◌, ◌++◌, reverse, length, drop, Some, None, sym, refl, ap, ◌∙◌, append_assoc, append-nil, arith, length-append, le-leb}
use mathlib.Core.List.{reverse_aux}
use mathlib.Core.Option.{Option, none, some}
use Rattle.std.specs.declared.option.Option as std
use Rattle.directions.specs.Rings.{RingRule}
use Rattle.directions.specs.declared.marks.Mark.{Mark}
use Rattle.directions.specs.declared.marks.Mark.TheVariants.{Plain, Numbered}
use Rattle.directions.specs.declared.marks.Joining.{Joining}
use Rattle.directions.specs.declared.marks.Joining.TheVariants.{Opens, Continues, Neither}
use Rattle.stores.specs.Held.{Stored}
use Rattle.calls.specs.declared.types.Label.{Label}
use Rattle.ends.specs.declared.types.PartHead.{PartHead}
use Rattle.ends.specs.Model.{Ways, Inbox}
use Rattle.ends.specs.Hearing as hearing
use Rattle.law.specs.Real as real
use Rattle.law.specs.Senders.{Text, Message, message}
use Rattle.law.specs.Receivers as law
use Rattle.runs.specs.Strings.{joined_up}
use Rattle.runs.proofs.Rings.{Same}

-- texts one after the other, given newest first
abbrev pub joined_back : List Text → List ℕ
joined_back [] = []
joined_back (t ∷ ts) = joined_back ts ++ t

joined_aux : (ts acc : List Text) → joined_up (reverse_aux ts acc) ≡ joined_back ts ++ joined_up acc
joined_aux [] acc = refl
joined_aux (t ∷ ts) acc = joined_aux ts (t ∷ acc) ∙ sym (append_assoc (joined_back ts) t (joined_up acc))

pub joined_reverse : (ts : List Text) → joined_up (reverse ts) ≡ joined_back ts
joined_reverse ts = joined_aux ts [] ∙ append-nil (joined_back ts)

pub marks_back : (m : Mark) → real.mark_of (real.place_of m) ≡ m
marks_back Plain = refl
marks_back (Numbered o n l) = refl

-- the open part
pub data PartIs : std.Option (Stored PartHead) → law.Part → Type 0 where
  shut : PartIs None law.closed
  opened : {p : Stored PartHead} {ts : List Text} → p.text ≡ joined_back ts → p.«record».blocks ≡ length ts → length p.text ≤ length ts * 220 →
      PartIs (Some p) (law.open_part (real.place_of p.«record».mark) p.«record».label.0 ts)

-- the part after a block: no more, or with label and texts
pub data PartAfter : std.Option (Stored PartHead) → Mark → Option (Text × List Text) → Type 0 where
  no_part : {k : Mark} → PartAfter None k none
  a_part : {p : Stored PartHead} {ts : List Text} → (length ts ≤ 16 → p.text ≡ joined_back ts) → p.«record».blocks ≡ length ts →
      (length ts ≤ 16 → length p.text ≤ length ts * 220) → PartAfter (Some p) p.«record».mark (some (p.«record».label.0, ts))

-- what the rule is told of the open part
pub mark_same : {x : std.Option (Stored PartHead)} {y : law.Part} → PartIs x y → real.part_of (law.place_of y) ≡ hearing.mark_of x
mark_same shut = refl
mark_same (opened {p = p} e b l) = ap (λ (m : Mark). Some m) (marks_back p.«record».mark)

-- a text of a block has at most 220 message characters; sixteen of them fit
pub lengthened_fits : (t more : List ℕ) (n : ℕ) → length t ≤ n * 220 → length more ≤ 220 → suc n ≤ 16 → hearing.lengthened t more ≡ t ++ more
lengthened_fits t more n a b c = rw (le-leb (length t + length more) 3520 (omega (arith, a, b, c))) refl

module _ (w : Ways) (b : hearing.Block) (short : length (drop w.inn.text.opening b.text) ≤ 220) where
  pub joins_same : (j : Joining) {x : std.Option (Stored PartHead)} {y : law.Part} → PartIs x y →
      PartAfter (hearing.part_after w j x b) (w.inn.text.reads b.text) (law.joined (real.turn_of j) y b.label.0 (drop w.inn.text.opening b.text))
  joins_same Opens q = a_part
      (λ h. lengthened_fits [] (drop w.inn.text.opening b.text) 0 (omega arith) short (omega arith)) refl
      (λ h. let e = ap length (lengthened_fits [] (drop w.inn.text.opening b.text) 0 (omega arith) short (omega arith)) in omega (arith, e, short))
  joins_same Continues shut = no_part
  joins_same Continues (opened {p = p} {ts = ts} e n l) = a_part
      (λ h. lengthened_fits p.text (drop w.inn.text.opening b.text) (length ts) l short h ∙ ap (λ (xs : List ℕ). xs ++ drop w.inn.text.opening b.text) e)
      (ap suc n)
      (λ h. let f = ap length (lengthened_fits p.text (drop w.inn.text.opening b.text) (length ts) l short h) ∙ length-append p.text (drop w.inn.text.opening b.text) in omega (arith, f, l, short))
  joins_same Neither q = no_part

-- the messages that wait
pub data WaitingAre : List (Stored Label) → List Message → Type 0 where
  none_wait : WaitingAre [] []
  one_waits : {s : Stored Label} {ts : List Text} {ss : List (Stored Label)} {ms : List Message} →
      s.text ≡ joined_up ts → WaitingAre ss ms → WaitingAre (s ∷ ss) (message s.«record».0 ts ∷ ms)

pub waiting_add : {ss : List (Stored Label)} {ms : List Message} (s : Stored Label) (ts : List Text) → WaitingAre ss ms → s.text ≡ joined_up ts →
    WaitingAre (ss ++ s ∷ []) (ms ++ message s.«record».0 ts ∷ [])
waiting_add s ts none_wait e = one_waits e none_wait
waiting_add s ts (one_waits f q) e = one_waits f (waiting_add s ts q e)

pub waiting_length : {ss : List (Stored Label)} {ms : List Message} → WaitingAre ss ms → length ss ≡ length ms
waiting_length none_wait = refl
waiting_length (one_waits f q) = ap suc (waiting_length q)

-- the receiving half of an end is this receiver, owing an acknowledgment or not
pub record ReceiverIs (r : RingRule) (i : Inbox) (o : Option ℕ) (pt : law.Part) (ms : List Message) (owed : Bool) : Type 0 where
  pub accepted : Same r i.accepted o
  pub part : PartIs i.part pt
  pub waiting : WaitingAre i.waiting ms
  pub owing : i.owed ≡ owed
