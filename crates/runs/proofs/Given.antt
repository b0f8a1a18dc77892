-- The number that a submit answers is the place of its message among the submitted ones. Assumes nothing.
use Rattle.std.proofs.Common.{◌≡◌, ℕ, zero, suc, ◌+◌, Bool, true, false, cond, ◌&&◌, List, [], ◌∷◌, ◌++◌, length, Some, None, Ok, Err, Option, Result, sym, refl, ap, ◌∙◌, subst, inl, inr, arith, length-append, append-nil}
use Rattle.std.specs.List.{slice_get}
use Rattle.blocks.specs.declared.block.Block.{Block}
use Rattle.blocks.specs.declared.fault.BlockFault.{BlockFault}
use Rattle.blocks.specs.Fields.{Fields, response, message as fields_of, fields_read}
use Rattle.calls.specs.declared.fault.LinkFault.{LinkFault}
use Rattle.calls.specs.declared.types.Label.{Label}
use Rattle.calls.specs.declared.types.Heard.{Heard}
use Rattle.calls.specs.declared.types.Ticked.{Ticked}
use Rattle.ends.specs.declared.types.Plan.{Plan}
use Rattle.ends.specs.declared.types.Plan.TheVariants as plan
use Rattle.ends.specs.Model.{Ways, Model}
use Rattle.ends.specs.Sending.{plan_of, names, current_out, moved_on, counted}
use Rattle.ends.specs.Calls.{Submits, Withdraws, Ticks, Sends, Hears, StringHeard, ReadHeard, FieldsHeard, Collects, Tells}
use Rattle.law.specs.Links.{Side, air, ground}
use Rattle.runs.specs.Links.{Strings, Link, Put, Adds, Takes, Deed, submit, withdraw, tick, hear, collect, outcome, Event, at, Step, at_air, at_ground, Serves, submits, withdraws, ticks, hears, collects, tells, ways_of, Run, begin, ◌then◌}
use Rattle.runs.specs.History.{Message, message, end_of, calls, brought, submissions, numbered, Made, now_made, made}

-- how many messages an end has numbered
abbrev count : Model → ℕ
count m = m.outbox.numbered

module _ (w : Ways) (m m' : Model) where
  sends_keep : {V : Type 0} (puts : V → List ℕ → V → Type 0) (v v' : V) (p : Plan) (time draw : ℕ) (r : Ticked) → Sends puts w m p time draw r m' v v' → count m' ≡ count m
  sends_keep puts v v' (plan.Fresh b) time draw r h = ap count h.2
  sends_keep puts v v' (plan.Again b) time draw r h = ap count h.2
  sends_keep puts v v' plan.Response time draw r h = ap count h.2
  sends_keep puts v v' plan.Nothing time draw r h = ap count h.2

  tick_keeps : {V : Type 0} (puts : V → List ℕ → V → Type 0) (v v' : V) (time draw : ℕ) (r : Result Ticked LinkFault) → Ticks puts w m time draw r m' v v' → count m' ≡ count m
  tick_keeps puts v v' time draw (Ok r) h = sends_keep puts v v' (plan_of m time) time draw r h.1
  tick_keeps puts v v' time draw (Err f) h = ap count h.0

  counted_keeps : (a : Option ℕ) → count (counted w m a) ≡ count m
  counted_keeps a = go (names a m.outbox.put && current_out m.outbox.cells)
    where
      go : (b : Bool) → count (cond b (moved_on w m) m) ≡ count m
      go true = refl
      go false = refl

  fields_keep : (f : Fields) (r : Result Heard LinkFault) → FieldsHeard w m f r m' → count m' ≡ count m
  fields_keep (response h) r x = ap count x.1 ∙ counted_keeps h.acknowledgment
  fields_keep (fields_of h label last text) r x = ap count x.1 ∙ counted_keeps h.acknowledgment

  read_keeps : (y : Result Block BlockFault) (r : Result Heard LinkFault) → ReadHeard w m y r m' → count m' ≡ count m
  read_keeps (Err x) r h = ap count h.1
  read_keeps (Ok b) r (inl h) = fields_keep (fields_read b) r h.1
  read_keeps (Ok b) r (inr h) = ap count h.2

  hear_keeps : {V : Type 0} (takes : V → Option (List ℕ) → V → Type 0) (v v' : V) (r : Result Heard LinkFault) → Hears takes w m r m' v v' → count m' ≡ count m
  hear_keeps takes v v' r (inl h) = read_keeps h.2.result r h.2.heard
  hear_keeps takes v v' r (inr h) = ap count h.1

  -- each call numbers the messages that it brings
  serve_counts : {i i' o o' : Strings} (d : Deed) → Serves w m i o d m' i' o' → count m' ≡ count m + length (brought d)
  serve_counts d (submits {l = l} {t = t} {r = Ok n} two h) = ap count h.after ∙ omega arith
  serve_counts d (submits {l = l} {t = t} {r = Err f} two h) = ap count h.0 ∙ omega arith
  serve_counts d (withdraws {r = Ok u} h) = ap count h.after ∙ omega arith
  serve_counts d (withdraws {r = Err f} h) = ap count h.0 ∙ omega arith
  serve_counts d (ticks {time = time} {draw = draw} {r = r} {p = p} h a) = tick_keeps (Adds p) _ _ time draw r h ∙ omega arith
  serve_counts d (hears {r = r} {dropped = dropped} {x = x} h) = hear_keeps (Takes dropped x) _ _ r h ∙ omega arith
  serve_counts d (collects {r = Ok c} h) = ap count h.after ∙ omega arith
  serve_counts d (collects {r = Err f} h) = ap count h.0 ∙ omega arith
  serve_counts d (tells {r = Ok c} h) = ap count h.after ∙ omega arith
  serve_counts d (tells {r = Err f} h) = ap count h.0 ∙ omega arith

-- a message keeps its number as more are submitted
numbered_on : (ms more : List Message) (n : ℕ) (z : Message) → numbered ms n ≡ Some z → numbered (ms ++ more) n ≡ Some z
numbered_on [] more zero z e = cc
numbered_on [] more (suc k) z e = cc
numbered_on (x ∷ ms) more zero z e = cc
numbered_on (x ∷ ms) more (suc zero) z e = e
numbered_on (x ∷ ms) more (suc (suc k)) z e = numbered_on ms more (suc k) z e

numbered_last : (ms : List Message) (z : Message) → numbered (ms ++ z ∷ []) (suc (length ms)) ≡ Some z
numbered_last [] z = refl
numbered_last (x ∷ ms) z = numbered_last ms z

-- what is so of the calls of one side, at its end
pub record Numbers (h : List Deed) (m : Model) : Type 0 where
  pub many : length (submissions h) ≡ count m
  pub given : (n : ℕ) (l : Label) (t : List ℕ) → Made (submit l t (Ok n)) h → numbered (submissions h) n ≡ Some (message l.0 t)

numbers_on : (w : Ways) (m m' : Model) {i i' o o' : Strings} (h : List Deed) (d : Deed) → Numbers h m → Serves w m i o d m' i' o' → Numbers (d ∷ h) m'
numbers_on w m m' h d N s = record {
  many = length-append (submissions h) (brought d) ∙ ap (λ (k : ℕ). k + length (brought d)) N.many ∙ sym (serve_counts w m m' d s);
  given = go d s;
}
  where
    go : (d : Deed) {i i' o o' : Strings} → Serves w m i o d m' i' o' → (n : ℕ) (l : Label) (t : List ℕ) → Made (submit l t (Ok n)) (d ∷ h) → numbered (submissions (d ∷ h)) n ≡ Some (message l.0 t)
    go d s n l t (made q) = numbered_on (submissions h) (brought d) n (message l.0 t) (N.given n l t q)
    go d (submits two x) n l t now_made =
        ap (numbered (submissions h ++ message l.0 t ∷ [])) (x.number ∙ ap suc (sym N.many)) ∙ numbered_last (submissions h) (message l.0 t)

-- no call, none made
none_made : (n : ℕ) (l : Label) (t : List ℕ) (z : Type 0) → Made (submit l t (Ok n)) [] → z
none_made n l t z q = elim q [ ]

pub numbers_of_run : (x : Side) {h : List Event} {l : Link} → Run h l → Numbers (calls x h) (end_of x l)
numbers_of_run air (begin a g e) = record { many = refl; given = λ n l t q. none_made n l t _ q }
numbers_of_run ground (begin a g e) = record { many = refl; given = λ n l t q. none_made n l t _ q }
numbers_of_run air (r then at_air {a = a} {a' = a'} {x = d} s) = numbers_on (ways_of air) a a' _ d (numbers_of_run air r) s
numbers_of_run air (r then at_ground s) = numbers_of_run air r
numbers_of_run ground (r then at_air s) = numbers_of_run ground r
numbers_of_run ground (r then at_ground {g = g} {g' = g'} {x = d} s) = numbers_on (ways_of ground) g g' _ d (numbers_of_run ground r) s
