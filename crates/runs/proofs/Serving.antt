-- Every call at an end is a move of the law. Assumes nothing.
use Rattle.std.proofs.Common.{◌≡◌, ℕ, List, refl, arith}
use borrow.Author.Tests.{clash}
use Rattle.directions.specs.Rings.{Cyclic}
use Rattle.directions.specs.TextRules.{OpeningLaws, OpenerLaws, down_ring, up_ring, up_text}
use Rattle.directions.specs.Openings.{down_opens, down_writes}
use Rattle.writing.specs.RoundTrip.{RoundTrip}
use Rattle.writing.proofs.Trips.{round_trips}
use Rattle.ends.specs.Model.{Ways, Model}
use Rattle.law.specs.Senders.{Status}
use Rattle.law.specs.Links as law
use Rattle.law.specs.Links.{Packet, Side, air, ground}
use Rattle.law.proofs.RealDirections.{down_joins, up_joins}
use Rattle.runs.specs.Links.{Strings, Deed, down_way, up_way, ways_of, Serves, submits, withdraws, ticks, hears, collects, tells}
use Rattle.runs.proofs.Cuts.{counted_at}
use Rattle.runs.proofs.Says.{AllSay}
use Rattle.runs.proofs.Relating.{WayLaws, EndIs, Served}
use Rattle.runs.proofs.Local.{outward, inward, submit_serves, withdraw_serves, collect_serves, tell_serves}
use Rattle.runs.proofs.Ticking.{tick_serves}
use Rattle.runs.proofs.Hears.{hear_serves}

-- what the two ways of an end keep: each its laws, and each has the ring of the other
pub record Paired (w : Ways) : Type 0 where
  pub out : WayLaws w.out
  pub inn : WayLaws w.inn
  pub forth : w.out.other ≡ w.inn.own
  pub back : w.inn.other ≡ w.out.own
  pub trip : RoundTrip w.inn

module _ (w : Ways) (P : Paired w) (theirs : ℕ) where
  pub serves_is : {told : ℕ → Status} {m m' : Model} {i i' o o' : Strings} {ps qs : List Packet} → AllSay w.inn m.settings.registration i ps → AllSay w.out m.settings.registration o qs → {e : law.End} → EndIs w told m e → (x : Deed) → Serves w m i o x m' i' o' →
      Served w (outward w m.settings.originator) (inward w theirs) m.settings.registration told m m' i' o' x e ps qs
  serves_is p q E x (submits {l = l} {t = t} {r = r} two h) = submit_serves w P.out (outward w _) (inward w theirs) refl _ p q E l t r two h
  serves_is p q E x (withdraws {n = n} {r = r} h) = withdraw_serves w P.out (outward w _) (inward w theirs) refl _ p q E n r h
  serves_is p q E x (ticks {time = time} {draw = draw} {r = r} {p = t} h a) = tick_serves w P.out (inward w theirs) P.forth p q time draw E t r h a
  serves_is p q E x (hears {r = r} {dropped = dropped} {x = y} h) = hear_serves w P.out P.inn P.trip P.back theirs p q E dropped y r h
  serves_is p q E x (collects {before = before} {after = after} {r = r} h) = collect_serves w P.out (outward w _) (inward w theirs) refl _ p q E before r after h
  serves_is p q E x (tells {r = r} h) = tell_serves w P.out (outward w _) (inward w theirs) refl _ p q E r h

-- downlinks and uplinks keep their laws
up_opens : OpeningLaws up_text
up_opens = record { full = refl; seven = λ i before c h. absurd (clash h); fillable = λ i. (65, λ before h. absurd (omega (arith, h))) }

up_writes : OpenerLaws up_text
up_writes = record { long = λ o flight n i e. refl; allowed = λ o flight n i a e f h j u. absurd (omega (arith, u)); says = λ o flight n i rest e h. refl }

down_cyclic : Cyclic down_ring
down_cyclic = record { many = omega arith; printable = omega arith; seven = omega arith }

up_cyclic : Cyclic up_ring
up_cyclic = record { many = omega arith; printable = omega arith; seven = omega arith }

down_laws : WayLaws down_way
down_laws = record { own = down_cyclic; other = up_cyclic; joins = down_joins; opens = down_opens; writes = down_writes; counted = counted_at air }

up_laws : WayLaws up_way
up_laws = record { own = up_cyclic; other = down_cyclic; joins = up_joins; opens = up_opens; writes = up_writes; counted = counted_at ground }

pub paired : (x : Side) → Paired (ways_of x)
paired air = record { out = down_laws; inn = up_laws; forth = refl; back = refl; trip = round_trips up_way up_cyclic down_cyclic up_opens }
paired ground = record { out = up_laws; inn = down_laws; forth = refl; back = refl; trip = round_trips down_way down_cyclic up_cyclic down_opens }
