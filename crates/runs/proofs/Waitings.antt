-- The messages that wait at an end are those that collects hand out. Assumes nothing.
use Rattle.std.proofs.Common.{◌≡◌, ℕ, ◌<◌, ◌≤◌, Bool, true, false, eqb, List, [], ◌∷◌, ◌++◌, map, length, take, drop, replicate, Some, None, Ok, Err, Result, sym, refl, ap, ◌∙◌, arith, eqb-true}
use Rattle.std.proofs.Math.Seq.{take-append_seam}
use Rattle.std.proofs.lemmas.List.{length-replicate}
use Rattle.std.specs.declared.option.Option as std
use Rattle.blocks.specs.Reading.{pick}
use Rattle.stores.specs.Held.{Stored}
use Rattle.calls.specs.declared.fault.LinkFault.{LinkFault}
use Rattle.calls.specs.declared.fault.LinkFault.TheVariants.{Nothing}
use Rattle.calls.specs.declared.types.Label.{Label}
use Rattle.calls.specs.Faults.{number_of, place_of}
use Rattle.ends.specs.Model.{Ways, Model}
use Rattle.ends.specs.Calls.{Collects, CollectRefused, with_inbox}
use Rattle.law.specs.Links.{Side, air, ground}
use Rattle.runs.specs.Links.{Strings, Link, link, collect, collects, Serves, at, Step, at_air, at_ground}
use Rattle.runs.specs.History.{Message, message, end_of, waits, given_out}
use Rattle.runs.specs.Truth.{HandsOut, no_more_out, one_out, WaitingComeOut}

-- a collect at a side
serves_collect : {w : Ways} {m m' : Model} {i i' o o' : Strings} {before after : List ℕ} {r : Result (Label × ℕ) LinkFault} → Serves w m i o (collect before r after) m' i' o' → Collects m before r m' after
serves_collect (collects h) = h

step_collect : (y : Side) {l l' : Link} {before after : List ℕ} {r : Result (Label × ℕ) LinkFault} → Step l (at y (collect before r after)) l' → Collects (end_of y l) before r (end_of y l') after
step_collect air (at_air s) = serves_collect s
step_collect ground (at_ground s) = serves_collect s

-- one that answers 2 finds nothing
finds_nothing : (m m' : Model) (before after : List ℕ) (f : LinkFault) → number_of f ≡ 2 → Collects m before (Err f) m' after → m.inbox.waiting ≡ []
finds_nothing m m' before after f two h = go (place_of f) h.2
  where
    by_number : (b d : Bool) → eqb (number_of f) 1 ≡ b → eqb (number_of f) 2 ≡ d → pick b (length before < 3520) (pick d ((3520 ≤ length before) × (m.inbox.waiting ≡ [])) ⊥) → m.inbox.waiting ≡ []
    by_number true d x y z = let k = eqb-true (number_of f) 1 x in absurd (omega (arith, k, two))
    by_number false true x y z = z.1
    by_number false false x y z = absurd z

    go : (p : std.Option ℕ) → CollectRefused m before (number_of f) p → m.inbox.waiting ≡ []
    go (Some k) z = absurd z
    go None z = by_number (eqb (number_of f) 1) (eqb (number_of f) 2) refl refl z

abbrev first_message : List Message → Message → Message
first_message [] d = d
first_message (m ∷ ms) d = m

-- what a collect hands out is the oldest that waits
hands_oldest : (m m' : Model) (before after : List ℕ) (label : Label) (n : ℕ) (c : Message) → given_out (Ok (label, n)) after ≡ c ∷ [] → Collects m before (Ok (label, n)) m' after →
    map waits m.inbox.waiting ≡ c ∷ map waits m'.inbox.waiting
hands_oldest m m' before after label n c e h =
    ap (map waits) h.oldest ∙
    ap (λ (x : Message). x ∷ map waits h.rest)
    (ap (λ (l : Label). message l.0 h.message.text) (sym h.label_is) ∙
    ap (message label.0) (sym (ap (take n) h.holds ∙ ap (λ (k : ℕ). take k (h.message.text ++ drop n before)) h.long ∙ take-append_seam h.message.text (drop n before))) ∙
    ap (λ (xs : List Message). first_message xs c) e) ∙
    ap (λ (x : Model). c ∷ map waits x.inbox.waiting) (sym h.after)

come_out : (y : Side) (l : Link) (ms : List Message) (l' : Link) → HandsOut y l ms l' → ms ≡ map waits (end_of y l).inbox.waiting
come_out y l ms l' (no_more_out {before = before} {after = after} {f = f} room two s) =
    sym (ap (map waits) (finds_nothing (end_of y l) (end_of y l') before after f two (step_collect y s)))
come_out y l ms l' (one_out {l' = k} {before = before} {after = after} {n = n} {label = label} {m = m} {ms = ns} e s q) =
    ap (λ (xs : List Message). m ∷ xs) (come_out y k ns l' q) ∙ sym (hands_oldest (end_of y l) (end_of y k) before after label n m e (step_collect y s))

-- a link with another end at a side
abbrev with_end : Side → Link → Model → Link
with_end air (link a g d u) m = link m g d u
with_end ground (link a g d u) m = link a m d u

step_at : (y : Side) (l : Link) (m' : Model) (before after : List ℕ) (r : Result (Label × ℕ) LinkFault) → Collects (end_of y l) before r m' after → Step l (at y (collect before r after)) (with_end y l m')
step_at air (link a g d u) m' before after r h = at_air (collects h)
step_at ground (link a g d u) m' before after r h = at_ground (collects h)

end_at : (y : Side) (l : Link) (m : Model) → end_of y (with_end y l m) ≡ m
end_at air (link a g d u) m = refl
end_at ground (link a g d u) m = refl

-- a buffer
abbrev buffer : List ℕ
buffer = replicate 3520 0

enough : 3520 ≤ length buffer
enough = let e = length-replicate {A = ℕ} 3520 0 in omega (arith, e)

-- the text of the oldest is what a collect gives
given : (s : Stored Label) → given_out (Ok (s.«record», length s.text)) (s.text ++ drop (length s.text) buffer) ≡ waits s ∷ []
given s = ap (λ (t : List ℕ). message s.«record».0 t ∷ []) (take-append_seam s.text (drop (length s.text) buffer))

collected : (m : Model) (s : Stored Label) (ws : List (Stored Label)) → m.inbox.waiting ≡ s ∷ ws →
    Collects m buffer (Ok (s.«record», length s.text)) (with_inbox m (record { accepted = m.inbox.accepted; owed = m.inbox.owed; part = m.inbox.part; waiting = ws })) (s.text ++ drop (length s.text) buffer)
collected m s ws e = record { room = enough; message = s; rest = ws; oldest = e; label_is = refl; long = refl; holds = refl; after = refl }

-- collects do hand them out
hand_out : (y : Side) (ws : List (Stored Label)) (l : Link) → (end_of y l).inbox.waiting ≡ ws → (l' : Link) × HandsOut y l (map waits ws) l'
hand_out y [] l e = (with_end y l (end_of y l), no_more_out enough refl (step_at y l (end_of y l) buffer buffer (Err Nothing) (refl, refl, (enough, e))))
hand_out y (s ∷ ws) l e =
    let m = end_of y l in
    let m' : Model = with_inbox m (record { accepted = m.inbox.accepted; owed = m.inbox.owed; part = m.inbox.part; waiting = ws }) in
    let q = hand_out y ws (with_end y l m') (ap (λ (x : Model). x.inbox.waiting) (end_at y l m')) in
    (q.0, one_out (given s) (step_at y l m' buffer (s.text ++ drop (length s.text) buffer) (Ok (s.«record», length s.text)) (collected m s ws e)) q.1)

pub waiting_come_out_lem : WaitingComeOut
waiting_come_out_lem y l = (come_out y l, hand_out y (end_of y l).inbox.waiting l refl)
