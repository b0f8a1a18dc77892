-- What the packets on a path say, one kind of thing at a time; what joins a path where a packet is put.
-- Assumes nothing.
use Rattle.std.proofs.Common.{◌≡◌, ℕ, List, [], ◌∷◌, ◌++◌, sym, refl, ap, subst, le_refl}
use mathlib.Core.Option.{Option, none, some}
use Rattle.law.specs.Senders.{Block}
use Rattle.law.specs.Links.{Packet, spoiled, packet, Copies, no_more, intact, spoilt}
use Rattle.law.proofs.Tracks.{Track, nothing, mute, stands}

-- the block, and the acknowledgment, that a packet holds
abbrev pub the_block : Packet → Option Block
the_block spoiled = none
the_block (packet a b) = b

abbrev pub the_ack : Packet → Option ℕ
the_ack spoiled = none
the_ack (packet a b) = a

abbrev pub each : {X : Type 0} → (Packet → Option X) → List Packet → List (Option X)
each f [] = []
each f (p ∷ ps) = f p ∷ each f ps

pub each_append : {X : Type 0} (f : Packet → Option X) (ps qs : List Packet) → each f (ps ++ qs) ≡ each f ps ++ each f qs
each_append f [] qs = refl
each_append f (p ∷ ps) qs = ap (λ xs. f p ∷ xs) (each_append f ps qs)

-- copies of a packet that stands at q stand there
pub copies_track : {X : Type 0} {P : ℕ → X → Type 0} {p : Packet} {ps : List Packet} (f : Packet → Option X) → f spoiled ≡ none → (q : ℕ) →
    ((x : X) → f p ≡ some x → P q x) → Copies p ps → Track P q (each f ps) q
copies_track f e q w no_more = nothing (le_refl q)
copies_track {X} {P} {p} f e q w (intact {ps = ps} c) = go (f p) refl (copies_track f e q w c)
  where
    go : (y : Option X) → f p ≡ y → Track P q (each f ps) q → Track P q (f p ∷ each f ps) q
    go none u t = subst (λ (y : Option X). Track P q (y ∷ each f ps) q) (sym u) (mute t)
    go (some x) u t = subst (λ (y : Option X). Track P q (y ∷ each f ps) q) (sym u) (stands q (le_refl q) (w x u) t)
copies_track {X} {P} f e q w (spoilt {ps = ps} c) =
    subst (λ (y : Option X). Track P q (y ∷ each f ps) q) (sym e) (mute (copies_track f e q w c))
