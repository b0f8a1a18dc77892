-- What a string on a path says to the end that hears it: it is spoiled, or written from sound fields. Assumes nothing.
use Rattle.std.proofs.Common.{◌≡◌, ℕ, Bool, List, [], ◌∷◌, ◌++◌, drop, Ok, Err, Result, sym, refl, ap, ◌∙◌, subst, inl, inr}
use mathlib.Core.Option.{Option, none, some}
use Rattle.blocks.specs.declared.block.Block.{Block}
use Rattle.blocks.specs.declared.fault.BlockFault.{BlockFault}
use Rattle.blocks.specs.Fields.{Head, Fields, response, message, head_of, written}
use Rattle.blocks.specs.Legal.{Way, Sound}
use Rattle.blocks.specs.Reading.{Reads}
use Rattle.writing.specs.RoundTrip.{RoundTrip}
use Rattle.paths.specs.Meaning.{Spoiled, Arrives, Each}
use Rattle.calls.specs.declared.fault.LinkFault.{LinkFault}
use Rattle.calls.specs.declared.types.Heard.{Heard}
use Rattle.ends.specs.Model.{Ways, Model}
use Rattle.ends.specs.Calls.{StringHeard, ReadHeard, FieldsHeard}
use Rattle.law.specs.Real.{place_of}
use Rattle.law.specs.Senders as law
use Rattle.law.specs.Links.{Packet, spoiled, packet, Copies, no_more, intact, spoilt}
use Rattle.runs.proofs.Rings.{Is, Same}

-- a string of a direction, to an end of a registration, and what it says in the law
pub data Says (w : Way) (registration : List ℕ) : List ℕ → Packet → Type 0 where
  says_nothing : {s : List ℕ} → Spoiled s → Says w registration s spoiled
  says_response : {h : Head} {a : Option ℕ} → Sound w (response h) → h.address ≡ registration → Same w.other h.acknowledgment a →
      Says w registration (written (response h)) (packet a none)
  says_block : {h : Head} {a : Option ℕ} {i : ℕ} {l t : List ℕ} {e : Bool} → Sound w (message h l e t) → h.address ≡ registration →
      Same w.other h.acknowledgment a → Is w.own h.identifier i →
      Says w registration (written (message h l e t)) (packet a (some (law.block i (place_of (w.text.reads t)) l (drop w.text.opening t) e)))

-- strings that wait, and what they say
pub data AllSay (w : Way) (registration : List ℕ) : List (List ℕ) → List Packet → Type 0 where
  none_waits : AllSay w registration [] []
  one_waits : {s : List ℕ} {p : Packet} {ss : List (List ℕ)} {ps : List Packet} →
      Says w registration s p → AllSay w registration ss ps → AllSay w registration (s ∷ ss) (p ∷ ps)

pub all_say_add : {w : Way} {g : List ℕ} {ss ts : List (List ℕ)} {ps qs : List Packet} → AllSay w g ss ps → AllSay w g ts qs → AllSay w g (ss ++ ts) (ps ++ qs)
all_say_add none_waits y = y
all_say_add (one_waits s x) y = one_waits s (all_say_add x y)

-- strings before some that wait, and those, say what the packets before and after say
pub record Parted (w : Way) (g : List ℕ) (ss ts : List (List ℕ)) (ps : List Packet) : Type 0 where
  pub first : List Packet
  pub rest : List Packet
  pub whole : ps ≡ first ++ rest
  pub first_say : AllSay w g ss first
  pub rest_say : AllSay w g ts rest

pub parted : {w : Way} {g : List ℕ} (ss : List (List ℕ)) {ts : List (List ℕ)} {ps : List Packet} → AllSay w g (ss ++ ts) ps → Parted w g ss ts ps
parted [] {ps = ps} x = record { first = []; rest = ps; whole = refl; first_say = none_waits; rest_say = x }
parted (s ∷ ss) (one_waits {p = p} q x) =
    let P = parted ss x in
    record { first = p ∷ P.first; rest = P.rest; whole = ap (λ (zs : List Packet). p ∷ zs) P.whole; first_say = one_waits q P.first_say; rest_say = P.rest_say }

-- what joins a path says copies of what was put, each intact or spoiled
pub record Copied (w : Way) (g : List ℕ) (p : Packet) (cs : List (List ℕ)) : Type 0 where
  pub packets : List Packet
  pub copies : Copies p packets
  pub say : AllSay w g cs packets

unfoldable pub copied : {w : Way} {g : List ℕ} {s : List ℕ} {p : Packet} → Says w g s p → (cs : List (List ℕ)) → Each (Arrives s) cs → Copied w g p cs
copied q [] e = record { packets = []; copies = no_more; say = none_waits }
copied {w = w} {g = g} {p = p} q (c ∷ cs) (inl f, e) =
    let K = copied q cs e in
    record { packets = p ∷ K.packets; copies = intact K.copies; say = one_waits (subst (λ (x : List ℕ). Says w g x p) (sym f) q) K.say }
copied q (c ∷ cs) (inr f, e) =
    let K = copied q cs e in
    record { packets = spoiled ∷ K.packets; copies = spoilt K.copies; say = one_waits (says_nothing f) K.say }

-- a string written from sound fields, with this end's address, is heard as those fields
pub fields_heard : (w : Ways) → RoundTrip w.inn → (m m' : Model) (f : Fields) (r : Result Heard LinkFault) → Sound w.inn f → (head_of f).address ≡ m.settings.registration →
    StringHeard w m (written f) r m' → FieldsHeard w m f r m'
fields_heard w T m m' f r s a h = go h.result h.read h.heard
  where
    go : (x : Result Block BlockFault) → Reads w.inn (written f) x → ReadHeard w m x r m' → FieldsHeard w m f r m'
    go (Ok b) q (inl y) = subst (λ (z : Fields). FieldsHeard w m z r m') (T.read_back f s (Ok b) q) y.1
    go (Ok b) q (inr y) = absurd (y.0 (ap (λ (z : Fields). (head_of z).address) (T.read_back f s (Ok b) q) ∙ a))
    go (Err x) q y = absurd (T.read_back f s (Err x) q)
