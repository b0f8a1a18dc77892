-- A spoiled string is refused by 3, 4 or 5, and changes no end. Assumes nothing.
use Rattle.std.proofs.Common.{◌≡◌, ℕ, List, Ok, Err, Result, refl, ap, inl, inr}
use Rattle.blocks.specs.declared.block.Block.{Block}
use Rattle.blocks.specs.declared.fault.BlockFault.{BlockFault}
use Rattle.blocks.specs.declared.fault.BlockFault.TheVariants.{Buffer, Length, Parity, Delimiter, Check, Head, Rest}
use Rattle.blocks.specs.Legal.{Way, at}
use Rattle.blocks.specs.Reading.{Reads}
use Rattle.paths.specs.Meaning.{Spoiled}
use Rattle.calls.specs.declared.fault.LinkFault.{LinkFault}
use Rattle.calls.specs.declared.types.Heard.{Heard}
use Rattle.ends.specs.Model.{Ways, Model}
use Rattle.ends.specs.Calls.{StringHeard, ReadHeard}
use Rattle.runs.specs.Strings.{Unreadable, SpoiledSaysNothing}

pub spoiled_refused : (w : Way) (s : List ℕ) → Spoiled s → (r : Result Block BlockFault) → Reads w s r → Unreadable r
spoiled_refused w s p (Ok b) r = p.not_01 (ap (λ (xs : List ℕ). at xs 0) r.made)
spoiled_refused w s p (Err Buffer) r = absurd r
spoiled_refused w s p (Err (Length k)) r = inl refl
spoiled_refused w s p (Err (Parity k)) r = inr (inl refl)
spoiled_refused w s p (Err (Delimiter k)) r = inr (inr refl)
spoiled_refused w s p (Err (Check k)) r = absurd (p.not_01 r.delimited.first)
spoiled_refused w s p (Err (Head k)) r = absurd (p.not_01 r.framed.delimited.first)
spoiled_refused w s p (Err (Rest k)) r = absurd (p.not_01 r.framed.delimited.first)

pub spoiled_unchanged : (w : Ways) (m m' : Model) (s : List ℕ) (r : Result Heard LinkFault) → Spoiled s → StringHeard w m s r m' → m' ≡ m
spoiled_unchanged w m m' s r p h = go h.result h.read h.heard
  where
    go : (x : Result Block BlockFault) → Reads w.inn s x → ReadHeard w m x r m' → m' ≡ m
    go (Ok b) q e = absurd (spoiled_refused w.inn s p (Ok b) q)
    go (Err f) q e = e.1

pub spoiled_says_nothing_lem : SpoiledSaysNothing
spoiled_says_nothing_lem = record { refused = spoiled_refused; unchanged = spoiled_unchanged }
