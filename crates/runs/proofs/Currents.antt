-- After an acknowledgment that counts, the current block is another one. Assumes nothing.
use Rattle.std.proofs.Common.{◌≡◌, ℕ, suc, ◌+◌, ◌<◌, min, Bool, true, false, cond, eqb, List, [], ◌∷◌, length, Some, None, refl, ap, ◌∙◌, arith, eq-eqb, ne_eqb}
use native.Mathlib.Nat.{min-eq_left}
use borrow.Author.Tests.{clash}
use Rattle.stores.specs.Held.{Stored, stored}
use Rattle.ends.specs.declared.types.Cell.{Cell}
use Rattle.ends.specs.declared.types.Stage.{Stage}
use Rattle.ends.specs.declared.types.Stage.TheVariants.{Unsettled, Settled}
use Rattle.calls.specs.declared.types.Outcome.TheVariants.{Delivered}
use Rattle.ends.specs.Model.{Model}
use Rattle.ends.specs.Sending.{block_count, staged, acknowledged_cells, current_out}
use Rattle.law.specs.Senders.{Message}
use Rattle.runs.specs.Links.{Place, block_at, current_of, current, same_block, acknowledged}
use Rattle.runs.proofs.Cuts.{Counted}
use Rattle.runs.proofs.Cells.{Orderly, OrderlyBy, Between, Holds}

-- no block of messages with higher numbers is this one
later_block : (n a hi : ℕ) (lo : ℕ) (cs : List (Stored Cell)) → n < lo → Between lo hi cs → same_block (Some (n, a)) (current_of cs) ≡ false
later_block n a hi lo [] h b = refl
later_block n a hi lo (c ∷ cs) h b = go c.«record».stage (later_block n a hi (suc c.«record».number) cs (let u = b.0 in omega (arith, h, u)) b.2)
  where
    go : (s : Stage) → same_block (Some (n, a)) (current_of cs) ≡ false → same_block (Some (n, a)) (block_at c.«record».number s (current_of cs)) ≡ false
    go (Unsettled k o) ih = let u = b.0 in rw (ne_eqb n c.«record».number (λ e. omega (arith, h, u, e))) refl
    go (Settled o) ih = ih

-- a block is itself
pub same_self : (p : Place) → same_block (Some p) (Some p) ≡ true
same_self p = rw (eq-eqb p.0 p.0 refl, eq-eqb p.1 p.1 refl) refl

-- a call that changes no outgoing cell acknowledged no block
pub acknowledged_none : (m m' : Model) → m'.outbox.cells ≡ m.outbox.cells → acknowledged m m' ≡ None
acknowledged_none m m' e =
    ap (λ (cs : List (Stored Cell)). cond (same_block (current m) (current_of cs)) None (current m)) e ∙ go (current m)
  where
    go : (p : _) → cond (same_block p p) None p ≡ None
    go None = refl
    go (Some p) = ap (λ (b : Bool). cond b None (Some p)) (same_self p)

module _ (room : ℕ) (C : Counted room) (g : List Message) where
  pub current_moves : (lo hi : ℕ) (cs : List (Stored Cell)) → Between lo hi cs → Holds room g cs → Orderly room cs → current_out cs ≡ true →
      same_block (current_of cs) (current_of (acknowledged_cells room cs)) ≡ false
  current_moves lo hi [] b h o e = absurd (clash e)
  current_moves lo hi (c ∷ cs) b h o e = go c.«record».stage o e (current_moves (suc c.«record».number) hi cs b.2 h.2)
    where
      moved : (a : ℕ) → a < 16 → (t : Bool) → eqb (a + 1) (block_count room (length c.text)) ≡ t →
          same_block (Some (c.«record».number, a)) (block_at c.«record».number (cond t (Settled Delivered) (Unsettled (min (a + 1) 255) false)) (current_of cs)) ≡ false
      moved a f true d = later_block c.«record».number a hi (suc c.«record».number) cs (omega arith) b.2
      moved a f false d =
          let k : min (a + 1) 255 ≡ a + 1 = min-eq_left (omega (arith, f)) in
          rw (k, eq-eqb c.«record».number c.«record».number refl, ne_eqb a (a + 1) (λ z. omega (arith, z))) refl

      go : (s : Stage) → OrderlyBy room c s cs (Orderly room cs) → current_out (stored (staged c.«record» s) c.text ∷ cs) ≡ true →
          (Orderly room cs → current_out cs ≡ true → same_block (current_of cs) (current_of (acknowledged_cells room cs)) ≡ false) →
          same_block (current_of (stored (staged c.«record» s) c.text ∷ cs)) (current_of (acknowledged_cells room (stored (staged c.«record» s) c.text ∷ cs))) ≡ false
      go (Unsettled a true) w d ih =
          let k = C.most (length c.text) h.0.long in
          let u = w.0 in
          moved a (omega (arith, k, u)) (eqb (a + 1) (block_count room (length c.text))) refl
      go (Unsettled a false) w d ih = absurd (clash d)
      go (Settled x) w d ih = ih w d
