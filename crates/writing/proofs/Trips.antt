-- The round trip. Assumes nothing.
use Rattle.std.proofs.Common.{◌≡◌, ℕ, suc, ◌+◌, ◌-◌, ◌<◌, List, ◌∷◌, length, Some, Ok, Err, Result, sym, refl, ap, ◌∙◌, arith}
use Rattle.std.proofs.lemmas.List.{ext_get_or}
use Rattle.blocks.specs.declared.block.Block.{Block}
use Rattle.blocks.specs.declared.fault.BlockFault.{BlockFault}
use Rattle.blocks.specs.Fields.{Fields, fields_read, laid, written}
use Rattle.blocks.specs.Faults.{number_of, place_of}
use Rattle.blocks.specs.Legal.{Way, at, Sound, Legal}
use Rattle.blocks.specs.Reading.{Reads}
use Rattle.blocks.specs.Places.{ch}
use Rattle.blocks.proofs.Shapes.{Lawful, fields_at}
use Rattle.blocks.proofs.Strings.{string_length, same_character}
use Rattle.blocks.proofs.Layouts.{laid_out, chars_of, size_of}
use Rattle.blocks.proofs.Unlike.{written_is, kept_seven}
use Rattle.writing.specs.RoundTrip.{IsBlock, EveryRoundTrip}
use Rattle.writing.proofs.Refused.{refused_by_lem, one_refused, unrefused}

module _ (w : Way) (l : Lawful w) where
  abbrev legal : (f : Fields) → Sound w f → Legal w (written f)
  legal f s = record { fields = f; sound = s; made = refl }

  -- the characters of a string that fields write are theirs
  its_characters : (f : Fields) (s : Sound w f) (p : ℕ) → p < size_of f - 3 → ch (written f) p ≡ chars_of f p
  its_characters f s p h =
      let m = (laid_out w l f s).shaped in
      same_character (chars_of f) (size_of f) p (written f) m.start h (kept_seven w l (size_of f) (chars_of f) m p h) (ap (λ (xs : List ℕ). at xs p) (sym (written_is f)))

  size_is : (f : Fields) (s : Sound w f) → length (written f) ≡ size_of f
  size_is f s = ap length (written_is f) ∙ string_length (chars_of f) (size_of f) (omega (arith, (laid_out w l f s).shaped.least))

  one_laid : (f f' : Fields) (s : Sound w f) (s' : Sound w f') → written f ≡ written f' → laid f ≡ laid f'
  one_laid f f' s s' e =
      let n : size_of f ≡ size_of f' = sym (size_is f s) ∙ ap length e ∙ size_is f' s' in
      ext_get_or 0 (laid f) (laid f') (omega (arith, n))
      (λ i h.
      sym (its_characters f s (suc i) (omega arith)) ∙ ap (λ (xs : List ℕ). ch xs (suc i)) e ∙ its_characters f' s' (suc i) (omega (arith, n)))

  one_fields : (f f' : Fields) → Sound w f → Sound w f' → written f ≡ written f' → f ≡ f'
  one_fields f f' s s' e =
      sym (laid_out w l f s).again ∙ ap (λ (xs : List ℕ). fields_at (at (1 ∷ xs)) (length xs + 4)) (one_laid f f' s s' e) ∙ (laid_out w l f' s').again

  read_back : (f : Fields) → Sound w f → (r : Result Block BlockFault) → Reads w (written f) r → IsBlock f r
  read_back f s (Ok b) r = sym (one_fields f (fields_read b) s r.sound r.made)
  read_back f s (Err x) r = unrefused w l (written f) (legal f s) (refused_by_lem w (written f) x r).refused

  never_both : (s : List ℕ) (b : Block) (x : BlockFault) → Reads w s (Ok b) → Reads w s (Err x) → ⊥
  never_both s b x r q = unrefused w l s (record { fields = fields_read b; sound = r.sound; made = r.made }) (refused_by_lem w s x q).refused

  one_refusal : (s : List ℕ) (x x' : BlockFault) → Reads w s (Err x) → Reads w s (Err x') → (number_of x ≡ number_of x') × (place_of x ≡ place_of x')
  one_refusal s x x' r q =
      let a = refused_by_lem w s x r in
      let b = refused_by_lem w s x' q in
      let o = one_refused w s a.refused b.refused in
      (o.0, a.is ∙ ap (λ (p : ℕ). Some p) o.1 ∙ sym b.is)

pub round_trips : EveryRoundTrip
round_trips w a b c =
    let l : Lawful w = record { own = a; other = b; text = c } in
    record {
      read_back = read_back w l;
      written_back = λ s b r. (r.sound, sym r.made);
      one_fields = one_fields w l;
      never_both = never_both w l;
      one_refusal = one_refusal w l;
    }
