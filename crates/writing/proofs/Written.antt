-- Sound fields are laid as the string that they write, and their text is within its limit. Assumes nothing.
use Rattle.std.proofs.Common.{◌≡◌, ℕ, suc, ◌+◌, ◌<◌, ◌≤◌, true, map, length, sym, ap, ◌∙◌, mod-eq_of_lt, arith}
use Rattle.std.proofs.lemmas.List.{length-map, get_or-map, ext_get_or}
use Rattle.std.proofs.lemmas.Bool.Decides.{nat_tests}
use Rattle.octets.specs.Parity.{octet}
use Rattle.blocks.specs.Fields.{Fields, response, message, text_of, laid, written, enclosed}
use Rattle.blocks.specs.Legal.{Way, at, Sound, text_length}
use Rattle.blocks.proofs.Shapes.{Lawful}
use Rattle.blocks.proofs.Layouts.{laid_out, chars_of, size_of}
use Rattle.blocks.proofs.Unlike.{kept_seven}
use Rattle.writing.specs.Laying.{laid_octet, enclosed_by}

module _ (w : Way) (l : Lawful w) where
  laid_seven : (f : Fields) → Sound w f → (i : ℕ) → i < length (laid f) → at (laid f) i < 128
  laid_seven f s i h = kept_seven w l (size_of f) (chars_of f) (laid_out w l f s).shaped (suc i) (omega arith)

  pub laid_as : (f : Fields) → Sound w f → enclosed_by (laid f) ≡ written f
  laid_as f s =
      let a = length-map (laid f) laid_octet in
      let b = length-map (laid f) octet in
      ap enclosed (ext_get_or 0 (map laid_octet (laid f)) (map octet (laid f)) (a ∙ sym b)
      (λ i h.
      let u : i < length (laid f) = omega (arith, a) in
      get_or-map laid_octet (laid f) i 0 0 u ∙ ap octet (mod-eq_of_lt (laid_seven f s i u)) ∙ sym (get_or-map octet (laid f) i 0 0 u)))

  pub limit_of : (f : Fields) → Sound w f → length (text_of f) ≤ 220
  limit_of (response h) s = omega arith
  limit_of (message h label last text) s =
      let t : text_length w.text last (length text) ≡ true = s.text.0 in
      let q : w.text.opening + w.text.room ≡ 220 = l.text.full in
      grind (arith, nat_tests)
