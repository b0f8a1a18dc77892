use Rattle.std.proofs.Common.{◌≡◌, ℕ, ◌∷◌, [], Bool, refl, ap, ◌∙◌}
use Rattle.blocks.specs.Fields.{fields_given, head_of, label_of, last_of, text_of, tailed, acknowledgment_character}
use Rattle.writing.proofs.Laid.{on, parts_laid}
use Rattle.writing.proofs.laying.lay_opened.Goals as goal

pub returns : goal.returns
returns c =
    let f = fields_given c.args.block.now in
    let k : c.acknowledgment_character.result ≡ acknowledgment_character (head_of f).acknowledgment = c.acknowledgment_character.ensures ∙ ap acknowledgment_character c.acknowledgment.ensures in
    let r : tailed c.is_last.result c.text.result.now ≡ tailed (last_of f) (text_of f) =
    ap (λ (b : Bool). tailed b c.text.result.now) c.is_last.ensures ∙ ap (tailed (last_of f)) c.text.ensures in
    let s₁ = on (1 ∷ 50 ∷ []) c.lay.ensures c.requires.empty refl in
    let s₂ = on c.address.result.now c.lay-2.ensures s₁ c.address.ensures in
    let s₃ = on (c.acknowledgment_character.result ∷ []) c.lay-3.ensures s₂ (ap (λ (z : ℕ). z ∷ []) k) in
    let s₄ = on c.label.result.now c.lay-4.ensures s₃ c.label.ensures in
    let s₅ = on (c.identifier.result.0 ∷ []) c.lay-5.ensures s₄ (ap (λ (z : ℕ). z ∷ []) c.identifier.ensures) in
    parts_laid (head_of f) (label_of f) (tailed (last_of f) (text_of f)) _ (on (tailed c.is_last.result c.text.result.now) c.lay_rest.ensures s₅ r)
