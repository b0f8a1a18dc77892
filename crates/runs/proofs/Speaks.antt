-- What the string that a tick puts says to the end that hears it. Assumes nothing.
use Rattle.std.proofs.Common.{◌≡◌, ℕ, ◌+◌, ◌<◌, ◌≤◌, Bool, eqb, List, [], ◌++◌, length, drop, sym, refl, ap, ◌∙◌, subst, zero-add, arith}
use mathlib.Core.Option.{Option, some, none}
use Rattle.std.proofs.Math.Seq.{drop-append_seam}
use Rattle.directions.specs.declared.marks.Mark.{Mark}
use Rattle.stores.specs.Held.{Stored}
use Rattle.blocks.specs.Fields.{written}
use Rattle.blocks.specs.Legal.{Sound}
use Rattle.ends.specs.declared.types.Cell.{Cell}
use Rattle.ends.specs.Model.{Ways, Model}
use Rattle.ends.specs.Sending.{block_count, block_text, block_fields, response_fields, owed_by}
use Rattle.law.specs.Real.{direction_of, place_of}
use Rattle.law.specs.Senders.{Block, block, block_of, ended}
use Rattle.law.specs.Links.{packet}
use Rattle.runs.specs.Strings.{cuts}
use Rattle.runs.proofs.Cuts.{cuts_length}
use Rattle.runs.proofs.Cells.{course_of}
use Rattle.runs.proofs.Courses.{text_at, piece_at, Apart, apart, last_block}
use Rattle.runs.proofs.Rings.{Is, Same}
use Rattle.runs.proofs.Says.{Says, says_response, says_block}
use Rattle.runs.proofs.Relating.{WayLaws}

module _ (w : Ways) (L : WayLaws w.out) (m : Model) (six : length m.settings.flight ≡ 6) where
  -- a block of a message, as its text says it
  module _ (b : Stored Cell) (a : ℕ) (few : block_count w.out.text.room (length b.text) ≤ 16) (fits : a < block_count w.out.text.room (length b.text)) where
    parts : Apart b.«record».number b.«record».label.0 [] (cuts w.out.text.room b.text) a
    parts = apart b.«record».number b.«record».label.0 [] (cuts w.out.text.room b.text) a (let e = cuts_length w.out.text.room L.counted b.text in omega (arith, e, fits))

    now : text_at (cuts w.out.text.room b.text) a ≡ block_text w.out.text.room b.text a
    now = piece_at (block_text w.out.text.room b.text) 0 (block_count w.out.text.room (length b.text)) a fits ∙ ap (block_text w.out.text.room b.text) (zero-add a)

    read_back : drop w.out.text.opening (w.out.text.opener m.settings.originator m.settings.flight b.«record».number a ++ block_text w.out.text.room b.text a) ≡ block_text w.out.text.room b.text a
    read_back =
        ap (λ (k : ℕ). drop k (w.out.text.opener m.settings.originator m.settings.flight b.«record».number a ++ block_text w.out.text.room b.text a))
        (sym (L.writes.long m.settings.originator m.settings.flight b.«record».number a six)) ∙
        drop-append_seam (w.out.text.opener m.settings.originator m.settings.flight b.«record».number a) (block_text w.out.text.room b.text a)

    pub same_said : (i : ℕ) →
        block i (place_of (w.out.text.reads (w.out.text.opener m.settings.originator m.settings.flight b.«record».number a ++ block_text w.out.text.room b.text a))) b.«record».label.0
        (drop w.out.text.opening (w.out.text.opener m.settings.originator m.settings.flight b.«record».number a ++ block_text w.out.text.room b.text a)) (eqb (a + 1) (block_count w.out.text.room (length b.text))) ≡
        block_of (direction_of w.out.own w.out.text m.settings.originator) i (course_of w.out.text.room b a)
    same_said i =
        let l = b.«record».label.0 in
        let o = m.settings.originator in
        let n = b.«record».number in
        ap (λ (x : Mark). block i (place_of x) l
        (drop w.out.text.opening (w.out.text.opener o m.settings.flight n a ++ block_text w.out.text.room b.text a)) (eqb (a + 1) (block_count w.out.text.room (length b.text))))
        (L.writes.says o m.settings.flight n a (block_text w.out.text.room b.text a) six (omega (arith, few, fits))) ∙
        ap (λ (x : List ℕ). block i (place_of (w.out.text.mark o n a)) l x (eqb (a + 1) (block_count w.out.text.room (length b.text)))) (read_back ∙ sym now) ∙
        ap (λ (x : ℕ). block i (place_of (w.out.text.mark o n a)) l (text_at (cuts w.out.text.room b.text) a) (eqb (a + 1) x)) (sym (cuts_length w.out.text.room L.counted b.text)) ∙
        ap (λ (x : Bool). block i (place_of (w.out.text.mark o n a)) l (text_at (cuts w.out.text.room b.text) a) x) (sym (last_block parts)) ∙
        ap (λ (x : ℕ). block i (place_of (w.out.text.mark o n x)) l (text_at (cuts w.out.text.room b.text) a) (ended parts.left)) (let e = parts.count in omega (arith, e)) ∙
        sym (ap (block_of (direction_of w.out.own w.out.text o) i) parts.is)

    -- what its string says
    pub block_said : (identifier i : ℕ) {k : Option ℕ} → Sound w.out (block_fields w m b a identifier) → Is w.out.own identifier i → Same w.out.other (owed_by m.inbox) k →
        Says w.out m.settings.registration (written (block_fields w m b a identifier)) (packet k (some (block_of (direction_of w.out.own w.out.text m.settings.originator) i (course_of w.out.text.room b a))))
    block_said identifier i {k = k} s n q =
        subst (λ (x : Block). Says w.out m.settings.registration (written (block_fields w m b a identifier)) (packet k (some x))) (same_said i) (says_block s refl q n)

  -- what the string of a response says
  pub response_said : {k : Option ℕ} → Sound w.out (response_fields w m) → Same w.out.other (owed_by m.inbox) k →
      Says w.out m.settings.registration (written (response_fields w m)) (packet k none)
  response_said s q = says_response s refl q
