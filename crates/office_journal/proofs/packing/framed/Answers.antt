use Rattle.std.proofs.Common.{◌≡◌, true, false, sym, ap, ◌∙◌}
use Rattle.std.specs.Prelude.{slice_get}
use Rattle.std.specs.Option.{option_copied}
use Rattle.office_journal.specs.pages.Framed.{framed}
use Rattle.office_journal.proofs.packing.framed.Goals as goal

pub returns-then-not-has_text : goal.returns-then-not-has_text
returns-then-not-has_text c =
    let t = c.args.packed.now in
    let plain : false ≡ t.has_text = sym c.if-not-has_text.true ∙ c.has_text.ensures in
    c.frame.ensures ∙ ap (λ b. framed b (slice_get c.args.texts.now t.text) t.which t.frame) plain

pub returns-in-Some : goal.returns-in-Some
returns-in-Some c =
    let t = c.args.packed.now in
    let has : true ≡ t.has_text = sym c.if-not-has_text.false ∙ c.has_text.ensures in
    let there = sym (ap option_copied c.in-Some.is) ∙ c.text_at.ensures ∙ ap (slice_get c.args.texts.now) c.text.ensures in
    c.frame_with.ensures ∙ ap (λ o. framed true o t.which t.frame) there ∙ ap (λ b. framed b (slice_get c.args.texts.now t.text) t.which t.frame) has

pub returns-in-None : goal.returns-in-None
returns-in-None c =
    let t = c.args.packed.now in
    let has : true ≡ t.has_text = sym c.if-not-has_text.false ∙ c.has_text.ensures in
    let there = sym (ap option_copied c.in-None.is) ∙ c.text_at.ensures ∙ ap (slice_get c.args.texts.now) c.text.ensures in
    c.frame-in-None.ensures ∙ ap (λ o. framed true o t.which t.frame) there ∙ ap (λ b. framed b (slice_get c.args.texts.now t.text) t.which t.frame) has
