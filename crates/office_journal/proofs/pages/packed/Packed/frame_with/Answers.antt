use Rattle.std.proofs.Common.{◌∙◌, Some, true, ap}
use Rattle.office_journal.specs.pages.Framed.{framed}
use Rattle.office_journal.specs.pages.Told.{Told}
use Rattle.office_journal.proofs.pages_lemmas.PackedFrames.{numbered_below, ack_text, data_text}
use Rattle.office_journal.proofs.pages.packed.Packed.frame_with.Goals as goal

pub data-requires-clause-number : goal.data-requires-clause-number
data-requires-clause-number c = numbered_below c.frame-plain.result.msg c.number-number.result c.number-number.ensures.range

pub returns-then-number-eq0 : goal.returns-then-number-eq0
returns-then-number-eq0 c =
    c.ack.ensures
    ∙ ack_text c.frame-plain.result c.args.self.now.which c.args.text c.run-run.result c.from-from.result c.to-to.result c.number-number.result c.count-count.result c.run-run.ensures c.from-from.ensures c.to-to.ensures c.number-number.ensures.value c.count-count.ensures.value c.if-number-eq0.true
    ∙ ap (framed true (Some c.args.text) c.args.self.now.which) c.frame-plain.ensures

pub returns : goal.returns
returns c =
    c.data.ensures
    ∙ data_text c.frame-plain.result c.self.inside.which c.args.text c.run-run.result c.from-from.result c.to-to.result c.number-number.result c.count-count.result c.run-run.ensures c.from-from.ensures c.to-to.ensures c.number-number.ensures.value c.count-count.ensures.value c.if-number-eq0.false
    ∙ ap (framed true (Some c.args.text) c.self.inside.which) c.frame-plain.ensures ∙ ap (λ (t : Told). framed true (Some c.args.text) t.which c.args.self.now.frame) c.self.view_is
