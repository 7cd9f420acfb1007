use Rattle.std.proofs.Common.{◌∙◌}
use Rattle.office_journal.proofs.PackedKinds.{sent_entry, frame_placed}
use Rattle.office_journal.proofs.packing.of_frame.Goals as goal

pub returns-clause-entry : goal.returns-clause-entry
returns-clause-entry c = λ b at. sent_entry b c.of_frame.result c.args.tag c.args.v c.args.i c.args.frame.now c.of_frame.ensures.kind c.of_frame.ensures.tag (c.of_frame.ensures.neighbour ∙ c.number.ensures) c.of_frame.ensures.message (c.of_frame.ensures.frame b.texts at)

pub returns-clause-placed : goal.returns-clause-placed
returns-clause-placed c = λ b at. frame_placed b c.of_frame.result c.args.place c.args.frame.now.msg (λ e. cc (c.of_frame.ensures.kind, e)) at c.of_frame.ensures.has_text c.of_frame.ensures.text
