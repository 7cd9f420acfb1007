use Rattle.office_journal.specs.refinement.PackedEntries.{IsOfArrival}
use Rattle.office_journal.proofs.PackedKinds.{came_entry, frame_placed, plain}
use Rattle.office_journal.proofs.packing.came.Goals as goal

pub returns-clause-entry : goal.returns-clause-entry
returns-clause-entry c = λ b at. came_entry b c.of_frame.result c.args.kind c.args.tag c.args.frame.now c.of_frame.ensures.kind c.of_frame.ensures.tag (c.of_frame.ensures.frame b.texts at) c.requires.kind

pub returns-clause-placed : goal.returns-clause-placed
returns-clause-placed c = λ b at.
    frame_placed b c.of_frame.result c.args.place c.args.frame.now.msg (plain IsOfArrival c.of_frame.result.kind c.args.kind c.of_frame.ensures.kind c.requires.kind (λ h. h)) at c.of_frame.ensures.has_text c.of_frame.ensures.text
