use Rattle.office_journal.proofs.PackedKinds.{submitted_entry}
use Rattle.office_journal.proofs.packing.of_session.Goals as goal

pub returns-clause-entry : goal.returns-clause-entry
returns-clause-entry c = λ b p at. submitted_entry b c.of_session.result c.args.tag c.args.ticket c.args.place p c.of_session.ensures.kind c.of_session.ensures.tag c.of_session.ensures.ticket c.of_session.ensures.place at
