use Rattle.office_journal.proofs.PackedKinds.{withdrawn_entry}
use Rattle.office_journal.proofs.packing.of_withdrawal.Goals as goal

pub returns-clause-entry : goal.returns-clause-entry
returns-clause-entry c = withdrawn_entry c.of_session.result c.args.tag c.args.ticket c.of_session.ensures.kind c.of_session.ensures.tag c.of_session.ensures.ticket

pub returns-clause-plain : goal.returns-clause-plain
returns-clause-plain c = record { no_session = λ e. cc (c.of_session.ensures.kind, e); no_text = c.of_session.ensures.plain }
