use Rattle.office_journal.specs.refinement.PackedEntries.{IsOfRule}
use Rattle.office_journal.proofs.PackedKinds.{done_entry, plain}
use Rattle.office_journal.proofs.packing.done.Goals as goal

pub returns-clause-entry : goal.returns-clause-entry
returns-clause-entry c = done_entry c.of_rule.result c.args.kind c.args.tag c.args.v c.args.which c.of_rule.ensures.kind c.of_rule.ensures.tag c.of_rule.ensures.neighbour c.of_rule.ensures.which c.requires.kind

pub returns-clause-plain : goal.returns-clause-plain
returns-clause-plain c = record { no_session = plain IsOfRule c.of_rule.result.kind c.args.kind c.of_rule.ensures.kind c.requires.kind (λ h. h); no_text = c.of_rule.ensures.plain }
