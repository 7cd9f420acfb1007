use Rattle.std.proofs.Common.{sym, ap, ◌∙◌}
use Rattle.std.specs.Option.{option_copied}
use Rattle.office_journal.specs.refinement.PackedEntries.{submitted_from}
use Rattle.office_journal.proofs.packing.submitted.Goals as goal

pub returns-in-Some : goal.returns-in-Some
returns-in-Some c = ap submitted_from (sym (ap option_copied c.in-Some.is) ∙ c.program_at.ensures)

pub returns-in-None : goal.returns-in-None
returns-in-None c = ap submitted_from (sym (ap option_copied c.in-None.is) ∙ c.program_at.ensures)
