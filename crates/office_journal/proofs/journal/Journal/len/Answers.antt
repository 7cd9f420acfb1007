use Rattle.std.proofs.Common.{◌∙◌}
use Rattle.office_journal.proofs.KeptEntries.{same_length}
use Rattle.office_journal.proofs.journal.Journal.len.Goals as goal

pub returns : goal.returns
returns c = let s = c.self.inside in c.len.ensures.count ∙ same_length s.pages (record { programs = s.programs.items; texts = s.texts.items }) _ _ c.args.self.now c.self.view_is
