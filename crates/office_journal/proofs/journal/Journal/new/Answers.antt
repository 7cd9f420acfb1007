use Rattle.office_journal.proofs.KeptEntries.{none_kept}
use Rattle.office_journal.proofs.journal.Journal.new.Goals as goal

pub invariant_of-result : goal.invariant_of-result
invariant_of-result c = rw (c.new.ensures, c.new-2.ensures.items, c.new-3.ensures.items) none_kept
