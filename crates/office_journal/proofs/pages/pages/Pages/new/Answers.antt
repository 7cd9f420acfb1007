use Rattle.office_journal.proofs.pages_lemmas.PagedEntries.{none_paged}
use Rattle.office_journal.proofs.pages.pages.Pages.new.Goals as goal

pub invariant_of-result : goal.invariant_of-result
invariant_of-result c = rw (c.new.ensures.items, c.new-2.ensures.items) none_paged
