use Rattle.std.proofs.Common.{length, ap, arith}
use Rattle.office_journal.specs.pages.Kept.{PagesValue}
use Rattle.office_journal.proofs.pages_lemmas.PagedEntries.{length_is, few_pages}
use Rattle.office_journal.proofs.pages.pages.Pages.len.Goals as goal

pub returns-clause-count : goal.returns-clause-count
returns-clause-count c =
    let s = c.self.inside in
    omega (arith, length_is s.full.items s.last.items c.self.invariant.full, ap (λ (v : PagesValue). length v.entries) c.self.view_is, c.len.ensures, c.len-2.ensures, s.full.ok.0, s.last.ok.0)

pub returns-clause-few : goal.returns-clause-few
returns-clause-few c =
    let s = c.self.inside in
    omega (arith, few_pages s.full.items s.last.items c.self.invariant, c.len.ensures, c.len-2.ensures, s.full.ok.0, s.last.ok.0)
