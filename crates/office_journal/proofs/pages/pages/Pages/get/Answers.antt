use Rattle.std.proofs.Common.{◌≡◌, ◌+◌, ◌-◌, ◌*◌, ◌/◌, ◌%◌, length, Some, None, sym, ap, ◌∙◌, arith}
use Rattle.std.specs.Prelude.{slice_get}
use Rattle.std.specs.Option.{option_copied}
use Rattle.std.proofs.lemmas.Nat.{div-add-mod', mod_below}
use Rattle.office_journal.specs.pages.Kept.{PagesValue}
use Rattle.office_journal.proofs.pages_lemmas.PagedEntries.{in_page, past_pages, after_all, few_pages}
use Rattle.office_journal.proofs.pages.pages.Pages.get.Goals as goal

pub returns-in-Some : goal.returns-in-Some
returns-in-Some c =
    let s = c.self.inside in
    let i = c.args.i in
    let found : slice_get s.full.items (i / 256) ≡ Some c.in-Some.page.now = sym c.page_at.ensures ∙ ap option_copied c.in-Some.is in
    c.entry_at.ensures
    ∙ sym (in_page s.full.items s.last.items c.in-Some.page.now (i / 256) (i % 256) i c.self.invariant.full found (mod_below i 256 (omega arith)) (sym (div-add-mod' i 256)))
    ∙ ap (λ (v : PagesValue). slice_get v.entries i) c.self.view_is

pub entry_after-requires-clause-few : goal.entry_after-requires-clause-few
entry_after-requires-clause-few c =
    let s = c.self.inside in
    omega (arith, few_pages s.full.items s.last.items c.self.invariant, c.len.ensures, s.full.ok.0)

pub entry_after-requires-clause-after : goal.entry_after-requires-clause-after
entry_after-requires-clause-after c =
    let s = c.self.inside in
    let none : slice_get s.full.items (c.args.i / 256) ≡ None = sym c.page_at.ensures ∙ ap option_copied c.in-None.is in
    omega (arith, after_all s.full.items c.args.i none, c.len.ensures, s.full.ok.0)

pub returns-in-None : goal.returns-in-None
returns-in-None c =
    let s = c.self.inside in
    let i = c.args.i in
    let none : slice_get s.full.items (i / 256) ≡ None = sym c.page_at.ensures ∙ ap option_copied c.in-None.is in
    let pages : c.len.result ≡ length s.full.items = omega (arith, c.len.ensures, s.full.ok.0) in
    let place : i ≡ length s.full.items * 256 + (i - length s.full.items * 256) = omega (arith, after_all s.full.items i none) in
    c.entry_after.ensures ∙ ap (λ n. slice_get s.last.items (i - n * 256)) pages
    ∙ sym (past_pages s.full.items s.last.items (i - length s.full.items * 256) i c.self.invariant.full place)
    ∙ ap (λ (v : PagesValue). slice_get v.entries i) c.self.view_is
