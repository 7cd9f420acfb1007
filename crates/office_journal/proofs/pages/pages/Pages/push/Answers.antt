use Rattle.std.proofs.Common.{◌<◌, sym, subst, arith}
use Rattle.office_journal.specs.pages.Kept.{PagesValue}
use Rattle.office_journal.proofs.pages_lemmas.PagedEntries.{pushed, pushed_entries}
use Rattle.office_journal.proofs.pages.pages.Pages.push.Goals as goal

pub push_reserved-requires : goal.push_reserved-requires
push_reserved-requires c = omega (arith, subst (λ (v : PagesValue). 0 < v.room) (sym c.self.view_is) c.requires)

pub invariant_of-self : goal.invariant_of-self
invariant_of-self c =
    let s = c.self.inside in
    let room = subst (λ (v : PagesValue). 0 < v.room) (sym c.self.view_is) c.requires in
    pushed s.full.items s.last.items c.push_reserved.new.self.items c.args.entry c.self.invariant (omega (arith, room)) (omega (arith, room)) c.push_reserved.ensures.items

pub returns : goal.returns
returns c =
    let s = c.self.inside in
    rw (← c.self.view_is) (pushed_entries s.full.items s.last.items c.push_reserved.new.self.items c.args.entry c.push_reserved.ensures.items)
