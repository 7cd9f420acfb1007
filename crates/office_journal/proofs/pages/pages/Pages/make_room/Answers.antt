use Rattle.std.proofs.Common.{◌<◌, ◌-◌, ◌++◌, length, ap, ◌∙◌, arith}
use Rattle.std.specs.Prelude.{vec_len}
use Rattle.std.specs.Vec.{vec_capacity}
use Rattle.office_journal.specs.pages.Kept.{PagesValue}
use Rattle.office_journal.specs.pages.Limits.{most_entries}
use Rattle.office_journal.specs.pages.refinement.PagesOfCode.{entries_of}
use Rattle.office_journal.proofs.pages_lemmas.PagedEntries.{still_paged, roomy, on_both}
use Rattle.office_journal.proofs.pages.pages.Pages.make_room.Goals as goal

pub reserve_one-requires : goal.reserve_one-requires
reserve_one-requires c = record { last = c.self.invariant.last }

pub invariant_of-self : goal.invariant_of-self
invariant_of-self c =
    let s = c.self.inside in
    still_paged s.full.items c.reserve_one.new.full.items s.last.items c.reserve_one.new.last.items c.self.invariant (c.reserve_one.ensures.full c.self.invariant.full) c.reserve_one.ensures.last c.reserve_one.ensures.entries

pub returns-clause-room : goal.returns-clause-room
returns-clause-room c =
    let pages = c.reserve_one.new.full.items in
    let last = c.reserve_one.new.last in
    let same = ap length c.reserve_one.ensures.entries ∙ ap (λ (v : PagesValue). length v.entries) c.self.view_is in
    let few : length (entries_of pages ++ last.items) < most_entries = omega (arith, same, c.requires) in
    on_both c.reserve_one.result (λ left room. roomy (vec_capacity last - vec_len last) (length last.items) (length (entries_of pages ++ last.items)) (omega (arith, room)) left few) c.reserve_one.ensures.left c.reserve_one.ensures.room
