use Rattle.std.proofs.Common.{◌≡◌, ◌∙◌}
use Rattle.office_journal.proofs.pages_lemmas.PagedEntries.{turned, turned_full}
use Rattle.office_journal.proofs.pages.pages.turn.Goals as goal

pub returns-clause-entries : goal.returns-clause-entries
returns-clause-entries c =
    let moved : c.replace-entries.result.items ≡ c.args.last.now.items = cc c.replace-entries.ensures.value in
    let none : c.replace-entries.new.dest.items ≡ c.new.result.items = cc c.replace-entries.ensures.after in
    turned c.args.full.now.items c.reserve.new.self.items c.push_reserved.new.self.items c.args.last.now.items c.replace-entries.result.items c.replace-entries.new.dest.items c.in_ok-reserve.ensures.items c.push_reserved.ensures.items moved (none ∙ c.new.ensures.items)

pub returns-clause-full : goal.returns-clause-full
returns-clause-full c =
    let moved : c.replace-entries.result.items ≡ c.args.last.now.items = cc c.replace-entries.ensures.value in
    turned_full c.args.full.now.items c.reserve.new.self.items c.push_reserved.new.self.items c.args.last.now.items c.replace-entries.result.items c.in_ok-reserve.ensures.items c.push_reserved.ensures.items moved c.requires.whole
