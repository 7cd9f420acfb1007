use Rattle.std.proofs.Common.{rules, ◌≡◌, true, map, ◌∙◌}
use Rattle.std.specs.String.{string_bytes}
use Rattle.office_runs.specs.Runs.{text_of}
use Rattle.office_runs.proofs.Telling.{one_more, text_is, read_back, journal_added}
use Rattle.office_runs.proofs.report.Report.add_journal.Goals as goal

pub returns-clause-journal : goal.returns-clause-journal
returns-clause-journal c =
    let s = c.args.office.now in
    let asked : c.args.self.now.wanted ≡ true = search rules in
    let so_far : map string_bytes c.self.inside.journals.items ≡ c.args.self.now.texts = search rules in
    let same = text_is s c.plan.result.now c.number.result c.journal.result.now.entries c.plan.ensures c.number.ensures c.journal.ensures.entries in
    journal_added c.args.self.now.wanted s c.args.self.now.texts (map string_bytes c.push.new.self.items) asked
    (one_more string_bytes c.self.inside.journals.items c.push.new.self.items c.in_ok-text.text c.args.self.now.texts (text_of s) c.in_ok-push.ensures.items (c.in_ok-text.ensures.text ∙ same) so_far)
    (read_back s c.plan.result.now c.number.result c.journal.result.now.entries (string_bytes c.in_ok-text.text) c.plan.ensures c.number.ensures c.journal.ensures.entries c.in_ok-text.ensures.text c.in_ok-text.ensures.reads_back)
