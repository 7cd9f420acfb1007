use Rattle.std.proofs.Common.{rules, ◌≡◌, subst, ◌∙◌}
use Rattle.std.specs.Result.{OnOk}
use Rattle.site_core.specs.Journals.{Site}
use Rattle.office_runs.specs.refinement.Reports.{AddsJournal}
use Rattle.office_runs.proofs.Telling.{site_is}
use Rattle.office_runs.proofs.finished.add_sessions.Goals as goal

pub returns-clause-journal : goal.returns-clause-journal
returns-clause-journal g c =
    let key : (c.take-held.result.plan, c.take-held.result.me) ≡ c.args.desk.now.key = search rules in
    let seen : c.give.new.pass.seen ≡ c.take-held.result.entries = search rules in
    let site = c.get.ensures ∙ site_is c.take-held.result c.args.desk.now.key c.give.new.pass.seen key seen in
    subst (λ (s : Site). OnOk c.add-added.result (AddsJournal c.args.report.now.wanted s c.args.report.now.texts c.add-added.new.self.texts)) site c.add-added.ensures.journal
