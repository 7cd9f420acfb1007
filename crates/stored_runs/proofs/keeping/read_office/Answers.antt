use Rattle.std.proofs.Common.{rules, ◌≡◌, List, false, ap, subst, ◌∙◌}
use Rattle.site_core.specs.Journals.{Site}
use Rattle.office_journal.specs.declared.event.Entry.{Entry}
use Rattle.site_core.specs.Reopening.{IsNoJournal}
use Rattle.journal_texts.specs.JournalText.{IsFaultOf}
use Rattle.stored_runs.proofs.Reading.{faulty, without_end, not_given, unlike}
use Rattle.stored_runs.proofs.keeping.read_office.Goals as goal

pub returns-in-Err-Refused-clause-fault : goal.returns-in-Err-Refused-clause-fault
returns-in-Err-Refused-clause-fault c =
    faulty c.a_faulty_text_is_no_journal.ensures c.args.plan.now c.args.me c.args.text.now c.in-Err-Refused.refusal (subst (IsFaultOf c.args.plan.now c.args.text.now) c.in-Err-Refused.field-0-is c.in-Err-Refused.ensures.fault)

pub returns-then-not-journal-clause-fault : goal.returns-then-not-journal-clause-fault
returns-then-not-journal-clause-fault c =
    let none : c.in-Ok.journal.ends ≡ false = search rules in
    without_end c.a_text_is_one_journal.ensures c.args.plan.now c.args.me c.args.text.now c.in-Ok.journal.office c.in-Ok.journal.entries.items c.in-Ok.journal.ends c.in-Ok.ensures.meaning none

pub returns-in-Err-NotGiven-clause-fault : goal.returns-in-Err-NotGiven-clause-fault
returns-in-Err-NotGiven-clause-fault c =
    let cut = subst (IsNoJournal c.args.plan.now c.args.me c.deref.result.now) c.in-Err-NotGiven.field-0-is c.in-Err-NotGiven.ensures.fault in
    not_given c.a_text_is_one_journal.ensures c.args.plan.now c.args.me c.args.text.now c.in-Ok.journal.office c.in-Ok.journal.entries.items c.in-Ok.journal.ends c.in-Ok.ensures.meaning
    (subst (λ (l : List Entry). Rattle.site_core.specs.Journals.IsLegal (Rattle.site_core.specs.Reopening.site_with c.args.plan.now c.args.me l) → ⊥) c.deref.ensures.value cut.whole)

pub returns-clause-fault : goal.returns-clause-fault
returns-clause-fault c =
    let given : c.in-Ok-reopened.office.entries ≡ c.in-Ok.journal.entries.items = ap (λ (s : Site). s.entries) c.in-Ok-reopened.ensures.office ∙ c.deref.ensures.value in
    unlike c.args.plan.now c.args.me c.args.text.now c.in-Ok.journal.office c.in-Ok.journal.entries.items c.in-Ok-reopened.office.entries c.in-Ok.journal.ends c.as_written.result c.a_text_is_one_journal.ensures c.in-Ok.ensures.meaning given c.as_written.ensures.fault
