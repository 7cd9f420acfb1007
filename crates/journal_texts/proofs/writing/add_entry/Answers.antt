use Rattle.office_journal.specs.Shown.{entry_shown}
use Rattle.journal_texts.proofs.WholeLines.{whole_line}
use Rattle.journal_texts.proofs.writing.add_entry.Goals as goal

pub returns-clause-line : goal.returns-clause-line
returns-clause-line c =
    whole_line c.args.plan.now (entry_shown c.args.entry.now) _ _ _ _ _ _ c.in_ok-write.ensures.bytes c.in_ok-add_event.ensures.words c.in_ok-push_str.ensures.bytes c.in_ok-add_reply.ensures.words c.in_ok-push_str-2.ensures.bytes
