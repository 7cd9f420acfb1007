use Rattle.std.proofs.Common.{◌++◌, ap, ◌∙◌, sym, subst, true}
use Rattle.journal_texts.specs.JournalText.{IsJournal}
use Rattle.journal_texts.specs.Written.{header_line, lines_of}
use Rattle.journal_texts.proofs.writing.text.Goals as goal

pub returns-clause-text : goal.returns-clause-text
returns-clause-text c = c.in_ok-add_lines.ensures.lines ∙ ap (λ t. t ++ lines_of c.args.plan.now c.args.journal.now.entries) (c.in_ok-add_header.ensures.line ∙ ap (λ t. t ++ header_line c.args.plan.now c.args.office) c.new-text.ensures.bytes)

pub returns-clause-reads_back : goal.returns-clause-reads_back
returns-clause-reads_back c =
    subst (λ t. IsJournal c.args.plan.now t c.args.office c.args.journal.now.entries true) (sym (returns-clause-text c))
    (c.written_is_read.ensures c.args.plan.now c.args.office c.args.journal.now.entries c.offices.ensures.consistent c.requires.office c.add_header.ensures.run c.requires.legal c.in_ok-add_lines.ensures.reads_back)
