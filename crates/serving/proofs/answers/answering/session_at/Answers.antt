use Rattle.std.proofs.Common.{◌∙◌, sym, ap}
use Rattle.office_journal.specs.Shown.{entry_shown}
use Rattle.office_journal.proofs.ShownEntries.{entry_in, none_in}
use Rattle.serving.specs.answers.refinement.{session_by}
use Rattle.serving.proofs.answers_lemmas.Looked.{at_entry}
use Rattle.serving.proofs.answers.answering.session_at.Goals as goal

pub returns-in_default : goal.returns-in_default
returns-in_default c = let xs = c.args.journal.now.entries in sym (ap (session_by c.args.ticket) (none_in xs c.args.place c.get.result c.get.ensures c.in_default.is))

pub returns : goal.returns
returns c =
    let xs = c.args.journal.now.entries in
    c.submitted_as.ensures ∙ at_entry c.args.ticket xs c.args.place (entry_shown c.in-Some.entry) (entry_in xs c.args.place c.get.result c.in-Some.entry c.get.ensures c.in-Some.is)
