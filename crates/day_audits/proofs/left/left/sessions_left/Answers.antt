use Rattle.std.proofs.Common.{length, ◌<◌, [], arith, ap, sym, subst, ◌∙◌}
use Rattle.std.specs.Prelude.{All, IsTrue}
use Rattle.std.proofs.lemmas.Option.{slice_get_within}
use Rattle.site_core.specs.declared.agendas.session.Session.{Session}
use Rattle.session_programs.specs.Program.{fits}
use Rattle.office_journal.specs.Shown.{entry_shown}
use Rattle.office_journal.proofs.ShownEntries.{entry_in, none_in}
use Rattle.day_audits.specs.left.refinement.Walks.{left_after}
use Rattle.day_audits.proofs.left_lemmas.Fitting.{all_fit}
use Rattle.day_audits.proofs.left_lemmas.Programs.{all_noted, one_noted}
use Rattle.day_audits.proofs.left_lemmas.Walked.{all_walked}
use Rattle.day_audits.proofs.left.left.sessions_left.Goals as goal

pub overflow_add-place : goal.overflow_add-place
overflow_add-place c =
    let xs = c.journal-journal.result.now.entries in
    let within : c.loop-entry.place < length xs = slice_get_within xs c.loop-entry.place (entry_shown c.in-Some.entry) (entry_in xs c.loop-entry.place c.get.result c.in-Some.entry c.get.ensures c.in-Some.is) in
    omega (arith, within, c.len.ensures)

pub loop-entry-smaller : goal.loop-entry-smaller
loop-entry-smaller c =
    let xs = c.journal-journal.result.now.entries in
    let within : c.loop-entry.place < length xs = slice_get_within xs c.loop-entry.place (entry_shown c.in-Some.entry) (entry_in xs c.loop-entry.place c.get.result c.in-Some.entry c.get.ensures c.in-Some.is) in
    omega (arith, within)

pub loop-entry-preserved : goal.loop-entry-preserved
loop-entry-preserved c =
    let xs = c.journal-journal.result.now.entries in
    let at = entry_in xs c.loop-entry.place c.get.result c.in-Some.entry c.get.ensures c.in-Some.is in
    one_noted c.loop-entry.left.items c.note.new.left.items (left_after [] xs) xs c.loop-entry.place (entry_shown c.in-Some.entry) at c.loop-entry.invariant c.in_ok-note.ensures

pub returns-clause-left : goal.returns-clause-left
returns-clause-left c =
    let xs = c.journal-journal.result.now.entries in
    all_noted c.loop-entry.left.items (left_after [] xs) xs c.loop-entry.place (none_in xs c.loop-entry.place c.get.result c.get.ensures c.in_default.is) c.loop-entry.invariant
    ∙ ap (left_after []) c.journal-journal.ensures.entries
    ∙ all_walked c.sessions_go_in_order.ensures c.args.office.now c.journal-journal.ensures.legal

pub returns-clause-fit : goal.returns-clause-fit
returns-clause-fit c =
    let xs = c.journal-journal.result.now.entries in
    let is =
    all_noted c.loop-entry.left.items (left_after [] xs) xs c.loop-entry.place (none_in xs c.loop-entry.place c.get.result c.get.ensures c.in_default.is) c.loop-entry.invariant
    ∙ ap (left_after []) c.journal-journal.ensures.entries in
    subst (All (λ (s : Session). IsTrue (fits c.args.office.now.plan s.program))) (sym is) (all_fit c.args.office.now c.journal-journal.ensures.legal)
