use Rattle.std.proofs.Common.{length, ◌<◌, ap, arith}
use Rattle.std.specs.Option.{option_copied}
use Rattle.std.proofs.lemmas.Option.{slice_get_within}
use Rattle.office_journal.specs.Shown.{entry_shown}
use Rattle.office_journal.proofs.ShownEntries.{entry_in, none_in}
use Rattle.office_stations.proofs.remarks_lemmas.Programs.{found, not_here, nowhere}
use Rattle.office_stations.proofs.remarks.left.program_with.Goals as goal

pub returns-in-Some-submitted_as : goal.returns-in-Some-submitted_as
returns-in-Some-submitted_as c =
    let xs = c.args.journal.now.entries in
    let at = entry_in xs c.loop-entry.place c.get.result c.in-Some.entry c.get.ensures c.in-Some.is in
    found c.args.ticket xs c.loop-entry.place (entry_shown c.in-Some.entry) _ _ at c.loop-entry.invariant c.submitted_as.ensures (ap option_copied c.in-Some-submitted_as.is)

pub overflow_add-place : goal.overflow_add-place
overflow_add-place c =
    let xs = c.args.journal.now.entries in
    let within : c.loop-entry.place < length xs = slice_get_within xs c.loop-entry.place (entry_shown c.in-Some.entry) (entry_in xs c.loop-entry.place c.get.result c.in-Some.entry c.get.ensures c.in-Some.is) in
    omega (arith, within, c.len.ensures)

pub loop-entry-smaller : goal.loop-entry-smaller
loop-entry-smaller c =
    let xs = c.args.journal.now.entries in
    let within : c.loop-entry.place < length xs = slice_get_within xs c.loop-entry.place (entry_shown c.in-Some.entry) (entry_in xs c.loop-entry.place c.get.result c.in-Some.entry c.get.ensures c.in-Some.is) in
    omega (arith, within)

pub loop-entry-preserved : goal.loop-entry-preserved
loop-entry-preserved c =
    let xs = c.args.journal.now.entries in
    let at = entry_in xs c.loop-entry.place c.get.result c.in-Some.entry c.get.ensures c.in-Some.is in
    not_here c.args.ticket xs c.loop-entry.place (entry_shown c.in-Some.entry) _ at c.loop-entry.invariant c.submitted_as.ensures (ap option_copied c.in_default-submitted_as.is)

pub returns : goal.returns
returns c =
    let xs = c.args.journal.now.entries in
    nowhere c.args.ticket xs c.loop-entry.place (none_in xs c.loop-entry.place c.get.result c.get.ensures c.in_default.is) c.loop-entry.invariant
