use Rattle.std.proofs.Common.{ap}
use Rattle.office_journal.specs.Shown.{event_shown, entry_shown}
use Rattle.office_journal.proofs.ShownEntries.{entry_in, is_there}
use Rattle.stored_runs.proofs.submits.submitted_at.Goals as goal

pub unreachable-requires : goal.unreachable-requires
unreachable-requires c = is_there c.args.journal.now.entries c.args.place c.get.result c.get.ensures c.requires c.in_default.is

pub returns-in-Submit-clause-some : goal.returns-in-Submit-clause-some
returns-in-Submit-clause-some c = (entry_shown c.in-Some.entry, entry_in c.args.journal.now.entries c.args.place c.get.result c.in-Some.entry c.get.ensures c.in-Some.is, ap event_shown c.in-Submit.is)
