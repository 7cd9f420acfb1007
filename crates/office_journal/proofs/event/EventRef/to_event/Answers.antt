use Rattle.std.proofs.Common.{sym, ap}
use Rattle.office_journal.specs.Shown.{event_shown}
use Rattle.office_journal.proofs.event.EventRef.to_event.Goals as goal

pub returns-in-Send : goal.returns-in-Send
returns-in-Send c = ap event_shown (sym c.in-Send.is)
