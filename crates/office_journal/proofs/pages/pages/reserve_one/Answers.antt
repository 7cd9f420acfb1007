use Rattle.std.proofs.Common.{arith}
use Rattle.office_journal.proofs.pages.pages.reserve_one.Goals as goal

pub turn-requires : goal.turn-requires
turn-requires c = record { whole = omega (arith, c.requires.last, c.len.ensures, c.args.last.now.ok.0) }
