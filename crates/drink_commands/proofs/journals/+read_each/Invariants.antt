use Rattle.std.proofs.Common.{length}
use Rattle.drink_commands.proofs.journals.+read_each.Given as goal

abbrev pub decreases-read_each : goal.decreases-read_each
decreases-read_each g l = length l.words.now
