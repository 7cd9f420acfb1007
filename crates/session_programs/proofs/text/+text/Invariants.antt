use Rattle.std.proofs.Common.{◌+◌, ◌*◌, length}
use Rattle.session_programs.proofs.text.+text.Given as goal

abbrev pub decreases-write_factor : goal.decreases-write_factor
decreases-write_factor l = 3 * length l.nodes.now + 1

abbrev pub decreases-write_operation : goal.decreases-write_operation
decreases-write_operation l = 3 * length l.nodes.now + 2

abbrev pub decreases-write_product : goal.decreases-write_product
decreases-write_product l = 3 * length l.nodes.now + 1

abbrev pub decreases-write_term : goal.decreases-write_term
decreases-write_term l = 3 * length l.nodes.now
