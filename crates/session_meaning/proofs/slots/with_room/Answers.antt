use Rattle.std.proofs.Common.{arith}
use Rattle.session_meaning.proofs.slots.with_room.Goals as goal

pub returns-clause-room : goal.returns-clause-room
returns-clause-room c = omega (arith, c.in_ok-reserve.ensures.ok)
