use Rattle.std.proofs.Common.{arith}
use Rattle.world_schedule.proofs.FinishedSessions.{unfinished_within}
use Rattle.world_schedule.proofs.world.unfinished_at.Goals as goal

pub returns-clause-few : goal.returns-clause-few
returns-clause-few c = omega (arith, c.unfinished.ensures, c.tickets.ensures, c.tickets.type_inv, unfinished_within c.sessions_go_in_order.ensures c.args.office.now)
