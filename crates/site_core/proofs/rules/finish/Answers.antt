use Rattle.std.proofs.Common.{rules}
use Rattle.site_core.proofs.rules.finish.Goals as goal

pub returns-in_err-make_room-clause-not_now : goal.returns-in_err-make_room-clause-not_now
returns-in_err-make_room-clause-not_now c = search rules
