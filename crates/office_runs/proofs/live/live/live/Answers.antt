use Rattle.office_runs.proofs.live_lemmas.Courses.{tells_journals}
use Rattle.office_runs.proofs.live.live.live.Goals as goal

pub returns-clause-tells : goal.returns-clause-tells
returns-clause-tells g c = tells_journals c.args.form g.B.Socket.Wire.tells c.args.plan.now c.args.programs.now c.args.journals c.in_ok-ran.ran (c.in_ok-ran.ensures.told c.in_ok-crews.ensures.keys)
