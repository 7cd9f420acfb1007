use Rattle.session_machine.proofs.WorkPhases.{begun_is, begun_work}
use Rattle.session_machine.proofs.work.Work.begin_in.Goals as goal

pub returns-clause-begun : goal.returns-clause-begun
returns-clause-begun c = begun_is c.args.code.now c.args.reads _ c.in_ok-state.ensures

pub returns-clause-work : goal.returns-clause-work
returns-clause-work c p ec = begun_work p c.args.code.now c.args.reads _ ec (returns-clause-begun c)
