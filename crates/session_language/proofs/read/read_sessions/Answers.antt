use Rattle.std.proofs.Common.{rules, ◌≡◌, Ok}
use Rattle.session_language.specs.Reading.{sessions_of}
use Rattle.session_language.proofs.session_reading.ProgramsFit as fitting
use Rattle.session_language.proofs.read.read_sessions.Goals as goal

meant : (c : goal.After-into_done) → sessions_of c.args.plan.now c.args.text.now ≡ Ok c.into_done.result.items
meant c = unfold sessions_of in search rules

pub returns-clause-fit : goal.returns-clause-fit
returns-clause-fit c = fitting.sessions_fit c.args.plan.now c.args.text.now c.into_done.result.items (meant c)

pub returns-clause-few : goal.returns-clause-few
returns-clause-few c = fitting.sessions_few c.args.plan.now c.args.text.now c.into_done.result.items (meant c)
