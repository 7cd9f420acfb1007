use Rattle.std.proofs.Common.{rules}
use Rattle.std.proofs.lemmas.Result.{err_from_is_err_and}
use Rattle.serial_command.proofs.Faults.{among_plan, among_sessions, at_plan, at_sessions, both_accepted, both_mean}
use Rattle.serial_command.proofs.inputs.read_inputs.Goals as goal

pub returns-in_err-plan-clause-judged : goal.returns-in_err-plan-clause-judged
returns-in_err-plan-clause-judged g c =
    let e = err_from_is_err_and c.from_residual.result c.from_residual.ensures.1 in
    rw (e.1, e.2)
    (at_plan (g.S.Sources.file_text c.args.sources.now) (g.S.Sources.standard_text c.args.sources.now) c.new-standard.result c.args.plan.now c.args.sessions.now c.in_err-plan.field-0.0 (search rules) c.in_err-plan.ensures.fault)

pub returns-in_err-programs-clause-judged : goal.returns-in_err-programs-clause-judged
returns-in_err-programs-clause-judged g c =
    let e = err_from_is_err_and c.from_residual-in_err-programs.result c.from_residual-in_err-programs.ensures.1 in
    rw (e.1, e.2)
    (at_sessions (g.S.Sources.file_text c.args.sources.now) (g.S.Sources.standard_text c.args.sources.now) c.new-standard.result c.read_plan.new.standard c.args.plan.now c.args.sessions.now c.in_ok-plan.plan
    c.in_err-programs.field-0.0 (search rules) c.in_ok-plan.ensures.meaning c.in_err-programs.ensures.fault)

pub returns-in_err-plan-clause-input : goal.returns-in_err-plan-clause-input
returns-in_err-plan-clause-input g c =
    let e = err_from_is_err_and c.from_residual.result c.from_residual.ensures.1 in
    rw (e.1, e.2) (among_plan (g.S.Sources.file_text c.args.sources.now) c.new-standard.result c.args.plan.now c.in_err-plan.field-0.0 c.in_err-plan.ensures.fault)

pub returns-in_err-programs-clause-input : goal.returns-in_err-programs-clause-input
returns-in_err-programs-clause-input g c =
    let e = err_from_is_err_and c.from_residual-in_err-programs.result c.from_residual-in_err-programs.ensures.1 in
    rw (e.1, e.2) (among_sessions (g.S.Sources.file_text c.args.sources.now) c.read_plan.new.standard c.args.sessions.now c.in_ok-plan.plan c.in_err-programs.field-0.0 c.in_err-programs.ensures.fault)

pub returns-clause-meaning : goal.returns-clause-meaning
returns-clause-meaning g c = λ plan_text sessions_text known.
    both_mean (g.S.Sources.file_text c.args.sources.now) (g.S.Sources.standard_text c.args.sources.now) c.new-standard.result c.read_plan.new.standard c.read_programs.new.standard c.args.plan.now c.args.sessions.now
    c.in_ok-plan.plan c.in_ok-programs.programs.items (search rules) c.in_ok-plan.ensures.meaning c.in_ok-programs.ensures.meaning plan_text sessions_text known

pub returns-clause-accepted : goal.returns-clause-accepted
returns-clause-accepted g c =
    both_accepted (g.S.Sources.file_text c.args.sources.now) (g.S.Sources.standard_text c.args.sources.now) c.new-standard.result c.read_plan.new.standard c.read_programs.new.standard c.args.plan.now c.args.sessions.now
    c.in_ok-plan.plan c.in_ok-programs.programs.items (search rules) c.in_ok-plan.ensures.meaning c.in_ok-programs.ensures.meaning
