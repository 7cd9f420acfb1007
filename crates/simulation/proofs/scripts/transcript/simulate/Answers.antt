use Rattle.std.proofs.Common.{◌++◌, refl, ap, subst, ◌∙◌}
use Rattle.std.specs.Io.KnownBytes.{Appends}
use Rattle.std.proofs.lemmas.Result.{err_from_is_err_and}
use Rattle.frame_world.specs.Worlds.{World, opening}
use Rattle.simulation.specs.scripts.Script.{acts_with}
use Rattle.simulation.specs.scripts.Runs.{run_of}
use Rattle.simulation.specs.scripts.Transcript.{told_report, IsSerialRun}
use Rattle.simulation.proofs.scripts_lemmas.Steps.{lines_of, run_plan}
use Rattle.simulation.proofs.scripts.transcript.simulate.Goals as goal

pub returns-in_err-world-clause-unwritten : goal.returns-in_err-world-clause-unwritten
returns-in_err-world-clause-unwritten g c =
    let e = err_from_is_err_and c.from_residual.result c.from_residual.ensures.1 in
    rw (e.1, e.2) refl

pub returns-in_err-tell_run-clause-unwritten : goal.returns-in_err-tell_run-clause-unwritten
returns-in_err-tell_run-clause-unwritten g c =
    let e = err_from_is_err_and c.from_residual-in_err-tell_run.result c.from_residual-in_err-tell_run.ensures.1 in
    rw (e.1, e.2) c.in_err-tell_run.ensures.unwritten

pub returns-clause-written : goal.returns-clause-written
returns-clause-written g c =
    let acts = acts_with c.args.programs.now c.args.events.now in
    let old = g.W.Write.contents c.args.out.now in
    let new = g.W.Write.contents c.tell_run.new.out in
    subst (λ w. Appends old new (lines_of c.args.form w acts ++ told_report c.args.form (run_of w acts))) c.in_ok-world.ensures c.in_ok-tell_run.ensures.written

pub returns-clause-world : goal.returns-clause-world
returns-clause-world g c =
    let acts = acts_with c.args.programs.now c.args.events.now in
    c.in_ok-tell_run.ensures.world ∙ ap (λ w. run_of w acts) c.in_ok-world.ensures

pub returns-clause-plan : goal.returns-clause-plan
returns-clause-plan g c =
    let acts = acts_with c.args.programs.now c.args.events.now in
    ap (λ (w : World). w.plan) (c.in_ok-tell_run.ensures.world ∙ ap (λ w. run_of w acts) c.in_ok-world.ensures) ∙ run_plan (opening c.args.plan.now) acts

pub returns-clause-serial : goal.returns-clause-serial
returns-clause-serial g c =
    let acts = acts_with c.args.programs.now c.args.events.now in
    subst IsSerialRun (c.in_ok-tell_run.ensures.world ∙ ap (λ w. run_of w acts) c.in_ok-world.ensures) c.headline.ensures

pub returns-clause-ends : goal.returns-clause-ends
returns-clause-ends g c = c.settling.ensures (acts_with c.args.programs.now c.args.events.now)
