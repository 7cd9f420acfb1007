use Rattle.std.proofs.Common.{List, length, map, ap, subst, ◌∙◌, arith}
use Rattle.session_meaning.specs.ProgramValue.{ProgramValue}
use Rattle.frame_world.specs.Worlds.{World, opening}
use Rattle.simulation.specs.random.refinement.Steps.{HasCome}
use Rattle.simulation.proofs.random_lemmas.Running.{begins, goes_on, all_made}
use Rattle.simulation.proofs.random.run.run.Goals as goal

pub loop-done-init : goal.loop-done-init
loop-done-init c =
    let loss = c.args.schedule.loss in
    let all = length c.args.programs.now in
    let waits = map (λ p. p.now) c.in_ok-waiting.waiting.items in
    let left = map (λ p. p.now) c.submit_waiting.new.waiting.items in
    let w = c.submit_waiting.new.world in
    let first = begins loss all c.in_ok-world.world w waits left (c.in_ok-submit_waiting.ensures.leads loss) in
    record {
      few = omega arith;
      come = subst (λ (ps : List ProgramValue). HasCome loss 0 all (opening c.args.plan.now) w ps left) c.in_ok-waiting.ensures
          (subst (λ (v : World). HasCome loss 0 all v w waits left) (c.in_ok-world.ensures ∙ ap opening c.in_ok-copy.ensures) first);
      refused = c.in_ok-submit_waiting.ensures.refused;
    }

pub loop-done-preserved : goal.loop-done-preserved
loop-done-preserved c =
    let lt = c.loop-done-test.true in
    record {
      few = omega (arith, lt);
      come =
          goes_on c.args.schedule.loss c.loop-done.done (length c.args.programs.now) (opening c.args.plan.now) c.loop-done.world c.go_on.new.world c.args.programs.now (map (λ p. p.now) c.loop-done.waiting.items)
          (map (λ p. p.now) c.go_on.new.waiting.items) c.loop-done.invariant.come c.in_ok-go_on.ensures.goes;
      refused = c.in_ok-go_on.ensures.refused;
    }

pub returns-clause-run : goal.returns-clause-run
returns-clause-run c =
    let left = map (λ p. p.now) c.loop-done.waiting.items in
    let come = all_made c.args.schedule.loss c.loop-done.done c.args.schedule.steps (length c.args.programs.now) (opening c.args.plan.now) c.loop-done.world c.args.programs.now left c.loop-done.invariant.come c.loop-done.invariant.few c.loop-done-test.false in
    record { left = left; made = come.made; leads = come.leads; enough = come.enough; refused = c.loop-done.invariant.refused }
