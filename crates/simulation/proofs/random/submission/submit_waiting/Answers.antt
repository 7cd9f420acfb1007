use Rattle.std.proofs.Common.{map, take_all, subst, arith}
use Rattle.std.specs.Prelude.{All}
use Rattle.std.proofs.lemmas.List.Elements.{All-nil}
use Rattle.simulation.specs.random.Runs.{IsRefused}
use Rattle.simulation.proofs.random_lemmas.Running.{stays, follows}
use Rattle.simulation.proofs.random.submission.submit_waiting.Goals as goal

pub loop-place-init : goal.loop-place-init
loop-place-init c = record {
  leads = λ loss. stays loss c.args.world.now (map (λ p. p.now) c.args.waiting.now.items);
  refused = All-nil (IsRefused c.args.world.now);
}

pub loop-place-preserved : goal.loop-place-preserved
loop-place-preserved c = record {
  leads = λ loss.
      follows loss 0 0 c.args.world.now c.loop-place.world c.submit_at.new.world (map (λ p. p.now) c.args.waiting.now.items) (map (λ p. p.now) c.loop-place.waiting.items) (map (λ p. p.now) c.submit_at.new.waiting.items)
      (c.loop-place.invariant.leads loss) (c.in_ok-place.ensures.leads loss);
  refused = c.in_ok-place.ensures.refused c.loop-place.invariant.refused;
}

pub returns-clause-refused : goal.returns-clause-refused
returns-clause-refused c =
    let size = c.len.ensures in
    let all = c.loop-place-test.false in
    subst (λ l. All (IsRefused c.loop-place.world) (map (λ p. p.now) l)) (take_all c.loop-place.place c.loop-place.waiting.items (omega (arith, size, all))) c.loop-place.invariant.refused
