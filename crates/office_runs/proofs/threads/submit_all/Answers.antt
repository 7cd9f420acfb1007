use Rattle.std.proofs.Common.{◌∙◌, drop}
use Rattle.office_stations.specs.Rounds.{of_office}
use Rattle.office_runs.proofs.Ends.{one_filled}
use Rattle.office_runs.proofs.threads.submit_all.Goals as goal

pub loop-preserved : goal.loop-preserved
loop-preserved g c = record {
  stays = (c.submit_some.ensures.stays.0, c.submit_some.ensures.stays.1 ∙ c.loop.invariant.stays.1, c.submit_some.ensures.stays.2);
  filled = one_filled c.loop.pass.tag c.args.desk.now.key c.args.pass.now c.loop.pass c.submit_some.new.pass (of_office c.args.me c.args.programs.now) (of_office c.args.me (drop c.loop.next c.args.programs.now)) (of_office c.args.me (drop c.submit_some.new.next c.args.programs.now))
      (c.loop.invariant.stays.1 ∙ c.requires.tag) c.loop.invariant.filled c.in-Ok.ensures.fills;
}
