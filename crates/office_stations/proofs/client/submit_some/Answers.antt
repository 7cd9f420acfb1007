use Rattle.std.proofs.Common.{◌∙◌, drop}
use Rattle.office_stations.specs.Rounds.{of_office}
use Rattle.office_stations.proofs.Rounds.{one_gone, one_lacks, one_waits}
use Rattle.office_stations.proofs.client.submit_some.Goals as goal

pub returns-in-Ok-false-clause-fills : goal.returns-in-Ok-false-clause-fills
returns-in-Ok-false-clause-fills g c =
    one_waits c.args.pass.now.tag c.loop-next.pass.tag c.args.desk.now.key c.args.pass.now c.loop-next.pass c.submit_one.new.pass (of_office c.args.me (drop c.args.next.now c.args.programs.now)) c.args.me c.loop-next.next c.args.programs.now
    c.index-programs-next.result c.in-Ok-false.field-0 c.in-Ok-false.field-0-test c.loop-next.invariant.stays.1 c.loop-next-test.true c.index-programs-next.is c.loop-next.invariant.given c.in-Ok-false.ensures.own c.in-Ok-false.ensures.other

pub returns-in-Err-clause-stops : goal.returns-in-Err-clause-stops
returns-in-Err-clause-stops g c =
    one_lacks c.args.pass.now.tag c.loop-next.pass.tag c.args.desk.now.key c.args.pass.now c.loop-next.pass c.submit_one.new.pass (of_office c.args.me (drop c.args.next.now c.args.programs.now)) c.args.me c.loop-next.next c.args.programs.now
    c.index-programs-next.result c.in-Err.fault c.loop-next.invariant.stays.1 c.loop-next-test.true c.index-programs-next.is c.loop-next.invariant.given c.in-Err.ensures.own c.in-Err.ensures.other

pub loop-next-preserved : goal.loop-next-preserved
loop-next-preserved g c = record {
  stays = (c.submit_one.ensures.stays.0, c.submit_one.ensures.stays.1 ∙ c.loop-next.invariant.stays.1, c.submit_one.ensures.stays.2);
  given = one_gone c.args.pass.now.tag c.loop-next.pass.tag c.args.desk.now.key c.args.pass.now c.loop-next.pass c.submit_one.new.pass (of_office c.args.me (drop c.args.next.now c.args.programs.now)) c.args.me c.loop-next.next c.args.programs.now
      c.index-programs-next.result c.in-Ok-true.field-0 c.in-Ok-true.field-0-test c.loop-next.invariant.stays.1 c.loop-next-test.true c.index-programs-next.is c.loop-next.invariant.given c.in-Ok-true.ensures.own c.in-Ok-true.ensures.other;
}
