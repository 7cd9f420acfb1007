use Rattle.std.proofs.Common.{subst}
use Rattle.std.specs.Prelude.{Contains, IfSome}
use Rattle.bottle_values.specs.declared.Value.{Value}
use Rattle.frame_world.specs.Headline.{HasSerialValues}
use Rattle.world_schedule.specs.refinement.Bottles.{bottles_at}
use Rattle.world_schedule.specs.refinement.WorldOfCode.{frames_in}
use Rattle.world_schedule.proofs.Headline.{of_world}
use Rattle.world_schedule.proofs.BottleValues.{ends_in, ends_lie, bottles_there, is_value, is_found}
use Rattle.world_schedule.proofs.world.World.value_of.Goals as goal

pub bottle_between-requires : goal.bottle_between-requires
bottle_between-requires c =
    let w = c.self.inside in
    let ends = c.ends-a.ensures in
    let e = ends_in w.plan w.offices.items (frames_in w.plan w.offices.items w.sent.items) w.finished.items c.args.self.now c.args.r c.ends-a.result c.index.result c.index-2.result c.index-first.result.now c.index-second.result.now c.self.invariant.0 c.self.view_is
    ends.ends ends.offices c.index.ensures c.index-2.ensures c.index-first.ensures c.index-second.ensures in
    let lies = ends_lie w.plan c.args.self.now c.args.r c.ends-a.result.0 c.ends-a.result.1 c.index-first.result.now c.index-second.result.now e ends.joined in
    record { forth = lies.0; back = lies.1 }

pub unwrap-requires : goal.unwrap-requires
unwrap-requires c =
    let w = c.self.inside in
    let ends = c.ends-a.ensures in
    let e = ends_in w.plan w.offices.items (frames_in w.plan w.offices.items w.sent.items) w.finished.items c.args.self.now c.args.r c.ends-a.result c.index.result c.index-2.result c.index-first.result.now c.index-second.result.now c.self.invariant.0 c.self.view_is
    ends.ends ends.offices c.index.ensures c.index-2.ensures c.index-first.ensures c.index-second.ensures in
    let law : HasSerialValues c.args.self.now = of_world HasSerialValues w.plan w.offices.items (frames_in w.plan w.offices.items w.sent.items) w.finished.items c.args.self.now c.self.invariant.0 c.self.view_is (λ es. c.bottles_are_serial.ensures w.plan es c.self.invariant.0.accepted.consistent) in
    is_found c.args.self.now c.args.r (bottles_at c.index-first.result.now c.index-second.result.now c.args.r) c.bottle_between.result law c.requires
    (bottles_there w.plan c.args.self.now c.args.r c.ends-a.result.0 c.ends-a.result.1 c.index-first.result.now c.index-second.result.now e) c.bottle_between.ensures.none

pub returns : goal.returns
returns c =
    let w = c.self.inside in
    let ends = c.ends-a.ensures in
    let e = ends_in w.plan w.offices.items (frames_in w.plan w.offices.items w.sent.items) w.finished.items c.args.self.now c.args.r c.ends-a.result c.index.result c.index-2.result c.index-first.result.now c.index-second.result.now c.self.invariant.0 c.self.view_is
    ends.ends ends.offices c.index.ensures c.index-2.ensures c.index-first.ensures c.index-second.ensures in
    let law : HasSerialValues c.args.self.now = of_world HasSerialValues w.plan w.offices.items (frames_in w.plan w.offices.items w.sent.items) w.finished.items c.args.self.now c.self.invariant.0 c.self.view_is (λ es. c.bottles_are_serial.ensures w.plan es c.self.invariant.0.accepted.consistent) in
    let xs = bottles_at c.index-first.result.now c.index-second.result.now c.args.r in
    let is = is_value c.args.self.now c.args.r xs c.unwrap.result law c.requires
    (bottles_there w.plan c.args.self.now c.args.r c.ends-a.result.0 c.ends-a.result.1 c.index-first.result.now c.index-second.result.now e)
    (subst (λ f. IfSome f (λ (x : Value). Contains xs x)) c.unwrap.ensures c.bottle_between.ensures.some) in
    record { bottle = is.0; serial = is.1 }
