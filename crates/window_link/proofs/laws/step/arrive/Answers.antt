use Rattle.std.proofs.Common.{refl}
use Rattle.std.proofs.lemmas.Option.{slice_get_read}
use Rattle.window_link.specs.refinement.TwoLinksStep.{ends}
use Rattle.window_link.specs.declared.laws.event.End.TheVariants.{Left, Right}
use Rattle.window_link.proofs.FrameDelivery.{accepted_from, arrived_left, arrived_right}
use Rattle.window_link.proofs.laws.step.arrive.Goals as goal

pub take-requires : goal.take-requires
take-requires c =
    accepted_from (ends c.args.left.now c.args.right.now c.args.frames.now) _ c.in-Some.posted.now Left c.requires (slice_get_read _ _ _ _ refl c.in-Some.ensures.lookup.3.0 c.in-Some.ensures.lookup.1) c.in-Left.is

pub take-requires-in-Right : goal.take-requires-in-Right
take-requires-in-Right c =
    accepted_from (ends c.args.left.now c.args.right.now c.args.frames.now) _ c.in-Some.posted.now Right c.requires (slice_get_read _ _ _ _ refl c.in-Some.ensures.lookup.3.0 c.in-Some.ensures.lookup.1) c.in-Right.is

pub returns-in-Left : goal.returns-in-Left
returns-in-Left c =
    arrived_right (ends c.args.left.now c.args.right.now c.args.frames.now) _ c.in-Some.posted.now _ _ c.if-k-eq0.false (slice_get_read _ _ _ _ refl c.in-Some.ensures.lookup.3.0 c.in-Some.ensures.lookup.1) c.in-Left.is c.take.ensures.arrival c.take.ensures.link

pub returns-in-Right : goal.returns-in-Right
returns-in-Right c =
    arrived_left (ends c.args.left.now c.args.right.now c.args.frames.now) _ c.in-Some.posted.now _ _ c.if-k-eq0.false (slice_get_read _ _ _ _ refl c.in-Some.ensures.lookup.3.0 c.in-Some.ensures.lookup.1) c.in-Right.is c.take-in-Right.ensures.arrival c.take-in-Right.ensures.link
