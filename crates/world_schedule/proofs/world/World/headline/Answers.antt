use Rattle.std.proofs.Common.{subst}
use Rattle.frame_world.specs.Headline.{HasSerialSessions, HasSerialValues, HasOnePlaceEach, NeighboursEatApart, EatersHaveTheirForks, DrinkersHaveTheirBottles, FramesAreTaken, NoneIsEarly, FramesGoByBytes, CountsAreTimely}
use Rattle.frame_world.specs.Strict.{IsStrict}
use Rattle.frame_world.specs.Termination.{RunsEnd, WhoGoesOnFinishes}
use Rattle.frame_world.specs.Tickets.{HaveTheirTickets, TicketsRise, TellsEachOffice}
use Rattle.frame_world.specs.Worlds.{World}
use Rattle.frame_world.specs.Ways.{pairs_at, tables_of}
use Rattle.dining_core.specs.Worlds.{HasNoRing}
use Rattle.world_schedule.specs.refinement.WorldOfCode.{world_in, frames_in}
use Rattle.world_schedule.proofs.Headline.{of_world, of_reached}
use Rattle.world_schedule.proofs.world.World.headline.Goals as goal

pub returns-clause-sessions : goal.returns-clause-sessions
returns-clause-sessions c =
    let w = c.self.inside in
    of_world HasSerialSessions w.plan w.offices.items (frames_in w.plan w.offices.items w.sent.items) w.finished.items c.args.self.now c.self.invariant.0 c.self.view_is (λ es. c.sessions_are_serial.ensures w.plan es c.self.invariant.0.accepted.consistent)

pub returns-clause-strict : goal.returns-clause-strict
returns-clause-strict c =
    let w = c.self.inside in
    of_world IsStrict w.plan w.offices.items (frames_in w.plan w.offices.items w.sent.items) w.finished.items c.args.self.now c.self.invariant.0 c.self.view_is (λ es. c.order_is_strict.ensures w.plan es c.self.invariant.0.accepted.consistent)

pub returns-clause-tickets : goal.returns-clause-tickets
returns-clause-tickets c =
    let w = c.self.inside in
    of_world HaveTheirTickets w.plan w.offices.items (frames_in w.plan w.offices.items w.sent.items) w.finished.items c.args.self.now c.self.invariant.0 c.self.view_is (λ es. c.finished_have_their_tickets.ensures w.plan es c.self.invariant.0.accepted.consistent)

pub returns-clause-rise : goal.returns-clause-rise
returns-clause-rise c =
    let w = c.self.inside in
    of_world TicketsRise w.plan w.offices.items (frames_in w.plan w.offices.items w.sent.items) w.finished.items c.args.self.now c.self.invariant.0 c.self.view_is (λ es. c.tickets_rise.ensures w.plan es c.self.invariant.0.accepted.consistent)

pub returns-clause-offices : goal.returns-clause-offices
returns-clause-offices c =
    let w = c.self.inside in
    of_world TellsEachOffice w.plan w.offices.items (frames_in w.plan w.offices.items w.sent.items) w.finished.items c.args.self.now c.self.invariant.0 c.self.view_is (λ es. c.each_office_is_told.ensures w.plan es c.self.invariant.0.accepted.consistent)

pub returns-clause-bottles : goal.returns-clause-bottles
returns-clause-bottles c =
    let w = c.self.inside in
    of_world HasSerialValues w.plan w.offices.items (frames_in w.plan w.offices.items w.sent.items) w.finished.items c.args.self.now c.self.invariant.0 c.self.view_is (λ es. c.bottles_are_serial.ensures w.plan es c.self.invariant.0.accepted.consistent)

pub returns-clause-places : goal.returns-clause-places
returns-clause-places c =
    let w = c.self.inside in
    of_world HasOnePlaceEach w.plan w.offices.items (frames_in w.plan w.offices.items w.sent.items) w.finished.items c.args.self.now c.self.invariant.0 c.self.view_is (λ es. c.things_have_one_place.ensures w.plan es c.self.invariant.0.accepted.consistent)

pub returns-clause-apart : goal.returns-clause-apart
returns-clause-apart c =
    let w = c.self.inside in
    of_world NeighboursEatApart w.plan w.offices.items (frames_in w.plan w.offices.items w.sent.items) w.finished.items c.args.self.now c.self.invariant.0 c.self.view_is (λ es. c.neighbours_never_eat_at_once.ensures w.plan es c.self.invariant.0.accepted.consistent)

pub returns-clause-eaters : goal.returns-clause-eaters
returns-clause-eaters c =
    let w = c.self.inside in
    of_world EatersHaveTheirForks w.plan w.offices.items (frames_in w.plan w.offices.items w.sent.items) w.finished.items c.args.self.now c.self.invariant.0 c.self.view_is (λ es. c.who_eats_has_its_forks.ensures w.plan es c.self.invariant.0.accepted.consistent)

pub returns-clause-drinkers : goal.returns-clause-drinkers
returns-clause-drinkers c =
    let w = c.self.inside in
    of_world DrinkersHaveTheirBottles w.plan w.offices.items (frames_in w.plan w.offices.items w.sent.items) w.finished.items c.args.self.now c.self.invariant.0 c.self.view_is (λ es. c.who_drinks_has_its_bottles.ensures w.plan es c.self.invariant.0.accepted.consistent)

pub returns-clause-order : goal.returns-clause-order
returns-clause-order c =
    let w = c.self.inside in
    subst (λ (v : World). HasNoRing v.plan (tables_of (pairs_at v))) c.self.view_is
    (of_reached (λ (v : World). HasNoRing w.plan (tables_of (pairs_at v))) (world_in w.plan w.offices.items (frames_in w.plan w.offices.items w.sent.items) w.finished.items) c.self.invariant.0.reached (λ es. c.precedence_has_no_ring.ensures w.plan es c.self.invariant.0.accepted))

pub returns-clause-frames : goal.returns-clause-frames
returns-clause-frames c =
    let w = c.self.inside in
    of_world FramesAreTaken w.plan w.offices.items (frames_in w.plan w.offices.items w.sent.items) w.finished.items c.args.self.now c.self.invariant.0 c.self.view_is (λ es. c.sent_frames_are_taken.ensures w.plan es c.self.invariant.0.accepted.consistent)

pub returns-clause-early : goal.returns-clause-early
returns-clause-early c =
    let w = c.self.inside in
    of_world NoneIsEarly w.plan w.offices.items (frames_in w.plan w.offices.items w.sent.items) w.finished.items c.args.self.now c.self.invariant.0 c.self.view_is (λ es. c.none_is_early.ensures w.plan es c.self.invariant.0.accepted.consistent)

pub returns-clause-bytes : goal.returns-clause-bytes
returns-clause-bytes c =
    let w = c.self.inside in
    subst FramesGoByBytes c.self.view_is (c.frames_go_by_bytes.ensures (world_in w.plan w.offices.items (frames_in w.plan w.offices.items w.sent.items) w.finished.items) c.self.invariant.0.fit)

pub returns-clause-counts : goal.returns-clause-counts
returns-clause-counts c =
    let w = c.self.inside in
    of_world CountsAreTimely w.plan w.offices.items (frames_in w.plan w.offices.items w.sent.items) w.finished.items c.args.self.now c.self.invariant.0 c.self.view_is (λ es. c.counts_are_timely.ensures w.plan es c.self.invariant.0.accepted.consistent)

pub returns-clause-ends : goal.returns-clause-ends
returns-clause-ends c =
    let w = c.self.inside in
    of_world RunsEnd w.plan w.offices.items (frames_in w.plan w.offices.items w.sent.items) w.finished.items c.args.self.now c.self.invariant.0 c.self.view_is (λ es. c.every_run_ends.ensures w.plan es c.self.invariant.0.accepted.consistent)

pub returns-clause-finishes : goal.returns-clause-finishes
returns-clause-finishes c =
    let w = c.self.inside in
    of_world WhoGoesOnFinishes w.plan w.offices.items (frames_in w.plan w.offices.items w.sent.items) w.finished.items c.args.self.now c.self.invariant.0 c.self.view_is (λ es. c.who_goes_on_finishes.ensures w.plan es c.self.invariant.0.accepted.consistent)
