use Rattle.std.proofs.Common.{◌≡◌, ◌<◌, ℕ, List, length, get_or, sym, ap, subst, arith}
use Rattle.site_core.specs.Journals.{Site, IsLegal}
use Rattle.frame_world.specs.Worlds.{opening, run_of}
use Rattle.frame_world.specs.WorldLaws.{seated}
use Rattle.frame_world.specs.Headline.{outcomes}
use Rattle.world_schedule.specs.refinement.Orders.{TellInOrder}
use Rattle.world_schedule.specs.refinement.WorldOfCode.{frames_in}
use Rattle.world_schedule.proofs.Records.{in_order, left_is, left_world}
use Rattle.world_schedule.proofs.SentEntries.{left_with, left_told}
use Rattle.world_schedule.proofs.world.World.of_record.Goals as goal

pub marks_of-requires-clause-few : goal.marks_of-requires-clause-few
marks_of-requires-clause-few c =
    let size = (seated c.args.plan c.requires.0).size in
    omega (arith, ap length c.deref-2.ensures.value, ap length c.requires.1.leaves, size, c.offices.ensures.count, c.offices.ensures.few)

pub marks_of-requires-clause-told : goal.marks_of-requires-clause-told
marks_of-requires-clause-told c =
    let es = c.requires.0 in
    let legal = subst (λ (l : List Site). (a : ℕ) (s : Site) → a < length l → s ≡ get_or l a s → IsLegal s) c.deref.ensures.value c.are_legal.ensures in
    let tells = c.each_office_is_told.ensures c.args.plan es c.offices.ensures.consistent in
    let told = in_order c.args.plan es c.args.offices.items (frames_in c.args.plan c.args.offices.items c.args.sent.items) c.args.order.now c.sessions_go_in_order.ensures (left_with c.args.plan es c.args.offices.items c.args.sent.items c.args.order.now c.requires.1) legal tells in
    (outcomes (run_of (opening c.args.plan) es), subst (λ (l : List Site). TellInOrder l (outcomes (run_of (opening c.args.plan) es)) c.args.order.now) (sym c.deref-2.ensures.value) told)

pub invariant_of-result : goal.invariant_of-result
invariant_of-result c =
    let es = c.requires.0 in
    let legal = subst (λ (l : List Site). (a : ℕ) (s : Site) → a < length l → s ≡ get_or l a s → IsLegal s) c.deref.ensures.value c.are_legal.ensures in
    let tells = c.each_office_is_told.ensures c.args.plan es c.offices.ensures.consistent in
    let told = in_order c.args.plan es c.args.offices.items (frames_in c.args.plan c.args.offices.items c.args.sent.items) c.args.order.now c.sessions_go_in_order.ensures (left_with c.args.plan es c.args.offices.items c.args.sent.items c.args.order.now c.requires.1) legal tells in
    let there = subst (λ (l : List Site). TellInOrder l (outcomes (run_of (opening c.args.plan) es)) c.args.order.now) (sym c.deref-2.ensures.value) told in (
      left_world c.args.plan es c.args.offices.items (frames_in c.args.plan c.args.offices.items c.args.sent.items) c.args.order.now c.sessions_go_in_order.ensures (left_with c.args.plan es c.args.offices.items c.args.sent.items c.args.order.now c.requires.1) legal c.in_ok-finished.finished.items c.offices.ensures.accepted
          (c.in_ok-finished.ensures (outcomes (run_of (opening c.args.plan) es)) there),
      left_told c.args.plan es c.args.offices.items c.args.sent.items c.args.order.now c.requires.1,
    )

pub returns : goal.returns
returns c es left =
    let legal = subst (λ (l : List Site). (a : ℕ) (s : Site) → a < length l → s ≡ get_or l a s → IsLegal s) c.deref.ensures.value c.are_legal.ensures in
    let tells = c.each_office_is_told.ensures c.args.plan es c.offices.ensures.consistent in
    let told = in_order c.args.plan es c.args.offices.items (frames_in c.args.plan c.args.offices.items c.args.sent.items) c.args.order.now c.sessions_go_in_order.ensures (left_with c.args.plan es c.args.offices.items c.args.sent.items c.args.order.now left) legal tells in
    let there = subst (λ (l : List Site). TellInOrder l (outcomes (run_of (opening c.args.plan) es)) c.args.order.now) (sym c.deref-2.ensures.value) told in
    left_is c.args.plan es c.args.offices.items (frames_in c.args.plan c.args.offices.items c.args.sent.items) c.args.order.now c.sessions_go_in_order.ensures (left_with c.args.plan es c.args.offices.items c.args.sent.items c.args.order.now left) legal c.in_ok-finished.finished.items (c.in_ok-finished.ensures (outcomes (run_of (opening c.args.plan) es)) there)
