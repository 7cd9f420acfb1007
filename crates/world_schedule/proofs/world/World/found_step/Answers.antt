use Rattle.std.proofs.Common.{◌≡◌, sym, subst, ◌∙◌}
use Rattle.frame_world.specs.Worlds.{World}
use Rattle.frame_world.specs.Standstill.{next_step, IsStep}
use Rattle.world_schedule.specs.Readers.{unfinished_in}
use Rattle.world_schedule.specs.refinement.WorldOfCode.{frames_in}
use Rattle.world_schedule.proofs.Headline.{of_world}
use Rattle.world_schedule.proofs.NextSteps.{all_finished, a_rule_is_next, a_message_is_next}
use Rattle.world_schedule.proofs.world.World.found_step.Goals as goal

abbrev Stands : World → Type 0
Stands v = IsStep v (next_step v)

pub returns-then-unfinished-eq0-clause-step : goal.returns-then-unfinished-eq0-clause-step
returns-then-unfinished-eq0-clause-step c =
    let v = c.args.self.now in
    let none : unfinished_in v ≡ 0 = sym c.unfinished.ensures ∙ c.if-unfinished-eq0.true in
    sym (all_finished v none)

pub returns-then-unfinished-eq0-clause-stands : goal.returns-then-unfinished-eq0-clause-stands
returns-then-unfinished-eq0-clause-stands c =
    let v = c.args.self.now in
    let w = c.self.inside in
    let none : unfinished_in v ≡ 0 = sym c.unfinished.ensures ∙ c.if-unfinished-eq0.true in
    let law = of_world Stands w.plan w.offices.items (frames_in w.plan w.offices.items w.sent.items) w.finished.items v c.self.invariant.0 c.self.view_is (λ es. c.never_stuck.ensures w.plan es c.self.invariant.0.accepted) in
    subst (IsStep v) (all_finished v none) law

pub returns-in-Some-clause-step : goal.returns-in-Some-clause-step
returns-in-Some-clause-step c =
    let v = c.args.self.now in
    sym (a_rule_is_next v c.in-Some.rule (λ h. c.if-unfinished-eq0.false (c.unfinished.ensures ∙ h)) (sym c.next_of.ensures.step ∙ c.in-Some.is))

pub returns-in-Some-clause-stands : goal.returns-in-Some-clause-stands
returns-in-Some-clause-stands c =
    let v = c.args.self.now in
    let w = c.self.inside in
    let is = a_rule_is_next v c.in-Some.rule (λ h. c.if-unfinished-eq0.false (c.unfinished.ensures ∙ h)) (sym c.next_of.ensures.step ∙ c.in-Some.is) in
    let law = of_world Stands w.plan w.offices.items (frames_in w.plan w.offices.items w.sent.items) w.finished.items v c.self.invariant.0 c.self.view_is (λ es. c.never_stuck.ensures w.plan es c.self.invariant.0.accepted) in
    subst (IsStep v) is law

pub returns-clause-step : goal.returns-clause-step
returns-clause-step c =
    let v = c.args.self.now in
    c.unwrap_or.ensures ∙ sym (a_message_is_next v c.next_of-2.result (λ h. c.if-unfinished-eq0.false (c.unfinished.ensures ∙ h)) (sym c.next_of.ensures.step ∙ c.in_default.is) c.next_of-2.ensures.step)

pub returns-clause-stands : goal.returns-clause-stands
returns-clause-stands c =
    let v = c.args.self.now in
    let w = c.self.inside in
    let is = c.unwrap_or.ensures ∙ sym (a_message_is_next v c.next_of-2.result (λ h. c.if-unfinished-eq0.false (c.unfinished.ensures ∙ h)) (sym c.next_of.ensures.step ∙ c.in_default.is) c.next_of-2.ensures.step) in
    let law = of_world Stands w.plan w.offices.items (frames_in w.plan w.offices.items w.sent.items) w.finished.items v c.self.invariant.0 c.self.view_is (λ es. c.never_stuck.ensures w.plan es c.self.invariant.0.accepted) in
    subst (IsStep v) (sym is) law
