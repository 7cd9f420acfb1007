use Rattle.std.proofs.Common.{◌≡◌, ◌++◌, map, get_or, refl, sym, subst}
use Rattle.std.proofs.lemmas.Result.{on_ok_weaker}
use Rattle.office_journal.specs.declared.event.Event.TheVariants as event
use Rattle.office_journal.specs.declared.rule.Rule.TheVariants as rule
use Rattle.office_journal.specs.declared.reply.Reply.{Reply}
use Rattle.site_core.specs.Journals.{Site}
use Rattle.frame_world.specs.declared.event.WorldEvent.TheVariants as happening
use Rattle.frame_world.specs.Worlds.{OrMemory, handed, silent}
use Rattle.world_schedule.specs.Readers.{listed_as}
use Rattle.world_schedule.specs.refinement.WorldOfCode.{finishes, world_in, frames_in}
use Rattle.world_schedule.proofs.WorldSteps.{applies, stays}
use Rattle.world_schedule.proofs.EventSteps.{beside_finish, beside_rule, of_ok, of_err}
use Rattle.world_schedule.proofs.SentEntries.{world_stays, answer_stays}
use Rattle.world_schedule.proofs.world.World.act.Goals as goal

pub invariant_of-self : goal.invariant_of-self
invariant_of-self c =
    let w = c.self.inside in
    let fs = frames_in w.plan w.offices.items w.sent.items in
    let marks' = c.finish.new.finished.items in
    world_stays w.plan w.offices.items c.args.at (event.Do rule.Finish) c.finish.result c.finish.new.offices.items w.sent.items marks' c.finish.ensures.office c.self.invariant.1
    (stays w.plan w.offices.items c.finish.new.offices.items fs fs w.finished.items marks' c.args.at (event.Do rule.Finish) c.finish.result (happening.Do c.args.at rule.Finish) c.self.invariant.0 c.finish.ensures.office
    (beside_finish w.plan w.offices.items c.args.at c.finish.result c.finish.new.offices.items fs w.finished.items marks' c.sessions_go_in_order.ensures (λ lt. (c.self.invariant.0.each c.args.at lt).2)
    (of_ok (λ (r : Reply). marks' ≡ w.finished.items ++ map listed_as (finishes (get_or w.offices.items c.args.at (silent w.plan c.args.at)) (event.Do rule.Finish))) c.finish.result
    (on_ok_weaker c.finish.result (λ (h : (d : Site) → marks' ≡ w.finished.items ++ map listed_as (finishes (get_or w.offices.items c.args.at d) (event.Do rule.Finish))). h (silent w.plan c.args.at)) c.finish.ensures.listed))
    (of_err (marks' ≡ w.finished.items) c.finish.result c.finish.ensures.unlisted)) refl)

pub returns-in-Finish : goal.returns-in-Finish
returns-in-Finish c =
    let w = c.self.inside in
    let fs = frames_in w.plan w.offices.items w.sent.items in
    let marks' = c.finish.new.finished.items in
    answer_stays w.plan w.offices.items c.args.at (event.Do rule.Finish) c.finish.result c.finish.new.offices.items w.sent.items marks' c.args.self.now (handed c.args.self.now c.args.at (event.Do c.args.rule.now)) c.finish.ensures.office c.self.invariant.1
    (subst (λ x. OrMemory c.args.self.now (handed c.args.self.now c.args.at (event.Do x)) c.finish.result (world_in w.plan c.finish.new.offices.items fs marks')) (sym c.in-Finish.is)
    (subst (λ x. OrMemory x (handed x c.args.at (event.Do rule.Finish)) c.finish.result (world_in w.plan c.finish.new.offices.items fs marks')) c.self.view_is
    (applies w.plan w.offices.items c.finish.new.offices.items fs fs w.finished.items marks' c.args.at (event.Do rule.Finish) c.finish.result c.self.invariant.0 c.finish.ensures.office
    (beside_finish w.plan w.offices.items c.args.at c.finish.result c.finish.new.offices.items fs w.finished.items marks' c.sessions_go_in_order.ensures (λ lt. (c.self.invariant.0.each c.args.at lt).2)
    (of_ok (λ (r : Reply). marks' ≡ w.finished.items ++ map listed_as (finishes (get_or w.offices.items c.args.at (silent w.plan c.args.at)) (event.Do rule.Finish))) c.finish.result
    (on_ok_weaker c.finish.result (λ (h : (d : Site) → marks' ≡ w.finished.items ++ map listed_as (finishes (get_or w.offices.items c.args.at d) (event.Do rule.Finish))). h (silent w.plan c.args.at)) c.finish.ensures.listed))
    (of_err (marks' ≡ w.finished.items) c.finish.result c.finish.ensures.unlisted)))))

pub invariant_of-self-2 : goal.invariant_of-self-2
invariant_of-self-2 c =
    let w = c.self.inside in
    let fs = frames_in w.plan w.offices.items w.sent.items in
    let e = event.Do c.args.rule.now in
    world_stays w.plan w.offices.items c.args.at e c.act.result c.act.new.offices.items w.sent.items w.finished.items c.act.ensures c.self.invariant.1
    (stays w.plan w.offices.items c.act.new.offices.items fs fs w.finished.items w.finished.items c.args.at e c.act.result (happening.Do c.args.at c.args.rule.now) c.self.invariant.0 c.act.ensures
    (beside_rule w.plan w.offices.items c.args.at c.args.rule.now c.act.result c.act.new.offices.items fs w.finished.items c.in_default.not-Finish) refl)

pub returns : goal.returns
returns c =
    let w = c.self.inside in
    let fs = frames_in w.plan w.offices.items w.sent.items in
    let e = event.Do c.args.rule.now in
    answer_stays w.plan w.offices.items c.args.at e c.act.result c.act.new.offices.items w.sent.items w.finished.items c.args.self.now (handed c.args.self.now c.args.at e) c.act.ensures c.self.invariant.1
    (subst (λ x. OrMemory x (handed x c.args.at e) c.act.result (world_in w.plan c.act.new.offices.items fs w.finished.items)) c.self.view_is
    (applies w.plan w.offices.items c.act.new.offices.items fs fs w.finished.items w.finished.items c.args.at e c.act.result c.self.invariant.0 c.act.ensures
    (beside_rule w.plan w.offices.items c.args.at c.args.rule.now c.act.result c.act.new.offices.items fs w.finished.items c.in_default.not-Finish)))
