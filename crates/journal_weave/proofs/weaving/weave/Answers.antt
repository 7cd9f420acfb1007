use Rattle.std.proofs.Common.{None, Some, inr, subst}
use Rattle.journal_weave.specs.contracts.key.FrameKeyOrd.TheImpl.{cmp-value}
use Rattle.journal_weave.specs.Given.{told_in, IsWovenFrom}
use Rattle.journal_weave.specs.refinement.Merging.{IsAtEnd}
use Rattle.journal_weave.specs.refinement.Standing.{IsFirstLeft}
use Rattle.frame_world.specs.Worlds.{opening, run_of}
use Rattle.journal_weave.proofs.Ends.{is_woven, is_left, is_never}
use Rattle.journal_weave.proofs.SentFrames.{are_one}
use Rattle.journal_weave.proofs.weaving.weave.Goals as goal

pub returns-in-Some : goal.returns-in-Some
returns-in-Some c =
    let plan = c.args.plan.now in
    let js = c.args.journals.now in
    let rs = c.in_ok-replays.replays.items in
    let m = c.in_ok-merge.merge in
    let es = c.scheduled.new.schedule.items in
    let are = c.in_ok-replays.ensures in
    let end = subst (λ l. IsAtEnd cmp-value.it l plan m es) c.deref.ensures.value c.in_ok-merge.ensures.end in
    let left : IsFirstLeft rs m.at.items (Some c.in-Some.left) = subst (λ o. IsFirstLeft rs m.at.items o) c.in-Some.is (subst (λ l. IsFirstLeft l m.at.items c.first_left.result) c.deref-2.ensures.value c.first_left.ensures) in
    record {
      woven = tt;
      sessions = tt;
      bottles = tt;
      unwoven = is_left _ plan js rs m es are end c.none_goes_further.ensures (are_one (run_of (opening plan) es) (c.numbers_tell_messages.ensures plan es c.offices.ensures.consistent)) c.in-Some.left.0 c.in-Some.left.1 left;
      never = inr (is_never _ plan js rs m es are end c.none_goes_further.ensures (are_one (run_of (opening plan) es) (c.numbers_tell_messages.ensures plan es c.offices.ensures.consistent)) c.in-Some.left.0 c.in-Some.left.1 left);
    }

pub schedule_is_woven : (c : goal.After-drop-replays-2) → IsWovenFrom c.args.plan.now c.args.journals.now c.scheduled.new.schedule.items
schedule_is_woven c =
    let plan = c.args.plan.now in
    let js = c.args.journals.now in
    let rs = c.in_ok-replays.replays.items in
    let m = c.in_ok-merge.merge in
    let es = c.scheduled.new.schedule.items in
    let end = subst (λ l. IsAtEnd cmp-value.it l plan m es) c.deref.ensures.value c.in_ok-merge.ensures.end in
    let none : IsFirstLeft rs m.at.items None = subst (λ o. IsFirstLeft rs m.at.items o) c.in-None.is (subst (λ l. IsFirstLeft l m.at.items c.first_left.result) c.deref-2.ensures.value c.first_left.ensures) in
    is_woven _ plan js rs m es c.in_ok-replays.ensures end none

pub returns-clause-woven : goal.returns-clause-woven
returns-clause-woven c = schedule_is_woven c

pub returns-clause-sessions : goal.returns-clause-sessions
returns-clause-sessions c = (c.woven_is_serial.ensures c.args.plan.now (told_in c.args.journals.now) c.scheduled.new.schedule.items c.offices.ensures.consistent (schedule_is_woven c).woven).0

pub returns-clause-bottles : goal.returns-clause-bottles
returns-clause-bottles c = (c.woven_is_serial.ensures c.args.plan.now (told_in c.args.journals.now) c.scheduled.new.schedule.items c.offices.ensures.consistent (schedule_is_woven c).woven).1
