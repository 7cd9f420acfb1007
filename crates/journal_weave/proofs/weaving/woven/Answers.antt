use Rattle.std.proofs.Common.{None, Some, inr, subst, arith}
use Rattle.journal_weave.specs.refinement.Standing.{IsFirstLeft}
use Rattle.frame_world.specs.Worlds.{opening, run_of}
use Rattle.journal_weave.proofs.Ends.{is_record, is_left, is_never}
use Rattle.journal_weave.proofs.SentFrames.{are_one}
use Rattle.journal_weave.proofs.weaving.woven.Goals as goal

pub returns-in-Some : goal.returns-in-Some
returns-in-Some c =
    let plan = c.args.plan.now in
    let rs = c.args.replays.now in
    let m = c.in_ok-merge.merge in
    let e = c.in_ok-merge.ensures.end in
    let left : IsFirstLeft rs m.at.items (Some c.in-Some.left) = subst (λ o. IsFirstLeft rs m.at.items o) c.in-Some.is c.first_left.ensures in
    record {
      woven = tt;
      unwoven = λ journals are. is_left _ plan journals rs m e.0 are e.2 c.none_goes_further.ensures (are_one (run_of (opening plan) e.0) (c.numbers_tell_messages.ensures plan e.0 c.offices.ensures.consistent)) c.in-Some.left.0 c.in-Some.left.1 left;
      never = inr (λ journals are. is_never _ plan journals rs m e.0 are e.2 c.none_goes_further.ensures (are_one (run_of (opening plan) e.0) (c.numbers_tell_messages.ensures plan e.0 c.offices.ensures.consistent)) c.in-Some.left.0 c.in-Some.left.1 left);
    }

pub first_left-requires-clause-few : goal.first_left-requires-clause-few
first_left-requires-clause-few c = omega (arith, c.requires, c.offices.ensures.count, c.offices.ensures.few)

pub returns-in-None-clause-woven : goal.returns-in-None-clause-woven
returns-in-None-clause-woven c journals are =
    let rs = c.args.replays.now in
    let m = c.in_ok-merge.merge in
    let e = c.in_ok-merge.ensures.end in
    let none : IsFirstLeft rs m.at.items None = subst (λ o. IsFirstLeft rs m.at.items o) c.in-None.is c.first_left.ensures in
    is_record _ c.args.plan.now journals rs m e.0 are e.2 none c.into_sent.result.items _ c.into_sent.ensures e.1
