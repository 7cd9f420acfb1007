use Rattle.std.proofs.Common.{List, true, false, subst}
use Rattle.office_journal.specs.declared.event.Entry.{Entry}
use Rattle.journal_weave.specs.Replays.{IsReplay}
use Rattle.journal_weave.specs.ReplayValue.{ReplayValue}
use Rattle.journal_weave.proofs.Replaying.{ends_so}
use Rattle.journal_weave.proofs.replay.replayed.Goals as goal

pub returns-then-journal : goal.returns-then-journal
returns-then-journal c =
    let plan = c.args.plan.now in
    let es : List Entry = c.args.journal.now.entries.items in
    let r : ReplayValue = c.follow.new.replay in
    let followed : IsReplay plan c.args.me es true r = subst (λ l. IsReplay plan c.args.me l true r) c.deref.ensures.value (c.in_ok-follow.ensures plan c.args.me c.in_ok-replay.ensures) in
    ends_so plan c.args.me es c.args.journal.now.ends true r c.if-journal.true followed

pub returns : goal.returns
returns c =
    let plan = c.args.plan.now in
    let es : List Entry = c.args.journal.now.entries.items in
    let r : ReplayValue = c.follow.new.replay in
    let followed : IsReplay plan c.args.me es true r = subst (λ l. IsReplay plan c.args.me l true r) c.deref.ensures.value (c.in_ok-follow.ensures plan c.args.me c.in_ok-replay.ensures) in
    ends_so plan c.args.me es c.args.journal.now.ends false c.end.new.self c.if-journal.false (c.end.ensures plan c.args.me es followed)
