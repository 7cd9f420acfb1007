use Rattle.std.proofs.Common.{true, false, not, length, sym, ap, subst, ◌∙◌}
use Rattle.journal_weave.specs.Replays.{IsReplay}
use Rattle.journal_weave.proofs.Replaying.{broke_off, was_broken}
use Rattle.journal_weave.proofs.replay.Replay.end.Goals as goal

pub returns-then-is_none : goal.returns-then-is_none
returns-then-is_none c plan a entries h =
    let r = c.self.inside in
    broke_off plan a entries r.office r.stop c.len-given.result (c.is_none.ensures ∙ ap not c.if-is_none.true) (c.len-given.ensures ∙ ap length c.journal.ensures.entries) (subst (IsReplay plan a entries true) (sym c.self.view_is) h)

pub returns-else-is_none : goal.returns-else-is_none
returns-else-is_none c plan a entries h =
    let r = c.self.inside in
    subst (IsReplay plan a entries false) c.self.view_is (was_broken plan a entries r.office r.stop (c.is_none.ensures ∙ ap not c.if-is_none.false) (subst (IsReplay plan a entries true) (sym c.self.view_is) h))
