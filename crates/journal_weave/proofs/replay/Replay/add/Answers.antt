use Rattle.std.proofs.Common.{true, ◌++◌, ◌∷◌, [], length, sym, ap, subst, ◌∙◌}
use Rattle.journal_weave.specs.Replays.{IsReplay}
use Rattle.journal_weave.proofs.Replaying.{stopped_before, gave, gave_not}
use Rattle.journal_weave.proofs.replay.Replay.add.Goals as goal

pub returns-then-is_some : goal.returns-then-is_some
returns-then-is_some c plan a entries h =
    let r = c.self.inside in
    let x = c.args.entry.now in
    subst (IsReplay plan a (entries ++ x ∷ []) true) c.self.view_is (stopped_before plan a entries x r.office r.stop (sym c.is_some.ensures ∙ c.if-is_some.true) (subst (IsReplay plan a entries true) (sym c.self.view_is) h))

pub returns-then-branch : goal.returns-then-branch
returns-then-branch c plan a entries h =
    let r = c.self.inside in
    gave plan a entries c.args.entry.now r.office c.gives.new.office r.stop (sym c.is_some.ensures ∙ c.if-is_some.false) (c.in_ok-gives.ensures.given c.if-branch.true) (subst (IsReplay plan a entries true) (sym c.self.view_is) h)

pub returns : goal.returns
returns c plan a entries h =
    let r = c.self.inside in
    gave_not plan a entries c.args.entry.now r.office c.gives.new.office r.stop c.len-given.result c.taken_by.result (sym c.is_some.ensures ∙ c.if-is_some.false) (c.in_ok-gives.ensures.other c.if-branch.false) c.in_ok-gives.ensures.kept
    (c.len-given.ensures ∙ ap length c.journal.ensures.entries) c.taken_by.ensures.takes c.taken_by.ensures.none (subst (IsReplay plan a entries true) (sym c.self.view_is) h)
