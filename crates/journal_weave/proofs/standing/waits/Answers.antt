use Rattle.std.proofs.Common.{get_or, sym, ap, ◌∙◌}
use Rattle.journal_weave.proofs.Naming.{waits_not, waits_so}
use Rattle.journal_weave.proofs.standing.waits.Goals as goal

pub returns-in-Some : goal.returns-in-Some
returns-in-Some c =
    waits_so c.args.replays.now c.args.merge.now.at.items c.args.a c.index-replays-index.result c.requires.office (c.index-replays-index.is ∙ ap (λ n. get_or c.args.replays.now n c.index-replays-index.result) c.index.ensures) c.done.result c.done.ensures.count c.in-Some.frame c.may_come.result (sym c.taken_next.ensures ∙ c.in-Some.is)
    c.may_come.ensures

pub returns-in-None : goal.returns-in-None
returns-in-None c =
    waits_not c.args.replays.now c.args.merge.now.at.items c.args.a c.index-replays-index.result c.requires.office (c.index-replays-index.is ∙ ap (λ n. get_or c.args.replays.now n c.index-replays-index.result) c.index.ensures) c.done.result c.done.ensures.count (sym c.taken_next.ensures ∙ c.in-None.is)
