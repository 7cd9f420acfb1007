use Rattle.std.proofs.Common.{◌≡◌, ◌<◌, length, get_or, slice_get, refl, ap, ◌∙◌, arith}
use Rattle.journal_weave.proofs.SentFrames.{nobody_tells, tells}
use Rattle.journal_weave.proofs.sent.told_at.Goals as goal

pub returns-then-a-replays : goal.returns-then-a-replays
returns-then-a-replays c = nobody_tells c.args.replays.now c.args.sent (omega (arith, c.if-a-replays.true, c.index-a.ensures))

pub returns : goal.returns
returns c =
    let rs = c.args.replays.now in
    let r = c.index-replays-a.result in
    let lt : c.args.sent.office < length rs = omega (arith, c.if-a-replays.false, c.index-a.ensures) in
    c.frame_told.ensures ∙ tells rs c.args.sent r (slice_get r.site.entries c.args.sent.entry) lt (c.index-replays-a.is ∙ ap (λ n. get_or rs n r) c.index-a.ensures) refl
