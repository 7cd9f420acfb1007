use Rattle.std.proofs.Common.{length, ap, arith, ◌∙◌}
use Rattle.std.proofs.lemmas.List.{length_push}
use Rattle.journal_weave.proofs.SentFrames.{known_more}
use Rattle.journal_weave.proofs.sent.SentFrames.add.Goals as goal

pub returns : goal.returns
returns c rs told =
    known_more _ rs c.args.self.now _ c.args.frame.now _ c.of.result c.len.result c.is_in_range.ensures c.of.ensures (c.keys_are_told_apart.ensures c.args.frame.now) c.in_ok-push.ensures.items told
    (omega (arith, c.len.ensures, ap length c.in_ok-push.ensures.items ∙ length_push c.args.self.now.sent.items _)) c.in_ok-insert.ensures.updates.0
