use Rattle.std.proofs.Common.{sym, ◌∙◌}
use Rattle.std.specs.Prelude.{is_none}
use Rattle.datagram_seals.specs.texts.SecretText.{secret_between}
use Rattle.datagram_seals.proofs.texts_lemmas.SharedSecrets.{first_here, first_later}
use Rattle.datagram_seals.proofs.texts.reading.first_without.Goals as goal

pub returns-then-share_nothing : goal.returns-then-share_nothing
returns-then-share_nothing c =
    first_here (λ other. is_none (secret_between c.args.keys.now c.args.office other)) c.args.others.now c.loop-other.other-index c.other-item.result c.loop-other-test.true c.other-item.is c.loop-other.invariant (sym c.share_nothing.ensures ∙ c.if-share_nothing.true)

pub loop-other-preserved : goal.loop-other-preserved
loop-other-preserved c =
    first_later (λ other. is_none (secret_between c.args.keys.now c.args.office other)) c.args.others.now c.loop-other.other-index c.other-item.result c.loop-other-test.true c.other-item.is c.loop-other.invariant (sym c.share_nothing.ensures ∙ c.if-share_nothing.false)
