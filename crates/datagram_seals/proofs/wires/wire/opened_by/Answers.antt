use Rattle.std.proofs.Common.{sym, ap, ◌∙◌}
use Rattle.std.specs.Option.{option_copied}
use Rattle.datagram_seals.specs.wires.SealedWires.{opened_by}
use Rattle.datagram_seals.proofs.wires_lemmas.Accounts.{opened_is}
use Rattle.datagram_seals.proofs.wires.wire.opened_by.Goals as goal

pub returns-in-Some-open-clause-frame : goal.returns-in-Some-open-clause-frame
returns-in-Some-open-clause-frame c =
    opened_is c.in-Some.secret.now c.args.datagram.now c.in-Some-open.frame.now c.in-Some-open.ensures.opened ∙ ap (λ o. opened_by (option_copied o) c.args.datagram.now) (sym c.in-Some.is)
