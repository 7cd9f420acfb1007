use Rattle.datagram_seals.specs.sockets.Sealed.{IsToldUnder}
use Rattle.drink_commands.proofs.OfSeals.{course_as, ok_to}
use Rattle.drink_commands.proofs.commands.run.run_at.Goals as goal

pub returns-clause-ran : goal.returns-clause-ran
returns-clause-ran g c =
    ok_to c.run_office.result _ _
    (λ ran h. course_as _ (IsToldUnder g.B.Socket.Wire.account g.K.Secrets.secrets) (λ a x. (x.0.wire.wire, x.0.wire.failures, x.1)) c.args.form g.B.Socket.Wire.tells c.args.plan.now c.args.me c.args.programs.now c.args.turns c.args.journals ran h) c.run_office.ensures.ran
