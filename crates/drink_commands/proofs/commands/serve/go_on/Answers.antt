use Rattle.std.proofs.Common.{inl, inr, refl}
use Rattle.std.proofs.lemmas.Result.{err_from_is_err_and}
use Rattle.datagram_seals.specs.sockets.Sealed.{IsToldUnder}
use Rattle.drink_commands.proofs.OfSeals.{served_of}
use Rattle.drink_commands.proofs.commands.serve.go_on.Goals as goal

pub returns-in_err-station-clause-fault : goal.returns-in_err-station-clause-fault
returns-in_err-station-clause-fault g c =
    let e = err_from_is_err_and c.from_residual.result c.from_residual.ensures.1 in
    rw (e.1, e.2) (inl (c.in_err-station.field-0.0, refl))

pub returns-in_err-kept-clause-fault : goal.returns-in_err-kept-clause-fault
returns-in_err-kept-clause-fault g c =
    let e = err_from_is_err_and c.from_residual-in_err-kept.result c.from_residual-in_err-kept.ensures.1 in
    rw (e.1, e.2) (inr c.in_err-kept.ensures.fault)

pub returns-in_err-served-clause-fault : goal.returns-in_err-served-clause-fault
returns-in_err-served-clause-fault g c =
    let e = err_from_is_err_and c.from_residual-in_err-served.result c.from_residual-in_err-served.ensures.1 in
    rw (e.1, e.2) (inl (c.in_err-served.field-0.0, refl))

pub returns-clause-served : goal.returns-clause-served
returns-clause-served g c =
    served_of _ (IsToldUnder g.B.Socket.Wire.account g.X.Secrets.secrets) (λ a x. (x.0.wire.wire, x.0.wire.failures, x.1)) c.args.form g.B.Socket.Wire.tells _ c.args.wanted.now.is_new c.args.plan.now c.args.me (g.C.Clients.asks c.args.clients.now) _ c.in_ok-kept.kept _ _ _ c.in_ok-served.served _ _
    c.in_ok-kept.ensures.found c.stream.ensures c.in_ok-served.ensures.serves
