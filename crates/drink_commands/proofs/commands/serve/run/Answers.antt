use Rattle.std.specs.Option.{option_copied}
use Rattle.std.specs.Prelude.{option_map}
use Rattle.datagram_seals.specs.sockets.Sealed.{IsToldUnder}
use Rattle.std.proofs.Common.{◌≡◌, codes, IfSome, refl, rules}
use Rattle.std.proofs.lemmas.Result.{err_from_is_err_and}
use Rattle.command_outputs.specs.Places.{IsAnInput}
use Rattle.command_outputs.specs.declared.fault.Fault.TheVariants.{Text}
use Rattle.command_outputs.specs.secrets.Files.{RefusesSecrets}
use Rattle.serving.specs.declared.fault.ServeFault.{ServeFault}
use Rattle.drink_commands.specs.Texts.{nothing}
use Rattle.drink_commands.specs.Sealed.{IsUnderSeals}
use Rattle.drink_commands.specs.Served.{IsCutOff, IsNotFoundIn, RefusesFound, ServesOffice}
use Rattle.drink_commands.proofs.Faults.{RefusesWord}
use Rattle.drink_commands.proofs.OfServing.{at_end, at_office, at_place, at_plan, at_secrets, at_unbegun, is_end, judged, not_found, of_plan, of_rest, of_store, of_word, writes}
use Rattle.drink_commands.proofs.Running.{err_more, ok_more}
use Rattle.drink_commands.proofs.OfSeals.{served_as, under_seals}
use Rattle.drink_commands.proofs.Storing.{is_place, is_secrets, is_unbegun}
use Rattle.drink_commands.proofs.commands.serve.run.Goals as goal

-- ---- what a fault says

pub returns-in_err-plan-clause-judged : goal.returns-in_err-plan-clause-judged
returns-in_err-plan-clause-judged g c =
    let e = err_from_is_err_and c.from_residual.result c.from_residual.ensures.1 in
    let files = g.S.Sources.file_text c.args.sources.now in
    rw (e.1, e.2)
    (judged files c.args.office.now (g.S.Sources.standard_text c.args.sources.now) c.new-standard.result c.args.plan.now (Text c.in_err-plan.field-0.0) (search rules)
    (of_plan files c.args.office.now c.new-standard.result c.args.plan.now (Text c.in_err-plan.field-0.0) c.in_err-plan.ensures.fault))

pub returns-in_err-me-clause-judged : goal.returns-in_err-me-clause-judged
returns-in_err-me-clause-judged g c =
    let e = err_from_is_err_and c.from_residual-in_err-me.result c.from_residual-in_err-me.ensures.1 in
    let files = g.S.Sources.file_text c.args.sources.now in
    rw (e.1, e.2)
    (judged files c.args.office.now (g.S.Sources.standard_text c.args.sources.now) c.new-standard.result c.args.plan.now c.in_err-me.field-0.0 (search rules)
    (of_word files c.args.office.now c.new-standard.result c.read_plan.new.standard c.args.plan.now c.in_ok-plan.plan c.in_err-me.field-0.0 c.in_ok-plan.ensures.meaning c.in_err-me.ensures.fault))

pub returns-in_err-secrets-clause-judged : goal.returns-in_err-secrets-clause-judged
returns-in_err-secrets-clause-judged g c =
    let e = err_from_is_err_and c.from_residual-in_err-secrets.result c.from_residual-in_err-secrets.ensures.1 in
    let files = g.S.Sources.file_text c.args.sources.now in
    rw (e.1, e.2)
    (judged files c.args.office.now (g.S.Sources.standard_text c.args.sources.now) c.new-standard.result c.args.plan.now c.in_err-secrets.field-0.0 (search rules)
    (of_rest files c.args.office.now c.new-standard.result c.read_plan.new.standard c.args.plan.now c.in_ok-plan.plan c.in_ok-me.me c.in_err-secrets.field-0.0 c.in_ok-plan.ensures.meaning c.in_ok-me.ensures.office c.in_ok-me.ensures.reached
    (of_store c.in_err-secrets.field-0.0 (is_secrets (λ why. IfSome (option_copied c.args.secrets) (λ name. RefusesSecrets (files name) c.in_ok-plan.plan c.in_ok-me.me why)) c.in_err-secrets.field-0.0 c.in_err-secrets.ensures.fault))))

pub returns-in_err-refuse_input-clause-judged : goal.returns-in_err-refuse_input-clause-judged
returns-in_err-refuse_input-clause-judged g c =
    let e = err_from_is_err_and c.from_residual-in_err-refuse_input.result c.from_residual-in_err-refuse_input.ensures.1 in
    let files = g.S.Sources.file_text c.args.sources.now in
    rw (e.1, e.2)
    (judged files c.args.office.now (g.S.Sources.standard_text c.args.sources.now) c.new-standard.result c.args.plan.now c.in_err-refuse_input.field-0.0 (search rules)
    (of_rest files c.args.office.now c.new-standard.result c.read_plan.new.standard c.args.plan.now c.in_ok-plan.plan c.in_ok-me.me c.in_err-refuse_input.field-0.0 c.in_ok-plan.ensures.meaning c.in_ok-me.ensures.office c.in_ok-me.ensures.reached
    (of_store c.in_err-refuse_input.field-0.0 (is_place (IsAnInput files c.args.plan.now (codes "-") c.args.store.now) c.in_err-refuse_input.field-0.0 c.in_err-refuse_input.ensures.fault))))

pub returns-in_err-served-clause-judged : goal.returns-in_err-served-clause-judged
returns-in_err-served-clause-judged g c =
    let e = err_from_is_err_and c.from_residual-in_err-served.result c.from_residual-in_err-served.ensures.1 in
    let files = g.S.Sources.file_text c.args.sources.now in
    rw (e.1, e.2)
    (judged files c.args.office.now (g.S.Sources.standard_text c.args.sources.now) c.new-standard.result c.args.plan.now c.in_err-served.field-0.0 (search rules)
    (of_rest files c.args.office.now c.new-standard.result c.read_plan.new.standard c.args.plan.now c.in_ok-plan.plan c.in_ok-me.me c.in_err-served.field-0.0 c.in_ok-plan.ensures.meaning c.in_ok-me.ensures.office c.in_ok-me.ensures.reached
    (of_store c.in_err-served.field-0.0 (is_unbegun _ c.args.is_new (IsNotFoundIn (g.K.Stores.has c.args.stores.now c.args.store.now) c.args.is_new c.in_ok-plan.plan c.in_ok-me.me) c.in_err-served.field-0.0 c.in_err-served.ensures.fault))))

pub returns-clause-judged : goal.returns-clause-judged
returns-clause-judged g c =
    let files = g.S.Sources.file_text c.args.sources.now in
    err_more c.end.result _ _ (λ f h. judged files c.args.office.now (g.S.Sources.standard_text c.args.sources.now) c.new-standard.result c.args.plan.now f (search rules)
    (of_rest files c.args.office.now c.new-standard.result c.read_plan.new.standard c.args.plan.now c.in_ok-plan.plan c.in_ok-me.me f c.in_ok-plan.ensures.meaning c.in_ok-me.ensures.office c.in_ok-me.ensures.reached
    (is_end c.in_ok-served.served f h))) c.end.ensures.cut

-- ---- what it leaves

pub returns-in_err-plan-clause-leaves : goal.returns-in_err-plan-clause-leaves
returns-in_err-plan-clause-leaves g c =
    let e = err_from_is_err_and c.from_residual.result c.from_residual.ensures.1 in
    let files = g.S.Sources.file_text c.args.sources.now in
    let standard = g.S.Sources.standard_text c.args.sources.now in
    let has = g.K.Stores.has c.args.stores.now c.args.store.now in
    let Input = IsAnInput files c.args.plan.now (codes "-") c.args.store.now in
    let Not = RefusesFound files standard has c.args.is_new c.args.plan.now c.args.office.now in
    let Stands : ServeFault → Type 0 = λ cause. ServesOffice (IsUnderSeals g.B.Socket.Wire.account files (option_copied c.args.secrets)) c.args.form g.B.Socket.Wire.tells files standard has c.args.is_new c.args.plan.now c.args.office.now c.args.store.now (g.C.Clients.asks c.args.clients.now) (IsCutOff cause) (g.W.Write.contents c.args.out.now) (g.W.Write.contents c.args.out.now) in
    rw (e.1, e.2) (at_plan _ (c.args.stores.now ≡ c.args.stores.now) Input c.args.is_new Not Stands (λ t. RefusesWord files c.new-standard.result c.args.plan.now nothing (Text t)) c.in_err-plan.field-0.0 c.in_err-plan.ensures.fault refl)

pub returns-in_err-me-clause-leaves : goal.returns-in_err-me-clause-leaves
returns-in_err-me-clause-leaves g c =
    let e = err_from_is_err_and c.from_residual-in_err-me.result c.from_residual-in_err-me.ensures.1 in
    let files = g.S.Sources.file_text c.args.sources.now in
    let standard = g.S.Sources.standard_text c.args.sources.now in
    let has = g.K.Stores.has c.args.stores.now c.args.store.now in
    let Input = IsAnInput files c.args.plan.now (codes "-") c.args.store.now in
    let Not = RefusesFound files standard has c.args.is_new c.args.plan.now c.args.office.now in
    let Stands : ServeFault → Type 0 = λ cause. ServesOffice (IsUnderSeals g.B.Socket.Wire.account files (option_copied c.args.secrets)) c.args.form g.B.Socket.Wire.tells files standard has c.args.is_new c.args.plan.now c.args.office.now c.args.store.now (g.C.Clients.asks c.args.clients.now) (IsCutOff cause) (g.W.Write.contents c.args.out.now) (g.W.Write.contents c.args.out.now) in
    rw (e.1, e.2) (at_office _ _ Input c.args.is_new Not Stands c.in_ok-plan.plan _ c.in_err-me.field-0.0 c.in_err-me.ensures.fault refl)

pub returns-in_err-secrets-clause-leaves : goal.returns-in_err-secrets-clause-leaves
returns-in_err-secrets-clause-leaves g c =
    let e = err_from_is_err_and c.from_residual-in_err-secrets.result c.from_residual-in_err-secrets.ensures.1 in
    let files = g.S.Sources.file_text c.args.sources.now in
    let standard = g.S.Sources.standard_text c.args.sources.now in
    let has = g.K.Stores.has c.args.stores.now c.args.store.now in
    let Input = IsAnInput files c.args.plan.now (codes "-") c.args.store.now in
    let Not = RefusesFound files standard has c.args.is_new c.args.plan.now c.args.office.now in
    let Stands : ServeFault → Type 0 = λ cause. ServesOffice (IsUnderSeals g.B.Socket.Wire.account files (option_copied c.args.secrets)) c.args.form g.B.Socket.Wire.tells files standard has c.args.is_new c.args.plan.now c.args.office.now c.args.store.now (g.C.Clients.asks c.args.clients.now) (IsCutOff cause) (g.W.Write.contents c.args.out.now) (g.W.Write.contents c.args.out.now) in
    rw (e.1, e.2) (at_secrets _ _ Input c.args.is_new Not Stands (λ why. IfSome (option_copied c.args.secrets) (λ name. RefusesSecrets (files name) c.in_ok-plan.plan c.in_ok-me.me why)) c.in_err-secrets.field-0.0 c.in_err-secrets.ensures.fault refl)

pub returns-in_err-refuse_input-clause-leaves : goal.returns-in_err-refuse_input-clause-leaves
returns-in_err-refuse_input-clause-leaves g c =
    let e = err_from_is_err_and c.from_residual-in_err-refuse_input.result c.from_residual-in_err-refuse_input.ensures.1 in
    let files = g.S.Sources.file_text c.args.sources.now in
    let standard = g.S.Sources.standard_text c.args.sources.now in
    let has = g.K.Stores.has c.args.stores.now c.args.store.now in
    let Input = IsAnInput files c.args.plan.now (codes "-") c.args.store.now in
    let Not = RefusesFound files standard has c.args.is_new c.args.plan.now c.args.office.now in
    let Stands : ServeFault → Type 0 = λ cause. ServesOffice (IsUnderSeals g.B.Socket.Wire.account files (option_copied c.args.secrets)) c.args.form g.B.Socket.Wire.tells files standard has c.args.is_new c.args.plan.now c.args.office.now c.args.store.now (g.C.Clients.asks c.args.clients.now) (IsCutOff cause) (g.W.Write.contents c.args.out.now) (g.W.Write.contents c.args.out.now) in
    rw (e.1, e.2) (at_place _ _ Input c.args.is_new Not Stands c.in_err-refuse_input.field-0.0 c.in_err-refuse_input.ensures.fault refl refl)

pub returns-in_err-served-clause-leaves : goal.returns-in_err-served-clause-leaves
returns-in_err-served-clause-leaves g c =
    let e = err_from_is_err_and c.from_residual-in_err-served.result c.from_residual-in_err-served.ensures.1 in
    let files = g.S.Sources.file_text c.args.sources.now in
    let standard = g.S.Sources.standard_text c.args.sources.now in
    let has = g.K.Stores.has c.args.stores.now c.args.store.now in
    let Input = IsAnInput files c.args.plan.now (codes "-") c.args.store.now in
    let Not = RefusesFound files standard has c.args.is_new c.args.plan.now c.args.office.now in
    let Stands : ServeFault → Type 0 = λ cause. ServesOffice (IsUnderSeals g.B.Socket.Wire.account files (option_copied c.args.secrets)) c.args.form g.B.Socket.Wire.tells files standard has c.args.is_new c.args.plan.now c.args.office.now c.args.store.now (g.C.Clients.asks c.args.clients.now) (IsCutOff cause) (g.W.Write.contents c.args.out.now) (g.W.Write.contents c.go_on.new.out) in
    rw (e.1, e.2) (at_unbegun _ _ Input c.args.is_new Not Stands (IsNotFoundIn has c.args.is_new c.in_ok-plan.plan c.in_ok-me.me)
    (not_found files standard c.new-standard.result c.read_plan.new.standard c.args.plan.now c.args.office.now c.in_ok-plan.plan c.in_ok-me.me (search rules) c.in_ok-plan.ensures.meaning c.in_ok-me.ensures.office has c.args.is_new)
    c.in_err-served.field-0.0 c.in_err-served.ensures.fault c.in_err-served.ensures.unwritten)

pub returns-clause-leaves : goal.returns-clause-leaves
returns-clause-leaves g c =
    let files = g.S.Sources.file_text c.args.sources.now in
    let standard = g.S.Sources.standard_text c.args.sources.now in
    let has = g.K.Stores.has c.args.stores.now c.args.store.now in
    let asks = g.C.Clients.asks c.args.clients.now in
    let account = g.B.Socket.Wire.account in
    let lent = option_copied c.lent.result in
    let Is = IsUnderSeals account files (option_copied c.args.secrets) in
    let served = served_as (IsToldUnder account lent) (Is c.in_ok-plan.plan c.in_ok-me.me)
    (under_seals account files (option_copied c.args.secrets) c.in_ok-plan.plan c.in_ok-me.me (option_map (λ v. v.items) c.in_ok-secrets.secrets) lent c.in_ok-secrets.ensures.are c.lent.ensures)
    c.args.form g.B.Socket.Wire.tells has c.args.is_new c.in_ok-plan.plan c.in_ok-me.me asks c.in_ok-served.served (g.W.Write.contents c.args.out.now) (g.W.Write.contents c.go_on.new.out) c.in_ok-served.ensures.served in
    let Input = IsAnInput files c.args.plan.now (codes "-") c.args.store.now in
    let Not = RefusesFound files standard has c.args.is_new c.args.plan.now c.args.office.now in
    let Stands : ServeFault → Type 0 = λ cause. ServesOffice (IsUnderSeals g.B.Socket.Wire.account files (option_copied c.args.secrets)) c.args.form g.B.Socket.Wire.tells files standard has c.args.is_new c.args.plan.now c.args.office.now c.args.store.now asks (IsCutOff cause) (g.W.Write.contents c.args.out.now) (g.W.Write.contents c.go_on.new.out) in
    err_more c.end.result _ _ (λ f h. at_end _ _ Input c.args.is_new Not Stands c.in_ok-served.served f h (λ cause by. (
      c.in_ok-refuse_input.ensures.no_plan,
      λ a_text known. (
        c.in_ok-served.served,
        by,
        writes files standard c.new-standard.result c.read_plan.new.standard c.args.plan.now c.args.office.now c.in_ok-plan.plan c.in_ok-me.me (search rules) c.in_ok-plan.ensures.meaning c.in_ok-me.ensures.office
            Is c.args.form g.B.Socket.Wire.tells has c.args.is_new asks c.in_ok-served.served _ _ c.in_ok-me.ensures.reached served a_text known,
      ),
    ))) c.end.ensures.cut

-- ---- what was done

pub returns-clause-serves : goal.returns-clause-serves
returns-clause-serves g c =
    let files = g.S.Sources.file_text c.args.sources.now in
    let standard = g.S.Sources.standard_text c.args.sources.now in
    let has = g.K.Stores.has c.args.stores.now c.args.store.now in
    let asks = g.C.Clients.asks c.args.clients.now in
    let account = g.B.Socket.Wire.account in
    let lent = option_copied c.lent.result in
    let Is = IsUnderSeals account files (option_copied c.args.secrets) in
    let served = served_as (IsToldUnder account lent) (Is c.in_ok-plan.plan c.in_ok-me.me)
    (under_seals account files (option_copied c.args.secrets) c.in_ok-plan.plan c.in_ok-me.me (option_map (λ v. v.items) c.in_ok-secrets.secrets) lent c.in_ok-secrets.ensures.are c.lent.ensures)
    c.args.form g.B.Socket.Wire.tells has c.args.is_new c.in_ok-plan.plan c.in_ok-me.me asks c.in_ok-served.served (g.W.Write.contents c.args.out.now) (g.W.Write.contents c.go_on.new.out) c.in_ok-served.ensures.served in
    ok_more c.end.result _ _ (λ status h. (
      c.in_ok-refuse_input.ensures.no_plan,
      λ a_text known. (
        c.in_ok-served.served,
        h.1,
        writes files standard c.new-standard.result c.read_plan.new.standard c.args.plan.now c.args.office.now c.in_ok-plan.plan c.in_ok-me.me (search rules) c.in_ok-plan.ensures.meaning c.in_ok-me.ensures.office
            Is c.args.form g.B.Socket.Wire.tells has c.args.is_new asks c.in_ok-served.served _ _ c.in_ok-me.ensures.reached served a_text known,
      ),
    )) c.end.ensures.done

pub returns-clause-status : goal.returns-clause-status
returns-clause-status g c = ok_more c.end.result _ _ (λ status h. h.0) c.end.ensures.done
