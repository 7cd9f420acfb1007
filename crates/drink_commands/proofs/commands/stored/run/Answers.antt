use Rattle.std.specs.Option.{option_copied}
use Rattle.std.specs.Prelude.{option_map}
use Rattle.datagram_seals.specs.sockets.Sealed.{IsToldUnder}
use Rattle.std.proofs.Common.{[], Some, IfSome, refl, subst, sym, ◌≤◌, rules}
use Rattle.std.proofs.lemmas.Result.{err_from_is_err_and}
use Rattle.command_outputs.specs.Fault.{IsOfStoredRun}
use Rattle.command_outputs.specs.Places.{IsAnInput}
use Rattle.command_outputs.specs.secrets.Files.{RefusesSecrets}
use Rattle.drink_commands.specs.Sealed.{IsUnderSeals}
use Rattle.drink_commands.specs.Stored.{IsEndedBy, IsNotHeld, RefusesStore, RunsStored}
use Rattle.stored_runs.specs.declared.fault.StoredFault.{StoredFault}
use Rattle.serial_command.specs.declared.reading.input.Input.TheVariants as inputs
use Rattle.command_outputs.specs.declared.fault.Fault.TheVariants.{Text}
use Rattle.drink_commands.specs.Texts.{nothing}
use Rattle.drink_commands.proofs.Faults.{at_first}
use Rattle.drink_commands.proofs.Running.{at_later, at_plan, at_word, err_more, judged, ok_more, one_at_most}
use Rattle.drink_commands.proofs.OfSeals.{under_seals, went_as}
use Rattle.drink_commands.proofs.Storing.{at_end, at_office, at_place, at_secrets, at_unbegun, is_end, is_place, is_secrets, is_unbegun, later, not_held, went_on}
use Rattle.drink_commands.proofs.commands.stored.run.Goals as goal

pub returns-in_err-plan-clause-judged : goal.returns-in_err-plan-clause-judged
returns-in_err-plan-clause-judged g c =
    let e = err_from_is_err_and c.from_residual.result c.from_residual.ensures.1 in
    rw (e.1, e.2)
    (judged IsOfStoredRun (g.S.Sources.file_text c.args.sources.now) c.args.office.now (g.S.Sources.standard_text c.args.sources.now) c.new-standard.result c.args.plan.now c.args.sessions.now (Text c.in_err-plan.field-0.0) (search rules)
    (at_plan IsOfStoredRun (g.S.Sources.file_text c.args.sources.now) c.args.office.now c.new-standard.result c.args.plan.now c.args.sessions.now (Text c.in_err-plan.field-0.0) c.in_err-plan.ensures.fault))

pub returns-in_err-me-clause-judged : goal.returns-in_err-me-clause-judged
returns-in_err-me-clause-judged g c =
    let e = err_from_is_err_and c.from_residual-in_err-me.result c.from_residual-in_err-me.ensures.1 in
    rw (e.1, e.2)
    (judged IsOfStoredRun (g.S.Sources.file_text c.args.sources.now) c.args.office.now (g.S.Sources.standard_text c.args.sources.now) c.new-standard.result c.args.plan.now c.args.sessions.now c.in_err-me.field-0.0 (search rules)
    (at_word IsOfStoredRun (g.S.Sources.file_text c.args.sources.now) c.args.office.now c.new-standard.result c.read_plan.new.standard c.args.plan.now c.args.sessions.now c.in_ok-plan.plan c.in_err-me.field-0.0 c.in_ok-plan.ensures.meaning c.in_err-me.ensures.fault))

pub returns-in_err-programs-clause-judged : goal.returns-in_err-programs-clause-judged
returns-in_err-programs-clause-judged g c =
    let e = err_from_is_err_and c.from_residual-in_err-programs.result c.from_residual-in_err-programs.ensures.1 in
    rw (e.1, e.2)
    (judged IsOfStoredRun (g.S.Sources.file_text c.args.sources.now) c.args.office.now (g.S.Sources.standard_text c.args.sources.now) c.new-standard.result c.args.plan.now c.args.sessions.now (Text c.in_err-programs.field-0.0) (search rules)
    (at_later IsOfStoredRun (g.S.Sources.file_text c.args.sources.now) c.args.office.now c.new-standard.result c.read_plan.new.standard c.args.plan.now c.args.sessions.now c.in_ok-plan.plan c.in_ok-me.me (Text c.in_err-programs.field-0.0) c.in_ok-plan.ensures.meaning c.in_ok-me.ensures.office c.in_ok-me.ensures.reached
    (at_first IsOfStoredRun (g.S.Sources.file_text c.args.sources.now) c.read_plan.new.standard c.args.sessions.now [] (record nothing { plan = Some c.in_ok-plan.plan }) inputs.Sessions [] (Text c.in_err-programs.field-0.0) c.in_err-programs.ensures.fault)))

pub returns-in_err-secrets-clause-judged : goal.returns-in_err-secrets-clause-judged
returns-in_err-secrets-clause-judged g c =
    let e = err_from_is_err_and c.from_residual-in_err-secrets.result c.from_residual-in_err-secrets.ensures.1 in
    rw (e.1, e.2)
    (later (g.S.Sources.file_text c.args.sources.now) (g.S.Sources.standard_text c.args.sources.now) c.new-standard.result c.read_plan.new.standard c.read_coded_programs.new.standard c.args.plan.now c.args.office.now c.args.sessions.now c.in_ok-plan.plan c.in_ok-me.me c.in_ok-programs.programs.items c.in_err-secrets.field-0.0 (search rules)
    c.in_ok-plan.ensures.meaning c.in_ok-me.ensures.office c.in_ok-me.ensures.reached c.in_ok-programs.ensures.meaning (is_secrets (λ why. IfSome (option_copied c.args.secrets) (λ name. RefusesSecrets (g.S.Sources.file_text c.args.sources.now name) c.in_ok-plan.plan c.in_ok-me.me why)) c.in_err-secrets.field-0.0 c.in_err-secrets.ensures.fault))

pub returns-in_err-refuse_input-clause-judged : goal.returns-in_err-refuse_input-clause-judged
returns-in_err-refuse_input-clause-judged g c =
    let e = err_from_is_err_and c.from_residual-in_err-refuse_input.result c.from_residual-in_err-refuse_input.ensures.1 in
    rw (e.1, e.2)
    (later (g.S.Sources.file_text c.args.sources.now) (g.S.Sources.standard_text c.args.sources.now) c.new-standard.result c.read_plan.new.standard c.read_coded_programs.new.standard c.args.plan.now c.args.office.now c.args.sessions.now c.in_ok-plan.plan c.in_ok-me.me c.in_ok-programs.programs.items c.in_err-refuse_input.field-0.0 (search rules)
    c.in_ok-plan.ensures.meaning c.in_ok-me.ensures.office c.in_ok-me.ensures.reached c.in_ok-programs.ensures.meaning (is_place (IsAnInput (g.S.Sources.file_text c.args.sources.now) c.args.plan.now c.args.sessions.now c.args.store.now) c.in_err-refuse_input.field-0.0 c.in_err-refuse_input.ensures.fault))

pub returns-in_err-ended-clause-judged : goal.returns-in_err-ended-clause-judged
returns-in_err-ended-clause-judged g c =
    let e = err_from_is_err_and c.from_residual-in_err-ended.result c.from_residual-in_err-ended.ensures.1 in
    rw (e.1, e.2)
    (later (g.S.Sources.file_text c.args.sources.now) (g.S.Sources.standard_text c.args.sources.now) c.new-standard.result c.read_plan.new.standard c.read_coded_programs.new.standard c.args.plan.now c.args.office.now c.args.sessions.now c.in_ok-plan.plan c.in_ok-me.me c.in_ok-programs.programs.items c.in_err-ended.field-0.0 (search rules)
    c.in_ok-plan.ensures.meaning c.in_ok-me.ensures.office c.in_ok-me.ensures.reached c.in_ok-programs.ensures.meaning (is_unbegun _ c.args.is_new (IsNotHeld (g.K.Stores.has c.args.stores.now c.args.store.now) c.args.is_new c.in_ok-plan.plan c.in_ok-me.me c.deref.result.now) c.in_err-ended.field-0.0 c.in_err-ended.ensures.fault))

pub returns-clause-judged : goal.returns-clause-judged
returns-clause-judged g c =
    err_more c.end-2.result _ _ (λ f h. later (g.S.Sources.file_text c.args.sources.now) (g.S.Sources.standard_text c.args.sources.now) c.new-standard.result c.read_plan.new.standard c.read_coded_programs.new.standard c.args.plan.now c.args.office.now c.args.sessions.now c.in_ok-plan.plan c.in_ok-me.me c.in_ok-programs.programs.items f (search rules)
    c.in_ok-plan.ensures.meaning c.in_ok-me.ensures.office c.in_ok-me.ensures.reached c.in_ok-programs.ensures.meaning (is_end c.in_ok-ended.ended f h)) c.end-2.ensures.cut

pub returns-in_err-me-clause-leaves : goal.returns-in_err-me-clause-leaves
returns-in_err-me-clause-leaves g c =
    let e = err_from_is_err_and c.from_residual-in_err-me.result c.from_residual-in_err-me.ensures.1 in
    let files = g.S.Sources.file_text c.args.sources.now in
    let standard = g.S.Sources.standard_text c.args.sources.now in
    let has = g.K.Stores.has c.args.stores.now c.args.store.now in
    let Input = IsAnInput files c.args.plan.now c.args.sessions.now c.args.store.now in
    let Not = RefusesStore files standard has c.args.is_new c.args.plan.now c.args.office.now c.args.sessions.now in
    let Stands : StoredFault → Type 0 = λ cause. RunsStored (IsUnderSeals g.B.Socket.Wire.account files (option_copied c.args.secrets)) c.args.form g.B.Socket.Wire.tells files standard has c.args.is_new c.args.plan.now c.args.office.now c.args.sessions.now c.args.store.now c.args.turns (IsEndedBy cause) (g.W.Write.contents c.args.out.now) (g.W.Write.contents c.args.out.now) in
    rw (e.1, e.2) (at_office _ _ Input c.args.is_new Not Stands c.in_ok-plan.plan _ c.in_err-me.field-0.0 c.in_err-me.ensures.fault refl)

pub returns-in_err-secrets-clause-leaves : goal.returns-in_err-secrets-clause-leaves
returns-in_err-secrets-clause-leaves g c =
    let e = err_from_is_err_and c.from_residual-in_err-secrets.result c.from_residual-in_err-secrets.ensures.1 in
    let files = g.S.Sources.file_text c.args.sources.now in
    let standard = g.S.Sources.standard_text c.args.sources.now in
    let has = g.K.Stores.has c.args.stores.now c.args.store.now in
    let Input = IsAnInput files c.args.plan.now c.args.sessions.now c.args.store.now in
    let Not = RefusesStore files standard has c.args.is_new c.args.plan.now c.args.office.now c.args.sessions.now in
    let Stands : StoredFault → Type 0 = λ cause. RunsStored (IsUnderSeals g.B.Socket.Wire.account files (option_copied c.args.secrets)) c.args.form g.B.Socket.Wire.tells files standard has c.args.is_new c.args.plan.now c.args.office.now c.args.sessions.now c.args.store.now c.args.turns (IsEndedBy cause) (g.W.Write.contents c.args.out.now) (g.W.Write.contents c.args.out.now) in
    rw (e.1, e.2) (at_secrets _ _ Input c.args.is_new Not Stands (λ why. IfSome (option_copied c.args.secrets) (λ name. RefusesSecrets (g.S.Sources.file_text c.args.sources.now name) c.in_ok-plan.plan c.in_ok-me.me why)) c.in_err-secrets.field-0.0 c.in_err-secrets.ensures.fault refl)

pub returns-in_err-refuse_input-clause-leaves : goal.returns-in_err-refuse_input-clause-leaves
returns-in_err-refuse_input-clause-leaves g c =
    let e = err_from_is_err_and c.from_residual-in_err-refuse_input.result c.from_residual-in_err-refuse_input.ensures.1 in
    let files = g.S.Sources.file_text c.args.sources.now in
    let standard = g.S.Sources.standard_text c.args.sources.now in
    let has = g.K.Stores.has c.args.stores.now c.args.store.now in
    let Input = IsAnInput files c.args.plan.now c.args.sessions.now c.args.store.now in
    let Not = RefusesStore files standard has c.args.is_new c.args.plan.now c.args.office.now c.args.sessions.now in
    let Stands : StoredFault → Type 0 = λ cause. RunsStored (IsUnderSeals g.B.Socket.Wire.account files (option_copied c.args.secrets)) c.args.form g.B.Socket.Wire.tells files standard has c.args.is_new c.args.plan.now c.args.office.now c.args.sessions.now c.args.store.now c.args.turns (IsEndedBy cause) (g.W.Write.contents c.args.out.now) (g.W.Write.contents c.args.out.now) in
    rw (e.1, e.2) (at_place _ _ Input c.args.is_new Not Stands c.in_err-refuse_input.field-0.0 c.in_err-refuse_input.ensures.fault refl refl)

pub returns-in_err-ended-clause-leaves : goal.returns-in_err-ended-clause-leaves
returns-in_err-ended-clause-leaves g c =
    let e = err_from_is_err_and c.from_residual-in_err-ended.result c.from_residual-in_err-ended.ensures.1 in
    let files = g.S.Sources.file_text c.args.sources.now in
    let standard = g.S.Sources.standard_text c.args.sources.now in
    let has = g.K.Stores.has c.args.stores.now c.args.store.now in
    let Input = IsAnInput files c.args.plan.now c.args.sessions.now c.args.store.now in
    let Not = RefusesStore files standard has c.args.is_new c.args.plan.now c.args.office.now c.args.sessions.now in
    let Stands : StoredFault → Type 0 = λ cause. RunsStored (IsUnderSeals g.B.Socket.Wire.account files (option_copied c.args.secrets)) c.args.form g.B.Socket.Wire.tells files standard has c.args.is_new c.args.plan.now c.args.office.now c.args.sessions.now c.args.store.now c.args.turns (IsEndedBy cause) (g.W.Write.contents c.args.out.now) (g.W.Write.contents c.go_on.new.out) in
    rw (e.1, e.2) (at_unbegun _ _ Input c.args.is_new Not Stands (IsNotHeld has c.args.is_new c.in_ok-plan.plan c.in_ok-me.me c.deref.result.now)
    (not_held files standard c.new-standard.result c.read_plan.new.standard c.read_coded_programs.new.standard c.args.plan.now c.args.office.now c.args.sessions.now c.in_ok-plan.plan c.in_ok-me.me c.in_ok-programs.programs.items c.deref.result.now (search rules)
    c.in_ok-plan.ensures.meaning c.in_ok-me.ensures.office c.in_ok-programs.ensures.meaning c.deref.ensures.value has c.args.is_new) c.in_err-ended.field-0.0 c.in_err-ended.ensures.fault c.in_err-ended.ensures.unwritten)

pub returns-clause-runs : goal.returns-clause-runs
returns-clause-runs g c =
    let files = g.S.Sources.file_text c.args.sources.now in
    let standard = g.S.Sources.standard_text c.args.sources.now in
    let has = g.K.Stores.has c.args.stores.now c.args.store.now in
    let account = g.B.Socket.Wire.account in
    let lent = option_copied c.lent.result in
    let Is = IsUnderSeals account files (option_copied c.args.secrets) in
    let went = went_as (IsToldUnder account lent) (Is c.in_ok-plan.plan c.in_ok-me.me)
    (under_seals account files (option_copied c.args.secrets) c.in_ok-plan.plan c.in_ok-me.me (option_map (λ v. v.items) c.in_ok-secrets.secrets) lent c.in_ok-secrets.ensures.are c.lent.ensures)
    c.args.form g.B.Socket.Wire.tells has c.args.is_new c.in_ok-plan.plan c.in_ok-me.me c.deref.result.now c.args.turns c.in_ok-ended.ended (g.W.Write.contents c.args.out.now) (g.W.Write.contents c.go_on.new.out) c.in_ok-ended.ensures.went in
    ok_more c.end-2.result _ _ (λ status h. (
      c.in_ok-refuse_input.ensures.no_plan,
      c.in_ok-refuse_input.ensures.no_sessions,
      λ a_text b_text known. (
        c.in_ok-ended.ended,
        h,
        went_on files standard c.new-standard.result c.read_plan.new.standard c.read_coded_programs.new.standard c.args.plan.now c.args.office.now c.args.sessions.now c.in_ok-plan.plan c.in_ok-me.me c.in_ok-programs.programs.items c.deref.result.now (search rules)
            c.in_ok-plan.ensures.meaning c.in_ok-me.ensures.office c.in_ok-programs.ensures.meaning c.deref.ensures.value Is c.args.form g.B.Socket.Wire.tells has c.args.is_new c.args.turns c.in_ok-ended.ended _ _ c.in_ok-me.ensures.reached went a_text b_text known,
      ),
    )) c.end-2.ensures.done

pub returns-clause-status : goal.returns-clause-status
returns-clause-status g c = ok_more c.end-2.result _ _ (λ status h. subst (λ n. n ≤ 1) (sym h.1) (one_at_most c.in_ok-ended.ended.unfinished)) c.end-2.ensures.done

pub returns-clause-leaves : goal.returns-clause-leaves
returns-clause-leaves g c =
    let files = g.S.Sources.file_text c.args.sources.now in
    let standard = g.S.Sources.standard_text c.args.sources.now in
    let has = g.K.Stores.has c.args.stores.now c.args.store.now in
    let account = g.B.Socket.Wire.account in
    let lent = option_copied c.lent.result in
    let Is = IsUnderSeals account files (option_copied c.args.secrets) in
    let went = went_as (IsToldUnder account lent) (Is c.in_ok-plan.plan c.in_ok-me.me)
    (under_seals account files (option_copied c.args.secrets) c.in_ok-plan.plan c.in_ok-me.me (option_map (λ v. v.items) c.in_ok-secrets.secrets) lent c.in_ok-secrets.ensures.are c.lent.ensures)
    c.args.form g.B.Socket.Wire.tells has c.args.is_new c.in_ok-plan.plan c.in_ok-me.me c.deref.result.now c.args.turns c.in_ok-ended.ended (g.W.Write.contents c.args.out.now) (g.W.Write.contents c.go_on.new.out) c.in_ok-ended.ensures.went in
    let Input = IsAnInput files c.args.plan.now c.args.sessions.now c.args.store.now in
    let Not = RefusesStore files standard has c.args.is_new c.args.plan.now c.args.office.now c.args.sessions.now in
    let Stands : StoredFault → Type 0 = λ cause. RunsStored (IsUnderSeals g.B.Socket.Wire.account files (option_copied c.args.secrets)) c.args.form g.B.Socket.Wire.tells files standard has c.args.is_new c.args.plan.now c.args.office.now c.args.sessions.now c.args.store.now c.args.turns (IsEndedBy cause) (g.W.Write.contents c.args.out.now) (g.W.Write.contents c.go_on.new.out) in
    err_more c.end-2.result _ _ (λ f h. at_end _ _ Input c.args.is_new Not Stands c.in_ok-ended.ended f h (λ cause by. (
      c.in_ok-refuse_input.ensures.no_plan,
      c.in_ok-refuse_input.ensures.no_sessions,
      λ a_text b_text known. (
        c.in_ok-ended.ended,
        by,
        went_on files standard c.new-standard.result c.read_plan.new.standard c.read_coded_programs.new.standard c.args.plan.now c.args.office.now c.args.sessions.now c.in_ok-plan.plan c.in_ok-me.me c.in_ok-programs.programs.items c.deref.result.now (search rules)
            c.in_ok-plan.ensures.meaning c.in_ok-me.ensures.office c.in_ok-programs.ensures.meaning c.deref.ensures.value Is c.args.form g.B.Socket.Wire.tells has c.args.is_new c.args.turns c.in_ok-ended.ended _ _ c.in_ok-me.ensures.reached went a_text b_text known,
      ),
    ))) c.end-2.ensures.cut
