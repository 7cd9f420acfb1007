use Rattle.std.specs.Option.{option_copied}
use Rattle.std.specs.Prelude.{option_map}
use Rattle.datagram_seals.specs.sockets.Sealed.{IsToldUnder}
use Rattle.office_runs.specs.Runs.{TellsCourse}
use Rattle.std.proofs.Common.{◌≡◌, ◌∙◌, [], ◌∷◌, Some, IfSome, inl, inr, refl, subst, sym, ◌≤◌, rules}
use Rattle.std.proofs.lemmas.Result.{err_from_is_err_and}
use Rattle.command_outputs.specs.Fault.{IsOfRun}
use Rattle.command_outputs.specs.Places.{IsFree, IsObstacle}
use Rattle.command_outputs.specs.secrets.Files.{RefusesSecrets}
use Rattle.drink_commands.specs.Run.{RefusesFile}
use Rattle.drink_commands.specs.Sealed.{IsUnderSeals}
use Rattle.drink_commands.specs.Texts.{nothing}
use Rattle.serial_command.specs.declared.reading.input.Input.TheVariants as inputs
use Rattle.command_outputs.specs.declared.fault.Fault.TheVariants.{NoRun, Text}
use Rattle.drink_commands.proofs.Faults as texts
use Rattle.drink_commands.proofs.Faults.{at_first, at_next, sessions_taken}
use Rattle.drink_commands.proofs.Reported.{file_refused, ran_office, started}
use Rattle.drink_commands.proofs.Running.{at_end, at_later, at_office, at_place, at_plan, at_secrets, at_word, err_more, is_end, is_place, is_secrets, judged, is_some_copied, ok_more, one_at_most}
use Rattle.drink_commands.proofs.OfSeals.{course_as, under_seals}
use Rattle.drink_commands.proofs.commands.run.run.Goals as goal

pub returns-in_err-plan-clause-judged : goal.returns-in_err-plan-clause-judged
returns-in_err-plan-clause-judged g c =
    let e = err_from_is_err_and c.from_residual.result c.from_residual.ensures.1 in
    let files = g.S.Sources.file_text c.args.sources.now in
    rw (e.1, e.2)
    (judged IsOfRun files c.args.office.now (g.S.Sources.standard_text c.args.sources.now) c.new-standard.result c.args.plan.now c.args.sessions.now (Text c.in_err-plan.field-0.0) (search rules)
    (at_plan IsOfRun files c.args.office.now c.new-standard.result c.args.plan.now c.args.sessions.now (Text c.in_err-plan.field-0.0) c.in_err-plan.ensures.fault))

pub returns-in_err-me-clause-judged : goal.returns-in_err-me-clause-judged
returns-in_err-me-clause-judged g c =
    let e = err_from_is_err_and c.from_residual-in_err-me.result c.from_residual-in_err-me.ensures.1 in
    let files = g.S.Sources.file_text c.args.sources.now in
    rw (e.1, e.2)
    (judged IsOfRun files c.args.office.now (g.S.Sources.standard_text c.args.sources.now) c.new-standard.result c.args.plan.now c.args.sessions.now c.in_err-me.field-0.0 (search rules)
    (at_word IsOfRun files c.args.office.now c.new-standard.result c.read_plan.new.standard c.args.plan.now c.args.sessions.now c.in_ok-plan.plan c.in_err-me.field-0.0 c.in_ok-plan.ensures.meaning c.in_err-me.ensures.fault))

pub returns-in_err-programs-clause-judged : goal.returns-in_err-programs-clause-judged
returns-in_err-programs-clause-judged g c =
    let e = err_from_is_err_and c.from_residual-in_err-programs.result c.from_residual-in_err-programs.ensures.1 in
    let files = g.S.Sources.file_text c.args.sources.now in
    rw (e.1, e.2)
    (judged IsOfRun files c.args.office.now (g.S.Sources.standard_text c.args.sources.now) c.new-standard.result c.args.plan.now c.args.sessions.now (Text c.in_err-programs.field-0.0) (search rules)
    (at_later IsOfRun files c.args.office.now c.new-standard.result c.read_plan.new.standard c.args.plan.now c.args.sessions.now c.in_ok-plan.plan c.in_ok-me.me (Text c.in_err-programs.field-0.0) c.in_ok-plan.ensures.meaning c.in_ok-me.ensures.office c.in_ok-me.ensures.reached
    (at_first IsOfRun files c.read_plan.new.standard c.args.sessions.now [] (record nothing { plan = Some c.in_ok-plan.plan }) inputs.Sessions [] (Text c.in_err-programs.field-0.0) c.in_err-programs.ensures.fault)))

pub returns-in_err-secrets-clause-judged : goal.returns-in_err-secrets-clause-judged
returns-in_err-secrets-clause-judged g c =
    let e = err_from_is_err_and c.from_residual-in_err-secrets.result c.from_residual-in_err-secrets.ensures.1 in
    let files = g.S.Sources.file_text c.args.sources.now in
    rw (e.1, e.2)
    (judged IsOfRun files c.args.office.now (g.S.Sources.standard_text c.args.sources.now) c.new-standard.result c.args.plan.now c.args.sessions.now c.in_err-secrets.field-0.0 (search rules)
    (at_later IsOfRun files c.args.office.now c.new-standard.result c.read_plan.new.standard c.args.plan.now c.args.sessions.now c.in_ok-plan.plan c.in_ok-me.me c.in_err-secrets.field-0.0 c.in_ok-plan.ensures.meaning c.in_ok-me.ensures.office c.in_ok-me.ensures.reached
    (at_next IsOfRun files c.read_plan.new.standard c.read_coded_programs.new.standard c.args.sessions.now [] (record nothing { plan = Some c.in_ok-plan.plan }) (record nothing { plan = Some c.in_ok-plan.plan; programs = Some c.in_ok-programs.programs.items }) inputs.Sessions [] c.in_err-secrets.field-0.0
    (sessions_taken files c.read_plan.new.standard c.args.sessions.now c.read_coded_programs.new.standard c.in_ok-plan.plan c.in_ok-programs.programs.items c.in_ok-programs.ensures.meaning)
    (texts.at_end IsOfRun files c.read_coded_programs.new.standard (record nothing { plan = Some c.in_ok-plan.plan; programs = Some c.in_ok-programs.programs.items }) c.in_err-secrets.field-0.0 (is_secrets (λ why. IfSome (option_copied c.args.secrets) (λ name. RefusesSecrets (g.S.Sources.file_text c.args.sources.now name) c.in_ok-plan.plan c.in_ok-me.me why)) c.in_err-secrets.field-0.0 c.in_err-secrets.ensures.fault)))))

pub returns-in_err-look_at_file-clause-judged : goal.returns-in_err-look_at_file-clause-judged
returns-in_err-look_at_file-clause-judged g c =
    let e = err_from_is_err_and c.from_residual-in_err-look_at_file.result c.from_residual-in_err-look_at_file.ensures.1 in
    let files = g.S.Sources.file_text c.args.sources.now in
    rw (e.1, e.2)
    (judged IsOfRun files c.args.office.now (g.S.Sources.standard_text c.args.sources.now) c.new-standard.result c.args.plan.now c.args.sessions.now c.in_err-look_at_file.field-0.0 (search rules)
    (at_later IsOfRun files c.args.office.now c.new-standard.result c.read_plan.new.standard c.args.plan.now c.args.sessions.now c.in_ok-plan.plan c.in_ok-me.me c.in_err-look_at_file.field-0.0 c.in_ok-plan.ensures.meaning c.in_ok-me.ensures.office c.in_ok-me.ensures.reached
    (at_next IsOfRun files c.read_plan.new.standard c.read_coded_programs.new.standard c.args.sessions.now [] (record nothing { plan = Some c.in_ok-plan.plan }) (record nothing { plan = Some c.in_ok-plan.plan; programs = Some c.in_ok-programs.programs.items }) inputs.Sessions [] c.in_err-look_at_file.field-0.0
    (sessions_taken files c.read_plan.new.standard c.args.sessions.now c.read_coded_programs.new.standard c.in_ok-plan.plan c.in_ok-programs.programs.items c.in_ok-programs.ensures.meaning)
    (texts.at_end IsOfRun files c.read_coded_programs.new.standard (record nothing { plan = Some c.in_ok-plan.plan; programs = Some c.in_ok-programs.programs.items }) c.in_err-look_at_file.field-0.0 (is_place (λ name why. (option_copied c.args.journal ≡ Some name) × IsObstacle files c.args.plan.now c.args.sessions.now c.in_ok-plan.plan why c.in_ok-me.me name) c.in_err-look_at_file.field-0.0 c.in_err-look_at_file.ensures.fault)))))

pub returns-in_err-ran-clause-judged : goal.returns-in_err-ran-clause-judged
returns-in_err-ran-clause-judged g c =
    let e = err_from_is_err_and c.from_residual-in_err-ran.result c.from_residual-in_err-ran.ensures.1 in
    let files = g.S.Sources.file_text c.args.sources.now in
    rw (e.1, e.2)
    (judged IsOfRun files c.args.office.now (g.S.Sources.standard_text c.args.sources.now) c.new-standard.result c.args.plan.now c.args.sessions.now (NoRun c.in_err-ran.field-0.0) (search rules)
    (at_later IsOfRun files c.args.office.now c.new-standard.result c.read_plan.new.standard c.args.plan.now c.args.sessions.now c.in_ok-plan.plan c.in_ok-me.me (NoRun c.in_err-ran.field-0.0) c.in_ok-plan.ensures.meaning c.in_ok-me.ensures.office c.in_ok-me.ensures.reached
    (at_next IsOfRun files c.read_plan.new.standard c.read_coded_programs.new.standard c.args.sessions.now [] (record nothing { plan = Some c.in_ok-plan.plan }) (record nothing { plan = Some c.in_ok-plan.plan; programs = Some c.in_ok-programs.programs.items }) inputs.Sessions [] (NoRun c.in_err-ran.field-0.0)
    (sessions_taken files c.read_plan.new.standard c.args.sessions.now c.read_coded_programs.new.standard c.in_ok-plan.plan c.in_ok-programs.programs.items c.in_ok-programs.ensures.meaning)
    (texts.at_end IsOfRun files c.read_coded_programs.new.standard (record nothing { plan = Some c.in_ok-plan.plan; programs = Some c.in_ok-programs.programs.items }) (NoRun c.in_err-ran.field-0.0) (inr (inl tt))))))

pub returns-clause-judged : goal.returns-clause-judged
returns-clause-judged g c =
    let files = g.S.Sources.file_text c.args.sources.now in
    err_more c.write_ran.result _ _ (λ f h.
    (judged IsOfRun files c.args.office.now (g.S.Sources.standard_text c.args.sources.now) c.new-standard.result c.args.plan.now c.args.sessions.now f (search rules)
    (at_later IsOfRun files c.args.office.now c.new-standard.result c.read_plan.new.standard c.args.plan.now c.args.sessions.now c.in_ok-plan.plan c.in_ok-me.me f c.in_ok-plan.ensures.meaning c.in_ok-me.ensures.office c.in_ok-me.ensures.reached
    (at_next IsOfRun files c.read_plan.new.standard c.read_coded_programs.new.standard c.args.sessions.now [] (record nothing { plan = Some c.in_ok-plan.plan }) (record nothing { plan = Some c.in_ok-plan.plan; programs = Some c.in_ok-programs.programs.items }) inputs.Sessions [] f
    (sessions_taken files c.read_plan.new.standard c.args.sessions.now c.read_coded_programs.new.standard c.in_ok-plan.plan c.in_ok-programs.programs.items c.in_ok-programs.ensures.meaning)
    (texts.at_end IsOfRun files c.read_coded_programs.new.standard (record nothing { plan = Some c.in_ok-plan.plan; programs = Some c.in_ok-programs.programs.items }) f (is_end _ f h)))))) c.write_ran.ensures.leaves

pub returns-clause-runs : goal.returns-clause-runs
returns-clause-runs g c =
    let files = g.S.Sources.file_text c.args.sources.now in
    let account = g.B.Socket.Wire.account in
    let lent = option_copied c.lent.result in
    let Is = IsUnderSeals account files (option_copied c.args.secrets) in
    let told = course_as (IsToldUnder account lent) (Is c.in_ok-plan.plan c.in_ok-me.me)
    (under_seals account files (option_copied c.args.secrets) c.in_ok-plan.plan c.in_ok-me.me (option_map (λ v. v.items) c.in_ok-secrets.secrets) lent c.in_ok-secrets.ensures.are c.lent.ensures)
    c.args.form g.B.Socket.Wire.tells c.in_ok-plan.plan c.in_ok-me.me c.deref.result.now c.args.turns c.is_some.result c.in_ok-ran.ran c.in_ok-ran.ensures.ran in
    ok_more c.write_ran.result _ _ (λ status h. λ plan_text sessions_text known. (
      c.in_ok-ran.ran,
      h.0,
      (ran_office Is c.args.form g.B.Socket.Wire.tells (IsFree files c.args.plan.now c.args.sessions.now) files c.new-standard.result c.read_plan.new.standard c.read_coded_programs.new.standard c.args.plan.now c.args.office.now c.args.sessions.now plan_text sessions_text c.in_ok-plan.plan c.in_ok-me.me c.in_ok-programs.programs.items c.deref.result.now c.args.turns (option_copied c.args.journal) c.in_ok-ran.ran (g.W.Write.contents c.args.out.now) (g.W.Write.contents c.write_ran.new.out) (g.T.Targets.written c.args.targets.now) (g.T.Targets.written c.write_ran.new.targets)
          c.in_ok-plan.ensures.meaning c.in_ok-me.ensures.office c.in_ok-me.ensures.reached c.in_ok-programs.ensures.meaning
          (started c.new-standard.result (g.S.Sources.standard_text c.args.sources.now) files (c.args.plan.now ∷ c.args.sessions.now ∷ []) (plan_text ∷ sessions_text ∷ []) (search rules) known) c.deref.ensures.value c.in_ok-look_at_file.ensures.free (subst (λ wanted. TellsCourse (Is c.in_ok-plan.plan c.in_ok-me.me) c.args.form g.B.Socket.Wire.tells c.in_ok-plan.plan c.in_ok-me.me c.deref.result.now c.args.turns wanted c.in_ok-ran.ran) (c.is_some.ensures ∙ is_some_copied c.args.journal) told) h.1 h.2),
    )) c.write_ran.ensures.done

pub returns-clause-status : goal.returns-clause-status
returns-clause-status g c = ok_more c.write_ran.result _ _ (λ status h. subst (λ n. n ≤ 1) (sym h.0.1) (one_at_most c.in_ok-ran.ran.unfinished)) c.write_ran.ensures.done

pub returns-in_err-plan-clause-leaves : goal.returns-in_err-plan-clause-leaves
returns-in_err-plan-clause-leaves g c =
    let e = err_from_is_err_and c.from_residual.result c.from_residual.ensures.1 in
    rw (e.1, e.2) (refl, refl)

pub returns-in_err-me-clause-leaves : goal.returns-in_err-me-clause-leaves
returns-in_err-me-clause-leaves g c =
    let e = err_from_is_err_and c.from_residual-in_err-me.result c.from_residual-in_err-me.ensures.1 in
    rw (e.1, e.2) (at_office _ (RefusesFile (g.S.Sources.file_text c.args.sources.now) (g.S.Sources.standard_text c.args.sources.now) c.args.plan.now c.args.office.now c.args.sessions.now (option_copied c.args.journal)) _ c.in_ok-plan.plan _ c.in_err-me.field-0.0 c.in_err-me.ensures.fault (refl, refl))

pub returns-in_err-programs-clause-leaves : goal.returns-in_err-programs-clause-leaves
returns-in_err-programs-clause-leaves g c =
    let e = err_from_is_err_and c.from_residual-in_err-programs.result c.from_residual-in_err-programs.ensures.1 in
    rw (e.1, e.2) (refl, refl)

pub returns-in_err-secrets-clause-leaves : goal.returns-in_err-secrets-clause-leaves
returns-in_err-secrets-clause-leaves g c =
    let e = err_from_is_err_and c.from_residual-in_err-secrets.result c.from_residual-in_err-secrets.ensures.1 in
    rw (e.1, e.2) (at_secrets _ (λ why. IfSome (option_copied c.args.secrets) (λ name. RefusesSecrets (g.S.Sources.file_text c.args.sources.now name) c.in_ok-plan.plan c.in_ok-me.me why)) (RefusesFile (g.S.Sources.file_text c.args.sources.now) (g.S.Sources.standard_text c.args.sources.now) c.args.plan.now c.args.office.now c.args.sessions.now (option_copied c.args.journal)) _ c.in_err-secrets.field-0.0 c.in_err-secrets.ensures.fault (refl, refl))

pub returns-in_err-look_at_file-clause-leaves : goal.returns-in_err-look_at_file-clause-leaves
returns-in_err-look_at_file-clause-leaves g c =
    let e = err_from_is_err_and c.from_residual-in_err-look_at_file.result c.from_residual-in_err-look_at_file.ensures.1 in
    rw (e.1, e.2) (at_place _ _ _ _ c.in_err-look_at_file.field-0.0 c.in_err-look_at_file.ensures.fault (refl, refl)
    (file_refused (g.S.Sources.file_text c.args.sources.now) (g.S.Sources.standard_text c.args.sources.now) c.new-standard.result c.read_plan.new.standard c.args.plan.now c.args.office.now c.args.sessions.now c.in_ok-plan.plan c.in_ok-me.me (option_copied c.args.journal) (search rules) c.in_ok-plan.ensures.meaning c.in_ok-me.ensures.office))

pub returns-in_err-ran-clause-leaves : goal.returns-in_err-ran-clause-leaves
returns-in_err-ran-clause-leaves g c =
    let e = err_from_is_err_and c.from_residual-in_err-ran.result c.from_residual-in_err-ran.ensures.1 in
    rw (e.1, e.2) (refl, refl)

pub returns-clause-leaves : goal.returns-clause-leaves
returns-clause-leaves g c =
    let files = g.S.Sources.file_text c.args.sources.now in
    let account = g.B.Socket.Wire.account in
    let lent = option_copied c.lent.result in
    let Is = IsUnderSeals account files (option_copied c.args.secrets) in
    let told = course_as (IsToldUnder account lent) (Is c.in_ok-plan.plan c.in_ok-me.me)
    (under_seals account files (option_copied c.args.secrets) c.in_ok-plan.plan c.in_ok-me.me (option_map (λ v. v.items) c.in_ok-secrets.secrets) lent c.in_ok-secrets.ensures.are c.lent.ensures)
    c.args.form g.B.Socket.Wire.tells c.in_ok-plan.plan c.in_ok-me.me c.deref.result.now c.args.turns c.is_some.result c.in_ok-ran.ran c.in_ok-ran.ensures.ran in
    err_more c.write_ran.result _ _ (λ f h. at_end _ (RefusesFile (g.S.Sources.file_text c.args.sources.now) (g.S.Sources.standard_text c.args.sources.now) c.args.plan.now c.args.office.now c.args.sessions.now (option_copied c.args.journal)) _ _ f h (λ cause h. λ plan_text sessions_text known. (
      c.in_ok-ran.ran,
      h.0,
      (ran_office Is c.args.form g.B.Socket.Wire.tells (IsFree files c.args.plan.now c.args.sessions.now) files c.new-standard.result c.read_plan.new.standard c.read_coded_programs.new.standard c.args.plan.now c.args.office.now c.args.sessions.now plan_text sessions_text c.in_ok-plan.plan c.in_ok-me.me c.in_ok-programs.programs.items c.deref.result.now c.args.turns (option_copied c.args.journal) c.in_ok-ran.ran (g.W.Write.contents c.args.out.now) (g.W.Write.contents c.write_ran.new.out) (g.T.Targets.written c.args.targets.now) (g.T.Targets.written c.write_ran.new.targets)
          c.in_ok-plan.ensures.meaning c.in_ok-me.ensures.office c.in_ok-me.ensures.reached c.in_ok-programs.ensures.meaning
          (started c.new-standard.result (g.S.Sources.standard_text c.args.sources.now) files (c.args.plan.now ∷ c.args.sessions.now ∷ []) (plan_text ∷ sessions_text ∷ []) (search rules) known) c.deref.ensures.value c.in_ok-look_at_file.ensures.free (subst (λ wanted. TellsCourse (Is c.in_ok-plan.plan c.in_ok-me.me) c.args.form g.B.Socket.Wire.tells c.in_ok-plan.plan c.in_ok-me.me c.deref.result.now c.args.turns wanted c.in_ok-ran.ran) (c.is_some.ensures ∙ is_some_copied c.args.journal) told) h.1 h.2),
    ))) c.write_ran.ensures.leaves
