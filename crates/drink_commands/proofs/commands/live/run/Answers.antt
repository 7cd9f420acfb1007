use Rattle.std.specs.Option.{option_copied}
use Rattle.office_runs.specs.live.Courses.{TellsCourses}
use Rattle.std.proofs.Common.{◌∙◌, List, [], ◌∷◌, IfSome, Some, inl, inr, length, refl, subst, sym, ◌≤◌, rules}
use Rattle.std.specs.Prelude.{All, IsTrue}
use Rattle.std.proofs.lemmas.Result.{err_from_is_err_and}
use Rattle.session_meaning.specs.ProgramValue.{ProgramValue}
use Rattle.session_programs.specs.Program.{fits}
use Rattle.command_outputs.specs.Fault.{IsOfRun}
use Rattle.command_outputs.specs.Places.{AreFree, IsIn}
use Rattle.drink_commands.specs.Run.{RefusesFolder, WritesRan}
use Rattle.drink_commands.specs.Texts.{nothing}
use Rattle.serial_command.specs.declared.reading.input.Input.TheVariants as inputs
use Rattle.command_outputs.specs.declared.fault.Fault.TheVariants.{NoRun, Text}
use Rattle.drink_commands.proofs.Faults as texts
use Rattle.drink_commands.proofs.Faults.{at_first, at_next, judged, plan_taken, sessions_taken}
use Rattle.drink_commands.proofs.Reported.{folder_refused, ran_offices, started}
use Rattle.drink_commands.proofs.Running.{at_end, at_place, err_more, is_end, is_place, ok_more, one_at_most}
use Rattle.drink_commands.proofs.FewJournals.{few_journals}
use Rattle.drink_commands.proofs.commands.live.run.Goals as goal

pub write_ran-requires-clause-journals : goal.write_ran-requires-clause-journals
write_ran-requires-clause-journals g c = few_journals c.args.form c.in_ok-plan.plan _ _ c.in_ok-ran.ran c.in_ok-ran.ensures.tells

pub write_ran-requires-clause-fit : goal.write_ran-requires-clause-fit
write_ran-requires-clause-fit g c = subst (All (λ (x : ProgramValue). IsTrue (fits c.in_ok-plan.plan x))) (sym c.deref-2.ensures.value) c.in_ok-programs.ensures.fit

pub write_ran-requires-clause-few : goal.write_ran-requires-clause-few
write_ran-requires-clause-few g c = subst (λ (l : List ProgramValue). length l ≤ 1024) (sym c.deref-2.ensures.value) c.in_ok-programs.ensures.few

pub returns-in_err-plan-clause-judged : goal.returns-in_err-plan-clause-judged
returns-in_err-plan-clause-judged g c =
    let e = err_from_is_err_and c.from_residual.result c.from_residual.ensures.1 in
    let files = g.S.Sources.file_text c.args.sources.now in
    rw (e.1, e.2)
    (judged IsOfRun files (g.S.Sources.standard_text c.args.sources.now) c.new-standard.result (c.args.plan.now ∷ c.args.sessions.now ∷ []) (inputs.Plan ∷ inputs.Sessions ∷ []) (Text c.in_err-plan.field-0.0) (search rules)
    (at_first IsOfRun files c.new-standard.result c.args.plan.now (c.args.sessions.now ∷ []) nothing inputs.Plan (inputs.Sessions ∷ []) (Text c.in_err-plan.field-0.0) c.in_err-plan.ensures.fault))

pub returns-in_err-programs-clause-judged : goal.returns-in_err-programs-clause-judged
returns-in_err-programs-clause-judged g c =
    let e = err_from_is_err_and c.from_residual-in_err-programs.result c.from_residual-in_err-programs.ensures.1 in
    let files = g.S.Sources.file_text c.args.sources.now in
    rw (e.1, e.2)
    (judged IsOfRun files (g.S.Sources.standard_text c.args.sources.now) c.new-standard.result (c.args.plan.now ∷ c.args.sessions.now ∷ []) (inputs.Plan ∷ inputs.Sessions ∷ []) (Text c.in_err-programs.field-0.0) (search rules)
    (at_next IsOfRun files c.new-standard.result c.read_plan.new.standard c.args.plan.now (c.args.sessions.now ∷ []) nothing (record nothing { plan = Some c.in_ok-plan.plan }) inputs.Plan (inputs.Sessions ∷ []) (Text c.in_err-programs.field-0.0)
    (plan_taken files c.new-standard.result c.args.plan.now c.read_plan.new.standard c.in_ok-plan.plan c.in_ok-plan.ensures.meaning)
    (at_first IsOfRun files c.read_plan.new.standard c.args.sessions.now [] (record nothing { plan = Some c.in_ok-plan.plan }) inputs.Sessions [] (Text c.in_err-programs.field-0.0) c.in_err-programs.ensures.fault)))

pub returns-in_err-look_at_folder-clause-judged : goal.returns-in_err-look_at_folder-clause-judged
returns-in_err-look_at_folder-clause-judged g c =
    let e = err_from_is_err_and c.from_residual-in_err-look_at_folder.result c.from_residual-in_err-look_at_folder.ensures.1 in
    let files = g.S.Sources.file_text c.args.sources.now in
    rw (e.1, e.2)
    (judged IsOfRun files (g.S.Sources.standard_text c.args.sources.now) c.new-standard.result (c.args.plan.now ∷ c.args.sessions.now ∷ []) (inputs.Plan ∷ inputs.Sessions ∷ []) c.in_err-look_at_folder.field-0.0 (search rules)
    (at_next IsOfRun files c.new-standard.result c.read_plan.new.standard c.args.plan.now (c.args.sessions.now ∷ []) nothing (record nothing { plan = Some c.in_ok-plan.plan }) inputs.Plan (inputs.Sessions ∷ []) c.in_err-look_at_folder.field-0.0
    (plan_taken files c.new-standard.result c.args.plan.now c.read_plan.new.standard c.in_ok-plan.plan c.in_ok-plan.ensures.meaning)
    (at_next IsOfRun files c.read_plan.new.standard c.read_coded_programs.new.standard c.args.sessions.now [] (record nothing { plan = Some c.in_ok-plan.plan }) (record nothing { plan = Some c.in_ok-plan.plan; programs = Some c.in_ok-programs.programs.items }) inputs.Sessions [] c.in_err-look_at_folder.field-0.0
    (sessions_taken files c.read_plan.new.standard c.args.sessions.now c.read_coded_programs.new.standard c.in_ok-plan.plan c.in_ok-programs.programs.items c.in_ok-programs.ensures.meaning)
    (texts.at_end IsOfRun files c.read_coded_programs.new.standard (record nothing { plan = Some c.in_ok-plan.plan; programs = Some c.in_ok-programs.programs.items }) c.in_err-look_at_folder.field-0.0 (is_place (λ name why. IfSome (option_copied c.args.journals) (λ place. IsIn files c.args.plan.now c.args.sessions.now c.in_ok-plan.plan place name why)) c.in_err-look_at_folder.field-0.0 c.in_err-look_at_folder.ensures.fault)))))

pub returns-in_err-ran-clause-judged : goal.returns-in_err-ran-clause-judged
returns-in_err-ran-clause-judged g c =
    let e = err_from_is_err_and c.from_residual-in_err-ran.result c.from_residual-in_err-ran.ensures.1 in
    let files = g.S.Sources.file_text c.args.sources.now in
    rw (e.1, e.2)
    (judged IsOfRun files (g.S.Sources.standard_text c.args.sources.now) c.new-standard.result (c.args.plan.now ∷ c.args.sessions.now ∷ []) (inputs.Plan ∷ inputs.Sessions ∷ []) (NoRun c.in_err-ran.field-0.0) (search rules)
    (at_next IsOfRun files c.new-standard.result c.read_plan.new.standard c.args.plan.now (c.args.sessions.now ∷ []) nothing (record nothing { plan = Some c.in_ok-plan.plan }) inputs.Plan (inputs.Sessions ∷ []) (NoRun c.in_err-ran.field-0.0)
    (plan_taken files c.new-standard.result c.args.plan.now c.read_plan.new.standard c.in_ok-plan.plan c.in_ok-plan.ensures.meaning)
    (at_next IsOfRun files c.read_plan.new.standard c.read_coded_programs.new.standard c.args.sessions.now [] (record nothing { plan = Some c.in_ok-plan.plan }) (record nothing { plan = Some c.in_ok-plan.plan; programs = Some c.in_ok-programs.programs.items }) inputs.Sessions [] (NoRun c.in_err-ran.field-0.0)
    (sessions_taken files c.read_plan.new.standard c.args.sessions.now c.read_coded_programs.new.standard c.in_ok-plan.plan c.in_ok-programs.programs.items c.in_ok-programs.ensures.meaning)
    (texts.at_end IsOfRun files c.read_coded_programs.new.standard (record nothing { plan = Some c.in_ok-plan.plan; programs = Some c.in_ok-programs.programs.items }) (NoRun c.in_err-ran.field-0.0) (inr (inl tt))))))

pub returns-clause-judged : goal.returns-clause-judged
returns-clause-judged g c =
    let files = g.S.Sources.file_text c.args.sources.now in
    err_more c.write_ran.result _ _ (λ f h.
    (judged IsOfRun files (g.S.Sources.standard_text c.args.sources.now) c.new-standard.result (c.args.plan.now ∷ c.args.sessions.now ∷ []) (inputs.Plan ∷ inputs.Sessions ∷ []) f (search rules)
    (at_next IsOfRun files c.new-standard.result c.read_plan.new.standard c.args.plan.now (c.args.sessions.now ∷ []) nothing (record nothing { plan = Some c.in_ok-plan.plan }) inputs.Plan (inputs.Sessions ∷ []) f
    (plan_taken files c.new-standard.result c.args.plan.now c.read_plan.new.standard c.in_ok-plan.plan c.in_ok-plan.ensures.meaning)
    (at_next IsOfRun files c.read_plan.new.standard c.read_coded_programs.new.standard c.args.sessions.now [] (record nothing { plan = Some c.in_ok-plan.plan }) (record nothing { plan = Some c.in_ok-plan.plan; programs = Some c.in_ok-programs.programs.items }) inputs.Sessions [] f
    (sessions_taken files c.read_plan.new.standard c.args.sessions.now c.read_coded_programs.new.standard c.in_ok-plan.plan c.in_ok-programs.programs.items c.in_ok-programs.ensures.meaning)
    (texts.at_end IsOfRun files c.read_coded_programs.new.standard (record nothing { plan = Some c.in_ok-plan.plan; programs = Some c.in_ok-programs.programs.items }) f (is_end _ f h)))))) c.write_ran.ensures.leaves

pub returns-clause-runs : goal.returns-clause-runs
returns-clause-runs g c =
    let files = g.S.Sources.file_text c.args.sources.now in
    ok_more c.write_ran.result _ _ (λ status h. λ plan_text sessions_text known. (
      c.in_ok-ran.ran,
      h.0,
      (ran_offices c.args.form g.B.Socket.Wire.tells (AreFree files c.args.plan.now c.args.sessions.now) files c.new-standard.result c.read_plan.new.standard c.read_coded_programs.new.standard c.args.plan.now c.args.sessions.now plan_text sessions_text c.in_ok-plan.plan c.in_ok-programs.programs.items c.deref.result.now (option_copied c.args.journals) (option_copied c.args.next) (option_copied c.args.left) c.in_ok-ran.ran (g.W.Write.contents c.args.out.now) (g.W.Write.contents c.write_ran.new.out) (g.T.Targets.written c.args.targets.now) (g.T.Targets.written c.write_ran.new.targets)
          c.in_ok-plan.ensures.meaning c.in_ok-programs.ensures.meaning
          (started c.new-standard.result (g.S.Sources.standard_text c.args.sources.now) files (c.args.plan.now ∷ c.args.sessions.now ∷ []) (plan_text ∷ sessions_text ∷ []) (search rules) known) c.deref.ensures.value c.in_ok-look_at_folder.ensures.free (subst (λ wanted. TellsCourses c.args.form g.B.Socket.Wire.tells c.in_ok-plan.plan c.deref.result.now wanted c.in_ok-ran.ran) c.are_wanted-wanted.ensures c.in_ok-ran.ensures.courses)
          (subst (λ ps. WritesRan c.in_ok-plan.plan ps (option_copied c.args.journals) (option_copied c.args.next) (option_copied c.args.left) c.in_ok-ran.ran (g.W.Write.contents c.args.out.now) (g.W.Write.contents c.write_ran.new.out) (g.T.Targets.written c.args.targets.now) (g.T.Targets.written c.write_ran.new.targets))
          (c.deref-2.ensures.value ∙ sym c.deref.ensures.value) h.1)),
    )) c.write_ran.ensures.done

pub returns-clause-status : goal.returns-clause-status
returns-clause-status g c = ok_more c.write_ran.result _ _ (λ status h. subst (λ n. n ≤ 1) (sym h.0.1) (one_at_most c.in_ok-ran.ran.unfinished)) c.write_ran.ensures.done

pub returns-in_err-plan-clause-leaves : goal.returns-in_err-plan-clause-leaves
returns-in_err-plan-clause-leaves g c =
    let e = err_from_is_err_and c.from_residual.result c.from_residual.ensures.1 in
    rw (e.1, e.2) (refl, refl)

pub returns-in_err-programs-clause-leaves : goal.returns-in_err-programs-clause-leaves
returns-in_err-programs-clause-leaves g c =
    let e = err_from_is_err_and c.from_residual-in_err-programs.result c.from_residual-in_err-programs.ensures.1 in
    rw (e.1, e.2) (refl, refl)

pub returns-in_err-look_at_folder-clause-leaves : goal.returns-in_err-look_at_folder-clause-leaves
returns-in_err-look_at_folder-clause-leaves g c =
    let e = err_from_is_err_and c.from_residual-in_err-look_at_folder.result c.from_residual-in_err-look_at_folder.ensures.1 in
    rw (e.1, e.2) (at_place _ _ _ _ c.in_err-look_at_folder.field-0.0 c.in_err-look_at_folder.ensures.fault (refl, refl)
    (folder_refused (g.S.Sources.file_text c.args.sources.now) (g.S.Sources.standard_text c.args.sources.now) c.new-standard.result c.read_plan.new.standard c.args.plan.now c.args.sessions.now c.in_ok-plan.plan (option_copied c.args.journals) (search rules) c.in_ok-plan.ensures.meaning))

pub returns-in_err-ran-clause-leaves : goal.returns-in_err-ran-clause-leaves
returns-in_err-ran-clause-leaves g c =
    let e = err_from_is_err_and c.from_residual-in_err-ran.result c.from_residual-in_err-ran.ensures.1 in
    rw (e.1, e.2) (refl, refl)

pub returns-clause-leaves : goal.returns-clause-leaves
returns-clause-leaves g c =
    let files = g.S.Sources.file_text c.args.sources.now in
    err_more c.write_ran.result _ _ (λ f h. at_end _ (RefusesFolder (g.S.Sources.file_text c.args.sources.now) (g.S.Sources.standard_text c.args.sources.now) c.args.plan.now c.args.sessions.now (option_copied c.args.journals)) _ _ f h (λ cause h. λ plan_text sessions_text known. (
      c.in_ok-ran.ran,
      h.0,
      (ran_offices c.args.form g.B.Socket.Wire.tells (AreFree files c.args.plan.now c.args.sessions.now) files c.new-standard.result c.read_plan.new.standard c.read_coded_programs.new.standard c.args.plan.now c.args.sessions.now plan_text sessions_text c.in_ok-plan.plan c.in_ok-programs.programs.items c.deref.result.now (option_copied c.args.journals) (option_copied c.args.next) (option_copied c.args.left) c.in_ok-ran.ran (g.W.Write.contents c.args.out.now) (g.W.Write.contents c.write_ran.new.out) (g.T.Targets.written c.args.targets.now) (g.T.Targets.written c.write_ran.new.targets)
          c.in_ok-plan.ensures.meaning c.in_ok-programs.ensures.meaning
          (started c.new-standard.result (g.S.Sources.standard_text c.args.sources.now) files (c.args.plan.now ∷ c.args.sessions.now ∷ []) (plan_text ∷ sessions_text ∷ []) (search rules) known) c.deref.ensures.value c.in_ok-look_at_folder.ensures.free (subst (λ wanted. TellsCourses c.args.form g.B.Socket.Wire.tells c.in_ok-plan.plan c.deref.result.now wanted c.in_ok-ran.ran) c.are_wanted-wanted.ensures c.in_ok-ran.ensures.courses)
          (subst (λ ps. WritesRan c.in_ok-plan.plan ps (option_copied c.args.journals) (option_copied c.args.next) (option_copied c.args.left) c.in_ok-ran.ran (g.W.Write.contents c.args.out.now) (g.W.Write.contents c.write_ran.new.out) (g.T.Targets.written c.args.targets.now) (g.T.Targets.written c.write_ran.new.targets))
          (c.deref-2.ensures.value ∙ sym c.deref.ensures.value) h.1)),
    ))) c.write_ran.ensures.leaves
