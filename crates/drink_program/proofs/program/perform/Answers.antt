use Rattle.std.proofs.Common.{ℕ, List, ◌∷◌, map, sym, subst, IfErr}
use Rattle.std.specs.Option.{option_copied}
use Rattle.host_files.specs.inputs.Words.{StandFor}
use Rattle.drink_commands.specs.Audit.{Audits, IsJudgedAudit}
use Rattle.drink_commands.specs.Sealed.{IsUnderSeals}
use Rattle.drink_commands.specs.Served.{IsServed, ServesOffice}
use Rattle.drink_program.proofs.Done.{keeps, ok_more}
use Rattle.drink_program.proofs.program.perform.Goals as goal

pub returns-in-Serial : goal.returns-in-Serial
returns-in-Serial g c = record {
  done = rw (c.in-Serial.is, sym c.of-form.ensures) c.run.ensures.reports;
  status = rw c.in-Serial.is c.run.ensures.status;
  judged = rw c.in-Serial.is c.run.ensures.judged;
}

pub returns-in-Sim : goal.returns-in-Sim
returns-in-Sim g c = record {
  done = rw (c.in-Sim.is, sym c.of-form-in-Sim.ensures) c.run-in-Sim.ensures.simulates;
  status = rw c.in-Sim.is c.run-in-Sim.ensures.status;
  judged = rw c.in-Sim.is c.run-in-Sim.ensures.judged;
}

pub returns-in-Random : goal.returns-in-Random
returns-in-Random g c = record {
  done = rw (c.in-Random.is, sym c.of-form-in-Random.ensures) c.run-in-Random.ensures.tells;
  status = rw c.in-Random.is c.run-in-Random.ensures.status;
  judged = rw c.in-Random.is c.run-in-Random.ensures.judged;
}

pub returns-in-Run : goal.returns-in-Run
returns-in-Run g c = record {
  done = rw (c.in-Run.is, sym c.of-form-in-Run.ensures) c.run-in-Run.ensures.runs;
  status = rw c.in-Run.is c.run-in-Run.ensures.status;
  judged = rw c.in-Run.is c.run-in-Run.ensures.judged;
}

pub returns-in-RunStored : goal.returns-in-RunStored
returns-in-RunStored g c = record {
  done = rw (c.in-RunStored.is, sym c.of-form-in-RunStored.ensures) (ok_more c.run-in-RunStored.result _ _ (λ status h. (keeps _, h)) c.run-in-RunStored.ensures.runs);
  status = rw c.in-RunStored.is c.run-in-RunStored.ensures.status;
  judged = rw c.in-RunStored.is c.run-in-RunStored.ensures.judged;
}

pub returns-in-Serve : goal.returns-in-Serve
returns-in-Serve g c =
    let files = g.S.Sources.file_text c.args.sources.now in
    let standard = g.S.Sources.standard_text c.args.sources.now in
    record {
      done = rw (c.in-Serve.is, sym c.of-form-in-Serve.ensures) (ok_more c.run-in-Serve.result _ _ (λ status h. (
        keeps _,
        subst (λ asks. ServesOffice (IsUnderSeals g.B.Socket.Wire.account files (option_copied c.in-Serve.secrets)) c.of-form-in-Serve.result g.B.Socket.Wire.tells files standard (g.K.Stores.has c.args.stores.now c.in-Serve.store.now) c.in-Serve.new c.in-Serve.plan.now c.in-Serve.office.now c.in-Serve.store.now asks IsServed
            (g.W.Write.contents c.args.out.now) (g.W.Write.contents c.run-in-Serve.new.out)) c.requires h,
      )) c.run-in-Serve.ensures.serves);
      status = rw c.in-Serve.is c.run-in-Serve.ensures.status;
      judged = rw c.in-Serve.is c.run-in-Serve.ensures.judged;
    }

pub returns-in-Live : goal.returns-in-Live
returns-in-Live g c = record {
  done = rw (c.in-Live.is, sym c.of-form-in-Live.ensures) c.run-in-Live.ensures.runs;
  status = rw c.in-Live.is c.run-in-Live.ensures.status;
  judged = rw c.in-Live.is c.run-in-Live.ensures.judged;
}

pub returns-in-Audit : goal.returns-in-Audit
returns-in-Audit g c =
    let files = g.S.Sources.file_text c.args.sources.now in
    let standard = g.S.Sources.standard_text c.args.sources.now in
    let plan = c.in-Audit.plan.now in
    record {
      done = rw (c.in-Audit.is, sym c.of-form-in-Audit.ensures) (ok_more c.run-in-Audit.result _ _ (λ status h.
          subst (λ js. (plan_text : List ℕ) (texts : List (List ℕ)) → StandFor files standard (plan ∷ map (λ w. w.now) js) (plan_text ∷ texts)
          → Audits c.of-form-in-Audit.result plan_text texts (option_copied c.in-Audit.next) (option_copied c.in-Audit.left) status (g.W.Write.contents c.args.out.now) (g.W.Write.contents c.run-in-Audit.new.out)
          (g.T.Targets.written c.args.targets.now) (g.T.Targets.written c.run-in-Audit.new.targets)) c.deref.ensures.value h) c.run-in-Audit.ensures.audits);
      status = rw c.in-Audit.is c.run-in-Audit.ensures.status;
      judged = rw c.in-Audit.is (subst (λ js. IfErr c.run-in-Audit.result (IsJudgedAudit files standard plan (map (λ w. w.now) js))) c.deref.ensures.value c.run-in-Audit.ensures.judged);
    }
