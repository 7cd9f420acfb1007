use Rattle.std.proofs.Common.{OnOk, refl, subst, inl, inr}
use Rattle.std.specs.Option.{option_copied}
use Rattle.std.specs.Io.KnownBytes.{Appends}
use Rattle.frame_world.specs.Worlds.{opening}
use Rattle.simulation.specs.scripts.Script.{acts_with}
use Rattle.simulation.specs.scripts.Runs.{run_of}
use Rattle.simulation.specs.scripts.Transcript.{transcript, IsSerialRun}
use Rattle.world_schedule.proofs.reports_lemmas.Outgoings.{on_ok_so}
use Rattle.drink_commands.specs.Simulation.{LeavesFiles}
use Rattle.drink_commands.proofs.Faults.{no_input}
use Rattle.drink_commands.proofs.Running.{err_more}
use Rattle.drink_commands.proofs.commands.sim.tell.Goals as goal

pub returns-in-Ok-clause-written : goal.returns-in-Ok-clause-written
returns-in-Ok-clause-written g c =
    on_ok_so c.write_files.result (Appends (g.W.Write.contents c.args.out.now) (g.W.Write.contents c.simulate.new.out) (transcript c.args.form c.args.plan.now (acts_with c.args.programs.now c.args.events.now))) c.in-Ok.ensures.written

pub returns-in-Ok-clause-serial : goal.returns-in-Ok-clause-serial
returns-in-Ok-clause-serial g c = on_ok_so c.write_files.result (IsSerialRun (run_of (opening c.args.plan.now) (acts_with c.args.programs.now c.args.events.now))) c.in-Ok.ensures.serial

pub returns-in-Ok-clause-files : goal.returns-in-Ok-clause-files
returns-in-Ok-clause-files g c =
    subst (λ w. OnOk c.write_files.result (LeavesFiles (option_copied c.args.journals) (option_copied c.args.next) (option_copied c.args.left) w (g.T.Targets.written c.args.targets.now) (g.T.Targets.written c.write_files.new.targets)))
    c.in-Ok.ensures.world c.write_files.ensures.files

pub returns-in-Ok-clause-status : goal.returns-in-Ok-clause-status
returns-in-Ok-clause-status g c = c.write_files.ensures.status

pub returns-in-Ok-clause-fault : goal.returns-in-Ok-clause-fault
returns-in-Ok-clause-fault g c = err_more c.write_files.result _ _ no_input c.write_files.ensures.fault

pub returns-in-Ok-clause-unwritten : goal.returns-in-Ok-clause-unwritten
returns-in-Ok-clause-unwritten g c = err_more c.write_files.result _ _ (λ f h. inl h) c.write_files.ensures.fault

pub returns-in-Err-Memory-clause-unwritten : goal.returns-in-Err-Memory-clause-unwritten
returns-in-Err-Memory-clause-unwritten g c = let same = rw c.in-Err-Memory.field-0-is at c.in-Err-Memory.ensures.unwritten in inr (same, refl)

pub returns-in-Err-WriteFailed-clause-unwritten : goal.returns-in-Err-WriteFailed-clause-unwritten
returns-in-Err-WriteFailed-clause-unwritten g c = inl tt
