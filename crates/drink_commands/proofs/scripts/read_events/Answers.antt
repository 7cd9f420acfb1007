use Rattle.std.proofs.Common.{Some, refl, subst}
use Rattle.std.proofs.lemmas.Result.{err_from_is_err_and}
use Rattle.simulation.specs.scripts.Script.{IsScript, RefusesScript, acts_with}
use Rattle.serial_command.specs.reading.Texts.{WasRead}
use Rattle.serial_command.specs.declared.reading.input.Input.TheVariants as inputs
use Rattle.command_outputs.specs.declared.fault.Fault.TheVariants.{Text}
use Rattle.drink_commands.specs.Texts.{nothing}
use Rattle.drink_commands.proofs.Faults.{RefusesWord, unread_at}
use Rattle.drink_commands.proofs.ReadWhole.{script_accepted, script_refused}
use Rattle.drink_commands.proofs.scripts.read_events.Goals as goal

pub returns-in_err-text-clause-fault : goal.returns-in_err-text-clause-fault
returns-in_err-text-clause-fault g c =
    let e = err_from_is_err_and c.from_residual.result c.from_residual.ensures.1 in
    rw (e.1, e.2) (unread_at inputs.Script (λ why. RefusesWord (g.S.Sources.file_text c.args.sources.now) c.args.standard.now c.args.word.now (record nothing { plan = Some c.args.plan.now; programs = Some c.args.programs.now }) (Text why)) c.in_err-text.field-0.0 c.in_err-text.ensures.fault)

pub returns-in-Ok-clause-meaning : goal.returns-in-Ok-clause-meaning
returns-in-Ok-clause-meaning g c =
    let p = c.args.plan.now in
    let ps = c.args.programs.now in
    let acts = acts_with ps c.in-Ok.events.items in
    let files = g.S.Sources.file_text c.args.sources.now in
    let read = subst (λ n. WasRead files c.args.standard.now c.args.word.now c.text.new.standard n c.in_ok-text.text.items) c.limit-most.ensures c.in_ok-text.ensures.text in
    script_accepted files c.args.standard.now c.args.word.now c.text.new.standard c.in_ok-text.text.items p ps acts
    read (subst (λ t. IsScript p ps t acts) c.deref.ensures.value c.in-Ok.ensures.meaning)

pub returns-in-Err-Refused-clause-fault : goal.returns-in-Err-Refused-clause-fault
returns-in-Err-Refused-clause-fault g c =
    let p = c.args.plan.now in
    let ps = c.args.programs.now in
    let files = g.S.Sources.file_text c.args.sources.now in
    let read = subst (λ n. WasRead files c.args.standard.now c.args.word.now c.text.new.standard n c.in_ok-text.text.items) c.limit-most.ensures c.in_ok-text.ensures.text in
    let refused = rw c.in-Err-Refused.field-0-is at c.in-Err-Refused.ensures.fault in (
      refl,
      λ text after has. (
        p,
        ps,
        refl,
        refl,
        script_refused p ps text c.in_ok-text.text.items c.in-Err-Refused.refusal (read text after has).0
            (subst (λ t. RefusesScript p ps t c.in-Err-Refused.refusal) c.deref.ensures.value refused),
      ),
    )
