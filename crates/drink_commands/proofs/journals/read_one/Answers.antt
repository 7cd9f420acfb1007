use Rattle.std.proofs.Common.{◌∙◌, ◌∷◌, ◌++◌, [], length, subst}
use Rattle.day_audits.specs.audit.Gathering.{IsRefusedAt}
use Rattle.day_audits.specs.audit.Following.{Gathers}
use Rattle.serial_command.specs.declared.reading.input.Input.TheVariants as inputs
use Rattle.drink_commands.specs.Audit.{IsToldAs}
use Rattle.drink_commands.specs.refinement.Journals.{RefusesOne}
use Rattle.drink_commands.proofs.Faults.{weaker}
use Rattle.drink_commands.proofs.journals.read_one.Goals as goal

pub returns-in-Ok-clause-taken : goal.returns-in-Ok-clause-taken
returns-in-Ok-clause-taken g c = λ text after has.
    let it = c.in_ok-text.ensures.text text after has in
    (it.1, λ before h. subst (λ t. Gathers c.args.plan.now (before ++ t ∷ []) c.read.new.self) (c.deref.ensures.value ∙ it.0) (c.in-Ok.ensures.gathered c.args.plan.now before h))

pub returns-clause-fault : goal.returns-clause-fault
returns-clause-fault g c =
    weaker (inputs.Journal c.args.place) (IsToldAs c.in-Err.fault) (RefusesOne (g.S.Sources.file_text c.args.sources.now) c.args.plan.now c.args.standard.now c.args.word.now c.args.place c.args.journals.now) c.refused.result
    (λ why told. λ text after has before rest h e.
    let it = c.in_ok-text.ensures.text text after has in
    let here = c.in-Err.ensures.refused c.args.plan.now before rest h in (
      c.in-Err.fault,
      subst (λ n. IsRefusedAt c.args.plan.now (before ++ text ∷ rest) n c.in-Err.fault) e
          (subst (λ t. IsRefusedAt c.args.plan.now (before ++ t ∷ rest) (length before) c.in-Err.fault) (c.deref.ensures.value ∙ it.0) here),
      told,
    ))
    c.refused.ensures
