use Rattle.std.proofs.Common.{map}
use Rattle.std.proofs.lemmas.Result.{err_from_is_err_and}
use Rattle.command_outputs.specs.declared.fault.Fault.TheVariants.{Memory, Text}
use Rattle.drink_commands.proofs.JournalTexts.{at_journals, at_plan, audited, says_later}
use Rattle.drink_commands.proofs.commands.audit.found.Goals as goal

pub returns-in_err-plan-clause-fault : goal.returns-in_err-plan-clause-fault
returns-in_err-plan-clause-fault g c =
    let e = err_from_is_err_and c.from_residual.result c.from_residual.ensures.1 in
    let files = g.S.Sources.file_text c.args.sources.now in
    let words = map (λ w. w.now) c.args.journals.now in
    rw (e.1, e.2) (at_plan files c.args.standard.now c.args.plan.now words (Text c.in_err-plan.field-0.0) c.in_err-plan.ensures.fault)

pub returns-in_err-journals-clause-fault : goal.returns-in_err-journals-clause-fault
returns-in_err-journals-clause-fault g c =
    let e = err_from_is_err_and c.from_residual-in_err-journals.result c.from_residual-in_err-journals.ensures.1 in
    let files = g.S.Sources.file_text c.args.sources.now in
    let words = map (λ w. w.now) c.args.journals.now in
    rw (e.1, e.2)
    (at_journals files c.args.standard.now c.read_plan.new.standard c.args.plan.now words c.in_ok-plan.plan c.in_err-journals.field-0.0
    c.in_ok-plan.ensures.meaning c.in_err-journals.ensures.fault)

pub returns-in_err-audit-clause-fault : goal.returns-in_err-audit-clause-fault
returns-in_err-audit-clause-fault g c =
    let e = err_from_is_err_and c.from_residual-in_err-audit.result c.from_residual-in_err-audit.ensures.1 in
    let files = g.S.Sources.file_text c.args.sources.now in
    let words = map (λ w. w.now) c.args.journals.now in
    rw (e.1, e.2) (at_plan files c.args.standard.now c.args.plan.now words Memory tt)

pub returns-clause-told : goal.returns-clause-told
returns-clause-told g c =
    let files = g.S.Sources.file_text c.args.sources.now in
    let words = map (λ w. w.now) c.args.journals.now in
    audited files c.args.form c.args.standard.now c.read_plan.new.standard c.args.plan.now words c.in_ok-plan.plan c.in_ok-journals.journals c.in_ok-audit.field-0.world _
    c.in_ok-plan.ensures.meaning c.in_ok-journals.ensures.meaning c.in_ok-audit.ensures.woven c.in_ok-audit.ensures.unwoven

pub returns-clause-later : goal.returns-clause-later
returns-clause-later g c =
    let files = g.S.Sources.file_text c.args.sources.now in
    let words = map (λ w. w.now) c.args.journals.now in
    λ f none. at_journals files c.args.standard.now c.read_plan.new.standard c.args.plan.now words c.in_ok-plan.plan f c.in_ok-plan.ensures.meaning
    (says_later files c.in_ok-plan.plan c.read_plan.new.standard words f c.in_ok-journals.ensures.gathered none)
