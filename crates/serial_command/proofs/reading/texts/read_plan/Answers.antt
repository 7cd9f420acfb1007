use Rattle.std.proofs.Common.{◌≡◌, ℕ, List, None, Ok, Err, sym, subst, ap, ◌∙◌}
use Rattle.host_files.specs.inputs.Words.{HasText, Unread}
use Rattle.office_map.specs.PlanText.{plan_of, HasRing}
use Rattle.serial_command.specs.declared.reading.input.Input.TheVariants.{Plan}
use Rattle.serial_command.specs.declared.reading.fault.TextFault.{TextFault}
use Rattle.serial_command.specs.reading.Texts.{RefusesText}
use Rattle.serial_command.proofs.reading_lemmas.Limits.{plan_accepted, plan_read}
use Rattle.serial_command.proofs.reading_lemmas.Told.{weaker}
use Rattle.serial_command.proofs.reading.texts.read_plan.Goals as goal

pub returns-in-Ok-clause-meaning : goal.returns-in-Ok-clause-meaning
returns-in-Ok-clause-meaning g c =
    let read : plan_of c.in_ok-text.text.items ≡ Ok c.in-Ok.plan = ap plan_of (sym c.deref.ensures.value) ∙ c.in-Ok.ensures.meaning.0 in
    plan_accepted (g.S.Sources.file_text c.args.sources.now) c.args.standard.now c.args.word.now c.text.new.standard c.in_ok-text.text.items c.in-Ok.plan
    c.in_ok-text.ensures.text read c.in-Ok.ensures.meaning.1

pub returns-in-Err-Refused-clause-fault : goal.returns-in-Err-Refused-clause-fault
returns-in-Err-Refused-clause-fault g c =
    let read = ap plan_of (sym c.deref.ensures.value) ∙ (rw c.in-Err-Refused.field-0-is at c.in-Err-Refused.ensures.meaning) in
    let Told : TextFault → Type 0 = λ why. (t : List ℕ) → plan_of t ≡ Err c.in-Err-Refused.refusal → RefusesText None t why in
    let Said : TextFault → Type 0 = λ why. (text : List ℕ) (after : Unread) → HasText (g.S.Sources.file_text c.args.sources.now) c.args.standard.now c.args.word.now text after → RefusesText None text why in
    weaker Plan Told Said c.refused.result
    (λ why tells text after has. tells text (sym (plan_read text c.in_ok-text.text.items (c.in_ok-text.ensures.text text after has).0) ∙ read))
    c.refused.ensures

pub returns-in-Err-Ring-clause-fault : goal.returns-in-Err-Ring-clause-fault
returns-in-Err-Ring-clause-fault g c =
    let ring = rw c.in-Err-Ring.field-0-is at c.in-Err-Ring.ensures.meaning in
    let Told : TextFault → Type 0 = λ why. (t : List ℕ) → HasRing c.in-Err-Ring.ring (plan_of t) → RefusesText None t why in
    let Said : TextFault → Type 0 = λ why. (text : List ℕ) (after : Unread) → HasText (g.S.Sources.file_text c.args.sources.now) c.args.standard.now c.args.word.now text after → RefusesText None text why in
    weaker Plan Told Said c.in_a_ring.result
    (λ why tells text after has. tells text
    (subst (HasRing c.in-Err-Ring.ring) (ap plan_of c.deref.ensures.value ∙ plan_read text c.in_ok-text.text.items (c.in_ok-text.ensures.text text after has).0) ring))
    c.in_a_ring.ensures
