use Rattle.std.proofs.Common.{◌≡◌, Ok, refl, sym, ap, ◌∙◌}
use Rattle.session_language.specs.Reading.{sessions_of}
use Rattle.serial_command.proofs.reading_lemmas.Limits.{sessions_accepted, sessions_read}
use Rattle.serial_command.proofs.reading.texts.read_programs.Goals as goal

pub returns-in-Ok-clause-meaning : goal.returns-in-Ok-clause-meaning
returns-in-Ok-clause-meaning g c =
    let read : sessions_of c.args.plan.now c.in_ok-text.text.items ≡ Ok c.in-Ok.programs.items = ap (sessions_of c.args.plan.now) (sym c.deref.ensures.value) ∙ c.in-Ok.ensures.meaning in
    sessions_accepted (g.S.Sources.file_text c.args.sources.now) c.args.standard.now c.args.word.now c.text.new.standard c.in_ok-text.text.items c.args.plan.now c.in-Ok.programs.items
    c.in_ok-text.ensures.text read

pub returns-in-Err-Refused-clause-fault : goal.returns-in-Err-Refused-clause-fault
returns-in-Err-Refused-clause-fault g c =
    let read = ap (sessions_of c.args.plan.now) (sym c.deref.ensures.value) ∙ (rw c.in-Err-Refused.field-0-is at c.in-Err-Refused.ensures.meaning) in (
      refl,
      λ text after has. (c.args.plan.now, refl, sym (sessions_read c.args.plan.now text c.in_ok-text.text.items (c.in_ok-text.ensures.text text after has).0) ∙ read),
    )
