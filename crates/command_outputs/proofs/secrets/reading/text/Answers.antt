use Rattle.command_outputs.proofs.secrets_lemmas.WholeTexts.{of_text}
use Rattle.command_outputs.proofs.secrets.reading.text.Goals as goal

pub returns-in-Ok-Some-clause-text : goal.returns-in-Ok-Some-clause-text
returns-in-Ok-Some-clause-text g c =
    of_text (λ v. v.items) (λ v. v.items) (g.S.Sources.file_text c.args.sources.now c.args.name.now) c.in-Ok-Some.field-0 c.in-Ok-Some.bytes c.whole.result c.in-Ok-Some.field-0-is c.in-Ok-Some.ensures.bytes c.whole.ensures.text
