use Rattle.std.proofs.Common.{rules}
use Rattle.std.proofs.lemmas.Result.{IfOk-weaker}
use Rattle.host_files.proofs.inputs_lemmas.WordText.{last_of, part_of}
use Rattle.host_files.proofs.inputs.standard_input.StandardInput.text.Goals as goal

pub returns-then-self-lt2 : goal.returns-then-self-lt2
returns-then-self-lt2 g c =
    IfOk-weaker c.last.result _ _ (λ v h files text after has. last_of files c.args.self.now text after c.args.limit v.items c.last.new.self (search rules) h has) c.last.ensures.text

pub returns : goal.returns
returns g c =
    IfOk-weaker c.part.result _ _ (λ v h files text after has. part_of files c.args.self.now text after c.args.limit v.items c.part.new.self (search rules) h has) c.part.ensures.text
