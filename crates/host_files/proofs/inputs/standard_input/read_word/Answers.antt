use Rattle.std.proofs.Common.{rules, ◌≡◌, codes, subst}
use Rattle.std.proofs.lemmas.Result.{IfOk-weaker}
use Rattle.host_files.specs.inputs.Words.{HasText}
use Rattle.host_files.proofs.inputs.standard_input.read_word.Goals as goal

pub returns-then-eq : goal.returns-then-eq
returns-then-eq g c = record {
  text =
      let word_is : c.args.word.now ≡ codes "-" = search rules in
      IfOk-weaker c.text.result _ _ (λ v h text after has. h (g.S.Sources.file_text c.args.sources.now) text after (subst (λ w. HasText (g.S.Sources.file_text c.args.sources.now) c.args.standard.now w text after) word_is has)) c.text.ensures;
}

pub returns : goal.returns
returns c = search rules
