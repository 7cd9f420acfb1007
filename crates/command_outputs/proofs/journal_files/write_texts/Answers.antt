use Rattle.std.proofs.Common.{◌≡◌, ◌∙◌, ◌∷◌, [], ap, get_or, map, rules, subst, sym}
use Rattle.std.specs.String.{string_bytes}
use Rattle.std.proofs.lemmas.List.{get_or-map}
use Rattle.host_files.specs.outputs.Written.{AddsFiles}
use Rattle.command_outputs.specs.Journals.{file_name}
use Rattle.command_outputs.proofs.JournalFiles.{adds_office}
use Rattle.command_outputs.proofs.journal_files.write_texts.Goals as goal

pub loop-a-preserved : goal.loop-a-preserved
loop-a-preserved g c =
    let place = c.in-Some.folder.now in
    let p = c.args.plan.now in
    let texts = map string_bytes c.args.texts.now in
    let here : c.new.result ≡ c.loop-a.a = search rules in
    let x = c.index-texts-a.result in
    let here_too : get_or c.args.texts.now c.loop-a.a x ≡ x = search rules in
    let shown : c.deref.result.now ≡ string_bytes x = search rules in
    let text : c.deref.result.now ≡ get_or texts c.loop-a.a [] =
    shown ∙ ap string_bytes (sym here_too) ∙ sym (get_or-map string_bytes c.args.texts.now c.loop-a.a x [] c.loop-a-test.true) in
    adds_office place p (λ a. get_or texts a []) c.loop-a.a _ _ _ c.loop-a.invariant
    (subst (λ a. AddsFiles (g.T.Targets.written c.loop-a.targets) (g.T.Targets.written c.write_one.new.targets) ((file_name place p a, get_or texts c.loop-a.a []) ∷ [])) here
    (subst (λ x. AddsFiles (g.T.Targets.written c.loop-a.targets) (g.T.Targets.written c.write_one.new.targets) ((file_name place p c.new.result, x) ∷ [])) text c.in_ok-write_one.ensures.written))
