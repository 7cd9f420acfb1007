use Rattle.std.proofs.Common.{◌≡◌, get_or, rules}
use Rattle.std.specs.String.{string_bytes}
use Rattle.command_outputs.proofs.JournalFiles.{adds_text, named_is, same_file}
use Rattle.command_outputs.proofs.journal_files.write_each.Goals as goal

pub loop-text-preserved : goal.loop-text-preserved
loop-text-preserved g c =
    let place = c.in-Some.name.now in
    let x = c.text-item.result in
    let i = c.loop-text.text-index in
    let texts = c.args.texts.now in
    let made : string_bytes c.in_ok-named.field-0 ≡ place = named_is c.from_str.result _ (λ n. string_bytes n ≡ place) c.in_ok-named.ensures.name (search rules) in
    let here : get_or texts i x ≡ x = search rules in
    adds_text (λ t. (place, string_bytes t)) texts i x _ _ _ c.loop-text-test.true here c.loop-text.invariant
    (same_file _ _ (string_bytes c.in_ok-named.field-0) place c.deref.result.now (string_bytes x) made (search rules) c.in_ok-write_file.ensures.written)
