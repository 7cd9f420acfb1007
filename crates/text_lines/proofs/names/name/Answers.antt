use Rattle.std.proofs.Common.{◌≡◌, ◌∙◌, ap, Some, sym}
use Rattle.std.specs.Option.{option_copied}
use Rattle.text_lines.specs.Text.{name_of}
use Rattle.text_lines.specs.TextLaws.{text_of}
use Rattle.text_lines.proofs.AsciiNames.{name_is_text}
use Rattle.text_lines.proofs.names.name.Goals as goal

pub returns-then-is_name : goal.returns-then-is_name
returns-then-is_name c =
    let named = sym c.is_name.ensures ∙ c.if-is_name.true in
    let text = text_of _ c.args.word.now c.from_utf8.result c.from_utf8.ensures.cases (name_is_text c.args.word.now named) in
    let known : name_of c.args.word.now ≡ Some c.args.word.now = rw named in
    ap option_copied c.ok.ensures.value ∙ text ∙ sym known
