use Rattle.std.proofs.Common.{◌≡◌, ◌∙◌, ap, Some, sym}
use Rattle.std.specs.Option.{option_copied}
use Rattle.office_map.specs.Address.{address_of_word}
use Rattle.text_lines.specs.TextLaws.{text_of}
use Rattle.office_map.proofs.AsciiAddresses.{address_is_text, read_of}
use Rattle.office_map.proofs.address.address.Goals as goal

pub returns-then-is_address-clause-word : goal.returns-then-is_address-clause-word
returns-then-is_address-clause-word c =
    let address = sym c.is_address.ensures ∙ c.if-is_address.true in
    let text = text_of _ c.args.word.now c.from_utf8.result c.from_utf8.ensures.cases (address_is_text c.args.word.now address) in
    let known : address_of_word c.args.word.now ≡ Some c.args.word.now = rw address in
    ap option_copied c.ok.ensures.value ∙ text ∙ sym known

pub returns-then-is_address-clause-address : goal.returns-then-is_address-clause-address
returns-then-is_address-clause-address c =
    let address = sym c.is_address.ensures ∙ c.if-is_address.true in
    let text = text_of _ c.args.word.now c.from_utf8.result c.from_utf8.ensures.cases (address_is_text c.args.word.now address) in
    read_of c.ok.result c.args.word.now (ap option_copied c.ok.ensures.value ∙ text) address
