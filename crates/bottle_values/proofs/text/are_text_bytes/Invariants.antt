use Rattle.std.proofs.Common.{◌≡◌, take}
use Rattle.std.specs.List.{list_all}
use Rattle.bottle_values.specs.Texts.{is_text_byte}
use Rattle.bottle_values.proofs.text.are_text_bytes.Given as goal

abbrev pub invariant-loop-b : goal.invariant-loop-b
invariant-loop-b l = l.all ≡ list_all is_text_byte (take l.b-index l.fn.bytes)
