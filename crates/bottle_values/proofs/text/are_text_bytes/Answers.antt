use Rattle.std.proofs.Common.{rules}
use Rattle.std.proofs.lemmas.List.Folds.{list_all_more}
use Rattle.bottle_values.specs.Texts.{is_text_byte}
use Rattle.bottle_values.proofs.text.are_text_bytes.Goals as goal

pub loop-b-preserved : goal.loop-b-preserved
loop-b-preserved c = search (rules, list_all_more is_text_byte c.args.bytes.now c.loop-b.b-index 0)
