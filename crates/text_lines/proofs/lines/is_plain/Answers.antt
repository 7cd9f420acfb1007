use Rattle.std.proofs.Common.{◌∙◌, ◌&&◌, ap, sym, arith, take}
use Rattle.std.specs.List.{list_all}
use Rattle.std.proofs.lemmas.List.{take_all}
use Rattle.std.proofs.lemmas.List.Folds.{list_all_more}
use Rattle.text_lines.specs.Text.{is_plain}
use Rattle.text_lines.proofs.lines.is_plain.Goals as goal

pub loop-b-preserved : goal.loop-b-preserved
loop-b-preserved c =
    ap (λ t. t && c.is_plain_byte-all.result) c.loop-b.invariant
    ∙ ap (λ t. list_all is_plain (take c.loop-b.b-index c.args.line.now) && t) c.is_plain_byte-all.ensures
    ∙ sym (list_all_more is_plain c.args.line.now c.loop-b.b-index 0 (omega arith))

pub returns : goal.returns
returns c = c.loop-b.invariant ∙ ap (list_all is_plain) (take_all c.loop-b.b-index c.args.line.now (omega arith))
