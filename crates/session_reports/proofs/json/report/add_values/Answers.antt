use Rattle.std.proofs.Common.{◌≡◌, ◌++◌, ◌<◌, ℕ, List, length, sym, ap, ◌∙◌, arith, append_assoc}
use Rattle.std.specs.String.{string_bytes}
use Rattle.std.proofs.lemmas.List.{get_or_default}
use Rattle.bottle_values.specs.declared.Value.{Value}
use Rattle.bottle_values.specs.Operations.{nought}
use Rattle.session_reports.specs.Report.{value_at}
use Rattle.session_reports.specs.json.Json.{json_value_line}
use Rattle.session_reports.proofs.json.report.add_values.Goals as goal

pub loop-i-preserved : goal.loop-i-preserved
loop-i-preserved c =
    let f : ℕ → List ℕ = λ r. json_value_line c.args.plan.now r (value_at c.args.values.now r) in
    let inside : c.loop-i.i < length c.args.values.now = omega (arith, c.loop-i-test.true, c.records-i-end.ensures.count, c.requires) in
    let read : c.index-values-i.result ≡ value_at c.args.values.now c.loop-i.i = c.index-values-i.is ∙ get_or_default {X = Value} c.args.values.now c.loop-i.i c.index-values-i.result nought inside in
    let added : string_bytes c.add_value.new.text ≡ string_bytes c.loop-i.text ++ f c.loop-i.i =
    c.in_ok-add_value.ensures ∙ ap (λ id. string_bytes c.loop-i.text ++ json_value_line c.args.plan.now id c.index-values-i.result) c.new.ensures ∙ ap (λ v. string_bytes c.loop-i.text ++ json_value_line c.args.plan.now c.loop-i.i v) read in
    added ∙ ap (λ b. b ++ f c.loop-i.i) c.loop-i.invariant ∙ append_assoc _ _ (f c.loop-i.i)
    ∙ sym (ap (λ b. string_bytes c.args.text.now ++ b) (c.rows_are_added.ensures f c.loop-i.i))
