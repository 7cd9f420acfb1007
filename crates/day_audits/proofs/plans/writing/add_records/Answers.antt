use Rattle.std.proofs.Common.{◌≡◌, ◌++◌, ◌<◌, length, ap, ◌∙◌, arith}
use Rattle.std.specs.String.{string_bytes}
use Rattle.std.proofs.lemmas.List.{get_or_default}
use Rattle.bottle_values.specs.declared.Value.{Value}
use Rattle.bottle_values.specs.Operations.{nought}
use Rattle.session_reports.specs.Report.{value_at}
use Rattle.day_audits.specs.plans.refinement.LinesByNumber.{record_line}
use Rattle.day_audits.proofs.plans_lemmas.WrittenLines.{record_more, values_more}
use Rattle.day_audits.proofs.plans.writing.add_records.Goals as goal

pub loop-i-preserved : goal.loop-i-preserved
loop-i-preserved c =
    let p = c.args.plan.now in
    let vs = c.args.values.now in
    let v = c.index-values-i.result in
    let inside : c.loop-i.i < length p.records = omega (arith, c.loop-i-test.true, c.records-i-end.ensures.count) in
    let within : c.loop-i.i < length vs = omega (arith, inside, c.requires) in
    let read : v ≡ value_at vs c.loop-i.i = c.index-values-i.is ∙ get_or_default {X = Value} vs c.loop-i.i v nought within in
    let line : string_bytes c.add_record.new.text ≡ string_bytes c.loop-i.text ++ record_line p c.loop-i.i v =
    c.in_ok-add_record.ensures.line ∙ ap (λ id. string_bytes c.loop-i.text ++ record_line p id v) c.new.ensures in (
      record_more p (value_at vs) c.loop-i.i v (string_bytes c.args.text.now) (string_bytes c.loop-i.text) (string_bytes c.add_record.new.text) inside read c.loop-i.invariant.0 line,
      values_more vs c.loop-i.i v within c.index-values-i.is c.loop-i.invariant.1 c.in_ok-add_record.ensures.value,
    )
