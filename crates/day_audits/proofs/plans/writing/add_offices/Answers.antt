use Rattle.std.proofs.Common.{◌≡◌, ◌++◌, ◌<◌, length, ap, ◌∙◌, arith}
use Rattle.std.specs.String.{string_bytes}
use Rattle.day_audits.specs.plans.refinement.LinesByNumber.{office_line}
use Rattle.day_audits.proofs.plans_lemmas.WrittenLines.{office_more}
use Rattle.day_audits.proofs.plans.writing.add_offices.Goals as goal

pub loop-i-preserved : goal.loop-i-preserved
loop-i-preserved c =
    let p = c.args.plan.now in
    let inside : c.loop-i.i < length p.offices = omega (arith, c.loop-i-test.true, c.offices-i-end.ensures.count) in
    let line : string_bytes c.add_office.new.text ≡ string_bytes c.loop-i.text ++ office_line p c.loop-i.i =
    c.in_ok-add_office.ensures ∙ ap (λ id. string_bytes c.loop-i.text ++ office_line p id) c.new.ensures in
    office_more p c.loop-i.i (string_bytes c.args.text.now) (string_bytes c.loop-i.text) (string_bytes c.add_office.new.text) inside c.loop-i.invariant line
