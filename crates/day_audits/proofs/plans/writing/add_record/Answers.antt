use Rattle.std.proofs.Common.{◌≡◌, ◌++◌, ◌∷◌, [], List, ℕ, codes, sym, ap, ◌∙◌, subst, OnOk}
use Rattle.std.specs.String.{string_bytes}
use Rattle.bottle_values.specs.Printed.{value_text}
use Rattle.session_reports.specs.Names.{office_name}
use Rattle.day_audits.specs.plans.WrittenPlans.{ended}
use Rattle.day_audits.specs.plans.refinement.LinesByNumber.{record_line}
use Rattle.day_audits.proofs.plans_lemmas.WrittenLines.{record_line_is}
use Rattle.day_audits.proofs.plans.writing.add_record.Goals as goal

pub returns-clause-line : goal.returns-clause-line
returns-clause-line c =
    let p = c.args.plan.now in
    let v = c.args.value in
    let words : List ℕ → List ℕ → List ℕ → List ℕ = λ a b e. ended (codes "record" ∷ c.record_name.result.now ∷ a ∷ b ∷ value_text v ∷ codes "at" ∷ e ∷ []) in
    let line : words c.office_name.result.now c.office_name-2.result.now c.office_name-3.result.now ≡ record_line p c.args.id v =
    ap (λ a. words a c.office_name-2.result.now c.office_name-3.result.now) c.office_name.ensures
    ∙ ap (λ b. words (office_name p c.ends-a.result.0) b c.office_name-3.result.now) c.office_name-2.ensures
    ∙ ap (λ e. words (office_name p c.ends-a.result.0) (office_name p c.ends-a.result.1) e) c.office_name-3.ensures
    ∙ record_line_is p c.args.id v c.record_name.result.now c.ends-a.result c.start_end-end.result (sym c.record_name.ensures) c.ends-a.ensures.ends c.start_end-end.ensures.start in
    subst (λ l. OnOk c.add_record_line.result (string_bytes c.add_record_line.new.text ≡ string_bytes c.args.text.now ++ l)) line c.add_record_line.ensures.line
