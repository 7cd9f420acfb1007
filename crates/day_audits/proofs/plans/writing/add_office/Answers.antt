use Rattle.std.proofs.Common.{◌≡◌, ◌++◌, ◌∷◌, [], codes, ap, ◌∙◌, subst, OnOk}
use Rattle.std.specs.String.{string_bytes}
use Rattle.day_audits.specs.plans.WrittenPlans.{ended}
use Rattle.day_audits.specs.plans.refinement.LinesByNumber.{office_line}
use Rattle.day_audits.proofs.plans_lemmas.WrittenLines.{office_line_is}
use Rattle.day_audits.proofs.plans.writing.add_office.Goals as goal

pub returns : goal.returns
returns c =
    let p = c.args.plan.now in
    let line : ended (codes "office" ∷ c.office_name.result.now ∷ c.address.result.now ∷ []) ≡ office_line p c.args.id =
    ap (λ n. ended (codes "office" ∷ n ∷ c.address.result.now ∷ [])) c.office_name.ensures ∙ office_line_is p c.args.id c.address.result.now c.address.ensures in
    subst (λ l. OnOk c.add_office_line.result (string_bytes c.add_office_line.new.text ≡ string_bytes c.args.text.now ++ l)) line c.add_office_line.ensures
