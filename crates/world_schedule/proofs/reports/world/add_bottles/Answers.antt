use Rattle.std.proofs.Common.{◌≡◌, ◌++◌, ℕ, List, sym, ap, ap₂, ◌∙◌, append_assoc, get_or}
use Rattle.std.specs.String.{string_bytes}
use Rattle.bottle_values.specs.Operations.{nought}
use Rattle.session_reports.specs.form.Forms.{value_as}
use Rattle.world_schedule.specs.reports.WorldReport.{bottle_value}
use Rattle.world_schedule.proofs.reports.world.add_bottles.Goals as goal

pub loop-i-preserved : goal.loop-i-preserved
loop-i-preserved c =
    let w = c.args.world.now in
    let f : ℕ → List ℕ = λ r. value_as c.args.form w.plan r (bottle_value w r) in
    let value = sym (ap (λ l. get_or l 0 nought) c.value_of.ensures.bottle) ∙ ap (bottle_value w) c.new-id.ensures in
    let row : value_as c.args.form w.plan c.new-id.result c.value_of.result ≡ f c.loop-i.i = ap₂ (value_as c.args.form w.plan) c.new-id.ensures value in
    let added : string_bytes c.add_value.new.text ≡ string_bytes c.loop-i.text ++ f c.loop-i.i =
    c.in_ok-add_value.ensures ∙ ap (λ p. string_bytes c.loop-i.text ++ value_as c.args.form p c.new-id.result c.value_of.result) c.plan-plan.ensures ∙ ap (λ b. string_bytes c.loop-i.text ++ b) row in
    added ∙ ap (λ b. b ++ f c.loop-i.i) c.loop-i.invariant ∙ append_assoc _ _ (f c.loop-i.i)
    ∙ sym (ap (λ b. string_bytes c.args.text.now ++ b) (c.rows_are_added.ensures f c.loop-i.i))
