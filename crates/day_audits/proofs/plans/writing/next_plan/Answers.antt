use Rattle.std.proofs.Common.{◌≡◌, ◌++◌, ◌<◌, ℕ, [], length, sym, ap, ap₂, ◌∙◌, subst, arith}
use Rattle.std.specs.Prelude.{true}
use Rattle.std.specs.String.{string_bytes}
use Rattle.bottle_values.specs.Operations.{is_value}
use Rattle.session_reports.specs.Report.{value_at}
use Rattle.day_audits.specs.carried.RunNumbers.{run_after}
use Rattle.day_audits.specs.plans.WrittenPlans.{ended, header_words, pair_lines, plan_text}
use Rattle.day_audits.specs.plans.NextPlans.{next_plan, IsNextPlan}
use Rattle.day_audits.proofs.plans_lemmas.WrittenLines.{text_is, value_within}
use Rattle.day_audits.proofs.plans.writing.next_plan.Goals as goal

pub returns : goal.returns
returns c =
    let p = c.args.plan.now in
    let vs = c.args.values.now in
    let m = value_at vs in
    let run : c.next_run.result ≡ run_after p.run 1 = c.next_run.ensures ∙ ap (λ r. run_after r 1) c.run.ensures in
    let header : string_bytes c.add_header.new.text ≡ [] ++ ended (header_words p.version (run_after p.run 1)) =
    c.in_ok-add_header.ensures ∙ ap (λ t. t ++ ended (header_words c.version.result c.next_run.result)) c.new-text.ensures.bytes ∙ ap₂ (λ k r. [] ++ ended (header_words k r)) c.version.ensures run in
    let text : string_bytes c.add_records.new.text ≡ plan_text (next_plan p m) =
    text_is p m (string_bytes c.add_header.new.text) (string_bytes c.add_offices.new.text) (string_bytes c.add_pairs.new.text) (string_bytes c.add_records.new.text) header c.in_ok-add_offices.ensures ((c.in_ok-add_pairs.ensures ∙ ap (λ x. string_bytes c.add_offices.new.text ++ pair_lines p x) c.pairs.ensures.all)) c.in_ok-add_records.ensures.lines in
    let values : (r : ℕ) → r < length p.records → is_value (m r) ≡ true = λ r lt. value_within vs r (omega (arith, lt, c.requires)) c.in_ok-add_records.ensures.values in
    subst (IsNextPlan p m) (sym text) (c.next_plans_are_read.ensures p m c.offices.ensures.accepted values)
