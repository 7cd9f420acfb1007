use Rattle.std.proofs.Common.{ℕ, List, [], ◌∷◌, ◌++◌, take, if◌then◌else◌, sym, ap, ◌∙◌, append_assoc}
use Rattle.std.specs.Prelude.{◌==◌}
use Rattle.std.specs.String.{string_bytes}
use Rattle.session_reports.specs.json.Json.{joined, json_value}
use Rattle.session_reports.proofs.json_lemmas.Added.{item_added}
use Rattle.session_reports.proofs.json.report.add_items.Goals as goal

pub loop-i-preserved : goal.loop-i-preserved
loop-i-preserved c =
    let old = string_bytes c.args.text.now in
    let before = joined json_value (take c.loop-i.i c.args.gives.now) in
    let item : List ℕ = (if c.loop-i.i == 0 then [] else 44 ∷ []) ++ json_value c.get.result in
    c.in_ok-add_item.ensures ∙ ap (λ (b : List ℕ). b ++ item) c.loop-i.invariant ∙ append_assoc old before item
    ∙ sym (ap (λ (b : List ℕ). old ++ b) (item_added json_value c.args.gives.now c.loop-i.i c.get.result c.get.ensures))
