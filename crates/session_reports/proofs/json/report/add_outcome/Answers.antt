use Rattle.std.proofs.Common.{ℕ, List, ◌∷◌, [], ◌++◌, ap, ◌∙◌, codes}
use Rattle.std.specs.String.{string_bytes}
use Rattle.bottle_values.specs.declared.Value.{Value}
use Rattle.session_reports.specs.json.Json.{field, json_array, json_object, json_title}
use Rattle.session_reports.proofs.json_lemmas.Added.{five_added}
use Rattle.session_reports.proofs.json.report.add_outcome.Goals as goal

pub returns : goal.returns
returns c =
    let p = c.args.plan.now in
    let o = c.args.outcome.now in
    five_added c.push_str.result (string_bytes c.args.text.now) (string_bytes c.add_title.new.text) (string_bytes c.add_object_field.new.text) (string_bytes c.add_object_field-2.new.text) (string_bytes c.add_gives.new.text) (string_bytes c.push_str.new.self)
    (json_title p o) (field (codes "reads") (json_object p o.ending.reads)) (field (codes "writes") (json_object p o.ending.writes)) (field (codes "gives") (json_array o.ending.gives)) (125 ∷ 10 ∷ [])
    c.in_ok-add_title.ensures
    (c.in_ok-add_object_field.ensures ∙ ap (λ (ws : List (ℕ × Value)). string_bytes c.add_title.new.text ++ field (codes "reads") (json_object p ws)) c.as_slice.ensures)
    (c.in_ok-add_object_field-2.ensures ∙ ap (λ (ws : List (ℕ × Value)). string_bytes c.add_object_field.new.text ++ field (codes "writes") (json_object p ws)) c.as_slice-2.ensures)
    c.in_ok-add_gives.ensures
    c.push_str.ensures.bytes
