use Rattle.std.proofs.Common.{◌≡◌, ◌∷◌, ◌++◌, [], List, ℕ, append_assoc, ap, sym, ◌∙◌, codes}
use Rattle.std.specs.String.{string_bytes}
use Rattle.session_reports.specs.json.Json.{field, key, quoted}
use Rattle.session_reports.specs.declared.form.forms.Form.{Form}
use Rattle.session_reports.specs.declared.form.forms.Form.TheVariants.{Json}
use Rattle.serving.specs.answers.Said.{away_as}
use Rattle.serving.proofs.answers_lemmas.Answered.{on_ok}
use Rattle.serving.proofs.answers.said.add_away.Goals as goal

closed : (xs ys : List ℕ) → 34 ∷ (xs ++ 34 ∷ ys) ≡ quoted xs ++ ys
closed xs ys = ap (λ l. 34 ∷ l) (sym (append_assoc xs (34 ∷ []) ys))

-- the object, part by part
object : (name neighbour : List ℕ) → 123 ∷ (key (codes "away") ++ 34 ∷ (name ++ 34 ∷ 44 ∷ (key (codes "neighbour") ++ 34 ∷ (neighbour ++ 34 ∷ 125 ∷ 10 ∷ [])))) ≡ away_as Json name neighbour
object name neighbour =
    ap (λ l. 123 ∷ (key (codes "away") ++ 34 ∷ (name ++ 34 ∷ 44 ∷ (key (codes "neighbour") ++ l)))) (closed neighbour (125 ∷ 10 ∷ []))
    ∙ ap (λ l. 123 ∷ (key (codes "away") ++ l)) (closed name (field (codes "neighbour") (quoted neighbour) ++ 125 ∷ 10 ∷ []))

pub returns-in-Json : goal.returns-in-Json
returns-in-Json c =
    let name = c.args.name.now in
    let neighbour = c.args.neighbour.now in
    on_ok c.writeln-in-Json.result _ _ (λ h. h ∙ ap (λ l. string_bytes c.args.text.now ++ l) (object name neighbour ∙ ap (λ (f : Form). away_as f name neighbour) (sym c.in-Json.is))) c.writeln-in-Json.ensures.bytes
