use Rattle.std.proofs.Common.{ℕ, List, [], ◌∷◌, ◌++◌, ◌≡◌, ◌+◌, take, sym, ap, ◌∙◌, append_assoc}
use Rattle.std.specs.List.{flat_map}
use Rattle.std.specs.String.{string_bytes}
use Rattle.std.proofs.lemmas.List.{append-nil}
use Rattle.std.proofs.lemmas.List.Concat.{flat_map-append}
use Rattle.bottle_values.specs.declared.Value.{Value}
use Rattle.bottle_values.specs.ListLaws.{first_more}
use Rattle.bottle_values.specs.Printed.{value_text}
use Rattle.session_reports.proofs.report.add_gives.Goals as goal

pub loop-i-preserved : goal.loop-i-preserved
loop-i-preserved c =
    let f : Value → List ℕ = λ v. 32 ∷ value_text v in
    let gives = c.args.gives.now in
    let i = c.loop-i.i in
    let v = c.get.result in
    let row : flat_map f (take (i + 1) gives) ≡ flat_map f (take i gives) ++ f v =
    ap (flat_map f) (first_more gives i v c.get.ensures) ∙ flat_map-append f (take i gives) (v ∷ []) ∙ ap (λ (b : List ℕ). flat_map f (take i gives) ++ b) (append-nil (f v)) in
    c.in_ok-add_given.ensures ∙ ap (λ (b : List ℕ). b ++ f v) c.loop-i.invariant
    ∙ append_assoc (string_bytes c.push_str.new.self) (flat_map f (take i gives)) (f v)
    ∙ sym (ap (λ (b : List ℕ). string_bytes c.push_str.new.self ++ b) row)
