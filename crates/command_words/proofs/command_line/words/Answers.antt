use Rattle.std.proofs.Common.{◌≡◌, ◌∙◌, List, [], Option, option_map, unwrap_or, map, ap, sym}
use Rattle.std.proofs.lemmas.Result.{IfOk-weaker}
use Rattle.std.specs.Borrow.{Bor}
use Rattle.clap.specs.Words.{Text, found_of}
use Rattle.clap.proofs.WalkLemmas.{raw_values-rows}
use Rattle.command_words.proofs.command_line.words.Goals as goal

abbrev texts : List (Bor Text) → List Text
texts = map (λ w. w.now)

-- what was found, as texts
found_texts : (o : Option (Bor (List (Bor Text)))) (p : Option (List Text)) → option_map (λ s. texts s.now) o ≡ p → unwrap_or p [] ≡ unwrap_or (option_map (λ s. texts s.now) o) []
found_texts o p e = ap (λ q. unwrap_or q []) (sym e)

pub returns-in-Some : goal.returns-in-Some
returns-in-Some c =
    let rows = c.get_strs.ensures ∙ raw_values-rows (found_of c.args.matches.now) c.args.id.now in
    let all = found_texts c.get_strs.result _ rows ∙ ap (λ o. unwrap_or (option_map (λ (s : Bor (List (Bor Text))). texts s.now) o) []) c.in-Some.is in
    IfOk-weaker c.to_vec.result _ _ (λ v same. ap texts (same (λ x y e. e)) ∙ sym all) c.to_vec.ensures.items_if_clones_equal

pub returns-in-None : goal.returns-in-None
returns-in-None c =
    let rows = c.get_strs.ensures ∙ raw_values-rows (found_of c.args.matches.now) c.args.id.now in
    ap texts c.new.ensures.items ∙ sym (found_texts c.get_strs.result _ rows ∙ ap (λ o. unwrap_or (option_map (λ (s : Bor (List (Bor Text))). texts s.now) o) []) c.in-None.is)
