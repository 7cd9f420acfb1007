-- The bytes of one text more stand behind those of the others.
use Rattle.std.proofs.Common.{◌≡◌, ℕ, List, ◌∷◌, [], ◌++◌, length, map, ap, ap₂, sym, ◌∙◌, rules}
use Rattle.bottle_values.specs.declared.Value.TheVariants as bottle
use Rattle.session_meaning.specs.declared.kept.Kept.{Kept}
use Rattle.session_meaning.specs.declared.kept.Kept.TheVariants as kept
use Rattle.session_meaning.specs.declared.node.Node.{Node}
use Rattle.session_meaning.specs.declared.node.Node.TheVariants.{Literal}
use Rattle.session_meaning.specs.refinement.KeptNode.{node_of}
use Rattle.session_meaning.proofs.KeptTexts.{one_text_more, all_within}
use Rattle.session_meaning.proofs.node_list.NodeList.push_text.Goals as goal

pub returns-clause-pushed : goal.returns-clause-pushed
returns-clause-pushed c =
    let bs = c.self.inside.bytes.items in
    let ks = c.self.inside.nodes.items in
    let t = c.args.text in
    let told : c.extend_from_slice.new.self.items ≡ bs ++ t = search rules in
    let put : c.push_reserved.new.self.items ≡ ks ++ kept.Text (length bs) (length t) ∷ [] = search rules in
    ap₂ (λ (b : List ℕ) (k : List Kept). map (node_of b) k) told put ∙ one_text_more bs t ks c.as_bytes-bytes.ensures.text c.self.invariant
    ∙ ap (λ (l : List Node). l ++ Literal (bottle.Text t) ∷ []) c.self.view_is
