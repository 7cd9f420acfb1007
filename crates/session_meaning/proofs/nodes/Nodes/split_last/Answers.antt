use Rattle.std.proofs.Common.{◌≡◌, ◌++◌, ◌∷◌, [], length, map, sym, ap, ◌∙◌, arith, length-append, rules}
use Rattle.std.proofs.lemmas.List.{map-append}
use Rattle.session_meaning.specs.declared.node.Node.{Node}
use Rattle.session_meaning.specs.refinement.KeptNode.{node_of}
use Rattle.session_meaning.proofs.nodes.Nodes.split_last.Goals as goal

pub returns-clause-some : goal.returns-clause-some
returns-clause-some c =
    let before = c.in_ok-last.before.now in
    let cut : c.self.inside.kept.now ≡ before ++ c.in_ok-last.last.now ∷ [] = search rules in
    sym c.self.view_is ∙ ap (map (node_of c.self.inside.bytes.now)) cut ∙ map-append (node_of c.self.inside.bytes.now) before (c.in_ok-last.last.now ∷ []) ∙ ap (λ (n : Node). map (node_of c.self.inside.bytes.now) before ++ n ∷ []) (sym c.node.ensures)

pub returns-clause-shorter : goal.returns-clause-shorter
returns-clause-shorter c =
    let before = c.in_ok-last.before.now in
    let all : c.args.self.now ≡ map (node_of c.self.inside.bytes.now) before ++ c.node.result ∷ [] = returns-clause-some c in
    omega (arith, ap length all, length-append (map (node_of c.self.inside.bytes.now) before) (c.node.result ∷ []))
