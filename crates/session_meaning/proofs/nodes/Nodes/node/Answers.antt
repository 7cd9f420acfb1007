use Rattle.std.proofs.Common.{◌≡◌, ◌<◌, ◌∷◌, ◌+◌, List, length, get_or, drop, Some, sym, ap, ◌∙◌, arith}
use Rattle.std.proofs.lemmas.List.{length-map, get_or-map, drop_more}
use Rattle.std.proofs.lemmas.Option.{slice_get-get_or}
use Rattle.session_meaning.specs.declared.node.Node.{Node}
use Rattle.session_meaning.specs.refinement.KeptNode.{node_of}
use Rattle.session_meaning.proofs.nodes.Nodes.node.Goals as goal

pub returns-clause-node : goal.returns-clause-node
returns-clause-node c =
    let kept = c.self.inside.kept.now in
    let ns : List Node = c.args.self.now in
    let within : c.args.i < length kept = omega (arith, c.requires, length-map kept (node_of c.self.inside.bytes.now), ap length c.self.view_is) in
    let told : get_or ns c.args.i c.node.result ≡ c.node.result =
    ap (λ (l : List Node). get_or l c.args.i c.node.result) (sym c.self.view_is) ∙ get_or-map (node_of c.self.inside.bytes.now) kept c.args.i c.index-kept-i.result c.node.result within ∙ ap (node_of c.self.inside.bytes.now) (sym c.index-kept-i.is) ∙ sym c.node.ensures in
    slice_get-get_or ns c.args.i c.node.result c.requires ∙ ap Some told

pub returns-clause-rest : goal.returns-clause-rest
returns-clause-rest c =
    let kept = c.self.inside.kept.now in
    let ns : List Node = c.args.self.now in
    let within : c.args.i < length kept = omega (arith, c.requires, length-map kept (node_of c.self.inside.bytes.now), ap length c.self.view_is) in
    let told : get_or ns c.args.i c.node.result ≡ c.node.result =
    ap (λ (l : List Node). get_or l c.args.i c.node.result) (sym c.self.view_is) ∙ get_or-map (node_of c.self.inside.bytes.now) kept c.args.i c.index-kept-i.result c.node.result within ∙ ap (node_of c.self.inside.bytes.now) (sym c.index-kept-i.is) ∙ sym c.node.ensures in
    drop_more ns c.args.i c.node.result c.requires ∙ ap (λ n. n ∷ drop (c.args.i + 1) ns) told
