use Rattle.std.proofs.Common.{◌≡◌, ◌<◌, List, length, get_or, Some, slice_get, sym, ap, ◌∙◌, subst, arith}
use Rattle.std.proofs.lemmas.List.{length-map, get_or-map}
use Rattle.std.proofs.lemmas.Option.{slice_get-get_or}
use Rattle.session_meaning.specs.declared.node.Node.{Node}
use Rattle.session_meaning.specs.refinement.KeptNode.{node_of}
use Rattle.session_meaning.specs.refinement.NodeParts.{IsPart}
use Rattle.session_meaning.proofs.nodes.Nodes.part.Goals as goal

pub returns : goal.returns
returns c =
    let kept = c.self.inside.kept.now in
    let bytes = c.self.inside.bytes.now in
    let ns : List Node = c.args.self.now in
    let node : Node = node_of bytes c.index-kept-i.result in
    let within : c.args.i < length kept = omega (arith, c.requires, length-map kept (node_of bytes), ap length c.self.view_is) in
    let told : get_or ns c.args.i node ≡ node =
    ap (λ (l : List Node). get_or l c.args.i node) (sym c.self.view_is) ∙ get_or-map (node_of bytes) kept c.args.i c.index-kept-i.result node within ∙ ap (node_of bytes) (sym c.index-kept-i.is) in
    subst (λ n. IsPart n c.part.result) (sym (slice_get-get_or ns c.args.i node c.requires ∙ ap Some told)) (c.part.ensures bytes)
