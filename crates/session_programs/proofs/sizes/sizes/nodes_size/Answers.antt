use Rattle.std.proofs.Common.{◌<◌, [], take, length, get_or, rules}
use Rattle.std.proofs.lemmas.Option.{slice_get-get_or}
use Rattle.session_meaning.specs.declared.node.Node.TheVariants.{Negate}
use Rattle.session_meaning.specs.refinement.Postfix.{push_nodes}
use Rattle.session_programs.specs.Text.{wide_words}
use Rattle.session_programs.proofs.sizes_lemmas.SizeStep.{one_more}
use Rattle.session_programs.proofs.sizes.sizes.nodes_size.Goals as goal

pub loop-i-preserved : goal.loop-i-preserved
loop-i-preserved c =
    let ns = c.args.nodes.now in
    let i = c.loop-i.i in
    let within : i < length ns = search rules in
    let at = slice_get-get_or ns i Negate within in
    let h = c.in_ok-size.ensures (push_nodes (take i ns) []) (get_or ns i Negate) at c.loop-i.invariant.1.0 c.loop-i.invariant.1.1 in
    one_more (wide_words c.args.variables.now) ns i c.in_ok-size.size (get_or ns i Negate) c.with_node.new.ranks.items at h.0 h.1
