use Rattle.std.proofs.Common.{◌≡◌, Some, slice_get, rules}
use Rattle.bottle_values.specs.declared.Value.TheVariants as values
use Rattle.session_meaning.specs.declared.node.Node.TheVariants.{Literal}
use Rattle.session_programs.proofs.sizes.sizes.with_node.Goals as goal

pub returns-in-Text : goal.returns-in-Text
returns-in-Text c st node is ranks size =
    let t = c.in-Text.ensures.0 in
    let told : slice_get c.args.nodes.now c.args.i ≡ Some (Literal (values.Text t)) = c.in-Text.ensures.1 in
    let count = c.size_of_text.ensures.count (values.Text t) told in
    let same : node ≡ Literal (values.Text t) = search (rules, is, told) in
    rw same (search (rules, count, ranks, size))

pub returns-in-Read : goal.returns-in-Read
returns-in-Read c = search rules
