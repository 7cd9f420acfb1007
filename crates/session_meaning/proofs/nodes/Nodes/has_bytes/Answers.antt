-- Where no bytes stand beside the nodes their texts have none.
use Rattle.std.proofs.Common.{◌≡◌, length, sym, ap, ◌∙◌, arith}
use Rattle.std.proofs.lemmas.Bool.Decides.{nat_tests}
use Rattle.session_meaning.specs.refinement.TextBytes.{nodes_bytes}
use Rattle.session_meaning.proofs.KeptTexts.{none_beside}
use Rattle.session_meaning.proofs.nodes.Nodes.has_bytes.Goals as goal

pub returns : goal.returns
returns c = λ e.
    let none : length c.self.inside.bytes.now ≡ 0 = grind (e, arith, nat_tests) in
    sym (ap nodes_bytes c.self.view_is) ∙ none_beside c.self.inside.bytes.now c.self.inside.kept.now none
