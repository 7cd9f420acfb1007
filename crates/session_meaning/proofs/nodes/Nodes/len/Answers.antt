use Rattle.std.proofs.Common.{length, sym, ap, ◌∙◌, arith}
use Rattle.std.proofs.lemmas.List.{length-map}
use Rattle.session_meaning.specs.refinement.KeptNode.{node_of}
use Rattle.session_meaning.proofs.nodes.Nodes.len.Goals as goal

pub returns-clause-len : goal.returns-clause-len
returns-clause-len c = sym (length-map c.self.inside.kept.now (node_of c.self.inside.bytes.now)) ∙ ap length c.self.view_is

pub returns-clause-few : goal.returns-clause-few
returns-clause-few c = omega (arith, c.self.told, length-map c.self.inside.kept.now (node_of c.self.inside.bytes.now), ap length c.self.view_is)
