use Rattle.std.proofs.Common.{length, take, drop, map, sym, ap, ◌∙◌, arith}
use Rattle.std.proofs.lemmas.List.{length-map, drop-map, take-map}
use Rattle.session_meaning.specs.refinement.KeptNode.{node_of}
use Rattle.session_meaning.proofs.nodes.Nodes.split_at.Goals as goal

pub split_at-requires : goal.split_at-requires
split_at-requires c = omega (arith, c.requires, length-map c.self.inside.kept.now (node_of c.self.inside.bytes.now), ap length c.self.view_is)

pub returns-clause-front : goal.returns-clause-front
returns-clause-front c = ap (map (node_of c.self.inside.bytes.now)) c.split_at.ensures.front ∙ sym (take-map (node_of c.self.inside.bytes.now) c.args.at c.self.inside.kept.now) ∙ ap (take c.args.at) c.self.view_is

pub returns-clause-back : goal.returns-clause-back
returns-clause-back c = ap (map (node_of c.self.inside.bytes.now)) c.split_at.ensures.back ∙ sym (drop-map (node_of c.self.inside.bytes.now) c.args.at c.self.inside.kept.now) ∙ ap (drop c.args.at) c.self.view_is
