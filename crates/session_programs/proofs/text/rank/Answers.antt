use Rattle.std.proofs.Common.{◌≡◌, [], ap, subst, length}
use Rattle.std.specs.Prelude.{IfNone}
use Rattle.session_programs.proofs.LastNode.{no_nodes}
use Rattle.session_programs.proofs.text.rank.Goals as goal

pub returns-in_default-2 : goal.returns-in_default-2
returns-in_default-2 c = λ e is. absurd (no_nodes e c.args.nodes.now is (ap length (subst (λ o. IfNone o (c.args.nodes.now ≡ [])) c.in_default.is c.split_last.ensures.none)))
