use Rattle.std.proofs.Common.{sym, ap, ◌∙◌}
use Rattle.session_meaning.specs.refinement.Postfix.{postfix}
use Rattle.session_meaning.proofs.expression.Expression.nodes.Goals as goal

pub returns : goal.returns
returns c = c.nodes.ensures ∙ sym c.self.invariant ∙ ap postfix c.self.view_is
