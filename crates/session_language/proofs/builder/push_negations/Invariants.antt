use Rattle.std.proofs.Common.{◌≡◌, ◌++◌, replicate}
use Rattle.session_meaning.specs.declared.node.Node.TheVariants.{Negate}
use Rattle.session_language.proofs.builder.push_negations.Given as goal

abbrev pub invariant-loop : goal.invariant-loop
invariant-loop l = l.nodes ≡ l.fn.nodes ++ replicate l.counter Negate
