use Rattle.std.proofs.Common.{ap, arith, length}
use Rattle.session_programs.proofs.measures_lemmas.Saturation.{nodes_are}
use Rattle.session_programs.proofs.measures.measures.nodes.Goals as goal

pub returns-then-count-lt10001 : goal.returns-then-count-lt10001
returns-then-count-lt10001 c = omega (arith, c.len-count.ensures.len, ap length c.nodes.ensures, nodes_are c.args.e.now)

pub returns-else-count-lt10001 : goal.returns-else-count-lt10001
returns-else-count-lt10001 c = omega (arith, c.len-count.ensures.len, ap length c.nodes.ensures, nodes_are c.args.e.now)
