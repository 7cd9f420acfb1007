use Rattle.std.proofs.Common.{◌≡◌, [], length}
use Rattle.stored_runs.specs.durable.Letting.{SendsNothing}
use Rattle.stored_runs.specs.durable.refinement.Mailed.{fresh, Gives}
use Rattle.stored_runs.proofs.durable.posting.fetch.Given as goal

abbrev pub invariant-loop-i : goal.invariant-loop-i
invariant-loop-i g l = record {
  nothing : SendsNothing g.W.Wire.tells (g.W.Wire.account l.initial.wire) (g.W.Wire.account l.wire);
  gives : Gives g.W.Wire.tells (g.W.Wire.account l.initial.wire) l.mail.came [] (g.W.Wire.account l.wire);
  fresh : l.mail ≡ fresh l.mail.came;
  count : length l.mail.came ≡ l.i;
}
