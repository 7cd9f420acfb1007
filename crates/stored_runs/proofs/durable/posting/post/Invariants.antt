use Rattle.std.proofs.Common.{◌≡◌, ◌++◌, true, take}
use Rattle.stored_runs.proofs.durable.posting.post.Given as goal

abbrev pub invariant-loop-item : goal.invariant-loop-item
invariant-loop-item g l = record {
  went : g.W.Wire.tells ≡ true → g.W.Wire.account l.wire ≡ record (g.W.Wire.account l.initial.wire) { accepted = (g.W.Wire.account l.initial.wire).accepted ++ take l.item-index l.out };
  failures : (g.W.Wire.account l.wire).failures ≡ (g.W.Wire.account l.initial.wire).failures;
}
