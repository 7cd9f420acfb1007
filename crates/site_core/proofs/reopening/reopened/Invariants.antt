use Rattle.std.proofs.Common.{◌≡◌, take}
use Rattle.site_core.specs.Reopening.{site_with}
use Rattle.site_core.proofs.reopening.reopened.Given as goal

abbrev pub invariant-loop-entry : goal.invariant-loop-entry
invariant-loop-entry l = record {
  counted : l.given ≡ l.entry-index;
  at : l.office ≡ site_with l.plan l.fn.me (take l.entry-index l.entries);
}
