use Rattle.std.proofs.Common.{◌≡◌, ◌<◌, ℕ}
use Rattle.dining_core.specs.masks.Sets.{is_in16}
use Rattle.dining_core.specs.refinement.Tables.{diner_of}
use Rattle.dining_core.proofs.masked_table.here_in.Given as goal

abbrev pub invariant-loop-v : goal.invariant-loop-v
invariant-loop-v l = record {
  held : (i : ℕ) → i < l.v → is_in16 l.held i ≡ (diner_of l.table).held i;
  tokens : (i : ℕ) → i < l.v → is_in16 l.tokens i ≡ (diner_of l.table).token i;
}
