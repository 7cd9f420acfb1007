use Rattle.std.proofs.Common.{◌≡◌, take}
use Rattle.bottle_values.specs.Maps.{reads_of}
use Rattle.drinking_core.specs.refinement.Bars.{drinker_of}
use Rattle.site_core.specs.Offices.{value_in}
use Rattle.site_core.proofs.rules.values_of.Given as goal

abbrev pub invariant-loop-r : goal.invariant-loop-r
invariant-loop-r l = l.reads ≡ reads_of (take l.r-index l.needs) (value_in (drinker_of l.bar))
