use Rattle.std.proofs.Common.{ap, get_or}
use Rattle.dining_core.specs.declared.shared_fork.Fork.{Fork}
use Rattle.dining_core.specs.refinement.Tables.{used_shared, nothing}
use Rattle.bottle_values.specs.ListLaws.{map_next}
use Rattle.dining_core.proofs.places.use_all.Goals as goal

pub loop-place-preserved : goal.loop-place-preserved
loop-place-preserved c =
    map_next used_shared c.deref_mut-place-items.result.now c.loop-place.place-items c.loop-place.place-index nothing _ c.loop-place-test.true c.loop-place.auto.place-items c.loop-place.invariant
    (ap (λ (f : Fork). record { fork = f; token = (get_or c.loop-place.place-items c.loop-place.place-index nothing).token }) c.used-place.ensures)
