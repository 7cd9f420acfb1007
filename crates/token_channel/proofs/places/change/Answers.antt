use Rattle.token_channel.specs.Places.{with_held}
use Rattle.bottle_values.specs.ListLaws.{map_next}
use Rattle.token_channel.proofs.places.change.Goals as goal

pub loop-place-preserved : goal.loop-place-preserved
loop-place-preserved c =
    map_next (with_held c.args.thing c.args.held) c.deref_mut-place-items.result.now c.loop-place.place-items c.loop-place.place-index _ c.with_held.result c.loop-place-test.true c.loop-place.auto.place-items c.loop-place.invariant c.with_held.ensures
