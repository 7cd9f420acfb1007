use Rattle.std.proofs.Common.{◌≡◌, ◌++◌, take}
use Rattle.std.specs.List.{flat_map}
use Rattle.token_channel.specs.Places.{bottle_places}
use Rattle.token_channel.proofs.places.open.Given as goal

abbrev pub invariant-loop-r : goal.invariant-loop-r
invariant-loop-r l =
    l.places.items ≡ l.initial.places.items ++ flat_map (bottle_places l.plan l.me l.peer) (take l.r-index l.r-items)
