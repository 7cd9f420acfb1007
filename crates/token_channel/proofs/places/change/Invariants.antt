use Rattle.std.proofs.Common.{◌≡◌, ◌++◌, take, drop}
use Rattle.std.specs.Prelude.{map}
use Rattle.token_channel.specs.Places.{with_held}
use Rattle.token_channel.proofs.places.change.Given as goal

abbrev pub invariant-loop-place : goal.invariant-loop-place
invariant-loop-place l =
    l.place-items ≡ map (with_held l.thing l.held) (take l.place-index l.initial.place-items) ++ drop l.place-index l.initial.place-items
