use Rattle.std.proofs.Common.{◌≡◌, ◌≢◌, ◌<◌, ◌≤◌, ℕ, true, false, get_or}
use Rattle.std.specs.Slots.{slots_len, slots_filled}
use Rattle.own_lock.specs.Rule.{room, place}
use Rattle.own_lock.proofs.places.free_rest.Given as goal

abbrev pub invariant-loop-slot : goal.invariant-loop-slot
invariant-loop-slot g l = (slots_len l.closed.slots ≡ room)
    × (get_or (slots_filled l.closed.slots) place false ≡ false)
    × ((k : ℕ) → k ≢ place → l.slot ≤ k → k < room → get_or (slots_filled l.closed.slots) k false ≡ true)
    × ((k : ℕ) → k < l.slot → get_or (slots_filled l.closed.slots) k false ≡ false)
