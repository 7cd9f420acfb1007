use Rattle.std.proofs.Common.{◌≡◌, ℕ, ◌<◌, false}
use Rattle.office_stations.specs.Addresses.{is_without}
use Rattle.office_stations.proofs.address.without_address.Given as goal

-- none of those before has no address
abbrev pub invariant-loop-k : goal.invariant-loop-k
invariant-loop-k l = (v : ℕ) → v < l.k → is_without l.plan l.me v ≡ false
