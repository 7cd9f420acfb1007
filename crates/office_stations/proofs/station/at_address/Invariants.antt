use Rattle.std.proofs.Common.{◌≡◌}
use Rattle.office_stations.specs.Paces.{first_pace}
use Rattle.office_stations.proofs.station.at_address.Given as goal

-- its pump and its pace stay
abbrev pub invariant-loop-v : goal.invariant-loop-v
invariant-loop-v g l = record {
  pump : l.station.pump ≡ l.initial.station.pump;
  pace : l.station.pace ≡ first_pace;
}
