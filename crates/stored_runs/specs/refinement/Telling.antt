-- What telling says of its faults.
use Rattle.stored_runs.specs.declared.fault.StoredFault.{StoredFault}
use Rattle.stored_runs.specs.declared.fault.StoredFault.TheVariants.{Run, StoreFailed, WriteFailed}
use Rattle.office_stations.specs.declared.fault.RunFault.TheVariants as run

-- there was no memory for the lines, or writing them failed
abbrev pub IsOfTelling : StoredFault → Type 0
IsOfTelling (Run run.Memory) = Unit {0}
IsOfTelling (Run why) = ⊥
IsOfTelling StoreFailed = ⊥
IsOfTelling (WriteFailed cause) = Unit {0}
