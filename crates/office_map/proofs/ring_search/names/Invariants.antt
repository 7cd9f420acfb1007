use Rattle.std.proofs.Common.{◌≡◌, map, take, Some}
use Rattle.std.specs.String.{string_bytes}
use Rattle.office_map.specs.PlanValue.{office_name_of}
use Rattle.office_map.proofs.ring_search.names.Given as goal

abbrev pub invariant-loop-office : goal.invariant-loop-office
invariant-loop-office l = map (office_name_of l.tables) (take l.office-index l.offices) ≡ map (λ name. Some (string_bytes name)) l.names.items
