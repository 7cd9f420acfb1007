use Rattle.std.proofs.Common.{◌≡◌, drop}
use Rattle.std.specs.List.{list_all}
use Rattle.office_map.specs.PlanValue.{is_end}
use Rattle.session_programs.proofs.program.are_of_office.Given as goal

abbrev pub invariant-loop-id : goal.invariant-loop-id
invariant-loop-id l = list_all (λ r. is_end l.plan r l.office) (drop l.id-index l.records) ≡ list_all (λ r. is_end l.plan r l.office) l.records
