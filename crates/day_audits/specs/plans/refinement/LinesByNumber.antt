-- The lines of a plan's text by the numbers of offices and records.
use Rattle.std.specs.Prelude.{ℕ, List, [], slice_get}
use Rattle.std.specs.Option.{option_map_or}
use Rattle.bottle_values.specs.declared.Value.{Value}
use Rattle.office_map.specs.declared.entries.OfficeEntry.{OfficeEntry}
use Rattle.office_map.specs.declared.entries.RecordEntry.{RecordEntry}
use Rattle.office_map.specs.PlanValue.{PlanValue}
use Rattle.day_audits.specs.plans.WrittenPlans.{ended, office_words, record_words}

-- the line of an office; nothing for a number that the plan doesn't have
abbrev pub office_line : PlanValue → ℕ → List ℕ
office_line p o = option_map_or (λ (x : OfficeEntry). ended (office_words x)) (slice_get p.offices o) []

-- the line of a record with this value
abbrev pub record_line : PlanValue → ℕ → Value → List ℕ
record_line p r v = option_map_or (λ (x : RecordEntry). ended (record_words p (record x { value = v }))) (slice_get p.records r) []
