-- What a line of JSON tells.
use Rattle.std.specs.Prelude.{◌≡◌, ◌<◌, ◌^◌, ℕ, All, length, true}
use Rattle.bottle_values.specs.declared.Value.{Value}
use Rattle.bottle_values.specs.Operations.{is_value}
use Rattle.office_map.specs.PlanValue.{PlanValue}
use Rattle.office_map.specs.Consistency.{IsConsistent}
use Rattle.session_meaning.specs.declared.ending.End.{End}
use Rattle.session_meaning.specs.declared.ending.End.TheVariants.{Done, Refused, Overflow, Mismatch}
use Rattle.session_meaning.specs.declared.ending.Outcome.{Outcome}
use Rattle.session_reports.specs.json.Json.{json_outcome}

-- a record of the plan, with a value
abbrev pub IsRecord : PlanValue → ℕ × Value → Type 0
IsRecord p w = (w.0 < length p.records) × (is_value w.1 ≡ true)

abbrev pub IsEnd : End → Type 0
IsEnd Done = Unit {0}
IsEnd (Refused code) = code < 2 ^ 16
IsEnd Overflow = Unit {0}
IsEnd Mismatch = Unit {0}

-- the outcome of a session of the plan: it tells of its records, and has numbers that the code can have
pub record IsOf (p : PlanValue) (o : Outcome) : Type 0 where
  pub office : o.office < length p.offices
  pub ticket : o.ticket < 2 ^ 32
  pub end : IsEnd o.ending.end
  pub reads : All (IsRecord p) o.ending.reads
  pub writes : All (IsRecord p) o.ending.writes
  pub gives : All (λ (v : Value). is_value v ≡ true) o.ending.gives

-- its line is no other outcome's
abbrev pub JsonLinesTellOutcomes : Type 0
JsonLinesTellOutcomes = (p : PlanValue) (o q : Outcome) → IsConsistent p → IsOf p o → IsOf p q → json_outcome p o ≡ json_outcome p q → o ≡ q
