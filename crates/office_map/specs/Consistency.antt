-- What holds of every accepted plan.
use Rattle.std.specs.Prelude.{◌≡◌, ◌≢◌, ℕ, ◌<◌, ◌≤◌, length, All, AllPairs, IsTrue, false}
use Rattle.std.specs.Result.{MatchResult}
use Rattle.bottle_values.specs.Versions.{admits}
use Rattle.office_map.specs.declared.entries.OfficeEntry.{OfficeEntry}
use Rattle.office_map.specs.declared.entries.PairEntry.{PairEntry}
use Rattle.office_map.specs.declared.entries.RecordEntry.{RecordEntry}
use Rattle.office_map.specs.declared.fault.PlanRefusal.{PlanRefusal}
use Rattle.office_map.specs.PlanValue.{PlanValue, no_address, joins, are_neighbours, records_between}
use Rattle.office_map.specs.Address.{is_address}
use Rattle.office_map.specs.Precedence.{HasOrder}
use Rattle.office_map.specs.PlanText.{plan_of, IsLineOf}
use Rattle.text_lines.specs.Text.{is_name}
use Rattle.std.specs.Prelude.{List}
use Rattle.office_map.specs.Limits.{most_offices, most_pair_records}

-- The tables agree with one another, and no limit is passed. Offices and records have names, each its own; each office has
-- an address or `-`, and no two have one address; a pair or a record joins two different declared offices, no two offices
-- have two pairs, and a record lies between neighbours. Under version 1 no record starts with a text.
pub record IsConsistent (p : PlanValue) : Type 0 where
  pub offices_fit : length p.offices ≤ most_offices
  pub offices_are_named : All (λ (o : OfficeEntry). IsTrue (is_name o.name)) p.offices
  pub office_names : AllPairs (λ (a b : OfficeEntry). a.name ≢ b.name) p.offices
  pub offices_have_addresses : All (λ (o : OfficeEntry). IsTrue (is_address o.address)) p.offices
  pub addresses : AllPairs (λ (a b : OfficeEntry). a.address ≡ b.address → a.address ≡ no_address) p.offices
  pub ends_are_offices : All (λ (pair : PairEntry). (pair.first < length p.offices) × (pair.second < length p.offices)) p.pairs
  pub ends_differ : All (λ (pair : PairEntry). pair.first ≢ pair.second) p.pairs
  pub pairs_once : AllPairs (λ (a b : PairEntry). joins b.first b.second a ≡ false) p.pairs
  pub records_are_named : All (λ (r : RecordEntry). IsTrue (is_name r.name)) p.records
  pub record_names : AllPairs (λ (a b : RecordEntry). a.name ≢ b.name) p.records
  pub records_have_pairs : All (λ (r : RecordEntry). IsTrue (are_neighbours p r.first r.second)) p.records
  pub records_fit : (a b : ℕ) → records_between p a b ≤ most_pair_records
  pub values_are_admitted : All (λ (r : RecordEntry). IsTrue (admits p.version r.value)) p.records

-- consistent tables with two offices at least
abbrev pub IsComplete : PlanValue → Type 0
IsComplete p = IsConsistent p × (2 ≤ length p.offices)

-- lines without a fault mean a complete plan, and a refusal names a line of the text, or 0
abbrev pub ReadsCompletePlans : Type 0
ReadsCompletePlans = (text : List ℕ) → MatchResult (plan_of text) IsComplete (λ (f : PlanRefusal). IsLineOf text f.line)

-- What holds of every plan that is accepted: it is complete, and it has an order, so precedence has no ring at the
-- start.
pub record IsAccepted (p : PlanValue) : Type 0 where
  pub consistent : IsConsistent p
  pub two_offices : 2 ≤ length p.offices
  pub no_ring : HasOrder p
