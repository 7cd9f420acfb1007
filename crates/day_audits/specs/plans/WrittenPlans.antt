-- How a plan is written, and that its text is read as it.
use Rattle.std.specs.Prelude.{◌≡◌, ℕ, ◌^◌, ◌<◌, ◌≤◌, List, [], ◌∷◌, ◌++◌, length, codes, All, IsTrue, Ok}
use Rattle.std.specs.List.{flat_map}
use Rattle.std.specs.Fmt.{decimal}
use Rattle.bottle_values.specs.Printed.{value_text}
use Rattle.bottle_values.specs.Operations.{is_value}
use Rattle.bottle_values.specs.Versions.{number_of}
use Rattle.bottle_values.specs.declared.version.Version.{Version}
use Rattle.office_map.specs.declared.entries.OfficeEntry.{OfficeEntry}
use Rattle.office_map.specs.declared.entries.PairEntry.{PairEntry}
use Rattle.office_map.specs.declared.entries.RecordEntry.{RecordEntry}
use Rattle.office_map.specs.Limits.{most_text}
use Rattle.office_map.specs.PlanValue.{PlanValue, fork_end, start_end}
use Rattle.office_map.specs.PlanText.{plan_of}
use Rattle.office_map.specs.Consistency.{IsConsistent}
use Rattle.session_reports.specs.Names.{office_name}
use Rattle.journal_texts.specs.wording.Words.{line_of_words}

-- plan VERSION run N
abbrev pub header_words : Version → ℕ → List (List ℕ)
header_words version run = codes "plan" ∷ decimal (number_of version) ∷ codes "run" ∷ decimal run ∷ []

-- office NAME ADDR
abbrev pub office_words : OfficeEntry → List (List ℕ)
office_words o = codes "office" ∷ o.name ∷ o.address ∷ []

-- pair A B fork E
abbrev pub pair_words : PlanValue → PairEntry → List (List ℕ)
pair_words p x = codes "pair" ∷ office_name p x.first ∷ office_name p x.second ∷ codes "fork" ∷ office_name p (fork_end x) ∷ []

-- record NAME A B VALUE at E
abbrev pub record_words : PlanValue → RecordEntry → List (List ℕ)
record_words p r = codes "record" ∷ r.name ∷ office_name p r.first ∷ office_name p r.second ∷ value_text r.value ∷ codes "at" ∷ office_name p (start_end r) ∷ []

-- a line of words, and its end
abbrev pub ended : List (List ℕ) → List ℕ
ended words = line_of_words words ++ 10 ∷ []

-- the lines of offices, of pairs and of records
abbrev pub office_lines : List OfficeEntry → List ℕ
office_lines = flat_map (λ o. ended (office_words o))

abbrev pub pair_lines : PlanValue → List PairEntry → List ℕ
pair_lines p = flat_map (λ x. ended (pair_words p x))

abbrev pub record_lines : PlanValue → List RecordEntry → List ℕ
record_lines p = flat_map (λ r. ended (record_words p r))

-- the text of a plan: its run, its offices, its pairs and its records, a line each
unfoldable pub plan_text : PlanValue → List ℕ
plan_text p = ended (header_words p.version p.run) ++ (office_lines p.offices ++ (pair_lines p p.pairs ++ record_lines p p.records))

-- a plan that a text can mean: its numbers and texts fit, and the text isn't too long
pub record IsWritable (p : PlanValue) : Type 0 where
  pub consistent : IsConsistent p
  pub two_offices : 2 ≤ length p.offices
  pub run : p.run < 2 ^ 32
  pub values : All (λ (r : RecordEntry). IsTrue (is_value r.value)) p.records
  pub short : length (plan_text p) ≤ most_text

-- the text of a plan means that plan
abbrev pub PlanTextsAreRead : Type 0
PlanTextsAreRead = (p : PlanValue) → IsWritable p → plan_of (plan_text p) ≡ Ok p
