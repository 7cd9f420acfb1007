-- What is printed of sessions and of records, in either form.
use Rattle.std.specs.Prelude.{ℕ, Bool, true, false, List, [], ◌∷◌, ◌++◌, length, codes}
use Rattle.std.specs.List.{flat_map, range_with_len}
use Rattle.std.specs.Fmt.{decimal}
use Rattle.bottle_values.specs.declared.Value.{Value}
use Rattle.office_map.specs.PlanValue.{PlanValue}
use Rattle.session_meaning.specs.declared.ending.Outcome.{Outcome}
use Rattle.session_reports.specs.Report.{outcome_line, unfinished_line, value_line}
use Rattle.session_reports.specs.json.Json.{json_outcome, json_unfinished, json_value_line, key, quoted}
use Rattle.session_reports.specs.declared.form.forms.Form.{Form}
use Rattle.session_reports.specs.declared.form.forms.Form.TheVariants.{Plain, Json}

-- objects, where they are asked for
abbrev pub form_of : Bool → Form
form_of true = Json
form_of false = Plain

-- the line of a session
abbrev pub outcome_as : Form → PlanValue → Outcome → List ℕ
outcome_as Plain p o = outcome_line p o
outcome_as Json p o = json_outcome p o

-- the line of a record with its value
abbrev pub value_as : Form → PlanValue → ℕ → Value → List ℕ
value_as Plain p r v = value_line p r v
value_as Json p r v = json_value_line p r v

-- the records in order, with the values that the map has
abbrev pub values_as : Form → PlanValue → (ℕ → Value) → List ℕ
values_as f p m = flat_map (λ r. value_as f p r (m r)) (range_with_len 0 (length p.records))

-- the line that says how many haven't finished
abbrev pub unfinished_as : Form → ℕ → List ℕ
unfinished_as Plain n = unfinished_line n
unfinished_as Json n = json_unfinished n

-- the sessions in this order, and then the records
abbrev pub report_as : Form → PlanValue → List Outcome → (ℕ → Value) → List ℕ
report_as f p outcomes m = flat_map (outcome_as f p) outcomes ++ values_as f p m

-- what comes before words that are told: WORDS as a line, or {"reply":"WORDS"}
abbrev pub opening_as : Form → List ℕ
opening_as Plain = []
opening_as Json = 123 ∷ (key (codes "reply") ++ 34 ∷ [])

-- and what comes after them
abbrev pub closing_as : Form → List ℕ
closing_as Plain = 10 ∷ []
closing_as Json = 34 ∷ 125 ∷ 10 ∷ []

-- a number under its name: NAME N, or {"NAME":N}
abbrev pub count_as : Form → List ℕ → ℕ → List ℕ
count_as Plain name n = name ++ (32 ∷ (decimal n ++ 10 ∷ []))
count_as Json name n = 123 ∷ (key name ++ (decimal n ++ 125 ∷ 10 ∷ []))

-- words under their name: NAME WORDS, or {"NAME":"WORDS"}
abbrev pub words_as : Form → List ℕ → List ℕ → List ℕ
words_as Plain name words = name ++ (32 ∷ (words ++ 10 ∷ []))
words_as Json name words = 123 ∷ (key name ++ (quoted words ++ 125 ∷ 10 ∷ []))
