-- What is printed of sessions and of records.
use Rattle.std.specs.Prelude.{◌≡◌, ℕ, ◌+◌, List, [], ◌∷◌, ◌++◌, length, codes}
use Rattle.std.specs.List.{flat_map, range_with_len, slice_index_or}
use Rattle.std.specs.Fmt.{decimal}
use Rattle.bottle_values.specs.declared.Value.{Value}
use Rattle.bottle_values.specs.Operations.{nought}
use Rattle.bottle_values.specs.Printed.{value_text}
use Rattle.office_map.specs.PlanValue.{PlanValue}
use Rattle.session_meaning.specs.declared.ending.End.{End}
use Rattle.session_meaning.specs.declared.ending.End.TheVariants.{Done, Refused, Overflow, Mismatch}
use Rattle.session_meaning.specs.declared.ending.Outcome.{Outcome}
use Rattle.session_reports.specs.Names.{office_name, record_name}

abbrev pub end_text : End → List ℕ
end_text Done = codes "done"
end_text (Refused code) = codes "refused " ++ decimal code
end_text Overflow = codes "overflow"
end_text Mismatch = codes "mismatch"

-- each after a space; of an empty list a -
abbrev pub listed : {A : Type 0} → (A → List ℕ) → List A → List ℕ
listed text [] = codes " -"
listed text (x ∷ xs) = flat_map (λ y. 32 ∷ text y) (x ∷ xs)

-- NAME=VALUE
abbrev pub record_text : PlanValue → ℕ × Value → List ℕ
record_text p w = record_name p w.0 ++ (61 ∷ value_text w.1)

-- OFFICE.TICKET END
abbrev pub title : PlanValue → Outcome → List ℕ
title p o = office_name p o.office ++ (46 ∷ (decimal o.ticket ++ (32 ∷ end_text o.ending.end)))

-- OFFICE.TICKET END reads LIST writes LIST gives LIST
abbrev pub outcome_line : PlanValue → Outcome → List ℕ
outcome_line p o =
    title p o ++ ((codes " reads" ++ listed (record_text p) o.ending.reads) ++ ((codes " writes" ++ listed (record_text p) o.ending.writes)
    ++ ((codes " gives" ++ listed value_text o.ending.gives) ++ 10 ∷ [])))

-- value NAME VALUE
abbrev pub value_line : PlanValue → ℕ → Value → List ℕ
value_line p r v = codes "value " ++ (record_name p r ++ (32 ∷ (value_text v ++ 10 ∷ [])))

-- the records in order, with the values that the map has
abbrev pub value_lines : PlanValue → (ℕ → Value) → List ℕ
value_lines p m = flat_map (λ r. value_line p r (m r)) (range_with_len 0 (length p.records))

-- unfinished N
abbrev pub unfinished_line : ℕ → List ℕ
unfinished_line n = codes "unfinished " ++ (decimal n ++ 10 ∷ [])

-- the sessions in this order, and then the records
abbrev pub report_of : PlanValue → List Outcome → (ℕ → Value) → List ℕ
report_of p outcomes m = flat_map (outcome_line p) outcomes ++ value_lines p m

-- a list of values as a map; 0 past its end
abbrev pub value_at : List Value → ℕ → Value
value_at values r = slice_index_or values r nought

-- rows of one number more are those rows, and then that number's
abbrev pub RowsAreAdded : Type 0
RowsAreAdded = (row : ℕ → List ℕ) (n : ℕ) → flat_map row (range_with_len 0 (n + 1)) ≡ flat_map row (range_with_len 0 n) ++ row n
