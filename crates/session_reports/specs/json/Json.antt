-- What is printed of sessions and of records as JSON: an object a line.
use Rattle.std.specs.Prelude.{ℕ, List, [], ◌∷◌, ◌++◌, ◌==◌, if◌then◌else◌, length, codes}
use Rattle.std.specs.List.{flat_map, range_with_len}
use Rattle.std.specs.Fmt.{decimal, signed_decimal}
use Rattle.bottle_values.specs.declared.Value.{Value}
use Rattle.bottle_values.specs.declared.Value.TheVariants.{Number, Text}
use Rattle.office_map.specs.PlanValue.{PlanValue}
use Rattle.session_meaning.specs.declared.ending.End.{End}
use Rattle.session_meaning.specs.declared.ending.End.TheVariants.{Done, Refused, Overflow, Mismatch}
use Rattle.session_meaning.specs.declared.ending.Outcome.{Outcome}
use Rattle.session_reports.specs.Names.{office_name, record_name}

-- "NAME", and "NAME":
abbrev pub quoted : List ℕ → List ℕ
quoted name = 34 ∷ (name ++ 34 ∷ [])

abbrev pub key : List ℕ → List ℕ
key name = 34 ∷ (name ++ 34 ∷ 58 ∷ [])

-- with commas between them
abbrev pub joined : {A : Type 0} → (A → List ℕ) → List A → List ℕ
joined text [] = []
joined text (x ∷ xs) = text x ++ flat_map (λ y. 44 ∷ text y) xs

-- a byte of a string: a backslash stands twice
abbrev pub escaped : ℕ → List ℕ
escaped b = b ∷ (if b == 92 then 92 ∷ [] else [])

-- a number in decimal, or the string of a text
abbrev pub json_value : Value → List ℕ
json_value (Number z) = signed_decimal z
json_value (Text t) = quoted (flat_map escaped t)

-- "done", {"refused":CODE}, "overflow" or "mismatch"
abbrev pub json_end : End → List ℕ
json_end Done = quoted (codes "done")
json_end (Refused code) = 123 ∷ (key (codes "refused") ++ (decimal code ++ 125 ∷ []))
json_end Overflow = quoted (codes "overflow")
json_end Mismatch = quoted (codes "mismatch")

-- "NAME":VALUE
abbrev pub json_member : PlanValue → ℕ × Value → List ℕ
json_member p w = key (record_name p w.0) ++ json_value w.1

abbrev pub json_object : PlanValue → List (ℕ × Value) → List ℕ
json_object p ws = 123 ∷ (joined (json_member p) ws ++ 125 ∷ [])

abbrev pub json_array : List Value → List ℕ
json_array vs = 91 ∷ (joined json_value vs ++ 93 ∷ [])

-- ,"NAME":TEXT
abbrev pub field : List ℕ → List ℕ → List ℕ
field name text = 44 ∷ (key name ++ text)

-- {"office":"NAME","ticket":N,"end":END
abbrev pub json_title : PlanValue → Outcome → List ℕ
json_title p o = 123 ∷ (key (codes "office") ++ (quoted (office_name p o.office) ++ (field (codes "ticket") (decimal o.ticket) ++ field (codes "end") (json_end o.ending.end))))

-- {"office":"NAME","ticket":N,"end":END,"reads":{..},"writes":{..},"gives":[..]}
abbrev pub json_outcome : PlanValue → Outcome → List ℕ
json_outcome p o =
    json_title p o ++ (field (codes "reads") (json_object p o.ending.reads) ++ (field (codes "writes") (json_object p o.ending.writes)
    ++ (field (codes "gives") (json_array o.ending.gives) ++ 125 ∷ 10 ∷ [])))

-- {"value":"NAME","is":VALUE}
abbrev pub json_value_line : PlanValue → ℕ → Value → List ℕ
json_value_line p r v = 123 ∷ (key (codes "value") ++ (quoted (record_name p r) ++ (44 ∷ (key (codes "is") ++ (json_value v ++ 125 ∷ 10 ∷ [])))))

abbrev pub json_value_lines : PlanValue → (ℕ → Value) → List ℕ
json_value_lines p m = flat_map (λ r. json_value_line p r (m r)) (range_with_len 0 (length p.records))

-- {"unwoven":"NAME","entry":N}
abbrev pub json_unwoven : PlanValue → ℕ → ℕ → List ℕ
json_unwoven p office entry = 123 ∷ (key (codes "unwoven") ++ (quoted (office_name p office) ++ (field (codes "entry") (decimal entry) ++ 125 ∷ 10 ∷ [])))

-- {"unfinished":N}
abbrev pub json_unfinished : ℕ → List ℕ
json_unfinished n = 123 ∷ (key (codes "unfinished") ++ (decimal n ++ 125 ∷ 10 ∷ []))

-- the sessions in this order, and then the records
abbrev pub json_report_of : PlanValue → List Outcome → (ℕ → Value) → List ℕ
json_report_of p outcomes m = flat_map (json_outcome p) outcomes ++ json_value_lines p m
