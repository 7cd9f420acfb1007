-- A line of JSON, read part by part.
use Rattle.std.proofs.Common.{◌≡◌, ℕ, List, [], ◌∷◌, ◌++◌, drop, codes, refl, sym, ap, ap₂, ◌∙◌, append_assoc, arith}
use Rattle.std.specs.Fmt.{decimal}
use Rattle.bottle_values.specs.declared.Value.{Value}
use Rattle.office_map.specs.PlanValue.{PlanValue}
use Rattle.session_meaning.specs.declared.ending.End.{End}
use Rattle.session_meaning.specs.declared.ending.Ending.{Ending}
use Rattle.session_meaning.specs.declared.ending.Outcome.{Outcome}
use Rattle.session_reports.specs.Names.{office_name}
use Rattle.session_reports.specs.json.Json.{field, quoted, key, json_end, json_object, json_array, json_title}
use Rattle.session_reports.specs.json.JsonLaws.{JsonLinesTellOutcomes}
use Rattle.session_reports.proofs.json_lemmas.Names.{office_bytes, one_office}
use Rattle.session_reports.proofs.json_lemmas.Parts.{array_told, decimal_told, end_told, object_told, quoted_told}

-- a line from each of its parts on
abbrev last : List ℕ
last = 125 ∷ 10 ∷ []

abbrev to_gives : Outcome → List ℕ
to_gives o = field (codes "gives") (json_array o.ending.gives) ++ last

abbrev to_writes : PlanValue → Outcome → List ℕ
to_writes p o = field (codes "writes") (json_object p o.ending.writes) ++ to_gives o

abbrev to_reads : PlanValue → Outcome → List ℕ
to_reads p o = field (codes "reads") (json_object p o.ending.reads) ++ to_writes p o

abbrev to_end : PlanValue → Outcome → List ℕ
to_end p o = field (codes "end") (json_end o.ending.end) ++ to_reads p o

abbrev to_ticket : PlanValue → Outcome → List ℕ
to_ticket p o = field (codes "ticket") (decimal o.ticket) ++ to_end p o

-- what stands after a line's title stands after its last part
after_title : (p : PlanValue) (o : Outcome) (rest : List ℕ) → json_title p o ++ rest
    ≡ 123 ∷ (key (codes "office") ++ (quoted (office_name p o.office) ++ (field (codes "ticket") (decimal o.ticket) ++ (field (codes "end") (json_end o.ending.end) ++ rest))))
after_title p o rest =
    let name = quoted (office_name p o.office) in
    let ticket = field (codes "ticket") (decimal o.ticket) in
    let end = field (codes "end") (json_end o.ending.end) in
    ap (λ (t : List ℕ). 123 ∷ (key (codes "office") ++ t)) (append_assoc name (ticket ++ end) rest ∙ ap (λ (t : List ℕ). name ++ t) (append_assoc ticket end rest))

ending_same : (e f : Ending) → e.end ≡ f.end → e.reads ≡ f.reads → e.writes ≡ f.writes → e.gives ≡ f.gives → e ≡ f
ending_same e f a b c d =
    ap₂ (λ (x : End) (r : List (ℕ × Value)). record e { end = x; reads = r }) a b ∙ ap₂ (λ (w : List (ℕ × Value)) (g : List Value). record f { writes = w; gives = g }) c d

outcome_same : (o q : Outcome) → o.office ≡ q.office → o.ticket ≡ q.ticket → o.ending ≡ q.ending → o ≡ q
outcome_same o q a b c = ap₂ (λ (x t : ℕ). record o { office = x; ticket = t }) a b ∙ ap (λ (e : Ending). record q { ending = e }) c

pub lines_tell : JsonLinesTellOutcomes
lines_tell p o q c h k e =
    let whole = sym (after_title p o (to_reads p o)) ∙ e ∙ after_title p q (to_reads p q) in
    let offices : quoted (office_name p o.office) ++ to_ticket p o ≡ quoted (office_name p q.office) ++ to_ticket p q = ap (drop 10) whole in
    let office = quoted_told (office_name p o.office) (office_name p q.office) (to_ticket p o) (to_ticket p q) (office_bytes p o.office c h.office) (office_bytes p q.office c k.office) offices in
    let tickets : decimal o.ticket ++ to_end p o ≡ decimal q.ticket ++ to_end p q = ap (drop 10) office.1 in
    let ticket = decimal_told o.ticket q.ticket (to_end p o) (to_end p q) (omega (arith, h.ticket)) (omega (arith, k.ticket)) refl refl tickets in
    let ends : json_end o.ending.end ++ to_reads p o ≡ json_end q.ending.end ++ to_reads p q = ap (drop 7) ticket.1 in
    let end = end_told o.ending.end q.ending.end (to_reads p o) (to_reads p q) h.end k.end ends in
    let reads_on : json_object p o.ending.reads ++ to_writes p o ≡ json_object p q.ending.reads ++ to_writes p q = ap (drop 9) end.1 in
    let reads = object_told p c o.ending.reads q.ending.reads (to_writes p o) (to_writes p q) h.reads k.reads reads_on in
    let writes_on : json_object p o.ending.writes ++ to_gives o ≡ json_object p q.ending.writes ++ to_gives q = ap (drop 10) reads.1 in
    let writes = object_told p c o.ending.writes q.ending.writes (to_gives o) (to_gives q) h.writes k.writes writes_on in
    let gives_on : json_array o.ending.gives ++ last ≡ json_array q.ending.gives ++ last = ap (drop 9) writes.1 in
    let gives = array_told o.ending.gives q.ending.gives last last h.gives k.gives gives_on in
    outcome_same o q (one_office p o.office q.office c h.office k.office office.0) ticket.0 (ending_same o.ending q.ending end.0 reads.0 writes.0 gives.0)
