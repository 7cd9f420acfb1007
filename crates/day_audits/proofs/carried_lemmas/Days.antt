-- A serial run that is cut in two.
use Rattle.std.proofs.Common.{◌≡◌, ℕ, zero, suc, ◌+◌, ◌<◌, true, false, cond, List, [], ◌∷◌, ◌++◌, length, map, Option, None, Some, refl, sym, ap, ap₂, subst, ◌∙◌, arith}
use Rattle.std.specs.Prelude.{All, IsTrue, slice_get, nat_lt, ◌==◌, ◌&&◌}
use Rattle.std.specs.List.{list_all, slice_index_or}
use Rattle.std.specs.Option.{option_map_or}
use Rattle.std.proofs.lemmas.Bool.{and_parts}
use Rattle.std.proofs.lemmas.List.Elements.{All-head, All-tail}
use Rattle.std.proofs.lemmas.Option.{slice_get_within}
use Rattle.bottle_values.specs.declared.Value.{Value}
use Rattle.bottle_values.specs.Operations.{nought}
use Rattle.bottle_values.specs.Maps.{put, reads_of, write_all}
use Rattle.office_map.specs.PlanValue.{PlanValue, is_end, has_end}
use Rattle.office_map.specs.declared.entries.RecordEntry.{RecordEntry}
use Rattle.session_meaning.specs.ProgramValue.{ProgramValue}
use Rattle.session_meaning.specs.declared.ending.Ending.{Ending}
use Rattle.session_meaning.specs.declared.ending.Outcome.{Outcome}
use Rattle.session_meaning.specs.Fitting.{block_fits}
use Rattle.session_programs.specs.measures.Needs.{needs_of}
use Rattle.session_meaning.specs.Meaning.{alone}
use Rattle.session_programs.specs.Program.{fits}
use Rattle.serial_replay.specs.Serial.{start_map, ending_on, map_after, outcomes_after, map_of}
use Rattle.day_audits.specs.carried.Days.{with_values, endings, next_day, CarriedStartsWith, DaysAreOneRun}

-- ---- the values at the start

value_at : (m : ℕ → Value) (from r : ℕ) (xs : List RecordEntry) → r < length xs → slice_index_or (map (λ (e : RecordEntry). e.value) (with_values m from xs)) r nought ≡ m (from + r)
value_at m from r [] lt = absurd (omega (arith, lt))
value_at m from zero (x ∷ xs) lt = ap m (omega arith)
value_at m from (suc r) (x ∷ xs) lt = value_at m (suc from) r xs (omega (arith, lt)) ∙ ap m (omega arith)

pub carried_starts_with : CarriedStartsWith
carried_starts_with p run m r lt = let on : 0 + r ≡ r = omega arith in value_at m 0 r p.records lt ∙ ap m on

-- ---- maps that agree on the records

abbrev Agree : ℕ → (ℕ → Value) → (ℕ → Value) → Type 0
Agree n m k = (r : ℕ) → r < n → m r ≡ k r

within : (p : PlanValue) (r a : ℕ) → is_end p r a ≡ true → r < length p.records
within p r a h = go (slice_get p.records r) refl h
  where
    go : (o : Option RecordEntry) → slice_get p.records r ≡ o → option_map_or (λ e. has_end e a) o false ≡ true → r < length p.records
    go None e k = absurd cc
    go (Some x) e k = slice_get_within p.records r x e

reads_same : (p : PlanValue) (a : ℕ) (rs : List ℕ) (m k : ℕ → Value) → list_all (λ r. is_end p r a) rs ≡ true → Agree (length p.records) m k → reads_of rs m ≡ reads_of rs k
reads_same p a [] m k h same = refl
reads_same p a (r ∷ rs) m k h same =
    let parts = and_parts (is_end p r a) (list_all (λ q. is_end p q a) rs) h in
    ap₂ (λ x xs. (r, x) ∷ xs) (same r (within p r a parts.0)) (reads_same p a rs m k parts.1 same)

ending_same : (p : PlanValue) (x : ProgramValue) (m k : ℕ → Value) → IsTrue (fits p x) → Agree (length p.records) m k → ending_on x m ≡ ending_on x k
ending_same p x m k h same =
    let needs = list_all (λ r. is_end p r x.office) (needs_of x.body) in
    let ends = (and_parts (nat_lt x.office (length p.offices) && needs) (block_fits p.version x.body) h).0 in
    ap (alone x) (reads_same p x.office (needs_of x.body) m k (and_parts (nat_lt x.office (length p.offices)) needs ends).1 same)

writes_same : (n : ℕ) (ws : List (ℕ × Value)) (m k : ℕ → Value) → Agree n m k → Agree n (write_all ws m) (write_all ws k)
writes_same n [] m k same = same
writes_same n (w ∷ ws) m k same = writes_same n ws (put m w.0 w.1) (put k w.0 w.1) (λ r lt. ap (λ v. cond (r == w.0) w.1 v) (same r lt))

after_same : (p : PlanValue) (x : ProgramValue) (m k : ℕ → Value) → IsTrue (fits p x) → Agree (length p.records) m k → Agree (length p.records) (map_after x m) (map_after x k)
after_same p x m k h same =
    subst (λ (e : Ending). Agree (length p.records) (map_after x m) (write_all e.writes k)) (ending_same p x m k h same) (writes_same (length p.records) (ending_on x m).writes m k same)

abbrev Fit : PlanValue → ProgramValue → Type 0
Fit p x = IsTrue (fits p x)

abbrev endings_after : List ProgramValue → (ℕ → Value) → List ProgramValue → List Ending
endings_after before m ps = map (λ (o : Outcome). o.ending) (outcomes_after before m ps)

endings_same : (p : PlanValue) (ps b c : List ProgramValue) (m k : ℕ → Value) → All (Fit p) ps → Agree (length p.records) m k → endings_after b m ps ≡ endings_after c k ps
endings_same p [] b c m k fit same = refl
endings_same p (x ∷ ps) b c m k fit same =
    let one = All-head (Fit p) x ps fit in
    ap₂ (λ e es. e ∷ es) (ending_same p x m k one same) (endings_same p ps (b ++ x ∷ []) (c ++ x ∷ []) (map_after x m) (map_after x k) (All-tail (Fit p) x ps fit) (after_same p x m k one same))

maps_same : (p : PlanValue) (ps : List ProgramValue) (m k : ℕ → Value) → All (Fit p) ps → Agree (length p.records) m k → Agree (length p.records) (map_of m ps) (map_of k ps)
maps_same p [] m k fit same = same
maps_same p (x ∷ ps) m k fit same = maps_same p ps (map_after x m) (map_after x k) (All-tail (Fit p) x ps fit) (after_same p x m k (All-head (Fit p) x ps fit) same)

-- ---- a run that goes on

endings_on : (ps qs b : List ProgramValue) (m : ℕ → Value) → (c : List ProgramValue) × (endings_after b m (ps ++ qs) ≡ endings_after b m ps ++ endings_after c (map_of m ps) qs)
endings_on [] qs b m = (b, refl)
endings_on (x ∷ ps) qs b m = let r = endings_on ps qs (b ++ x ∷ []) (map_after x m) in (r.0, ap (λ es. ending_on x m ∷ es) r.1)

maps_on : (ps qs : List ProgramValue) (m : ℕ → Value) → map_of m (ps ++ qs) ≡ map_of (map_of m ps) qs
maps_on [] qs m = refl
maps_on (x ∷ ps) qs m = maps_on ps qs (map_after x m)

pub days_are_one_run : DaysAreOneRun
days_are_one_run p run today tomorrow fit =
    let m = map_of (start_map p) today in
    let k = start_map (next_day p run today) in
    let same : Agree (length p.records) m k = λ r lt. sym (carried_starts_with p run m r lt) in
    let on = endings_on today tomorrow [] (start_map p) in
    record {
      ended = on.1 ∙ ap (λ es. endings (start_map p) today ++ es) (endings_same p tomorrow on.0 [] m k fit same);
      left = λ r lt. ap (λ (f : ℕ → Value). f r) (maps_on today tomorrow (start_map p)) ∙ maps_same p tomorrow m k fit same r lt;
    }
