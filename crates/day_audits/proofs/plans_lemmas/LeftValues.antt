-- Sessions that fit a plan leave values of its version.
use Rattle.std.proofs.Common.{◌≡◌, ℕ, zero, suc, ◌<◌, List, [], ◌∷◌, length, get_or, true, ◌&&◌, nat_lt, refl, ap, ◌∙◌}
use Rattle.std.specs.Prelude.{All, IsTrue, map}
use Rattle.std.specs.List.{list_all, slice_index_or}
use Rattle.std.proofs.lemmas.Bool.{and_parts}
use Rattle.std.proofs.lemmas.List.Elements.{All-nil, All-cons, All-head, All-tail}
use Rattle.bottle_values.specs.declared.Value.{Value}
use Rattle.bottle_values.specs.declared.version.Version.{Version}
use Rattle.bottle_values.specs.declared.version.Version.TheVariants.{One, Two}
use Rattle.bottle_values.specs.Operations.{nought}
use Rattle.bottle_values.specs.Versions.{admits}
use Rattle.bottle_values.specs.Maps.{put, reads_of, write_all}
use Rattle.bottle_values.specs.MapLaws.{put_cases}
use Rattle.office_map.specs.declared.entries.RecordEntry.{RecordEntry}
use Rattle.office_map.specs.PlanValue.{PlanValue, is_end}
use Rattle.session_meaning.specs.ProgramValue.{ProgramValue}
use Rattle.session_meaning.specs.Fitting.{block_fits, RecordsFit}
use Rattle.session_meaning.specs.Laws.{ValuesFit}
use Rattle.session_programs.specs.measures.Needs.{needs_of}
use Rattle.session_programs.specs.Program.{fits}
use Rattle.serial_replay.specs.Serial.{ending_on, map_after, map_of, start_map}
use Rattle.day_audits.specs.plans.LeftValues.{LeftValuesAreAdmitted}

module _ (v : Version) where
  abbrev Fit : (ℕ → Value) → Type 0
  Fit m = (r : ℕ) → IsTrue (admits v (m r))

  reads_fit : (rs : List ℕ) (m : ℕ → Value) → Fit m → RecordsFit v (reads_of rs m)
  reads_fit [] m h = All-nil (λ (x : ℕ × Value). IsTrue (admits v x.1))
  reads_fit (r ∷ rs) m h = All-cons (λ (x : ℕ × Value). IsTrue (admits v x.1)) (r, m r) (reads_of rs m) (h r) (reads_fit rs m h)

  written : (ws : List (ℕ × Value)) (m : ℕ → Value) → RecordsFit v ws → Fit m → Fit (write_all ws m)
  written [] m fit h = h
  written (w ∷ ws) m fit h =
      let P : ℕ × Value → Type 0 = λ x. IsTrue (admits v x.1) in
      let first : P w = All-head P w ws fit in
      written ws (put m w.0 w.1) (All-tail P w ws fit) (λ r. put_cases m w.0 w.1 r (λ x. IsTrue (admits v x)) (λ e. first) (λ ne. h r))

  nothing : (r : ℕ) → IsTrue (admits v (slice_index_or [] r nought))
  nothing r = by_version v
    where
      by_version : (u : Version) → IsTrue (admits u nought)
      by_version One = refl
      by_version Two = refl

  starts_fit : (xs : List RecordEntry) → All (λ (x : RecordEntry). IsTrue (admits v x.value)) xs → Fit (λ r. slice_index_or (map (λ (x : RecordEntry). x.value) xs) r nought)
  starts_fit [] h r = nothing r
  starts_fit (x ∷ xs) h zero = All-head (λ (y : RecordEntry). IsTrue (admits v y.value)) x xs h
  starts_fit (x ∷ xs) h (suc r) = starts_fit xs (All-tail (λ (y : RecordEntry). IsTrue (admits v y.value)) x xs h) r

body_fits : (p : PlanValue) (x : ProgramValue) → IsTrue (fits p x) → IsTrue (block_fits p.version x.body)
body_fits p x h = (and_parts (nat_lt x.office (length p.offices) && list_all (λ r. is_end p r x.office) (needs_of x.body)) (block_fits p.version x.body) h).1

all_fit : ValuesFit → (p : PlanValue) (ps : List ProgramValue) (m : ℕ → Value) → Fit p.version m → All (λ (x : ProgramValue). IsTrue (fits p x)) ps → Fit p.version (map_of m ps)
all_fit fit p [] m h each = h
all_fit fit p (x ∷ ps) m h each =
    let P : ProgramValue → Type 0 = λ y. IsTrue (fits p y) in
    let writes = (fit p.version x (reads_of (needs_of x.body) m) (body_fits p x (All-head P x ps each)) (reads_fit p.version (needs_of x.body) m h)).0 in
    all_fit fit p ps (map_after x m) (written p.version (ending_on x m).writes m writes h) (All-tail P x ps each)

pub left_values : ValuesFit → LeftValuesAreAdmitted
left_values fit p ps ok each r lt = all_fit fit p ps (start_map p) (starts_fit p.version p.records ok.values_are_admitted) each r
