-- A plan of the next day, by values in a list.
use Rattle.std.proofs.Common.{◌≡◌, ℕ, suc, ◌+◌, ◌<◌, List, [], ◌∷◌, length, Ok, refl, sym, ap, ap₂, subst, ◌∙◌, arith}
use Rattle.std.proofs.lemmas.Option.{get_or_from_slice_get}
use Rattle.bottle_values.specs.declared.Value.{Value}
use Rattle.bottle_values.specs.Operations.{nought}
use Rattle.bottle_values.specs.Versions.{admits}
use Rattle.office_map.specs.declared.entries.RecordEntry.{RecordEntry}
use Rattle.office_map.specs.PlanValue.{PlanValue}
use Rattle.office_map.specs.Precedence.{HasOrder}
use Rattle.serial_replay.specs.Serial.{ListsValues, start_map}
use Rattle.session_reports.specs.Report.{value_at}
use Rattle.day_audits.specs.carried.Days.{with_values}
use Rattle.day_audits.specs.plans.NextPlans.{next_plan, IsNextPlan}
use Rattle.day_audits.specs.plans.WrittenPlans.{plan_text}

-- records with the values of maps that agree on them
same_values : (m k : ℕ → Value) (i : ℕ) (xs : List RecordEntry) → ((r : ℕ) → r < i + length xs → m r ≡ k r) → with_values m i xs ≡ with_values k i xs
same_values m k i [] h = refl
same_values m k i (x ∷ xs) h =
    ap₂ (λ v (ys : List RecordEntry). record x { value = v } ∷ ys) (h i (omega arith)) (same_values m k (suc i) xs (λ r lt. h r (omega (arith, lt))))

-- a plan with the values of maps that agree on its records
next_same : (p : PlanValue) (m k : ℕ → Value) → ((r : ℕ) → r < length p.records → m r ≡ k r) → next_plan p m ≡ next_plan p k
next_same p m k h = ap (λ rs. record (next_plan p m) { records = rs }) (same_values m k 0 p.records (λ r lt. h r (omega (arith, lt))))

listed_at : (values : List Value) (n : ℕ) (m : ℕ → Value) → ListsValues values n m → (r : ℕ) → r < n → value_at values r ≡ m r
listed_at values n m t r lt = get_or_from_slice_get values r (m r) nought (t.each r lt)

-- of values that are listed it is the plan with their map
pub next_of_list : (p : PlanValue) (values : List Value) (m : ℕ → Value) (text : List ℕ) → IsNextPlan p (value_at values) text → ListsValues values (length p.records) m → IsNextPlan p m text
next_of_list p values m text h t =
    let agree : (r : ℕ) → r < length p.records → value_at values r ≡ m r = listed_at values (length p.records) m t in
    let same : next_plan p (value_at values) ≡ next_plan p m = next_same p (value_at values) m agree in
    record {
      written = h.written ∙ ap plan_text same;
      read = λ fit le. h.read (λ r lt. ap (admits p.version) (agree r lt) ∙ fit r lt) le ∙ ap Ok same;
      ordered = subst HasOrder same h.ordered;
      starts = λ r lt. ap (λ q. start_map q r) (sym same) ∙ h.starts r lt ∙ agree r lt;
    }
