-- The rows of a table's values.
use Rattle.std.proofs.Common.{◌≡◌, ◌+◌, ◌<◌, ℕ, zero, suc, List, ◌++◌, length, refl, ap, ◌∙◌, arith}
use Rattle.std.specs.List.{flat_map, range_with_len}
use Rattle.std.proofs.lemmas.Option.{get_or_from_slice_get}
use Rattle.bottle_values.specs.declared.Value.{Value}
use Rattle.bottle_values.specs.Operations.{nought}
use Rattle.office_map.specs.PlanValue.{PlanValue}
use Rattle.session_meaning.specs.declared.ending.Outcome.{Outcome}
use Rattle.serial_replay.specs.Serial.{ListsValues}
use Rattle.session_reports.specs.Report.{value_at}
use Rattle.session_reports.specs.declared.form.forms.Form.{Form}
use Rattle.session_reports.specs.form.Forms.{outcome_as, report_as, value_as, values_as}

same_rows : (f g : ℕ → List ℕ) (a n : ℕ) → ((r : ℕ) → r < a + n → f r ≡ g r) → flat_map f (range_with_len a n) ≡ flat_map g (range_with_len a n)
same_rows f g a zero h = refl
same_rows f g a (suc n) h =
    ap (λ row. row ++ flat_map f (range_with_len (a + 1) n)) (h a (omega arith))
    ∙ ap (λ rows. g a ++ rows) (same_rows f g (a + 1) n (λ r lt. h r (omega (arith, lt))))

value_is : (values : List Value) (n : ℕ) (m : ℕ → Value) → ListsValues values n m → (r : ℕ) → r < n → value_at values r ≡ m r
value_is values n m t r lt = get_or_from_slice_get values r (m r) nought (t.each r lt)

-- the report of the values in a table
pub report_is : (f : Form) (p : PlanValue) (shown meant : List Outcome) (values kept : List Value) (m : ℕ → Value) → shown ≡ meant → values ≡ kept → ListsValues kept (length p.records) m
    → report_as f p shown (value_at values) ≡ report_as f p meant m
report_is f p shown meant values kept m e k t =
    ap (λ vs. flat_map (outcome_as f p) shown ++ values_as f p (value_at vs)) k
    ∙ ap (λ os. flat_map (outcome_as f p) os ++ values_as f p (value_at kept)) e
    ∙ ap (λ rows. flat_map (outcome_as f p) meant ++ rows)
    (same_rows (λ r. value_as f p r (value_at kept r)) (λ r. value_as f p r (m r)) 0 (length p.records) (λ r lt. ap (value_as f p r) (value_is kept _ m t r (omega (arith, lt)))))
