-- A line that is added, within the limits.
use Rattle.std.proofs.Common.{◌≡◌, ◌≤◌, length, Bool, false, ◌&&◌, nat_lt, nat_le, ℕ, Result, Ok, sym, ap, ◌∙◌, arith}
use Rattle.std.proofs.lemmas.Bool.Decides.{nat_tests}
use Rattle.office_map.specs.PlanText.{◌>>◌, refuse_if}
use Rattle.session_language.specs.declared.fault.SessionRule.{SessionRule}
use Rattle.session_language.specs.declared.fault.SessionRule.TheVariants.{TooDeep, TooManyRecords, TooManyVariables}
use Rattle.session_language.specs.Reading.{Draft, Spoken, with_line, with_names, opens_block, add}

abbrev limited : Bool → Bool → Bool → Draft → Result Draft SessionRule
limited deep records variables d = do
  refuse_if deep TooDeep
  refuse_if records TooManyRecords
  refuse_if variables TooManyVariables
  Ok d

not_above : (k n : ℕ) → n ≤ k → nat_lt k n ≡ false
not_above k n h = grind (arith, nat_tests)

pub is_added : (d e : Draft) (x : Spoken) → e ≡ with_line (with_names d x) x → (opens_block x && nat_le 8 (length d.outer)) ≡ false → length e.named ≤ 16 → length e.variables ≤ 32 → add d x ≡ Ok e
is_added d e x is shallow few_named few_variables =
    ap (λ (f : Draft). limited (opens_block x && nat_le 8 (length d.outer)) (nat_lt 16 (length f.named)) (nat_lt 32 (length f.variables)) f) (sym is)
    ∙ ap (λ b. limited b (nat_lt 16 (length e.named)) (nat_lt 32 (length e.variables)) e) shallow
    ∙ ap (λ b. limited false b (nat_lt 32 (length e.variables)) e) (not_above 16 (length e.named) few_named)
    ∙ ap (λ b. limited false false b e) (not_above 32 (length e.variables) few_variables)
