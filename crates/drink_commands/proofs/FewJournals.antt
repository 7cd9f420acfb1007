-- The journals that are told of offices are no more than these.
use Rattle.std.proofs.Common.{◌≡◌, ◌≤◌, ℕ, Bool, true, false, length, map, ap, arith}
use Rattle.std.specs.List.{range_with_len}
use Rattle.std.specs.String.{string_bytes}
use Rattle.std.proofs.lemmas.List.{length-map}
use Rattle.std.proofs.lemmas.List.FromFn.{length-range_with_len}
use Rattle.office_map.specs.PlanValue.{PlanValue}
use Rattle.locked_office.specs.Calls.{Key}
use Rattle.session_reports.specs.declared.form.forms.Form.{Form}
use Rattle.office_runs.specs.Runs.{HasJournals, TellsJournals, key_of, text_of}
use Rattle.office_runs.specs.declared.report.Ran.{Ran}

pub few_journals : (form : Form) (p : PlanValue) (n : ℕ) (wanted : Bool) (ran : Ran) → TellsJournals form p (range_with_len 0 (length p.offices)) n wanted ran
    → length ran.journals.items ≤ length p.offices
few_journals form p n wanted ran h = by_test wanted h.journals
  where
    sizes : length h.sites ≡ length p.offices
    sizes =
        let a = length-map h.sites key_of in
        let b = ap length h.are in
        let c = length-map {B = Key} (range_with_len 0 (length p.offices)) (λ me. (p, me)) in
        let d = length-range_with_len 0 (length p.offices) in
        omega (arith, a, b, c, d)

    by_test : (wanted : Bool) → HasJournals wanted h.sites (map string_bytes ran.journals.items) → length ran.journals.items ≤ length p.offices
    by_test true k =
        let a = length-map ran.journals.items string_bytes in
        let b = ap length k.0 in
        let c = length-map h.sites text_of in
        omega (arith, a, b, c, sizes)
    by_test false k =
        let a = length-map ran.journals.items string_bytes in
        let b = ap length k in
        omega (arith, a, b)
