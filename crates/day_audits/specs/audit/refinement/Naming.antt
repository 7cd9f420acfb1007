-- Which line a fault is told by.
use Rattle.std.specs.Prelude.{◌≡◌, ℕ, List}
use Rattle.office_map.specs.PlanValue.{PlanValue}
use Rattle.journal_weave.specs.declared.fault.WeaveFault.{WeaveFault}
use Rattle.journal_weave.specs.declared.fault.WeaveFault.TheVariants as fault
use Rattle.session_reports.specs.declared.form.forms.Form.{Form}
use Rattle.day_audits.specs.audit.Findings.{unwoven_as}

-- the line names the entry that is left; there is none for want of memory
abbrev pub Names : Form → PlanValue → WeaveFault → List ℕ → Type 0
Names f p (fault.Unwoven office entry) text = text ≡ unwoven_as f p office entry
Names f p fault.Memory text = ⊥
