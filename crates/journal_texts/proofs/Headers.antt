-- The office of a header.
use Rattle.std.proofs.Common.{◌≡◌, ℕ, ◌<◌, List, length, Option, Result, Ok, Err, sym}
use Rattle.std.specs.Prelude.{IfOk}
use Rattle.office_map.specs.PlanValue.{PlanValue}
use Rattle.journal_texts.specs.declared.fault.JournalRule.{JournalRule}
use Rattle.journal_texts.specs.JournalText.{office_of_header}
use Rattle.journal_texts.specs.HeaderLaws.{headed}

pub of_plan : (p : PlanValue) (h : Option (ℕ × List ℕ)) (r : Result ℕ JournalRule) → r ≡ office_of_header p h → IfOk r (λ a. a < length p.offices)
of_plan p h (Ok a) is = headed p h a (sym is)
of_plan p h (Err e) is = tt
