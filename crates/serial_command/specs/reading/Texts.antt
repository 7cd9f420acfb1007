-- What is read of an input's text, and which text is refused so.
use Rattle.std.specs.Prelude.{◌≡◌, ◌≤◌, ℕ, List, length, Option, Some, Err}
use Rattle.host_files.specs.inputs.Words.{HasText, IsReadUpTo, Unread}
use Rattle.office_map.specs.PlanValue.{PlanValue}
use Rattle.office_map.specs.PlanText.{plan_of, HasRing}
use Rattle.session_language.specs.Reading.{sessions_of}
use Rattle.serial_command.specs.declared.reading.fault.TextFault.{TextFault}
use Rattle.serial_command.specs.declared.reading.fault.TextFault.TheVariants.{Plan, Ring, Sessions}

-- what was read of a word's text
abbrev pub WasRead : (List ℕ → Option (List ℕ)) → Unread → List ℕ → Unread → ℕ → List ℕ → Type 0
WasRead files old word new limit read = (text : List ℕ) (after : Unread) → HasText files old word text after
    → IsReadUpTo limit text read × (length read ≤ limit → new ≡ after)

-- the text is refused so; one of sessions under a plan
abbrev pub RefusesText : Option PlanValue → List ℕ → TextFault → Type 0
RefusesText plan text (Plan r said) = plan_of text ≡ Err r
RefusesText plan text (Ring r said) = HasRing r (plan_of text)
RefusesText plan text (Sessions r said) = (p : PlanValue) × (plan ≡ Some p) × (sessions_of p text ≡ Err r)
RefusesText plan text _ = ⊥
