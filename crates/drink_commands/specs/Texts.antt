-- What the texts of a command's inputs mean, and what a fault says of them. They are judged in the order of the words, each
-- under what those before it mean.
use Rattle.std.specs.Prelude.{◌≡◌, ◌⊎◌, List, [], ◌∷◌, ℕ, take, Option, Some, None, Ok}
use Rattle.host_files.specs.inputs.Words.{HaveFirstTexts}
use Rattle.office_map.specs.PlanValue.{PlanValue}
use Rattle.session_meaning.specs.ProgramValue.{ProgramValue}
use Rattle.session_language.specs.Reading.{sessions_of}
use Rattle.simulation.specs.scripts.Script.{Act, IsScript, RefusesScript}
use Rattle.serial_command.specs.reading.Plans.{IsAcceptedAs}
use Rattle.serial_command.specs.reading.Texts.{RefusesText}
use Rattle.command_outputs.specs.Fault.{IsAmong, IsFaultAt}
use Rattle.serial_command.specs.declared.reading.input.Input.{Input}
use Rattle.serial_command.specs.declared.reading.input.Input.TheVariants as inputs
use Rattle.command_outputs.specs.declared.fault.Why.TheVariants.{Script}
use Rattle.command_outputs.specs.declared.fault.Fault.{Fault}
use Rattle.command_outputs.specs.declared.fault.Fault.TheVariants.{Text, Refused}

-- the plan, sessions and acts that the texts accepted so far mean
pub record Known : Type 0 where
  pub plan : Option PlanValue
  pub programs : Option (List ProgramValue)
  pub acts : Option (List Act)

-- before the first of them is accepted
abbrev pub nothing : Known
nothing = record { plan = None; programs = None; acts = None }

-- Under what those before it mean, the text of this input is accepted, and then so much is known. Journals are judged
-- together (Audit.antt).
abbrev pub Accepts : Known → Input → List ℕ → Known → Type 0
Accepts known inputs.Plan text next = (p : PlanValue) × IsAcceptedAs text p × (next ≡ record known { plan = Some p })
Accepts known inputs.Sessions text next =
    (p : PlanValue) × (programs : List ProgramValue) × (known.plan ≡ Some p) × (sessions_of p text ≡ Ok programs)
    × (next ≡ record known { programs = Some programs })
Accepts known inputs.Script text next =
    (p : PlanValue) × (programs : List ProgramValue) × (acts : List Act) × (known.plan ≡ Some p) × (known.programs ≡ Some programs)
    × IsScript p programs text acts × (next ≡ record known { acts = Some acts })
Accepts known (inputs.Journal place) text next = ⊥

-- under what those before it mean, a text is refused, and the fault says why
abbrev pub Refuses : Known → List ℕ → Fault → Type 0
Refuses known text (Text fault) = RefusesText known.plan text fault
Refuses known text (Refused (Script r) said) =
    (p : PlanValue) × (programs : List ProgramValue) × (known.plan ≡ Some p) × (known.programs ≡ Some programs) × RefusesScript p programs text r
Refuses known text _ = ⊥

-- What a fault says of the texts of these inputs, of which the first are given: each is accepted, up to one that wasn't read or
-- is refused; where none of those is at fault, none before the rest is. Where memory ran out, nothing is said. Other faults than
-- those of texts and of the output come where P holds of them, and all texts are accepted.
abbrev pub Judges : (Fault → Type 0) → Known → List Input → List (List ℕ) → Fault → Type 0
Judges P known [] [] f = IsAmong [] f ⊎ P f
Judges P known [] (text ∷ texts) f = ⊥
Judges P known (input ∷ asked) [] f = IsAmong (input ∷ asked) f ⊎ P f
Judges P known (input ∷ asked) (text ∷ texts) f =
    IsFaultAt input (Refuses known text) f ⊎ ((next : Known) × Accepts known input text next × Judges P next asked texts f)

-- what it says of the words of a command with these inputs, whichever of their texts are known
abbrev pub IsJudgedOr : (Fault → Type 0) → (List ℕ → Option (List ℕ)) → Option (List ℕ) → List (List ℕ) → List Input → Fault → Type 0
IsJudgedOr P files standard words asked f = (texts : List (List ℕ)) (n : ℕ) → HaveFirstTexts files standard words texts n
    → Judges P nothing asked (take n texts) f

-- of a command that has no other faults than those of texts and of the output
abbrev pub NoOther : Fault → Type 0
NoOther f = ⊥

-- what a fault says of the texts of a command's words, where it has no further faults
abbrev pub IsJudged : (List ℕ → Option (List ℕ)) → Option (List ℕ) → List (List ℕ) → List Input → Fault → Type 0
IsJudged = IsJudgedOr NoOther
