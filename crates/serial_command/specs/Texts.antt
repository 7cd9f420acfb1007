-- What a fault says of the texts of a plan and of sessions. They are judged in the order of the words, each under what those
-- before it mean.
use Rattle.std.specs.Prelude.{◌≡◌, ◌⊎◌, List, [], ◌∷◌, ℕ, take, Option, Some, None, Ok}
use Rattle.host_files.specs.inputs.Words.{HaveFirstTexts}
use Rattle.office_map.specs.PlanValue.{PlanValue}
use Rattle.session_meaning.specs.ProgramValue.{ProgramValue}
use Rattle.session_language.specs.Reading.{sessions_of}
use Rattle.serial_command.specs.reading.Fault.{IsAtInput, IsOneOf}
use Rattle.serial_command.specs.reading.Plans.{IsAcceptedAs}
use Rattle.serial_command.specs.reading.Texts.{RefusesText}
use Rattle.serial_command.specs.declared.reading.fault.TextFault.{TextFault}
use Rattle.serial_command.specs.declared.reading.input.Input.{Input}
use Rattle.serial_command.specs.declared.reading.input.Input.TheVariants as inputs

-- the text of this input is accepted under this plan, if one is known, and then that one is
abbrev pub Accepts : Option PlanValue → Input → List ℕ → Option PlanValue → Type 0
Accepts plan inputs.Plan text next = (p : PlanValue) × IsAcceptedAs text p × (next ≡ Some p)
Accepts plan inputs.Sessions text next =
    (p : PlanValue) × (programs : List ProgramValue) × (plan ≡ Some p) × (sessions_of p text ≡ Ok programs) × (next ≡ plan)
Accepts plan _ text next = ⊥

-- the texts of these inputs, of which the first are given, are accepted, each under what those before it mean
abbrev pub AcceptsEach : Option PlanValue → List Input → List (List ℕ) → Type 0
AcceptsEach plan asked [] = Unit {0}
AcceptsEach plan [] (text ∷ texts) = ⊥
AcceptsEach plan (input ∷ asked) (text ∷ texts) = (next : Option PlanValue) × Accepts plan input text next × AcceptsEach next asked texts

-- What a fault says of the texts of these inputs, of which the first are given: each is accepted, up to one that wasn't read or
-- is refused; where none of those is at fault, none before the rest is. Where memory ran out, nothing is said.
abbrev pub Judges : Option PlanValue → List Input → List (List ℕ) → TextFault → Type 0
Judges plan [] [] f = IsOneOf [] f
Judges plan [] (text ∷ texts) f = ⊥
Judges plan (input ∷ asked) [] f = IsOneOf (input ∷ asked) f
Judges plan (input ∷ asked) (text ∷ texts) f =
    IsAtInput input (RefusesText plan text) f ⊎ ((next : Option PlanValue) × Accepts plan input text next × Judges next asked texts f)

-- the words of a command with these inputs have accepted texts, whichever of them are known
abbrev pub HaveAcceptedTexts : (List ℕ → Option (List ℕ)) → Option (List ℕ) → List (List ℕ) → List Input → Type 0
HaveAcceptedTexts files standard words asked = (texts : List (List ℕ)) (n : ℕ) → HaveFirstTexts files standard words texts n
    → AcceptsEach None asked (take n texts)

-- what a fault says of these words
abbrev pub IsJudged : (List ℕ → Option (List ℕ)) → Option (List ℕ) → List (List ℕ) → List Input → TextFault → Type 0
IsJudged files standard words asked f = (texts : List (List ℕ)) (n : ℕ) → HaveFirstTexts files standard words texts n
    → Judges None asked (take n texts) f
