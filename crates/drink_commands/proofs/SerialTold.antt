-- What is said of the texts of a serial run is what the command's faults say.
use Rattle.std.proofs.Common.{◌≡◌, ℕ, List, [], ◌∷◌, take, Option, Some, refl, subst, inl, inr}
use Rattle.office_map.specs.PlanValue.{PlanValue}
use Rattle.serial_command.specs.declared.reading.fault.TextFault.{TextFault}
use Rattle.serial_command.specs.declared.reading.input.Input.{Input}
use Rattle.serial_command.specs.declared.reading.input.Input.TheVariants as inputs
use Rattle.command_outputs.specs.Fault.{IsAmong, IsWriteFault}
use Rattle.command_outputs.specs.declared.fault.Fault.{Fault}
use Rattle.command_outputs.specs.declared.fault.Fault.TheVariants.{Text}
use Rattle.drink_commands.specs.Texts.{Accepts, IsJudged, Judges, Known, NoOther, nothing}
use Rattle.serial_command.specs.Texts as serial
use Rattle.drink_commands.proofs.Faults.{among_more, no_input}

-- a text that is accepted, and what is known then
accepted_as : (known : Known) (input : Input) (text : List ℕ) (plan : Option PlanValue) → serial.Accepts known.plan input text plan
    → (next : Known) × Accepts known input text next × (plan ≡ next.plan)
accepted_as known inputs.Plan text plan (p, good, e) = (record known { plan = Some p }, (p, good, refl), e)
accepted_as known inputs.Sessions text plan (p, programs, planned, meant, e) =
    (record known { programs = Some programs }, (p, programs, planned, meant, refl), e)
accepted_as known inputs.Script text plan h = absurd h
accepted_as known (inputs.Journal k) text plan h = absurd h

judges_as : (known : Known) (asked : List Input) (texts : List (List ℕ)) (f : TextFault) → serial.Judges known.plan asked texts f
    → Judges NoOther known asked texts (Text f)
judges_as known [] [] f h = inl h
judges_as known [] (text ∷ texts) f h = absurd h
judges_as known (input ∷ asked) [] f h = inl h
judges_as known (input ∷ asked) (text ∷ texts) f (inl h) = inl h
judges_as known (input ∷ asked) (text ∷ texts) f (inr (plan, good, more)) =
    let it = accepted_as known input text plan good in
    inr (it.0, it.1, judges_as it.0 asked texts f (subst (λ o. serial.Judges o asked texts f) it.2 more))

pub judged_as : (files : List ℕ → Option (List ℕ)) (standard : Option (List ℕ)) (words : List (List ℕ)) (asked : List Input) (f : TextFault)
    → serial.IsJudged files standard words asked f → IsJudged files standard words asked (Text f)
judged_as files standard words asked f h texts n known = judges_as nothing asked (take n texts) f (h texts n known)

among : (asked : List Input) (f : Fault) → IsWriteFault f → IsAmong asked f
among [] f h = no_input f h
among (input ∷ asked) f h = among_more input asked f (among asked f h)

accepts_as : (known : Known) (asked : List Input) (texts : List (List ℕ)) (f : Fault) → IsWriteFault f → serial.AcceptsEach known.plan asked texts
    → Judges NoOther known asked texts f
accepts_as known [] [] f h good = inl (no_input f h)
accepts_as known [] (text ∷ texts) f h good = absurd good
accepts_as known (input ∷ asked) [] f h good = inl (among (input ∷ asked) f h)
accepts_as known (input ∷ asked) (text ∷ texts) f h (plan, good, more) =
    let it = accepted_as known input text plan good in
    inr (it.0, it.1, accepts_as it.0 asked texts f h (subst (λ o. serial.AcceptsEach o asked texts) it.2 more))

-- where the writing failed, all of them are accepted
pub written_as : (files : List ℕ → Option (List ℕ)) (standard : Option (List ℕ)) (words : List (List ℕ)) (asked : List Input) (f : Fault)
    → IsWriteFault f → serial.HaveAcceptedTexts files standard words asked → IsJudged files standard words asked f
written_as files standard words asked f h good texts n known = accepts_as nothing asked (take n texts) f h (good texts n known)
