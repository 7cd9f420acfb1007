-- What a fault says of the texts of a command's words, those that are known.
use Rattle.std.proofs.Common.{◌≡◌, ◌⊎◌, ℕ, zero, suc, List, [], ◌∷◌, take, Contains, Option, Some, Ok, refl, sym, subst, arith, inl, inr}
use Rattle.host_files.specs.inputs.Words.{HasText, HaveTexts, Unread, unread}
use Rattle.office_map.specs.PlanValue.{PlanValue}
use Rattle.session_meaning.specs.ProgramValue.{ProgramValue}
use Rattle.session_language.specs.Reading.{sessions_of}
use Rattle.simulation.specs.scripts.Script.{Act, IsScript}
use Rattle.serial_command.specs.declared.reading.input.Input.{Input}
use Rattle.serial_command.specs.declared.reading.input.Input.TheVariants as inputs
use Rattle.serial_command.specs.declared.reading.fault.TextFault.{TextFault}
use Rattle.serial_command.specs.declared.reading.fault.TextFault.TheVariants as unfit
use Rattle.serial_command.specs.reading.Fault.{IsAtInput, IsOneOf}
use Rattle.command_outputs.specs.declared.fault.Fault.{Fault}
use Rattle.command_outputs.specs.declared.fault.Fault.TheVariants.{Memory, Text, Refused, NoSuchOffice, NoAddress, NoJournal, NoPlace, NoRun, CutShort, WriteFailed, FileFailed, NoStore, StoreFailed, OtherSessions, NoSecrets}
use Rattle.command_outputs.specs.Fault.{IsAmong, IsFaultAt, IsWriteFault, refused_input}
use Rattle.serial_command.specs.reading.Plans.{IsAcceptedAs}
use Rattle.drink_commands.specs.Texts.{Accepts, IsJudgedOr, Judges, Known, Refuses, nothing}

weaker_text : (input : Input) (P Q : TextFault → Type 0) (f : TextFault) → ((why : TextFault) → P why → Q why) → IsAtInput input P f → IsAtInput input Q f
weaker_text input P Q unfit.Memory k h = tt
weaker_text input P Q (unfit.ReadFailed failed cause) k h = h
weaker_text input P Q (unfit.Plan refusal said) k (e, h) = (e, k _ h)
weaker_text input P Q (unfit.Ring ring said) k (e, h) = (e, k _ h)
weaker_text input P Q (unfit.Sessions refusal said) k (e, h) = (e, k _ h)

-- an input that wasn't read
pub unread_at : (input : Input) (P : TextFault → Type 0) (f : TextFault) → IsAtInput input (λ _. ⊥) f → IsAtInput input P f
unread_at input P unfit.Memory h = tt
unread_at input P (unfit.ReadFailed failed cause) h = h
unread_at input P (unfit.Plan refusal said) (e, h) = absurd h
unread_at input P (unfit.Ring ring said) (e, h) = absurd h
unread_at input P (unfit.Sessions refusal said) (e, h) = absurd h

pub weaker : (input : Input) (P Q : Fault → Type 0) (f : Fault) → ((why : Fault) → P why → Q why) → IsFaultAt input P f → IsFaultAt input Q f
weaker input P Q Memory k h = tt
weaker input P Q (Text fault) k h = weaker_text input (λ f. P (Text f)) (λ f. Q (Text f)) fault (λ f. k (Text f)) h
weaker input P Q (Refused why said) k (e, h) = (e, k (Refused why said) h)
weaker input P Q (NoSuchOffice offices) k h = h
weaker input P Q (NoAddress office) k h = h
weaker input P Q (NoJournal office) k h = h
weaker input P Q (NoPlace name why) k h = h
weaker input P Q (NoRun cause) k h = h
weaker input P Q (CutShort cause) k h = h
weaker input P Q (WriteFailed cause) k h = h
weaker input P Q (FileFailed name cause) k h = h
weaker input P Q (NoStore why) k h = h
weaker input P Q StoreFailed k h = h
weaker input P Q (OtherSessions ticket) k h = h
weaker input P Q (NoSecrets why) k h = h

-- the same of one of a plan's text or of sessions'
pub among_text : (asked : List Input) (input : Input) (P : TextFault → Type 0) (f : TextFault) → Contains asked input → IsAtInput input P f → IsOneOf asked f
among_text asked input P unfit.Memory at h = tt
among_text asked input P (unfit.ReadFailed failed cause) at h = subst (Contains asked) (sym h) at
among_text asked input P (unfit.Plan refusal said) at (e, h) = subst (Contains asked) (sym e) at
among_text asked input P (unfit.Ring ring said) at (e, h) = subst (Contains asked) (sym e) at
among_text asked input P (unfit.Sessions refusal said) at (e, h) = subst (Contains asked) (sym e) at

-- a fault at an input of these
pub among : (asked : List Input) (input : Input) (P : Fault → Type 0) (f : Fault) → Contains asked input → IsFaultAt input P f → IsAmong asked f
among asked input P Memory at h = tt
among asked input P (Text fault) at h = among_text asked input (λ f. P (Text f)) fault at h
among asked input P (Refused why said) at (e, h) = subst (Contains asked) (sym e) at
among asked input P (NoSuchOffice offices) at h = h
among asked input P (NoAddress office) at h = h
among asked input P (NoJournal office) at h = h
among asked input P (NoPlace name why) at h = h
among asked input P (NoRun cause) at h = h
among asked input P (CutShort cause) at h = h
among asked input P (WriteFailed cause) at h = tt
among asked input P (FileFailed name cause) at h = tt
among asked input P (NoStore why) at h = h
among asked input P StoreFailed at h = h
among asked input P (OtherSessions ticket) at h = h
among asked input P (NoSecrets why) at h = h

contains_more : (input : Input) (asked : List Input) (x : Input) → Contains asked x → Contains (input ∷ asked) x
contains_more input asked x (k, lt, e) = (suc k, omega (arith, lt), e)

one_more : (input : Input) (asked : List Input) (f : TextFault) → IsOneOf asked f → IsOneOf (input ∷ asked) f
one_more input asked unfit.Memory h = tt
one_more input asked (unfit.ReadFailed failed cause) h = contains_more input asked failed h
one_more input asked (unfit.Plan refusal said) h = contains_more input asked inputs.Plan h
one_more input asked (unfit.Ring ring said) h = contains_more input asked inputs.Plan h
one_more input asked (unfit.Sessions refusal said) h = contains_more input asked inputs.Sessions h

pub among_more : (input : Input) (asked : List Input) (f : Fault) → IsAmong asked f → IsAmong (input ∷ asked) f
among_more input asked Memory h = tt
among_more input asked (Text fault) h = one_more input asked fault h
among_more input asked (Refused why said) h = contains_more input asked (refused_input why) h
among_more input asked (NoSuchOffice offices) h = h
among_more input asked (NoAddress office) h = h
among_more input asked (NoJournal office) h = h
among_more input asked (NoPlace name why) h = h
among_more input asked (NoRun cause) h = h
among_more input asked (CutShort cause) h = h
among_more input asked (WriteFailed cause) h = tt
among_more input asked (FileFailed name cause) h = tt
among_more input asked (NoStore why) h = h
among_more input asked StoreFailed h = h
among_more input asked (OtherSessions ticket) h = h
among_more input asked (NoSecrets why) h = h

-- the writing failed, and no input is at fault
pub no_input : (f : Fault) → IsWriteFault f → IsAmong [] f
no_input Memory h = tt
no_input (Text fault) h = absurd h
no_input (Refused why said) h = absurd h
no_input (NoSuchOffice offices) h = h
no_input (NoAddress office) h = h
no_input (NoJournal office) h = h
no_input (NoPlace name why) h = h
no_input (NoRun cause) h = h
no_input (CutShort cause) h = h
no_input (WriteFailed cause) h = tt
no_input (FileFailed name cause) h = tt
no_input (NoStore why) h = h
no_input StoreFailed h = h
no_input (OtherSessions ticket) h = h
no_input (NoSecrets why) h = h

at_input : (P : Fault → Type 0) (known : Known) (asked : List Input) (f : Fault) → Judges P known asked [] f → IsAmong asked f ⊎ P f
at_input P known [] f h = h
at_input P known (input ∷ asked) f h = h

-- what is so before an input is asked for is so with it
with_more : (P : Fault → Type 0) (input : Input) (asked : List Input) (f : Fault) → IsAmong asked f ⊎ P f → IsAmong (input ∷ asked) f ⊎ P f
with_more P input asked f (inl h) = inl (among_more input asked f h)
with_more P input asked f (inr h) = inr h

-- what the text of a word is, where it was accepted, and what is left then
abbrev pub IsTaken : (List ℕ → Option (List ℕ)) → Unread → List ℕ → Unread → Input → Known → Known → Type 0
IsTaken files u word v input known next = (text : List ℕ) (after : Unread) → HasText files u word text after
    → Accepts known input text next × (v ≡ after)

-- the text of that word is refused, and the fault says why
abbrev pub RefusesWord : (List ℕ → Option (List ℕ)) → Unread → List ℕ → Known → Fault → Type 0
RefusesWord files u word known why = (text : List ℕ) (after : Unread) → HasText files u word text after → Refuses known text why

-- P holds of the faults that come besides
module _ (P : Fault → Type 0) (files : List ℕ → Option (List ℕ)) where
  -- a fault says what is so of the texts of these words, whichever are known
  abbrev pub SaysTexts : Unread → List (List ℕ) → Known → List Input → Fault → Type 0
  SaysTexts u words known asked f = (texts : List (List ℕ)) (n : ℕ) → HaveTexts files u (take n words) (take n texts) → Judges P known asked (take n texts) f

  -- at the first of the words
  pub at_first : (u : Unread) (word : List ℕ) (words : List (List ℕ)) (known : Known) (input : Input) (asked : List Input) (f : Fault)
      → IsFaultAt input (RefusesWord files u word known) f
      → SaysTexts u (word ∷ words) known (input ∷ asked) f
  at_first u word words known input asked f h texts zero has = inl (among (input ∷ asked) input (RefusesWord files u word known) f (0, omega arith, refl) h)
  at_first u word words known input asked f h [] (suc n) has = absurd has
  at_first u word words known input asked f h (text ∷ texts) (suc n) (after, has, more) = inl (weaker input (RefusesWord files u word known) (Refuses known text) f (λ why refused. refused text after has) h)

  -- at a later one, where the text of the first is accepted
  pub at_next : (u v : Unread) (word : List ℕ) (words : List (List ℕ)) (known next : Known) (input : Input) (asked : List Input) (f : Fault)
      → IsTaken files u word v input known next → SaysTexts v words next asked f → SaysTexts u (word ∷ words) known (input ∷ asked) f
  at_next u v word words known next input asked f taken later texts zero has = with_more P input asked f (at_input P next asked f (later [] 0 tt))
  at_next u v word words known next input asked f taken later [] (suc n) has = absurd has
  at_next u v word words known next input asked f taken later (text ∷ texts) (suc n) (after, has, more) =
      let it = taken text after has in
      inr (next, it.0, later texts n (subst (λ s. HaveTexts files s (take n words) (take n texts)) (sym it.1) more))

  -- at none of them: all are accepted
  pub at_end : (u : Unread) (known : Known) (f : Fault) → IsAmong [] f ⊎ P f → SaysTexts u [] known [] f
  at_end u known f h texts zero has = h
  at_end u known f h [] (suc n) has = h
  at_end u known f h (text ∷ texts) (suc n) has = absurd has

  pub judged : (standard : Option (List ℕ)) (u : Unread) (words : List (List ℕ)) (asked : List Input) (f : Fault) → u ≡ unread standard words
      → SaysTexts u words nothing asked f → IsJudgedOr P files standard words asked f
  judged standard u words asked f e says texts n known =
      says texts n (subst (λ s. HaveTexts files s (take n words) (take n texts)) (sym e) known.1)

module _ (files : List ℕ → Option (List ℕ)) where
  -- ---- which texts are accepted

  abbrev pub TakesPlan : Unread → List ℕ → Unread → PlanValue → Type 0
  TakesPlan u word v p = (text : List ℕ) (after : Unread) → HasText files u word text after → IsAcceptedAs text p × (v ≡ after)

  pub plan_taken : (u : Unread) (word : List ℕ) (v : Unread) (p : PlanValue) → TakesPlan u word v p
      → IsTaken files u word v inputs.Plan nothing (record nothing { plan = Some p })
  plan_taken u word v p h text after has = let it = h text after has in ((p, it.0, refl), it.1)

  abbrev pub TakesSessions : Unread → List ℕ → Unread → PlanValue → List ProgramValue → Type 0
  TakesSessions u word v p programs = (text : List ℕ) (after : Unread) → HasText files u word text after
      → (sessions_of p text ≡ Ok programs) × (v ≡ after)

  pub sessions_taken : (u : Unread) (word : List ℕ) (v : Unread) (p : PlanValue) (programs : List ProgramValue) → TakesSessions u word v p programs
      → IsTaken files u word v inputs.Sessions (record nothing { plan = Some p }) (record nothing { plan = Some p; programs = Some programs })
  sessions_taken u word v p programs h text after has = let it = h text after has in ((p, programs, refl, it.0, refl), it.1)

  abbrev pub TakesScript : Unread → List ℕ → Unread → PlanValue → List ProgramValue → List Act → Type 0
  TakesScript u word v p programs acts = (text : List ℕ) (after : Unread) → HasText files u word text after
      → IsScript p programs text acts × (v ≡ after)

  pub script_taken : (u : Unread) (word : List ℕ) (v : Unread) (p : PlanValue) (programs : List ProgramValue) (acts : List Act)
      → TakesScript u word v p programs acts
      → IsTaken files u word v inputs.Script (record nothing { plan = Some p; programs = Some programs })
      (record { plan = Some p; programs = Some programs; acts = Some acts })
  script_taken u word v p programs acts h text after has = let it = h text after has in ((p, programs, acts, refl, refl, it.0, refl), it.1)
