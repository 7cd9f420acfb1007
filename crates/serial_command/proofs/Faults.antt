-- What a fault says of the texts of a plan and of sessions, those that are known.
use Rattle.std.proofs.Common.{◌≡◌, ℕ, zero, suc, List, [], ◌∷◌, take, Contains, Option, Some, None, Ok, refl, sym, subst, arith, inl, inr}
use Rattle.host_files.specs.inputs.Words.{HasText, HaveTexts, StandFor, Unread, unread}
use Rattle.office_map.specs.PlanValue.{PlanValue}
use Rattle.session_meaning.specs.ProgramValue.{ProgramValue}
use Rattle.session_language.specs.Reading.{sessions_of}
use Rattle.serial_command.specs.reading.Fault.{IsAtInput, IsOneOf}
use Rattle.serial_command.specs.reading.Plans.{IsAcceptedAs}
use Rattle.serial_command.specs.reading.Texts.{RefusesText}
use Rattle.serial_command.specs.declared.reading.fault.TextFault.{TextFault}
use Rattle.serial_command.specs.declared.reading.fault.TextFault.TheVariants.{Memory, ReadFailed, Plan, Ring, Sessions}
use Rattle.serial_command.specs.declared.reading.input.Input.{Input}
use Rattle.serial_command.specs.declared.reading.input.Input.TheVariants as inputs
use Rattle.serial_command.specs.Texts.{Accepts, AcceptsEach, HaveAcceptedTexts, IsJudged, Judges}

weaker : (input : Input) (P Q : TextFault → Type 0) (f : TextFault) → ((f : TextFault) → P f → Q f) → IsAtInput input P f → IsAtInput input Q f
weaker input P Q Memory k h = tt
weaker input P Q (ReadFailed failed cause) k h = h
weaker input P Q (Plan r said) k (e, h) = (e, k (Plan r said) h)
weaker input P Q (Ring r said) k (e, h) = (e, k (Ring r said) h)
weaker input P Q (Sessions r said) k (e, h) = (e, k (Sessions r said) h)

-- a fault at an input of these
among : (asked : List Input) (input : Input) (P : TextFault → Type 0) (f : TextFault) → Contains asked input → IsAtInput input P f
    → IsOneOf asked f
among asked input P Memory at h = tt
among asked input P (ReadFailed failed cause) at h = subst (Contains asked) (sym h) at
among asked input P (Plan r said) at (e, h) = subst (Contains asked) (sym e) at
among asked input P (Ring r said) at (e, h) = subst (Contains asked) (sym e) at
among asked input P (Sessions r said) at (e, h) = subst (Contains asked) (sym e) at

abbrev pub Asked : List Input
Asked = inputs.Plan ∷ inputs.Sessions ∷ []

-- the text of that word is refused, and the fault says why
abbrev pub RefusesWord : (List ℕ → Option (List ℕ)) → Unread → List ℕ → Option PlanValue → TextFault → Type 0
RefusesWord files u word plan why = (text : List ℕ) (after : Unread) → HasText files u word text after → RefusesText plan text why

-- at either of a plan and sessions
pub among_plan : (files : List ℕ → Option (List ℕ)) (u : Unread) (word : List ℕ) (f : TextFault) → IsAtInput inputs.Plan (RefusesWord files u word None) f
    → IsOneOf Asked f
among_plan files u word f h = among Asked inputs.Plan (RefusesWord files u word None) f (0, omega arith, refl) h

pub among_sessions : (files : List ℕ → Option (List ℕ)) (u : Unread) (word : List ℕ) (p : PlanValue) (f : TextFault)
    → IsAtInput inputs.Sessions (RefusesWord files u word (Some p)) f → IsOneOf Asked f
among_sessions files u word p f h = among Asked inputs.Sessions (RefusesWord files u word (Some p)) f (1, omega arith, refl) h

contains_more : (input : Input) (asked : List Input) (x : Input) → Contains asked x → Contains (input ∷ asked) x
contains_more input asked x (k, lt, e) = (suc k, omega (arith, lt), e)

one_more : (input : Input) (asked : List Input) (f : TextFault) → IsOneOf asked f → IsOneOf (input ∷ asked) f
one_more input asked Memory h = tt
one_more input asked (ReadFailed failed cause) h = contains_more input asked failed h
one_more input asked (Plan r said) h = contains_more input asked inputs.Plan h
one_more input asked (Ring r said) h = contains_more input asked inputs.Plan h
one_more input asked (Sessions r said) h = contains_more input asked inputs.Sessions h

at_input : (plan : Option PlanValue) (asked : List Input) (f : TextFault) → Judges plan asked [] f → IsOneOf asked f
at_input plan [] f h = h
at_input plan (input ∷ asked) f h = h

-- where memory ran out, nothing is said
judges_memory : (plan : Option PlanValue) (input : Input) (asked : List Input) (texts : List (List ℕ)) → Judges plan (input ∷ asked) texts Memory
judges_memory plan input asked [] = tt
judges_memory plan input asked (text ∷ texts) = inl tt

pub judged_memory : (files : List ℕ → Option (List ℕ)) (standard : Option (List ℕ)) (words : List (List ℕ)) → IsJudged files standard words Asked Memory
judged_memory files standard words texts n known = judges_memory None inputs.Plan (inputs.Sessions ∷ []) (take n texts)

-- what the text of a word is, where it was accepted, and what is left then
abbrev IsTaken : (List ℕ → Option (List ℕ)) → Unread → List ℕ → Unread → Input → Option PlanValue → Option PlanValue → Type 0
IsTaken files u word v input plan next = (text : List ℕ) (after : Unread) → HasText files u word text after
    → Accepts plan input text next × (v ≡ after)

module _ (files : List ℕ → Option (List ℕ)) where
  -- a fault says what is so of the texts of these words, whichever are known
  abbrev SaysTexts : Unread → List (List ℕ) → Option PlanValue → List Input → TextFault → Type 0
  SaysTexts u words plan asked f = (texts : List (List ℕ)) (n : ℕ) → HaveTexts files u (take n words) (take n texts) → Judges plan asked (take n texts) f

  -- at the first of the words
  at_first : (u : Unread) (word : List ℕ) (words : List (List ℕ)) (plan : Option PlanValue) (input : Input) (asked : List Input) (f : TextFault)
      → IsAtInput input (RefusesWord files u word plan) f
      → SaysTexts u (word ∷ words) plan (input ∷ asked) f
  at_first u word words plan input asked f h texts zero has = among (input ∷ asked) input (RefusesWord files u word plan) f (0, omega arith, refl) h
  at_first u word words plan input asked f h [] (suc n) has = absurd has
  at_first u word words plan input asked f h (text ∷ texts) (suc n) (after, has, more) = inl (weaker input (RefusesWord files u word plan) (RefusesText plan text) f (λ why refused. refused text after has) h)

  -- at a later one, where the text of the first is accepted
  at_next : (u v : Unread) (word : List ℕ) (words : List (List ℕ)) (plan next : Option PlanValue) (input : Input) (asked : List Input) (f : TextFault)
      → IsTaken files u word v input plan next → SaysTexts v words next asked f → SaysTexts u (word ∷ words) plan (input ∷ asked) f
  at_next u v word words plan next input asked f taken later texts zero has = one_more input asked f (at_input next asked f (later [] 0 tt))
  at_next u v word words plan next input asked f taken later [] (suc n) has = absurd has
  at_next u v word words plan next input asked f taken later (text ∷ texts) (suc n) (after, has, more) =
      let it = taken text after has in
      inr (next, it.0, later texts n (subst (λ s. HaveTexts files s (take n words) (take n texts)) (sym it.1) more))

  -- the texts of these words are accepted, whichever are known
  abbrev AcceptsTexts : Unread → List (List ℕ) → Option PlanValue → List Input → Type 0
  AcceptsTexts u words plan asked = (texts : List (List ℕ)) (n : ℕ) → HaveTexts files u (take n words) (take n texts) → AcceptsEach plan asked (take n texts)

  accepts_next : (u v : Unread) (word : List ℕ) (words : List (List ℕ)) (plan next : Option PlanValue) (input : Input) (asked : List Input)
      → IsTaken files u word v input plan next → AcceptsTexts v words next asked → AcceptsTexts u (word ∷ words) plan (input ∷ asked)
  accepts_next u v word words plan next input asked taken later texts zero has = tt
  accepts_next u v word words plan next input asked taken later [] (suc n) has = absurd has
  accepts_next u v word words plan next input asked taken later (text ∷ texts) (suc n) (after, has, more) =
      let it = taken text after has in
      (next, it.0, later texts n (subst (λ s. HaveTexts files s (take n words) (take n texts)) (sym it.1) more))

  accepts_none : (u : Unread) (plan : Option PlanValue) → AcceptsTexts u [] plan []
  accepts_none u plan texts zero has = tt
  accepts_none u plan [] (suc n) has = tt
  accepts_none u plan (text ∷ texts) (suc n) has = absurd has

  judged : (standard : Option (List ℕ)) (u : Unread) (words : List (List ℕ)) (asked : List Input) (f : TextFault) → u ≡ unread standard words
      → SaysTexts u words None asked f → IsJudged files standard words asked f
  judged standard u words asked f e says texts n known =
      says texts n (subst (λ s. HaveTexts files s (take n words) (take n texts)) (sym e) known.1)

  abbrev pub TakesPlan : Unread → List ℕ → Unread → PlanValue → Type 0
  TakesPlan u word v p = (text : List ℕ) (after : Unread) → HasText files u word text after → IsAcceptedAs text p × (v ≡ after)

  plan_taken : (u : Unread) (word : List ℕ) (v : Unread) (p : PlanValue) → TakesPlan u word v p → IsTaken files u word v inputs.Plan None (Some p)
  plan_taken u word v p h text after has = let it = h text after has in ((p, it.0, refl), it.1)

  abbrev pub TakesSessions : Unread → List ℕ → Unread → PlanValue → List ProgramValue → Type 0
  TakesSessions u word v p programs = (text : List ℕ) (after : Unread) → HasText files u word text after
      → (sessions_of p text ≡ Ok programs) × (v ≡ after)

  sessions_taken : (u : Unread) (word : List ℕ) (v : Unread) (p : PlanValue) (programs : List ProgramValue) → TakesSessions u word v p programs
      → IsTaken files u word v inputs.Sessions (Some p) (Some p)
  sessions_taken u word v p programs h text after has = let it = h text after has in ((p, programs, refl, it.0, refl), it.1)

  -- at the plan
  pub at_plan : (standard : Option (List ℕ)) (u : Unread) (plan sessions : List ℕ) (f : TextFault) → u ≡ unread standard (plan ∷ sessions ∷ [])
      → IsAtInput inputs.Plan (RefusesWord files u plan None) f
      → IsJudged files standard (plan ∷ sessions ∷ []) Asked f
  at_plan standard u plan sessions f e h = judged standard u (plan ∷ sessions ∷ []) Asked f e (at_first u plan (sessions ∷ []) None inputs.Plan (inputs.Sessions ∷ []) f h)

  -- at the sessions
  pub at_sessions : (standard : Option (List ℕ)) (u v : Unread) (plan sessions : List ℕ) (p : PlanValue) (f : TextFault) → u ≡ unread standard (plan ∷ sessions ∷ [])
      → TakesPlan u plan v p
      → IsAtInput inputs.Sessions (RefusesWord files v sessions (Some p)) f
      → IsJudged files standard (plan ∷ sessions ∷ []) Asked f
  at_sessions standard u v plan sessions p f e taken h =
      judged standard u (plan ∷ sessions ∷ []) Asked f e
      (at_next u v plan (sessions ∷ []) None (Some p) inputs.Plan (inputs.Sessions ∷ []) f (plan_taken u plan v p taken)
      (at_first v sessions [] (Some p) inputs.Sessions [] f h))

  -- both are accepted
  pub both_accepted : (standard : Option (List ℕ)) (u v w : Unread) (plan sessions : List ℕ) (p : PlanValue) (programs : List ProgramValue)
      → u ≡ unread standard (plan ∷ sessions ∷ []) → TakesPlan u plan v p → TakesSessions v sessions w p programs
      → HaveAcceptedTexts files standard (plan ∷ sessions ∷ []) Asked
  both_accepted standard u v w plan sessions p programs e taken more texts n known =
      accepts_next u v plan (sessions ∷ []) None (Some p) inputs.Plan (inputs.Sessions ∷ []) (plan_taken u plan v p taken)
      (accepts_next v w sessions [] (Some p) (Some p) inputs.Sessions [] (sessions_taken v sessions w p programs more) (accepts_none w (Some p)))
      texts n (subst (λ s. HaveTexts files s (take n (plan ∷ sessions ∷ [])) (take n texts)) (sym e) known.1)

  -- what both mean
  pub both_mean : (standard : Option (List ℕ)) (u v w : Unread) (plan sessions : List ℕ) (p : PlanValue) (programs : List ProgramValue)
      → u ≡ unread standard (plan ∷ sessions ∷ []) → TakesPlan u plan v p → TakesSessions v sessions w p programs
      → (plan_text sessions_text : List ℕ) → StandFor files standard (plan ∷ sessions ∷ []) (plan_text ∷ sessions_text ∷ [])
      → IsAcceptedAs plan_text p × (sessions_of p sessions_text ≡ Ok programs)
  both_mean standard u v w plan sessions p programs e taken more plan_text sessions_text known =
      let has : HaveTexts files u (plan ∷ sessions ∷ []) (plan_text ∷ sessions_text ∷ []) = subst (λ s. HaveTexts files s (plan ∷ sessions ∷ []) (plan_text ∷ sessions_text ∷ [])) (sym e) known in
      let it = taken plan_text has.0 has.1 in
      (it.0, (more sessions_text has.2.0 (subst (λ s. HasText files s sessions sessions_text has.2.0) (sym it.1) has.2.1)).0)
