-- What the text of a script asks for, under a plan and the programs of a file of sessions, and which line is its first
-- fault.
use Rattle.std.specs.Prelude.{◌≡◌, ℕ, ◌-◌, ◌<◌, ◌≤◌, ◌⊎◌, List, [], ◌∷◌, ◌++◌, length, map, slice_get, ◌==◌, Option, Some, None, option_map, if◌then◌else◌, codes}
use Rattle.std.specs.List.{filter_map}
use Rattle.std.specs.Str.{bytes_eq}
use Rattle.office_map.specs.PlanValue.{PlanValue}
use Rattle.text_lines.specs.Text.{number_of, statements, plain_words}
use Rattle.office_map.specs.PlanText.{and_then}
use Rattle.session_meaning.specs.ProgramValue.{ProgramValue}
use Rattle.office_journal.specs.declared.rule.Rule.{Rule}
use Rattle.journal_texts.specs.wording.Words.{office_by, count_by}
use Rattle.journal_texts.specs.wording.Rules.{rule_named, rule_with}
use Rattle.frame_world.specs.declared.event.WorldEvent.{WorldEvent}
use Rattle.frame_world.specs.declared.event.WorldEvent.TheVariants as happening
use Rattle.simulation.specs.declared.scripts.event.ScriptEvent.{ScriptEvent}
use Rattle.simulation.specs.declared.scripts.event.ScriptEvent.TheVariants as event
use Rattle.simulation.specs.declared.scripts.fault.ScriptRefusal.{ScriptRefusal}
use Rattle.simulation.specs.declared.scripts.fault.ScriptFault.{ScriptFault}
use Rattle.simulation.specs.declared.scripts.fault.ScriptFault.TheVariants.{Refused, Memory}
use Rattle.simulation.specs.scripts.Limits.{most_bytes, most_rules, most_steps, steps_to_the_end, last_ticket}

-- ---- lines

-- settle: steps of the world, left to itself, until no session is left
abbrev pub short_line : List ℕ → Option ScriptEvent
short_line keyword = if bytes_eq keyword (codes "settle") then Some event.SettleToTheEnd else None

-- submit N: a session, by its number in the file
abbrev pub submit_of : List ℕ → Option ScriptEvent
submit_of number = option_map event.Submit (number_of number)

-- deliver K: the K-th frame, from 1
abbrev pub delivery : ℕ → Option ScriptEvent
delivery k = if k == 0 then None else Some (event.Deliver k)

abbrev pub deliver_of : List ℕ → Option ScriptEvent
deliver_of number = and_then (number_of number) delivery

-- settle N: at most so many steps of the world, left to itself
abbrev pub settle_of : List ℕ → Option ScriptEvent
settle_of number = option_map event.Settle (count_by most_steps number)

abbrev pub numbered_line : List ℕ → List ℕ → Option ScriptEvent
numbered_line keyword number =
    if bytes_eq keyword (codes "submit") then submit_of number
    else (if bytes_eq keyword (codes "deliver") then deliver_of number
    else (if bytes_eq keyword (codes "settle") then settle_of number else None))

-- do OFFICE RULE
abbrev pub done_by : Option ℕ → Option Rule → Option ScriptEvent
done_by None r = None
done_by (Some office) None = None
done_by (Some office) (Some r) = Some (event.Do office r)

-- advance OFFICE N: at most so many rules, left to itself
abbrev pub advanced_by : Option ℕ → Option ℕ → Option ScriptEvent
advanced_by None n = None
advanced_by (Some office) None = None
advanced_by (Some office) (Some n) = Some (event.Advance office n)

-- withdraw OFFICE T: the session with this ticket
abbrev pub withdrawn_by : Option ℕ → Option ℕ → Option ScriptEvent
withdrawn_by None ticket = None
withdrawn_by (Some office) None = None
withdrawn_by (Some office) (Some ticket) = Some (event.Withdraw office ticket)

abbrev pub office_line : PlanValue → List ℕ → List ℕ → List ℕ → Option ScriptEvent
office_line p keyword office word =
    if bytes_eq keyword (codes "do") then done_by (office_by p office) (rule_named word)
    else (if bytes_eq keyword (codes "advance") then advanced_by (office_by p office) (count_by most_rules word)
    else (if bytes_eq keyword (codes "withdraw") then withdrawn_by (office_by p office) (count_by last_ticket word) else None))

-- send OFFICE NEIGHBOUR I: the I-th message that waits for the neighbour, or with 0 the count alone
abbrev pub sent_by : Option ℕ → Option ℕ → Option ℕ → Option ScriptEvent
sent_by None neighbour i = None
sent_by (Some office) None i = None
sent_by (Some office) (Some neighbour) None = None
sent_by (Some office) (Some neighbour) (Some i) = Some (event.Send office neighbour i)

abbrev pub long_line : PlanValue → List ℕ → List ℕ → List ℕ → List ℕ → Option ScriptEvent
long_line p keyword office word argument =
    if bytes_eq keyword (codes "do") then done_by (office_by p office) (rule_with p word argument)
    else (if bytes_eq keyword (codes "send") then sent_by (office_by p office) (office_by p word) (number_of argument) else None)

abbrev pub said_by : PlanValue → List (List ℕ) → Option ScriptEvent
said_by p (keyword ∷ []) = short_line keyword
said_by p (keyword ∷ number ∷ []) = numbered_line keyword number
said_by p (keyword ∷ office ∷ word ∷ []) = office_line p keyword office word
said_by p (keyword ∷ office ∷ word ∷ argument ∷ []) = long_line p keyword office word argument
said_by p words = None

-- what a line says: an event that names its session by its number in the file
unfoldable pub said_of : PlanValue → List ℕ → Option ScriptEvent
said_of p line = and_then (plain_words line) (said_by p)

-- ---- what it asks for

-- an event of the world; or that an office does so many rules, or the world so many steps, left to itself
pub data Act : Type 0 where
  Happens : (e : WorldEvent) → Act
  Advances : (office n : ℕ) → Act
  Settles : (n : ℕ) → Act

-- the n-th program of the file, from 1
abbrev pub nth : List ProgramValue → ℕ → Option ProgramValue
nth programs n = if n == 0 then None else slice_get programs (n - 1)

-- a program is submitted at its office
abbrev pub submission : ProgramValue → Act
submission program = Happens (happening.Submit program.office program)

-- what an event asks for, where its session is in the file
abbrev pub act_with : List ProgramValue → ScriptEvent → Option Act
act_with programs (event.Submit n) = option_map submission (nth programs n)
act_with programs (event.Withdraw office ticket) = Some (Happens (happening.Withdraw office ticket))
act_with programs (event.Do office r) = Some (Happens (happening.Do office r))
act_with programs (event.Advance office n) = Some (Advances office n)
act_with programs (event.Settle n) = Some (Settles n)
act_with programs event.SettleToTheEnd = Some (Settles steps_to_the_end)
act_with programs (event.Send office neighbour i) = Some (Happens (happening.Send office neighbour i))
act_with programs (event.Deliver k) = Some (Happens (happening.Deliver k))

-- what a list of a script's events asks for
abbrev pub acts_with : List ProgramValue → List ScriptEvent → List Act
acts_with programs = filter_map (act_with programs)

-- what a line of a script asks for, under a plan and programs
abbrev pub act_of : PlanValue → List ProgramValue → List ℕ → Option Act
act_of p programs line = and_then (said_of p line) (act_with programs)

-- each line asks for something, and these are it, in order
abbrev pub AreActs : PlanValue → List ProgramValue → List (ℕ × List ℕ) → List Act → Type 0
AreActs p programs lines acts = map (λ l. act_of p programs l.1) lines ≡ map Some acts

-- a text of at most 16 MiB that asks for these, one for each line that says something
pub record IsScript (p : PlanValue) (programs : List ProgramValue) (text : List ℕ) (acts : List Act) : Type 0 where
  pub short : length text ≤ most_bytes
  pub each : AreActs p programs (statements text) acts

-- the line with this number asks for nothing, and each line before it for something
pub record IsFirstFault (p : PlanValue) (programs : List ProgramValue) (text : List ℕ) (number : ℕ) : Type 0 where
  pub before : List (ℕ × List ℕ)
  pub line : List ℕ
  pub after : List (ℕ × List ℕ)
  pub acts : List Act
  pub split : statements text ≡ before ++ (number, line) ∷ after
  pub good : AreActs p programs before acts
  pub faulty : act_of p programs line ≡ None

-- a text that is too long, or its first faulty line, where each line before it asks for something
abbrev pub RefusesScript : PlanValue → List ProgramValue → List ℕ → ScriptRefusal → Type 0
RefusesScript p programs text r =
    ((most_bytes < length text) × (r.line ≡ 0)) ⊎ ((length text ≤ most_bytes) × IsFirstFault p programs text r.line)

-- the text is refused so; where memory ran out, nothing is said
abbrev pub IsFaultOf : PlanValue → List ProgramValue → List ℕ → ScriptFault → Type 0
IsFaultOf p programs text (Refused r) = RefusesScript p programs text r
IsFaultOf p programs text Memory = Unit {0}
