-- A script's events as lines, and that these read back.
use Rattle.std.specs.Prelude.{◌≡◌, ℕ, ◌^◌, ◌<◌, ◌≤◌, List, [], ◌∷◌, ◌++◌, length, codes, All, Some}
use Rattle.std.specs.List.{flat_map}
use Rattle.std.specs.Fmt.{decimal}
use Rattle.office_map.specs.PlanValue.{PlanValue}
use Rattle.office_map.specs.Consistency.{IsConsistent}
use Rattle.session_meaning.specs.ProgramValue.{ProgramValue}
use Rattle.journal_texts.specs.wording.Words.{office_name, line_of_words}
use Rattle.journal_texts.specs.wording.Rules.{rule_words, IsRuleOf}
use Rattle.simulation.specs.declared.scripts.event.ScriptEvent.{ScriptEvent}
use Rattle.simulation.specs.declared.scripts.event.ScriptEvent.TheVariants as event
use Rattle.simulation.specs.scripts.Limits.{most_bytes, most_rules, most_steps, last_ticket}
use Rattle.simulation.specs.scripts.Script.{said_of, acts_with, IsScript}

-- an event's words
abbrev pub event_words : PlanValue → ScriptEvent → List (List ℕ)
event_words p (event.Submit n) = codes "submit" ∷ decimal n ∷ []
event_words p (event.Withdraw office ticket) = codes "withdraw" ∷ office_name p office ∷ decimal ticket ∷ []
event_words p (event.Do office r) = codes "do" ∷ office_name p office ∷ rule_words p r
event_words p (event.Advance office n) = codes "advance" ∷ office_name p office ∷ decimal n ∷ []
event_words p (event.Settle n) = codes "settle" ∷ decimal n ∷ []
event_words p event.SettleToTheEnd = codes "settle" ∷ []
event_words p (event.Send office neighbour i) = codes "send" ∷ office_name p office ∷ office_name p neighbour ∷ decimal i ∷ []
event_words p (event.Deliver k) = codes "deliver" ∷ decimal k ∷ []

-- the line that prints an event: its words with a space between
abbrev pub line_of : PlanValue → ScriptEvent → List ℕ
line_of p e = line_of_words (event_words p e)

-- the text that prints events
abbrev pub script_of : PlanValue → List ScriptEvent → List ℕ
script_of p = flat_map (λ e. line_of p e ++ 10 ∷ [])

-- the session of an event is one of so many, its offices and its record are the plan's, and numbers are in their ranges
abbrev pub IsEventOf : PlanValue → ℕ → ScriptEvent → Type 0
IsEventOf p sessions (event.Submit n) = (1 ≤ n) × (n ≤ sessions)
IsEventOf p sessions (event.Withdraw office ticket) = (office < length p.offices) × (1 ≤ ticket) × (ticket ≤ last_ticket)
IsEventOf p sessions (event.Do office r) = (office < length p.offices) × IsRuleOf p r
IsEventOf p sessions (event.Advance office n) = (office < length p.offices) × (1 ≤ n) × (n ≤ most_rules)
IsEventOf p sessions (event.Settle n) = (1 ≤ n) × (n ≤ most_steps)
IsEventOf p sessions event.SettleToTheEnd = Unit {0}
IsEventOf p sessions (event.Send office neighbour i) = (office < length p.offices) × (neighbour < length p.offices) × (i < 2 ^ 63)
IsEventOf p sessions (event.Deliver k) = (1 ≤ k) × (k < 2 ^ 63)

-- the line that prints an event says that event
abbrev pub LinesReadBack : Type 0
LinesReadBack = (p : PlanValue) (sessions : ℕ) (e : ScriptEvent) → IsConsistent p → sessions < 2 ^ 63 → IsEventOf p sessions e → said_of p (line_of p e) ≡ Some e

-- the text that prints events is a script of them
abbrev pub ScriptsReadBack : Type 0
ScriptsReadBack =
    (p : PlanValue) (programs : List ProgramValue) (es : List ScriptEvent) → IsConsistent p → length programs < 2 ^ 63 → All (IsEventOf p (length programs)) es
    → length (script_of p es) ≤ most_bytes → IsScript p programs (script_of p es) (acts_with programs es)
