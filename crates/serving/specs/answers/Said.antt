-- What an office says to a client, line by line.
use Rattle.std.specs.Prelude.{ℕ, List, ◌∷◌, [], ◌++◌, codes}
use Rattle.std.specs.Fmt.{decimal}
use Rattle.bottle_values.specs.declared.Value.{Value}
use Rattle.office_map.specs.PlanValue.{PlanValue}
use Rattle.session_meaning.specs.declared.ending.Outcome.{Outcome}
use Rattle.session_language.specs.declared.fault.SessionRule.{SessionRule}
use Rattle.session_language.specs.declared.fault.SessionRule.TheVariants.{Syntax, UnknownName, UnknownRecord, TooDeep, TooLong, TooManyRecords, TooManyGives, TooManyVariables}
use Rattle.session_language.specs.declared.fault.SessionRefusal.{SessionRefusal}
use Rattle.session_reports.specs.Names.{office_name, record_name}
use Rattle.session_reports.specs.json.Json.{field, key, quoted}
use Rattle.session_reports.specs.form.Forms.{count_as, outcome_as, value_as, words_as}
use Rattle.session_reports.specs.declared.form.forms.Form.{Form}
use Rattle.session_reports.specs.declared.form.forms.Form.TheVariants.{Plain, Json}

pub data Said : Type 0 where
  -- the session has this ticket
  Taken : (t : ℕ) → Said
  -- so the session under the ticket ended, or it hasn't ended
  Finished : (o : Outcome) → Said
  Pending : (t : ℕ) → Said
  -- another session has the ticket; tickets before it weren't given; the session is another office's
  OtherSession : Said
  TicketAhead : Said
  NotOurs : Said
  -- the value of a record; or its bottle isn't here, but at this neighbour or between
  Here : (r : ℕ) (v : Value) → Said
  Away : (r neighbour : ℕ) → Said
  -- what was asked can't be read
  Unread : (f : SessionRefusal) → Said

abbrev pub rule_text : SessionRule → List ℕ
rule_text Syntax = codes "S1 Syntax"
rule_text UnknownName = codes "S2 UnknownName"
rule_text UnknownRecord = codes "S3 UnknownRecord"
rule_text TooDeep = codes "S4 TooDeep"
rule_text TooLong = codes "S5 TooLong"
rule_text TooManyRecords = codes "S6 TooManyRecords"
rule_text TooManyGives = codes "S7 TooManyGives"
rule_text TooManyVariables = codes "S8 TooManyVariables"

-- that a bottle isn't here: away NAME NEIGHBOUR, or {"away":"NAME","neighbour":"NEIGHBOUR"}
abbrev pub away_as : Form → List ℕ → List ℕ → List ℕ
away_as Plain name neighbour = codes "away " ++ (name ++ (32 ∷ (neighbour ++ 10 ∷ [])))
away_as Json name neighbour = 123 ∷ (key (codes "away") ++ (quoted name ++ (field (codes "neighbour") (quoted neighbour) ++ 125 ∷ 10 ∷ [])))

-- that a text is refused by a rule, at a line: refused CODE NAME line N, or {"refused":"CODE NAME","line":N}
abbrev pub unread_as : Form → List ℕ → ℕ → List ℕ
unread_as Plain rule line = codes "refused " ++ (rule ++ (codes " line " ++ (decimal line ++ 10 ∷ [])))
unread_as Json rule line = 123 ∷ (key (codes "refused") ++ (quoted rule ++ (field (codes "line") (decimal line) ++ 125 ∷ 10 ∷ [])))

-- ticket T · pending T · refused CODE NAME · value NAME VALUE · away NAME NEIGHBOUR · refused CODE NAME line N; or an object of each
abbrev pub said_as : Form → PlanValue → Said → List ℕ
said_as form p (Taken t) = count_as form (codes "ticket") t
said_as form p (Finished o) = outcome_as form p o
said_as form p (Pending t) = count_as form (codes "pending") t
said_as form p OtherSession = words_as form (codes "refused") (codes "O6 OtherSession")
said_as form p TicketAhead = words_as form (codes "refused") (codes "O7 TicketAhead")
said_as form p NotOurs = words_as form (codes "refused") (codes "O2 NotOurs")
said_as form p (Here r v) = value_as form p r v
said_as form p (Away r n) = away_as form (record_name p r) (office_name p n)
said_as form p (Unread f) = unread_as form (rule_text f.rule) f.line

-- how many tickets were given: ready T
abbrev pub ready_as : Form → ℕ → List ℕ
ready_as form t = count_as form (codes "ready") t
