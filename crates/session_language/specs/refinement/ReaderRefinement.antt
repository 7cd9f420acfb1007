-- What the code's drafts and reader are, in the words of reading.
use Rattle.std.specs.Prelude.{◌≡◌, List, option_map, Result, Err}
use Rattle.session_language.specs.declared.draft.Draft as code_draft
use Rattle.session_language.specs.declared.draft.Ended as code_ended
use Rattle.session_language.specs.declared.draft.Ended.TheVariants as endings
use Rattle.session_language.specs.declared.reader.Reader as code_reader
use Rattle.session_language.specs.declared.fault.SessionRule.{SessionRule}
use Rattle.session_language.specs.declared.fault.Stop.{Stop}
use Rattle.session_language.specs.declared.fault.Stop.TheVariants.{Memory, Refused}
use Rattle.session_language.specs.declared.fault.SessionRefusal.{SessionRefusal}
use Rattle.session_language.specs.declared.fault.LangFault.{LangFault}
use Rattle.session_language.specs.declared.fault.LangFault.TheVariants as faults
use Rattle.office_map.specs.PlanValue.{PlanValue}
use Rattle.office_map.specs.PlanText.{◌>>=◌}
use Rattle.session_language.specs.declared.keyword.Keyword.{Keyword}
use Rattle.session_language.specs.Lexer.{Piece}
use Rattle.session_language.specs.refinement.ResolvedStatements.{spoken_after}
use Rattle.session_language.specs.refinement.PartsRefinement.{parts_of}
use Rattle.session_language.specs.Reading.{Draft, Ended, Going, Closed, Reading, scope_in, add}

abbrev pub draft_of : code_draft.Draft → Draft
draft_of d = parts_of d.parts

abbrev pub ended_of : code_ended.Ended → Ended
ended_of (endings.Going d) = Going (draft_of d)
ended_of (endings.Closed p) = Closed p

abbrev pub reading_of : code_reader.Reader → Reading
reading_of r = record { done = r.done.items; open_session = option_map draft_of r.open_session }

-- an open session with the statement after a keyword
abbrev pub with_statement : PlanValue → Draft → Keyword → List Piece → Result Draft SessionRule
with_statement p d k ps = spoken_after (scope_in p d) k ps >>= add d

-- what an error says of what was to be told of a line, and of a text
abbrev pub Stops : {A : Type 0} → Stop → Result A SessionRule → Type 0
Stops (Refused rule) told = told ≡ Err rule
Stops Memory told = Unit {0}

abbrev pub Fails : {A : Type 0} → LangFault → Result A SessionRefusal → Type 0
Fails faults.Memory read = Unit {0}
Fails (faults.Refused r) read = read ≡ Err r
