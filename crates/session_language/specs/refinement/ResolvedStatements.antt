-- What the code's readers of a line give, in the words of the forms of lines.
use Rattle.std.specs.Prelude.{◌≡◌, ℕ, List, Option, Some, None, Result, Ok, not, nat_lt}
use Rattle.std.specs.Option.{ok_or}
use Rattle.office_map.specs.PlanText.{◌>>=◌, ◌>>◌, refuse_if}
use Rattle.session_meaning.specs.declared.node.Node.{Node}
use Rattle.session_language.specs.declared.summary.Summary.{Summary}
use Rattle.session_language.specs.declared.fault.SessionRule.{SessionRule}
use Rattle.session_language.specs.declared.fault.SessionRule.TheVariants.{Syntax, UnknownName, UnknownRecord, TooDeep}
use Rattle.session_language.specs.declared.keyword.Keyword.{Keyword}
use Rattle.session_language.specs.declared.spoken.Spoken as code
use Rattle.session_language.specs.declared.spoken.Spoken.TheVariants as spoken
use Rattle.session_meaning.specs.refinement.TreeOfStatements.{test_of}
use Rattle.session_language.specs.Lexer.{Piece}
use Rattle.session_language.specs.Phrase.{Phrase, Keeps}
use Rattle.session_language.specs.Names.{Scope}
use Rattle.session_language.specs.Form.{said_after}
use Rattle.session_language.specs.Reading.{Spoken, SpeaksLet, SpeaksSet, SpeaksGive, SpeaksDemand, SpeaksIf, SpeaksRepeat, speak}

-- an expression that is the rest of a line
abbrev pub ReadsAlone : Option Summary → Scope → List Node → Option Phrase → Type 0
ReadsAlone None s nodes read = read ≡ None
ReadsAlone (Some x) s nodes read = (e : Phrase) × (read ≡ Some e) × Keeps x s nodes e

-- a name and an expression
abbrev pub ReadsAssigned : Option (List ℕ × Summary) → Scope → List Node → Option (List ℕ × Phrase) → Type 0
ReadsAssigned None s nodes read = read ≡ None
ReadsAssigned (Some (name, x)) s nodes read = (e : Phrase) × (read ≡ Some (name, e)) × Keeps x s nodes e

abbrev pub seen_spoken : code.Spoken → Spoken
seen_spoken (spoken.Let name e) = SpeaksLet name e
seen_spoken (spoken.Set r e) = SpeaksSet r e
seen_spoken (spoken.Give e) = SpeaksGive e
seen_spoken (spoken.Require c code) = SpeaksDemand (test_of c.value) code
seen_spoken (spoken.If c) = SpeaksIf (test_of c.value)
seen_spoken (spoken.Repeat turns) = SpeaksRepeat turns

-- the statement after a keyword, with its names in their places
abbrev pub spoken_after : Scope → Keyword → List Piece → Result Spoken SessionRule
spoken_after s k ps = ok_or (said_after s.plan.version k ps) Syntax >>= speak s

-- the first refusal of an expression's names and depth
abbrev pub judged : Summary → Result (Unit {0}) SessionRule
judged x = do
  refuse_if (not x.knows_variables) UnknownName
  refuse_if (not x.knows_records) UnknownRecord
  refuse_if (nat_lt 32 x.depth) TooDeep
  Ok tt
