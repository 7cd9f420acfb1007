-- A line with a statement, in an open session.
use Rattle.std.proofs.Common.{◌≡◌, ℕ, List, ◌∷◌, Option, Some, None, option_map, Result, Ok, Err, refl, sym, ap, ◌∙◌, subst}
use Rattle.std.specs.Option.{ok_or}
use Rattle.office_map.specs.PlanText.{◌>>=◌}
use Rattle.office_map.specs.PlanValue.{PlanValue}
use Rattle.session_language.specs.declared.fault.SessionRule.{SessionRule}
use Rattle.session_language.specs.declared.fault.SessionRule.TheVariants.{Syntax}
use Rattle.session_language.specs.declared.fault.Stop.{Stop}
use Rattle.session_language.specs.declared.fault.Stop.TheVariants.{Memory, Refused}
use Rattle.session_language.specs.declared.keyword.Keyword.{Keyword}
use Rattle.session_language.specs.declared.keyword.Keyword.TheVariants.{Session, Let, Set, Give, Require, If, Else, Repeat, End, Other}
use Rattle.session_language.specs.Lexer.{Piece, AWord, pieces_of}
use Rattle.session_language.specs.Names.{Scope}
use Rattle.session_language.specs.Form.{Said, Says, said_after, form_of, keyword_of, IsStatement}
use Rattle.session_language.specs.Reading.{Draft, Reading, Spoken, scope_in, speak, add, with_open, take_after, take_line, take_formed, take_statement}
use Rattle.session_language.specs.refinement.ResolvedStatements.{spoken_after}
use Rattle.session_language.specs.refinement.ReaderRefinement.{Stops, with_statement}
use Rattle.bottle_values.specs.Memory.{UnlessMemory}

-- what is left of a statement once its names are in their places
abbrev pub then_added : Reading → Draft → Result Spoken SessionRule → Result Reading SessionRule
then_added x d told = told >>= λ s. add d s >>= λ next. Ok (with_open x next)

by_said : (p : PlanValue) (x : Reading) (d : Draft) (o : Option Said) → x.open_session ≡ Some d → take_formed p x (option_map Says o) ≡ (ok_or o Syntax >>= take_statement p x (Some d))
by_said p x d None h = refl
by_said p x d (Some said) h = ap (λ s. take_statement p x s said) h

by_keyword : (p : PlanValue) (x : Reading) (d : Draft) (k : Keyword) (ps : List Piece) → IsStatement k → x.open_session ≡ Some d → take_after p x k ps ≡ (ok_or (said_after p.version k ps) Syntax >>= take_statement p x (Some d))
by_keyword p x d Session ps is h = absurd is
by_keyword p x d End ps is h = absurd is
by_keyword p x d Let ps is h = by_said p x d (said_after p.version Let ps) h
by_keyword p x d Set ps is h = by_said p x d (said_after p.version Set ps) h
by_keyword p x d Give ps is h = by_said p x d (said_after p.version Give ps) h
by_keyword p x d Require ps is h = by_said p x d (said_after p.version Require ps) h
by_keyword p x d If ps is h = by_said p x d (said_after p.version If ps) h
by_keyword p x d Repeat ps is h = by_said p x d (said_after p.version Repeat ps) h
by_keyword p x d Else ps is h = absurd is
by_keyword p x d Other ps is h = refl

regroup : (p : PlanValue) (x : Reading) (d : Draft) (o : Option Said) → (ok_or o Syntax >>= take_statement p x (Some d)) ≡ then_added x d (ok_or o Syntax >>= speak (scope_in p d))
regroup p x d None = refl
regroup p x d (Some said) = refl

statement_taken : (p : PlanValue) (x : Reading) (d : Draft) (k : Keyword) (ps : List Piece) (sc : Scope) → IsStatement k → x.open_session ≡ Some d → sc ≡ scope_in p d → take_after p x k ps ≡ then_added x d (spoken_after sc k ps)
statement_taken p x d k ps sc is h e = by_keyword p x d k ps is h ∙ regroup p x d (said_after p.version k ps) ∙ ap (λ s. then_added x d (spoken_after s k ps)) (sym e)

regrouped : (x : Reading) (d : Draft) (told : Result Spoken SessionRule) → then_added x d told ≡ ((told >>= add d) >>= λ next. Ok (with_open x next))
regrouped x d (Ok s) = refl
regrouped x d (Err rule) = refl

-- what a statement leaves of the open session is open then, and what is told of it is told
module _ (p : PlanValue) (x : Reading) (d : Draft) (k : Keyword) (ps : List Piece) (is : IsStatement k) (h : x.open_session ≡ Some d) where
  all : take_after p x k ps ≡ (with_statement p d k ps >>= λ next. Ok (with_open x next))
  all = statement_taken p x d k ps (scope_in p d) is h refl ∙ regrouped x d (spoken_after (scope_in p d) k ps)

  pub left_open : (r : Result (Unit {0}) Stop) (next : Draft) → UnlessMemory (λ _. next) Stops r (with_statement p d k ps) → UnlessMemory (λ _. with_open x next) Stops r (take_after p x k ps)
  left_open (Ok u) next l = all ∙ ap (λ o. o >>= λ y. Ok (with_open x y)) l
  left_open (Err Memory) next l = tt
  left_open (Err (Refused rule)) next l = all ∙ ap (λ o. o >>= λ y. Ok (with_open x y)) l

-- a line that begins with a word
pub line_taken : (p : PlanValue) (x : Reading) (line w : List ℕ) (k : Keyword) (ps : List Piece) (r : Result (Unit {0}) Stop) (after : Reading) → pieces_of line ≡ AWord w ∷ ps → k ≡ keyword_of w → UnlessMemory (λ _. after) Stops r (take_after p x k ps) → UnlessMemory (λ _. after) Stops r (take_line p x line)
line_taken p x line w k ps r after cut is h =
    let same : take_after p x k ps ≡ take_line p x line = ap (λ j. take_after p x j ps) is ∙ ap (λ qs. take_formed p x (form_of p.version qs)) (sym cut) in
    subst (λ told. UnlessMemory (λ _. after) Stops r told) same h
