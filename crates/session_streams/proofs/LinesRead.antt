-- A line of a text, read as a line of a stream.
use Rattle.std.proofs.Common.{◌≡◌, ◌≤◌, ◌⊎◌, inl, inr, ℕ, List, [], ◌∷◌, ◌++◌, length, Bool, true, false, Option, Some, None, Result, Ok, Err, option_map, nat_le, refl, sym, ap, ◌∙◌, arith, append-nil}
use Rattle.std.specs.Option.{ok_or}
use Rattle.std.proofs.lemmas.Bool.Decides.{nat_tests}
use Rattle.office_map.specs.PlanValue.{PlanValue, office_named}
use Rattle.office_map.specs.PlanText.{◌>>=◌, ◌>>◌, refuse_if}
use Rattle.session_meaning.specs.ProgramValue.{ProgramValue}
use Rattle.session_language.specs.declared.keyword.Keyword.{Keyword}
use Rattle.session_language.specs.declared.keyword.Keyword.TheVariants.{Session, Let, Set, Give, Require, If, Else, Repeat, End, Other}
use Rattle.session_language.specs.declared.fault.SessionRule.{SessionRule}
use Rattle.session_language.specs.declared.fault.SessionRule.TheVariants.{Syntax, UnknownName, TooLong}
use Rattle.session_language.specs.Lexer.{Piece, AWord, ASymbol, AQuoted, AStray, pieces_of}
use Rattle.session_language.specs.Form.{Said, Form, Opens, Says, Otherwise, Closes, keyword_of, name_alone, form_after, form_of}
use Rattle.session_language.specs.Limits.{most_sessions}
use Rattle.session_language.specs.Reading.{Draft, Reading, Spoken, Ended, Going, Closed, scope_in, speak, add, turned_in, ended, begun, with_open, with_ended, take_opening, take_statement, take_closing, take_otherwise, take_formed, take_line}
use Rattle.session_streams.specs.Streams.{is_session, opens, begins_session}

-- nothing but what is open
abbrev pub bare : Option Draft → Reading
bare o = record { done = []; open_session = o }

abbrev pub taken_as : List ProgramValue → Option Draft → Result Reading SessionRule
taken_as closed o = Ok (record { done = closed; open_session = o })

-- a line that is taken closes the same sessions, whatever was closed before
pub record IsTaken (x y : Reading) (r : Result Reading SessionRule) : Type 0 where
  pub closed : List ProgramValue
  pub done : y.done ≡ x.done ++ closed
  pub alone : r ≡ taken_as closed y.open_session

-- nothing is closed, and this session is open
stays_open : (x y : Reading) (d : Draft) (r : Result Reading SessionRule) → r ≡ taken_as [] (Some d) → ◌≡◌ {A = Result Reading SessionRule} (Ok (with_open x d)) (Ok y) → IsTaken x y r
stays_open x y d r is h =
    let same : with_open x d ≡ y = (cc) in
    record {
      closed = [];
      done = ap (λ (z : Reading). z.done) (sym same) ∙ sym (append-nil x.done);
      alone = is ∙ ap (λ (z : Reading). taken_as [] z.open_session) same;
    }

opened : (p : PlanValue) (x y : Reading) (name : List ℕ) → (o : Option Draft) → take_opening p x o name ≡ Ok y → IsTaken x y (take_opening p (bare o) o name)
opened p x y name (Some d) h = absurd (cc)
opened p x y name None h = by_office (office_named p name) h
  where
    by_room : (office : ℕ) (b : Bool) → (refuse_if b TooLong >> Ok (with_open x (begun office))) ≡ Ok y → IsTaken x y (Ok (with_open (bare None) (begun office)))
    by_room office true k = absurd (cc)
    by_room office false k = stays_open x y (begun office) (Ok (with_open (bare None) (begun office))) refl k

    by_office : (o : Option ℕ) → (ok_or o UnknownName >>= λ office. refuse_if (nat_le most_sessions (length x.done)) TooLong >> Ok (with_open x (begun office))) ≡ Ok y
        → IsTaken x y (ok_or o UnknownName >>= λ office. refuse_if (nat_le most_sessions 0) TooLong >> Ok (with_open (bare None) (begun office)))
    by_office None k = absurd (cc)
    by_office (Some office) k = by_room office (nat_le most_sessions (length x.done)) k

stated : (p : PlanValue) (x y : Reading) (said : Said) (o : Option Draft) → take_statement p x o said ≡ Ok y → IsTaken x y (take_statement p (bare o) o said)
stated p x y said None h = absurd (cc)
stated p x y said (Some d) h = by_names (speak (scope_in p d) said) h
  where
    by_place : (r : Result Draft SessionRule) → (r >>= λ next. Ok (with_open x next)) ≡ Ok y → IsTaken x y (r >>= λ next. Ok (with_open (bare (Some d)) next))
    by_place (Ok next) k = stays_open x y next (Ok (with_open (bare (Some d)) next)) refl k
    by_place (Err rule) k = absurd (cc)

    by_names : (r : Result Spoken SessionRule) → (r >>= λ spoken. add d spoken >>= λ next. Ok (with_open x next)) ≡ Ok y
        → IsTaken x y (r >>= λ spoken. add d spoken >>= λ next. Ok (with_open (bare (Some d)) next))
    by_names (Ok spoken) k = by_place (add d spoken) k
    by_names (Err rule) k = absurd (cc)

turned_over : (x y : Reading) (o : Option Draft) → take_otherwise x o ≡ Ok y → IsTaken x y (take_otherwise (bare o) o)
turned_over x y None h = absurd (cc)
turned_over x y (Some d) h = by_block (turned_in d d.outer) h
  where
    by_block : (r : Result Draft SessionRule) → (r >>= λ next. Ok (with_open x next)) ≡ Ok y → IsTaken x y (r >>= λ next. Ok (with_open (bare (Some d)) next))
    by_block (Ok next) k = stays_open x y next (Ok (with_open (bare (Some d)) next)) refl k
    by_block (Err rule) k = absurd (cc)

closed_there : (x y : Reading) (o : Option Draft) → take_closing x o ≡ Ok y → IsTaken x y (take_closing (bare o) o)
closed_there x y None h = absurd (cc)
closed_there x y (Some d) h = by_end (ended d) h
  where
    by_end : (r : Result Ended SessionRule) → (r >>= λ e. Ok (with_ended x e)) ≡ Ok y → IsTaken x y (r >>= λ e. Ok (with_ended (bare (Some d)) e))
    by_end (Ok (Going next)) k = stays_open x y next (Ok (with_open (bare (Some d)) next)) refl k
    by_end (Ok (Closed program)) k =
        let same : ◌≡◌ {A = Reading} (record { done = x.done ++ program ∷ []; open_session = None }) y = (cc) in
        record { closed = program ∷ []; done = ap (λ (z : Reading). z.done) (sym same); alone = ap (λ (z : Reading). taken_as (program ∷ []) z.open_session) same }
    by_end (Err rule) k = absurd (cc)

formed : (p : PlanValue) (x y : Reading) (f : Option Form) → take_formed p x f ≡ Ok y → IsTaken x y (take_formed p (bare x.open_session) f)
formed p x y None h = absurd (cc)
formed p x y (Some (Opens name)) h = opened p x y name x.open_session h
formed p x y (Some (Says said)) h = stated p x y said x.open_session h
formed p x y (Some Otherwise) h = turned_over x y x.open_session h
formed p x y (Some Closes) h = closed_there x y x.open_session h

pub taken_alone : (p : PlanValue) (x y : Reading) (line : List ℕ) → take_line p x line ≡ Ok y → IsTaken x y (take_line p (bare x.open_session) line)
taken_alone p x y line h = formed p x y (form_of p.version (pieces_of line)) h

-- ---- lines that begin a session

pub is_session_alone : (k : Keyword) → is_session k ≡ true → k ≡ Session
is_session_alone Session h = refl
is_session_alone Let h = absurd (cc)
is_session_alone Set h = absurd (cc)
is_session_alone Give h = absurd (cc)
is_session_alone Require h = absurd (cc)
is_session_alone If h = absurd (cc)
is_session_alone Else h = absurd (cc)
is_session_alone Repeat h = absurd (cc)
is_session_alone End h = absurd (cc)
is_session_alone Other h = absurd (cc)

-- in a session that is open such a line is a fault
opening_refused : (p : PlanValue) (x : Reading) (d : Draft) (f : Option (List ℕ)) → x.open_session ≡ Some d → take_formed p x (option_map Opens f) ≡ Err Syntax
opening_refused p x d None e = refl
opening_refused p x d (Some name) e = ap (λ o. take_opening p x o name) e

pub opening_within : (p : PlanValue) (x : Reading) (d : Draft) (line : List ℕ) → begins_session line ≡ true → x.open_session ≡ Some d → take_line p x line ≡ Err Syntax
opening_within p x d line h e = by_pieces (pieces_of line) h
  where
    by_pieces : (ps : List Piece) → opens ps ≡ true → take_formed p x (form_of p.version ps) ≡ Err Syntax
    by_pieces [] k = absurd (cc)
    by_pieces (AWord w ∷ ps) k = ap (λ word. take_formed p x (form_after p.version word ps)) (is_session_alone (keyword_of w) k) ∙ opening_refused p x d (name_alone ps) e
    by_pieces (ASymbol s ∷ ps) k = absurd (cc)
    by_pieces (AQuoted bytes ∷ ps) k = absurd (cc)
    by_pieces (AStray ∷ ps) k = absurd (cc)

-- ---- lines that are refused

-- refused alike, but for one session too many
abbrev pub IsRefused : Reading → SessionRule → Result Reading SessionRule → Type 0
IsRefused x rule r = (r ≡ Err rule) ⊎ (most_sessions ≤ length x.done)

refused_opening : (p : PlanValue) (x : Reading) (rule : SessionRule) (name : List ℕ) (o : Option Draft) → take_opening p x o name ≡ Err rule → IsRefused x rule (take_opening p (bare o) o name)
refused_opening p x rule name (Some d) h = inl h
refused_opening p x rule name None h = by_office (office_named p name) h
  where
    by_room : (office : ℕ) (b : Bool) → nat_le most_sessions (length x.done) ≡ b → (refuse_if b TooLong >> Ok (with_open x (begun office))) ≡ Err rule → IsRefused x rule (Ok (with_open (bare None) (begun office)))
    by_room office true e k = inr (grind (e, arith, nat_tests))
    by_room office false e k = absurd (cc)

    by_office : (o : Option ℕ) → (ok_or o UnknownName >>= λ office. refuse_if (nat_le most_sessions (length x.done)) TooLong >> Ok (with_open x (begun office))) ≡ Err rule
        → IsRefused x rule (ok_or o UnknownName >>= λ office. refuse_if (nat_le most_sessions 0) TooLong >> Ok (with_open (bare None) (begun office)))
    by_office None k = inl k
    by_office (Some office) k = by_room office (nat_le most_sessions (length x.done)) refl k

refused_statement : (p : PlanValue) (x : Reading) (rule : SessionRule) (said : Said) (o : Option Draft) → take_statement p x o said ≡ Err rule → IsRefused x rule (take_statement p (bare o) o said)
refused_statement p x rule said None h = inl h
refused_statement p x rule said (Some d) h = by_names (speak (scope_in p d) said) h
  where
    by_place : (r : Result Draft SessionRule) → (r >>= λ next. Ok (with_open x next)) ≡ Err rule → IsRefused x rule (r >>= λ next. Ok (with_open (bare (Some d)) next))
    by_place (Ok next) k = absurd (cc)
    by_place (Err other) k = inl k

    by_names : (r : Result Spoken SessionRule) → (r >>= λ spoken. add d spoken >>= λ next. Ok (with_open x next)) ≡ Err rule
        → IsRefused x rule (r >>= λ spoken. add d spoken >>= λ next. Ok (with_open (bare (Some d)) next))
    by_names (Ok spoken) k = by_place (add d spoken) k
    by_names (Err other) k = inl k

refused_else : (x : Reading) (rule : SessionRule) (o : Option Draft) → take_otherwise x o ≡ Err rule → IsRefused x rule (take_otherwise (bare o) o)
refused_else x rule None h = inl h
refused_else x rule (Some d) h = by_block (turned_in d d.outer) h
  where
    by_block : (r : Result Draft SessionRule) → (r >>= λ next. Ok (with_open x next)) ≡ Err rule → IsRefused x rule (r >>= λ next. Ok (with_open (bare (Some d)) next))
    by_block (Ok next) k = absurd (cc)
    by_block (Err other) k = inl k

refused_end : (x : Reading) (rule : SessionRule) (o : Option Draft) → take_closing x o ≡ Err rule → IsRefused x rule (take_closing (bare o) o)
refused_end x rule None h = inl h
refused_end x rule (Some d) h = by_end (ended d) h
  where
    by_end : (r : Result Ended SessionRule) → (r >>= λ e. Ok (with_ended x e)) ≡ Err rule → IsRefused x rule (r >>= λ e. Ok (with_ended (bare (Some d)) e))
    by_end (Ok e) k = absurd (cc)
    by_end (Err other) k = inl k

refused_form : (p : PlanValue) (x : Reading) (rule : SessionRule) (f : Option Form) → take_formed p x f ≡ Err rule → IsRefused x rule (take_formed p (bare x.open_session) f)
refused_form p x rule None h = inl h
refused_form p x rule (Some (Opens name)) h = refused_opening p x rule name x.open_session h
refused_form p x rule (Some (Says said)) h = refused_statement p x rule said x.open_session h
refused_form p x rule (Some Otherwise) h = refused_else x rule x.open_session h
refused_form p x rule (Some Closes) h = refused_end x rule x.open_session h

pub refused_alone : (p : PlanValue) (x : Reading) (rule : SessionRule) (line : List ℕ) → take_line p x line ≡ Err rule → IsRefused x rule (take_line p (bare x.open_session) line)
refused_alone p x rule line h = refused_form p x rule (form_of p.version (pieces_of line)) h
