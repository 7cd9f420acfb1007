-- How many sessions a line closes.
use Rattle.std.proofs.Common.{◌≡◌, ◌≤◌, ℕ, List, [], ◌∷◌, ◌++◌, length, Bool, true, false, Option, Some, None, Result, Ok, Err, option_map, nat_le, sym, ap, ◌∙◌, arith}
use Rattle.std.specs.Option.{ok_or}
use Rattle.office_map.specs.PlanValue.{PlanValue, office_named}
use Rattle.office_map.specs.PlanText.{◌>>=◌, ◌>>◌, refuse_if}
use Rattle.session_language.specs.declared.fault.SessionRule.{SessionRule}
use Rattle.session_language.specs.declared.fault.SessionRule.TheVariants.{UnknownName, TooLong}
use Rattle.session_language.specs.Lexer.{Piece, AWord, ASymbol, AQuoted, AStray, pieces_of}
use Rattle.session_language.specs.Form.{Said, Form, Opens, Says, Otherwise, Closes, keyword_of, name_alone, form_after, form_of}
use Rattle.session_language.specs.Limits.{most_sessions}
use Rattle.session_language.specs.Reading.{Draft, Reading, Spoken, Ended, Going, Closed, scope_in, speak, add, turned_in, ended, begun, with_open, with_ended, take_opening, take_statement, take_closing, take_otherwise, take_formed}
use Rattle.session_streams.specs.Streams.{opens}
use Rattle.session_streams.specs.StreamLaws.{LinesCloseOne}
use Rattle.session_streams.proofs.LinesRead.{is_session_alone}

-- as many as before
abbrev Keeps : Reading → Reading → Type 0
Keeps x y = y.done ≡ x.done

stays : (x y : Reading) (d : Draft) → ◌≡◌ {A = Result Reading SessionRule} (Ok (with_open x d)) (Ok y) → Keeps x y
stays x y d h = let same : with_open x d ≡ y = (cc) in ap (λ (z : Reading). z.done) (sym same)

opening_keeps : (p : PlanValue) (x y : Reading) (name : List ℕ) (o : Option Draft) → take_opening p x o name ≡ Ok y → Keeps x y
opening_keeps p x y name (Some d) h = absurd (cc)
opening_keeps p x y name None h = by_office (office_named p name) h
  where
    by_room : (office : ℕ) (b : Bool) → (refuse_if b TooLong >> Ok (with_open x (begun office))) ≡ Ok y → Keeps x y
    by_room office true k = absurd (cc)
    by_room office false k = stays x y (begun office) k

    by_office : (o : Option ℕ) → (ok_or o UnknownName >>= λ office. refuse_if (nat_le most_sessions (length x.done)) TooLong >> Ok (with_open x (begun office))) ≡ Ok y → Keeps x y
    by_office None k = absurd (cc)
    by_office (Some office) k = by_room office (nat_le most_sessions (length x.done)) k

statement_keeps : (p : PlanValue) (x y : Reading) (said : Said) (o : Option Draft) → take_statement p x o said ≡ Ok y → Keeps x y
statement_keeps p x y said None h = absurd (cc)
statement_keeps p x y said (Some d) h = by_names (speak (scope_in p d) said) h
  where
    by_place : (r : Result Draft SessionRule) → (r >>= λ next. Ok (with_open x next)) ≡ Ok y → Keeps x y
    by_place (Ok next) k = stays x y next k
    by_place (Err rule) k = absurd (cc)

    by_names : (r : Result Spoken SessionRule) → (r >>= λ spoken. add d spoken >>= λ next. Ok (with_open x next)) ≡ Ok y → Keeps x y
    by_names (Ok spoken) k = by_place (add d spoken) k
    by_names (Err rule) k = absurd (cc)

otherwise_keeps : (x y : Reading) (o : Option Draft) → take_otherwise x o ≡ Ok y → Keeps x y
otherwise_keeps x y None h = absurd (cc)
otherwise_keeps x y (Some d) h = by_block (turned_in d d.outer) h
  where
    by_block : (r : Result Draft SessionRule) → (r >>= λ next. Ok (with_open x next)) ≡ Ok y → Keeps x y
    by_block (Ok next) k = stays x y next k
    by_block (Err rule) k = absurd (cc)

-- none was closed before, so few are
kept_few : (x y : Reading) → x.done ≡ [] → Keeps x y → length y.done ≤ 1
kept_few x y none same = let no : y.done ≡ [] = same ∙ none in let size : length y.done ≡ 0 = ap length no in omega (arith, size)

closing_few : (x y : Reading) (o : Option Draft) → x.done ≡ [] → take_closing x o ≡ Ok y → length y.done ≤ 1
closing_few x y None none h = absurd (cc)
closing_few x y (Some d) none h = by_end (ended d) h
  where
    by_end : (r : Result Ended SessionRule) → (r >>= λ e. Ok (with_ended x e)) ≡ Ok y → length y.done ≤ 1
    by_end (Ok (Going next)) k = kept_few x y none (stays x y next k)
    by_end (Ok (Closed program)) k =
        let same : ◌≡◌ {A = Reading} (record { done = x.done ++ program ∷ []; open_session = None }) y = (cc) in
        let one : y.done ≡ program ∷ [] = ap (λ (z : Reading). z.done) (sym same) ∙ ap (λ ps. ps ++ program ∷ []) none in
        let size : length y.done ≡ 1 = ap length one in
        omega (arith, size)
    by_end (Err rule) k = absurd (cc)

formed_few : (p : PlanValue) (x y : Reading) (f : Option Form) → x.done ≡ [] → take_formed p x f ≡ Ok y → length y.done ≤ 1
formed_few p x y None none h = absurd (cc)
formed_few p x y (Some (Opens name)) none h = kept_few x y none (opening_keeps p x y name x.open_session h)
formed_few p x y (Some (Says said)) none h = kept_few x y none (statement_keeps p x y said x.open_session h)
formed_few p x y (Some Otherwise) none h = kept_few x y none (otherwise_keeps x y x.open_session h)
formed_few p x y (Some Closes) none h = closing_few x y x.open_session none h

-- ---- lines that begin a session

named_keeps : (p : PlanValue) (x y : Reading) (f : Option (List ℕ)) → take_formed p x (option_map Opens f) ≡ Ok y → Keeps x y
named_keeps p x y None h = absurd (cc)
named_keeps p x y (Some name) h = opening_keeps p x y name x.open_session h

first_keeps : (p : PlanValue) (x y : Reading) (ps : List Piece) → opens ps ≡ true → take_formed p x (form_of p.version ps) ≡ Ok y → Keeps x y
first_keeps p x y [] h k = absurd (cc)
first_keeps p x y (AWord w ∷ ps) h k = named_keeps p x y (name_alone ps) (sym (ap (λ word. take_formed p x (form_after p.version word ps)) (is_session_alone (keyword_of w) h)) ∙ k)
first_keeps p x y (ASymbol s ∷ ps) h k = absurd (cc)
first_keeps p x y (AQuoted bytes ∷ ps) h k = absurd (cc)
first_keeps p x y (AStray ∷ ps) h k = absurd (cc)

pub lines_close_one : LinesCloseOne
lines_close_one p x y line none h = record {
  few = formed_few p x y (form_of p.version (pieces_of line)) none h;
  opening = λ b. first_keeps p x y (pieces_of line) b h ∙ none;
}
