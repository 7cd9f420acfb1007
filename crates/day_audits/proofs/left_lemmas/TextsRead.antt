-- The texts of sessions, one after the other, are read as these sessions.
use Rattle.std.proofs.Common.{◌≡◌, ℕ, ◌+◌, ◌<◌, ◌≤◌, Bool, true, false, cond, if◌then◌else◌, List, [], ◌∷◌, ◌++◌, length, map, Option, None, Some, Result, Ok, Err, refl, sym, ap, ap₂, subst, ◌∙◌, arith, append_assoc, append-nil, length-append, codes}
use Rattle.std.specs.Prelude.{nat_le, nat_lt, All}
use Rattle.std.specs.List.{slice_split, onto_first}
use Rattle.std.specs.Option.{ok_or}
use Rattle.std.specs.Str.Lines.{lines_of_parts, strip_carriage_return}
use Rattle.std.proofs.lemmas.Bool.Decides.{nat_tests}
use Rattle.std.proofs.lemmas.List.Elements.{All-head, All-tail}
use Rattle.office_map.specs.PlanValue.{PlanValue, office_named}
use Rattle.office_map.specs.PlanText.{◌>>=◌, ◌>>◌, refuse_if}
use Rattle.text_lines.specs.Text.{is_newline, lines, says_something, statements, statements_from}
use Rattle.text_lines.specs.TextLaws.{some_parts}
use Rattle.session_meaning.specs.ProgramValue.{ProgramValue}
use Rattle.session_programs.specs.Program.{text_under, words_under}
use Rattle.session_programs.specs.Text.{block_text, line}
use Rattle.session_language.specs.declared.fault.SessionRule.{SessionRule}
use Rattle.session_language.specs.declared.fault.SessionRule.TheVariants.{Syntax, TooLong, UnknownName}
use Rattle.session_language.specs.declared.fault.SessionRefusal.{SessionRefusal}
use Rattle.session_language.specs.Lexer.{pieces_of}
use Rattle.session_language.specs.Form.{Said, Form, Opens, Says, Otherwise, Closes, form_of}
use Rattle.session_language.specs.Reading.{Draft, Reading, Spoken, Ended, Going, Closed, scope_in, speak, add, turned_in, ended, begun, with_open, with_closed, with_ended, take_opening, take_statement, take_closing, take_otherwise, take_form, take_line, at_line, read_lines, nothing_read, unless_open, all_closed, sessions_of}
use Rattle.day_audits.specs.left.LeftTexts.{ReadsBack, TextsAreReadInTurn, texts_of}

-- ---- readings with more sessions before

abbrev behind : List ProgramValue → Reading → Reading
behind d x = record { done = d ++ x.done; open_session = x.open_session }

abbrev opens : Option Draft → ℕ
opens None = 0
opens (Some d) = 1

-- the sessions that are closed, and the one that is open
abbrev begun_in : Reading → ℕ
begun_in x = length x.done + opens x.open_session

-- what leads from one reading to another does so behind others too, and no session is lost by it
abbrev Follows : List ProgramValue → Reading → Reading → Result Reading SessionRule → Type 0
Follows d x y r = (r ≡ Ok (behind d y)) × (begun_in x ≤ begun_in y)

-- ---- a line

same_ok : {A E : Type 0} (a b : A) → ◌≡◌ {A = Result A E} (Ok a) (Ok b) → a ≡ b
same_ok a b e = cc

no_ok : {A E : Type 0} {B : Type 0} (e : E) (b : A) → ◌≡◌ {A = Result A E} (Err e) (Ok b) → B
no_ok e b h = absurd cc

one_open : (x : Reading) (dr : Draft) → x.open_session ≡ Some dr → begun_in x ≡ length x.done + 1
one_open x dr is = let one : opens x.open_session ≡ 1 = ap opens is in omega (arith, one)

none_open : (x : Reading) → x.open_session ≡ None → begun_in x ≡ length x.done
none_open x is = let none : opens x.open_session ≡ 0 = ap opens is in omega (arith, none)

module _ (p : PlanValue) (d : List ProgramValue) where
  abbrev Few : Reading → Type 0
  Few y = length d + begun_in y ≤ 1024

  -- a session is begun
  begins : (x y : Reading) (office : ℕ) → x.open_session ≡ None → with_open x (begun office) ≡ y → Few y → Follows d x y (refuse_if (nat_le 1024 (length (d ++ x.done))) TooLong >> Ok (with_open (behind d x) (begun office)))
  begins x y office is same few =
      let enough : length d + (length x.done + 1) ≤ 1024 = subst Few (sym same) few in
      let room : nat_le 1024 (length (d ++ x.done)) ≡ false = let all = length-append d x.done in grind (enough, all, arith, nat_tests) in
      let before : begun_in x ≤ length x.done + 1 = omega (arith, none_open x is) in
      (ap (λ b. refuse_if b TooLong >> Ok (with_open (behind d x) (begun office))) room ∙ ap (λ z. Ok (behind d z)) same, subst (λ z. begun_in x ≤ begun_in z) same before)

  by_room : (x y : Reading) (office : ℕ) (b : Bool) → x.open_session ≡ None → (refuse_if b TooLong >> Ok (with_open x (begun office))) ≡ Ok y → Few y
      → Follows d x y (refuse_if (nat_le 1024 (length (d ++ x.done))) TooLong >> Ok (with_open (behind d x) (begun office)))
  by_room x y office true is k few = no_ok TooLong y k
  by_room x y office false is k few = begins x y office is (same_ok (with_open x (begun office)) y k) few

  by_office : (x y : Reading) (o : Option ℕ) → x.open_session ≡ None → (ok_or o UnknownName >>= λ office. refuse_if (nat_le 1024 (length x.done)) TooLong >> Ok (with_open x (begun office))) ≡ Ok y → Few y
      → Follows d x y (ok_or o UnknownName >>= λ office. refuse_if (nat_le 1024 (length (d ++ x.done))) TooLong >> Ok (with_open (behind d x) (begun office)))
  by_office x y None is k few = no_ok UnknownName y k
  by_office x y (Some office) is k few = by_room x y office (nat_le 1024 (length x.done)) is k few

  by_opening : (x y : Reading) (name : List ℕ) (o : Option Draft) → x.open_session ≡ o → take_opening p x o name ≡ Ok y → Few y → Follows d x y (take_opening p (behind d x) o name)
  by_opening x y name (Some dr) is h few = no_ok Syntax y h
  by_opening x y name None is h few = by_office x y (office_named p name) is h few

  -- the session that is open goes on
  goes_on : (x y : Reading) (dr next : Draft) → x.open_session ≡ Some dr → with_open x next ≡ y → Follows d x y (Ok (with_open (behind d x) next))
  goes_on x y dr next is same =
      let before : begun_in x ≤ length x.done + 1 = omega (arith, one_open x dr is) in
      (ap (λ z. Ok (behind d z)) same, subst (λ z. begun_in x ≤ begun_in z) same before)

  -- what leads to the next draft, or is refused
  by_draft : (x y : Reading) (dr : Draft) (r : Result Draft SessionRule) → x.open_session ≡ Some dr → (r >>= λ next. Ok (with_open x next)) ≡ Ok y → Follows d x y (r >>= λ next. Ok (with_open (behind d x) next))
  by_draft x y dr (Err e) is k = no_ok e y k
  by_draft x y dr (Ok next) is k = goes_on x y dr next is (same_ok (with_open x next) y k)

  by_spoken : (x y : Reading) (dr : Draft) (r : Result Spoken SessionRule) → x.open_session ≡ Some dr → (r >>= λ spoken. add dr spoken >>= λ next. Ok (with_open x next)) ≡ Ok y
      → Follows d x y (r >>= λ spoken. add dr spoken >>= λ next. Ok (with_open (behind d x) next))
  by_spoken x y dr (Err e) is k = no_ok e y k
  by_spoken x y dr (Ok spoken) is k = by_draft x y dr (add dr spoken) is k

  by_statement : (x y : Reading) (said : Said) (o : Option Draft) → x.open_session ≡ o → take_statement p x o said ≡ Ok y → Follows d x y (take_statement p (behind d x) o said)
  by_statement x y said None is h = no_ok Syntax y h
  by_statement x y said (Some dr) is h = by_spoken x y dr (speak (scope_in p dr) said) is h

  by_otherwise : (x y : Reading) (o : Option Draft) → x.open_session ≡ o → take_otherwise x o ≡ Ok y → Follows d x y (take_otherwise (behind d x) o)
  by_otherwise x y None is h = no_ok Syntax y h
  by_otherwise x y (Some dr) is h = by_draft x y dr (turned_in dr dr.outer) is h

  -- it closes
  closes : (x y : Reading) (dr : Draft) (q : ProgramValue) → x.open_session ≡ Some dr → with_closed x q ≡ y → Follows d x y (Ok (with_closed (behind d x) q))
  closes x y dr q is same =
      let more : length (x.done ++ q ∷ []) ≡ length x.done + 1 = length-append x.done (q ∷ []) in
      let before : begun_in x ≤ length (x.done ++ q ∷ []) + 0 = omega (arith, one_open x dr is, more) in (
        ap (λ l. Ok (record { done = l; open_session = None })) (append_assoc d x.done (q ∷ [])) ∙ ap (λ z. Ok (behind d z)) same,
        subst (λ z. begun_in x ≤ begun_in z) same before,
      )

  by_ended : (x y : Reading) (dr : Draft) (r : Result Ended SessionRule) → x.open_session ≡ Some dr → (r >>= λ e. Ok (with_ended x e)) ≡ Ok y → Follows d x y (r >>= λ e. Ok (with_ended (behind d x) e))
  by_ended x y dr (Err e) is k = no_ok e y k
  by_ended x y dr (Ok (Going next)) is k = goes_on x y dr next is (same_ok (with_open x next) y k)
  by_ended x y dr (Ok (Closed q)) is k = closes x y dr q is (same_ok (with_closed x q) y k)

  by_closing : (x y : Reading) (o : Option Draft) → x.open_session ≡ o → take_closing x o ≡ Ok y → Follows d x y (take_closing (behind d x) o)
  by_closing x y None is h = no_ok Syntax y h
  by_closing x y (Some dr) is h = by_ended x y dr (ended dr) is h

  by_form : (x y : Reading) (f : Option Form) → (ok_or f Syntax >>= take_form p x) ≡ Ok y → Few y → Follows d x y (ok_or f Syntax >>= take_form p (behind d x))
  by_form x y None h few = no_ok Syntax y h
  by_form x y (Some (Opens name)) h few = by_opening x y name x.open_session refl h few
  by_form x y (Some (Says said)) h few = by_statement x y said x.open_session refl h
  by_form x y (Some Otherwise) h few = by_otherwise x y x.open_session refl h
  by_form x y (Some Closes) h few = by_closing x y x.open_session refl h

  -- ---- lines, whatever their numbers

  abbrev taken : Reading → List ℕ → Result Reading SessionRule
  taken x l = if says_something l then take_line p x l else Ok x

  abbrev read_all : Reading → List (List ℕ) → Result Reading SessionRule
  read_all x [] = Ok x
  read_all x (l ∷ ls) = taken x l >>= λ y. read_all y ls

  taken_behind : (x y : Reading) (l : List ℕ) → taken x l ≡ Ok y → Few y → Follows d x y (taken (behind d x) l)
  taken_behind x y l h few = go (says_something l) h
    where
      go : (b : Bool) → (if b then take_line p x l else Ok x) ≡ Ok y → Follows d x y (if b then take_line p (behind d x) l else Ok (behind d x))
      go true k = by_form x y (form_of p.version (pieces_of l)) k few
      go false k = let same : x ≡ y = same_ok x y k in (ap (λ z. Ok (behind d z)) same, omega (arith, ap begun_in same))

  all_behind : (ls : List (List ℕ)) (x y : Reading) → read_all x ls ≡ Ok y → Few y → Follows d x y (read_all (behind d x) ls)
  all_behind [] x y h few = let same : x ≡ y = same_ok x y h in (ap (λ z. Ok (behind d z)) same, omega (arith, ap begun_in same))
  all_behind (l ∷ ls) x y h few = go (taken x l) refl h (λ z k. all_behind ls z y k few)
    where
      go : (r : Result Reading SessionRule) → taken x l ≡ r → (r >>= λ z. read_all z ls) ≡ Ok y → ((z : Reading) → read_all z ls ≡ Ok y → Follows d z y (read_all (behind d z) ls)) → Follows d x y (read_all (behind d x) (l ∷ ls))
      go (Err e) is k rest = no_ok e y k
      go (Ok z) is k rest =
          let later : Follows d z y (read_all (behind d z) ls) = rest z k in
          let fewer : Few z = omega (arith, few, later.1) in
          let first : Follows d x z (taken (behind d x) l) = taken_behind x z l is fewer in
          (ap (λ r. r >>= λ w. read_all w ls) first.0 ∙ later.0, omega (arith, first.1, later.1))

  read_append : (ls ms : List (List ℕ)) (x : Reading) → read_all x (ls ++ ms) ≡ (read_all x ls >>= λ y. read_all y ms)
  read_append [] ms x = refl
  read_append (l ∷ ls) ms x = go (taken x l) (read_append ls ms)
    where
      go : (r : Result Reading SessionRule) → ((y : Reading) → read_all y (ls ++ ms) ≡ (read_all y ls >>= λ z. read_all z ms)) → (r >>= λ y. read_all y (ls ++ ms)) ≡ ((r >>= λ y. read_all y ls) >>= λ y. read_all y ms)
      go (Err e) rest = refl
      go (Ok y) rest = rest y

  -- the numbers of lines are for refusals alone
  unnumbered : (n : ℕ) (ls : List (List ℕ)) (x y : Reading) → read_lines p x (statements_from n ls) ≡ Ok y → read_all x ls ≡ Ok y
  unnumbered n [] x y h = ap Ok (same_ok x y h)
  unnumbered n (l ∷ ls) x y h = go (says_something l) h (λ z k. unnumbered (n + 1) ls z y k)
    where
      Rest : Type 0
      Rest = (z : Reading) → read_lines p z (statements_from (n + 1) ls) ≡ Ok y → read_all z ls ≡ Ok y

      by_taken : (r : Result Reading SessionRule) → (at_line n r >>= λ z. read_lines p z (statements_from (n + 1) ls)) ≡ Ok y → Rest → (r >>= λ z. read_all z ls) ≡ Ok y
      by_taken (Err e) k rest = no_ok (record { rule = e; line = n }) y k
      by_taken (Ok z) k rest = rest z k

      go : (b : Bool) → read_lines p x (if b then (n, l) ∷ statements_from (n + 1) ls else statements_from (n + 1) ls) ≡ Ok y → Rest → ((if b then take_line p x l else Ok x) >>= λ z. read_all z ls) ≡ Ok y
      go true k rest = by_taken (take_line p x l) k rest
      go false k rest = rest x k

  numbered : (n : ℕ) (ls : List (List ℕ)) (x y : Reading) → read_all x ls ≡ Ok y → read_lines p x (statements_from n ls) ≡ Ok y
  numbered n [] x y h = ap Ok (same_ok x y h)
  numbered n (l ∷ ls) x y h = go (says_something l) h (λ z k. numbered (n + 1) ls z y k)
    where
      Rest : Type 0
      Rest = (z : Reading) → read_all z ls ≡ Ok y → read_lines p z (statements_from (n + 1) ls) ≡ Ok y

      by_taken : (r : Result Reading SessionRule) → (r >>= λ z. read_all z ls) ≡ Ok y → Rest → (at_line n r >>= λ z. read_lines p z (statements_from (n + 1) ls)) ≡ Ok y
      by_taken (Err e) k rest = no_ok e y k
      by_taken (Ok z) k rest = rest z k

      go : (b : Bool) → ((if b then take_line p x l else Ok x) >>= λ z. read_all z ls) ≡ Ok y → Rest → read_lines p x (if b then (n, l) ∷ statements_from (n + 1) ls else statements_from (n + 1) ls) ≡ Ok y
      go true k rest = by_taken (take_line p x l) k rest
      go false k rest = rest x k

-- ---- lines of texts one after the other

onto_first_of : (b : ℕ) (ps qs : List (List ℕ)) → 0 < length ps → onto_first b (ps ++ qs) ≡ onto_first b ps ++ qs
onto_first_of b [] qs h = absurd (omega (arith, h))
onto_first_of b (q ∷ ps) qs h = refl

parts_of_both : (u rest : List ℕ) → slice_split is_newline (u ++ 10 ∷ rest) ≡ slice_split is_newline u ++ slice_split is_newline rest
parts_of_both [] rest = refl
parts_of_both (b ∷ u) rest = go (is_newline b) (parts_of_both u rest)
  where
    go : (t : Bool) → slice_split is_newline (u ++ 10 ∷ rest) ≡ slice_split is_newline u ++ slice_split is_newline rest → cond t ([] ∷ slice_split is_newline (u ++ 10 ∷ rest)) (onto_first b (slice_split is_newline (u ++ 10 ∷ rest)))
        ≡ cond t ([] ∷ slice_split is_newline u) (onto_first b (slice_split is_newline u)) ++ slice_split is_newline rest
    go true more = ap (λ l. [] ∷ l) more
    go false more = ap (onto_first b) more ∙ onto_first_of b (slice_split is_newline u) (slice_split is_newline rest) (some_parts is_newline u)

parts_are_lines : (ps qs : List (List ℕ)) → 0 < length qs → lines_of_parts (ps ++ qs) ≡ map strip_carriage_return ps ++ lines_of_parts qs
parts_are_lines [] qs h = refl
parts_are_lines (x ∷ ps) qs h = several (ps ++ qs) (let all = length-append ps qs in omega (arith, all, h)) ∙ ap (λ l. strip_carriage_return x ∷ l) (parts_are_lines ps qs h)
  where
    several : (l : List (List ℕ)) → 0 < length l → lines_of_parts (x ∷ l) ≡ strip_carriage_return x ∷ lines_of_parts l
    several [] k = absurd (omega (arith, k))
    several (y ∷ ys) k = refl

lines_then : (u rest : List ℕ) → lines (u ++ 10 ∷ rest) ≡ map strip_carriage_return (slice_split is_newline u) ++ lines rest
lines_then u rest = ap lines_of_parts (parts_of_both u rest) ∙ parts_are_lines (slice_split is_newline u) (slice_split is_newline rest) (some_parts is_newline rest)

-- a text whose last line is ended, and another after it
lines_of_both : (u rest : List ℕ) → lines ((u ++ 10 ∷ []) ++ rest) ≡ lines (u ++ 10 ∷ []) ++ lines rest
lines_of_both u rest =
    ap lines (append_assoc u (10 ∷ []) rest) ∙ lines_then u rest
    ∙ ap (λ l. l ++ lines rest) (sym (lines_then u [] ∙ append-nil (map strip_carriage_return (slice_split is_newline u))))

-- a session's text ends its last line
abbrev unended : PlanValue → ProgramValue → List ℕ
unended p x = line (codes "session " ++ (words_under p x).office) ++ (block_text (words_under p x) x.body ++ codes "end")

is_ended : (p : PlanValue) (x : ProgramValue) → text_under p x ≡ unended p x ++ 10 ∷ []
is_ended p x =
    let first = line (codes "session " ++ (words_under p x).office) in
    let body = block_text (words_under p x) x.body in
    ap (λ l. first ++ l) (sym (append_assoc body (codes "end") (10 ∷ []))) ∙ sym (append_assoc first (body ++ codes "end") (10 ∷ []))

session_then : (p : PlanValue) (x : ProgramValue) (rest : List ℕ) → lines (text_under p x ++ rest) ≡ lines (text_under p x) ++ lines rest
session_then p x rest =
    ap (λ t. lines (t ++ rest)) (is_ended p x) ∙ lines_of_both (unended p x) rest ∙ ap (λ t. lines t ++ lines rest) (sym (is_ended p x))

-- ---- sessions one after the other

module _ (p : PlanValue) where
  -- so many sessions are closed, and none is open
  abbrev closed_with : List ProgramValue → Reading
  closed_with d = record { done = d; open_session = None }

  -- what reads back as one session leaves it, and none open
  one_read : (x : ProgramValue) → ReadsBack p x → read_all p [] nothing_read (lines (text_under p x)) ≡ Ok (closed_with (x ∷ []))
  unfolding sessions_of
  one_read x h = by_length (nat_lt 1048576 (length (text_under p x))) h
    where
      by_done : (y : Reading) (o : Option Draft) → y.open_session ≡ o → unless_open (length (lines (text_under p x))) y.done o ≡ Ok (x ∷ []) → y ≡ closed_with (x ∷ [])
      by_done y None is k = let done : y.done ≡ x ∷ [] = same_ok y.done (x ∷ []) k in ap₂ (λ a b. record { done = a; open_session = b }) done is
      by_done y (Some dr) is k = no_ok (record { rule = Syntax; line = length (lines (text_under p x)) + 1 }) (x ∷ []) k

      by_reading : (r : Result Reading SessionRefusal) → read_lines p nothing_read (statements (text_under p x)) ≡ r → (r >>= λ y. all_closed (length (lines (text_under p x))) y) ≡ Ok (x ∷ [])
          → read_lines p nothing_read (statements (text_under p x)) ≡ Ok (closed_with (x ∷ []))
      by_reading (Err e) is k = no_ok e (x ∷ []) k
      by_reading (Ok y) is k = is ∙ ap Ok (by_done y y.open_session refl k)

      by_length : (b : Bool) → (refuse_if b (record { rule = TooLong; line = 0 }) >> (read_lines p nothing_read (statements (text_under p x)) >>= λ y. all_closed (length (lines (text_under p x))) y)) ≡ Ok (x ∷ [])
          → read_all p [] nothing_read (lines (text_under p x)) ≡ Ok (closed_with (x ∷ []))
      by_length true k = no_ok (record { rule = TooLong; line = 0 }) (x ∷ []) k
      by_length false k = unnumbered p [] 1 (lines (text_under p x)) nothing_read (closed_with (x ∷ [])) (by_reading (read_lines p nothing_read (statements (text_under p x))) refl k)

  same_reader : (d e : List ProgramValue) (ls : List (List ℕ)) (x : Reading) → read_all p d x ls ≡ read_all p e x ls
  same_reader d e [] x = refl
  same_reader d e (l ∷ ls) x = go (taken p d x l) (same_reader d e ls)
    where
      go : (r : Result Reading SessionRule) → ((y : Reading) → read_all p d y ls ≡ read_all p e y ls) → (r >>= λ y. read_all p d y ls) ≡ (r >>= λ y. read_all p e y ls)
      go (Err f) rest = refl
      go (Ok y) rest = rest y

  each_read : (d xs : List ProgramValue) → All (ReadsBack p) xs → length d + length xs ≤ 1024 → read_all p [] (closed_with d) (lines (texts_of p xs)) ≡ Ok (closed_with (d ++ xs))
  each_read d [] h few = ap (λ l. Ok (closed_with l)) (sym (append-nil d))
  each_read d (x ∷ xs) h few =
      let alone : read_all p d nothing_read (lines (text_under p x)) ≡ Ok (closed_with (x ∷ [])) = same_reader d [] (lines (text_under p x)) nothing_read ∙ one_read x (All-head (ReadsBack p) x xs h) in
      let after : Follows d nothing_read (closed_with (x ∷ [])) (read_all p d (behind d nothing_read) (lines (text_under p x))) =
      all_behind p d (lines (text_under p x)) nothing_read (closed_with (x ∷ [])) alone (let one : begun_in (closed_with (x ∷ [])) ≡ 1 = refl in omega (arith, few, one)) in
      let first : read_all p [] (closed_with d) (lines (text_under p x)) ≡ Ok (closed_with (d ++ x ∷ [])) =
      same_reader [] d (lines (text_under p x)) (closed_with d)
      ∙ ap (λ l. read_all p d (closed_with l) (lines (text_under p x))) (sym (append-nil d)) ∙ after.0 in
      let size : length (d ++ x ∷ []) ≡ length d + 1 = length-append d (x ∷ []) in
      let later : read_all p [] (closed_with (d ++ x ∷ [])) (lines (texts_of p xs)) ≡ Ok (closed_with ((d ++ x ∷ []) ++ xs)) =
      each_read (d ++ x ∷ []) xs (All-tail (ReadsBack p) x xs h) (omega (arith, few, size)) in
      ap (read_all p [] (closed_with d)) (session_then p x (texts_of p xs))
      ∙ read_append p [] (lines (text_under p x)) (lines (texts_of p xs)) (closed_with d)
      ∙ ap (λ r. r >>= λ y. read_all p [] y (lines (texts_of p xs))) first
      ∙ later
      ∙ ap (λ l. Ok (closed_with l)) (append_assoc d (x ∷ []) xs)

pub read_in_turn : TextsAreReadInTurn
unfolding sessions_of
read_in_turn p xs h few little =
    let text : List ℕ = texts_of p xs in
    let short : nat_lt 1048576 (length text) ≡ false = grind (little, arith, nat_tests) in
    let read : read_lines p nothing_read (statements text) ≡ Ok (record { done = xs; open_session = None }) = numbered p [] 1 (lines text) nothing_read (record { done = xs; open_session = None }) (each_read p [] xs h (omega (arith, few))) in
    ap (λ b. refuse_if b (record { rule = TooLong; line = 0 }) >> (read_lines p nothing_read (statements text) >>= λ y. all_closed (length (lines text)) y)) short
    ∙ ap (λ r. r >>= λ y. all_closed (length (lines text)) y) read
