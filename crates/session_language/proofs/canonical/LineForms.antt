-- The canonical line of a statement has the form of that statement.
use Rattle.std.proofs.Common.{◌≡◌, ◌<◌, ◌≤◌, ℕ, List, [], ◌∷◌, ◌++◌, true, false, nat_lt, nat_le, Some, None, option_map, option_and_then, if◌then◌else◌, codes, refl, sym, ap, ◌∙◌, append_assoc, arith}
use Rattle.std.proofs.lemmas.List.{append-nil}
use Rattle.std.proofs.lemmas.Bool.Decides.{nat_tests}
use Rattle.std.specs.Fmt as fmt
use Rattle.text_lines.specs.Text.{is_name}
use Rattle.bottle_values.specs.declared.version.Version.{Version}
use Rattle.session_meaning.specs.declared.node.Comparison.{Comparison}
use Rattle.session_meaning.specs.declared.node.Comparison.TheVariants.{Equal, NotEqual, Less, AtMost, Greater, AtLeast}
use Rattle.session_language.specs.declared.lexer.Symbol.{Symbol}
use Rattle.session_language.specs.declared.lexer.Symbol.TheVariants as symbol
use Rattle.session_meaning.specs.Tree.{Term, Command, LetVar, SetTo, GiveOf, Requires, When, Choice, Loop}
use Rattle.session_language.specs.Lexer.{Piece, AWord, ASymbol, pieces_of}
use Rattle.session_language.specs.Phrase.{Phrase, run, stop_at, phrase_at}
use Rattle.session_language.specs.Form.{Lets, Sets, Gives, Demands, Asks, Repeats, Opens, Says, Otherwise, Closes, form_of, name_alone, ends_there, phrase_alone, if_named, assigned, small_code, else_code, few_turns, count_alone, comparison_of, demand, question, compared, after_left, condition}
use Rattle.session_programs.specs.Text.{Words, variable_name, term_text, test_text, comparison_text, let_text, set_text, require_text}
use Rattle.session_programs.specs.WellFormed.{IsExpressionOver, IsTestOver, IsStatementOver}
use Rattle.session_language.proofs.Pieces.{pieces_of-nil, pieces_of-piece}
use Rattle.session_language.proofs.canonical.Lexemes.{IsWord, number_is_word, number_again, name_bytes, name_again}
use Rattle.session_language.proofs.canonical.Tokens.{phrase, tokens}
use Rattle.session_language.proofs.canonical.LexerRoundTrip.{Fresh, Spells, Stops, word_lexed, space_lexed, phrase_read}

-- the first line of a statement, without its LF
abbrev pub text_of : Words → Command → List ℕ
text_of w (LetVar k e) = let_text (variable_name w k) (term_text w e)
text_of w (SetTo r e) = set_text (w.record_name r) (term_text w e)
text_of w (GiveOf e) = codes "give " ++ term_text w e
text_of w (Requires t code) = require_text (test_text w t) code
text_of w (When t b) = codes "if " ++ test_text w t
text_of w (Choice t a b) = codes "if " ++ test_text w t
text_of w (Loop n b) = codes "repeat " ++ fmt.decimal n

-- what holds of it where so many variables are known
abbrev pub IsFirstOver : ℕ → Command → Type 0
IsFirstOver known (LetVar k e) = (k ≤ known) × IsExpressionOver known e
IsFirstOver known (SetTo r e) = IsExpressionOver known e
IsFirstOver known (GiveOf e) = IsExpressionOver known e
IsFirstOver known (Requires t code) = IsTestOver known t × (code < 65536)
IsFirstOver known (When t b) = IsTestOver known t
IsFirstOver known (Choice t a b) = IsTestOver known t
IsFirstOver known (Loop n b) = n ≤ 10000

pub first_over : (around known : ℕ) (c : Command) → IsStatementOver around known c → IsFirstOver known c
first_over around known (LetVar k e) h = h
first_over around known (SetTo r e) h = h
first_over around known (GiveOf e) h = h
first_over around known (Requires t code) h = h
first_over around known (When t b) h = h.1
first_over around known (Choice t a b) h = h.1
first_over around known (Loop n b) h = h.1

nothing_stops : (v : Version) → Stops v []
nothing_stops v = record { fresh = tt; stops = rw pieces_of-nil refl }

-- an expression to the end of a line
pub alone_read : (v : Version) (w : Words) (e : Term) (bs : List ℕ) → Spells v bs (tokens w e) → phrase_alone v (pieces_of bs) ≡ Some (phrase w e)
alone_read v w e bs h =
    ap (λ cs. phrase_alone v (pieces_of cs)) (sym (append-nil bs))
    ∙ ap (option_and_then ends_there) (phrase_read v w e bs [] h (nothing_stops v))
    ∙ ap (λ ps. ends_there (phrase w e, ps)) pieces_of-nil

-- a keyword and a space
keyword_lexed : (k rest : List ℕ) → IsWord k → pieces_of (k ++ 32 ∷ rest) ≡ AWord k ∷ pieces_of rest
keyword_lexed k rest h = word_lexed k (32 ∷ rest) h refl ∙ ap (λ ps. AWord k ∷ ps) (space_lexed rest)

assign_lexed : (rest : List ℕ) → pieces_of (61 ∷ 32 ∷ rest) ≡ ASymbol symbol.Assign ∷ pieces_of rest
assign_lexed rest = pieces_of-piece 61 (32 ∷ rest) refl ∙ ap (λ ps. ASymbol symbol.Assign ∷ ps) (space_lexed rest)

pub give_form : (v : Version) (w : Words) (e : Term) (bs : List ℕ) → Spells v bs (tokens w e) → form_of v (pieces_of (codes "give " ++ bs)) ≡ Some (Says (Gives (phrase w e)))
give_form v w e bs h =
    ap (form_of v) (keyword_lexed (codes "give") bs (record { some = omega arith; bytes = refl }))
    ∙ ap (λ o. option_map Says (option_map Gives o)) (alone_read v w e bs h)

-- NAME = expression
assigned_lexed : (name bs : List ℕ) → is_name name ≡ true → pieces_of (name ++ (codes " = " ++ bs)) ≡ AWord name ∷ ASymbol symbol.Assign ∷ pieces_of bs
assigned_lexed name bs h = keyword_lexed name (61 ∷ 32 ∷ bs) (name_bytes name h).word ∙ ap (λ ps. AWord name ∷ ps) (assign_lexed bs)

assigned_read : (v : Version) (w : Words) (e : Term) (name bs : List ℕ) → is_name name ≡ true → Spells v bs (tokens w e) → assigned v (pieces_of (name ++ (codes " = " ++ bs))) ≡ Some (name, phrase w e)
assigned_read v w e name bs h g =
    ap (assigned v) (assigned_lexed name bs h)
    ∙ ap (λ n. if_named n (phrase_alone v (pieces_of bs))) (name_again name h)
    ∙ ap (λ o. if_named (Some name) o) (alone_read v w e bs g)

pub let_form : (v : Version) (w : Words) (e : Term) (name bs : List ℕ) → is_name name ≡ true → Spells v bs (tokens w e) → form_of v (pieces_of (let_text name bs)) ≡ Some (Says (Lets name (phrase w e)))
let_form v w e name bs h g =
    ap (form_of v) (keyword_lexed (codes "let") (name ++ (codes " = " ++ bs)) (record { some = omega arith; bytes = refl }))
    ∙ ap (λ o. option_map Says (option_map (λ (x : List ℕ × Phrase). Lets x.0 x.1) o)) (assigned_read v w e name bs h g)

pub set_form : (v : Version) (w : Words) (e : Term) (name bs : List ℕ) → is_name name ≡ true → Spells v bs (tokens w e) → form_of v (pieces_of (set_text name bs)) ≡ Some (Says (Sets name (phrase w e)))
set_form v w e name bs h g =
    ap (form_of v) (keyword_lexed (codes "set") (name ++ (codes " = " ++ bs)) (record { some = omega arith; bytes = refl }))
    ∙ ap (λ o. option_map Says (option_map (λ (x : List ℕ × Phrase). Sets x.0 x.1) o)) (assigned_read v w e name bs h g)

-- comparisons
abbrev symbol_of : Comparison → Symbol
symbol_of Equal = symbol.Equal
symbol_of NotEqual = symbol.NotEqual
symbol_of Less = symbol.Less
symbol_of AtMost = symbol.AtMost
symbol_of Greater = symbol.Greater
symbol_of AtLeast = symbol.AtLeast

compares : (c : Comparison) → comparison_of (symbol_of c) ≡ Some c
compares Equal = refl
compares NotEqual = refl
compares Less = refl
compares AtMost = refl
compares Greater = refl
compares AtLeast = refl

sign_lexed : (s : Symbol) (b : ℕ) (more rest : List ℕ) → pieces_of (b ∷ more) ≡ ASymbol s ∷ pieces_of (32 ∷ rest) → pieces_of (32 ∷ b ∷ more) ≡ ASymbol s ∷ pieces_of rest
sign_lexed s b more rest h = space_lexed (b ∷ more) ∙ h ∙ ap (λ ps. ASymbol s ∷ ps) (space_lexed rest)

comparison_lexed : (c : Comparison) (rest : List ℕ) → pieces_of (comparison_text c ++ rest) ≡ ASymbol (symbol_of c) ∷ pieces_of rest
comparison_lexed Equal rest = sign_lexed symbol.Equal 61 (61 ∷ 32 ∷ rest) rest (pieces_of-piece 61 (61 ∷ 32 ∷ rest) refl)
comparison_lexed NotEqual rest = sign_lexed symbol.NotEqual 33 (61 ∷ 32 ∷ rest) rest (pieces_of-piece 33 (61 ∷ 32 ∷ rest) refl)
comparison_lexed Less rest = sign_lexed symbol.Less 60 (32 ∷ rest) rest (pieces_of-piece 60 (32 ∷ rest) refl)
comparison_lexed AtMost rest = sign_lexed symbol.AtMost 60 (61 ∷ 32 ∷ rest) rest (pieces_of-piece 60 (61 ∷ 32 ∷ rest) refl)
comparison_lexed Greater rest = sign_lexed symbol.Greater 62 (32 ∷ rest) rest (pieces_of-piece 62 (32 ∷ rest) refl)
comparison_lexed AtLeast rest = sign_lexed symbol.AtLeast 62 (61 ∷ 32 ∷ rest) rest (pieces_of-piece 62 (61 ∷ 32 ∷ rest) refl)

comparison_ends : (v : Version) (c : Comparison) (ps : List Piece) → run v false (ASymbol (symbol_of c) ∷ ps) ≡ stop_at (ASymbol (symbol_of c) ∷ ps)
comparison_ends v Equal ps = refl
comparison_ends v NotEqual ps = refl
comparison_ends v Less ps = refl
comparison_ends v AtMost ps = refl
comparison_ends v Greater ps = refl
comparison_ends v AtLeast ps = refl

space_first : (c : Comparison) (rest : List ℕ) → Fresh (comparison_text c ++ rest)
space_first Equal rest = refl
space_first NotEqual rest = refl
space_first Less rest = refl
space_first AtMost rest = refl
space_first Greater rest = refl
space_first AtLeast rest = refl

comparison_stops : (v : Version) (c : Comparison) (rest : List ℕ) → Stops v (comparison_text c ++ rest)
comparison_stops v c rest = record { fresh = space_first c rest; stops = ap (run v false) (comparison_lexed c rest) ∙ comparison_ends v c (pieces_of rest) ∙ ap stop_at (sym (comparison_lexed c rest)) }

-- else CODE
abbrev coda : ℕ → List ℕ
coda code = codes " else " ++ fmt.decimal code

coda_lexed : (code : ℕ) → code < 65536 → pieces_of (coda code) ≡ AWord (codes "else") ∷ AWord (fmt.decimal code) ∷ []
coda_lexed code h =
    space_lexed (codes "else " ++ fmt.decimal code)
    ∙ keyword_lexed (codes "else") (fmt.decimal code) (record { some = omega arith; bytes = refl })
    ∙ ap (λ ps. AWord (codes "else") ∷ ps) (ap pieces_of (sym (append-nil (fmt.decimal code))) ∙ word_lexed (fmt.decimal code) [] (number_is_word code (omega arith)) tt ∙ ap (λ ps. AWord (fmt.decimal code) ∷ ps) pieces_of-nil)

coda_stops : (v : Version) (code : ℕ) → code < 65536 → Stops v (coda code)
coda_stops v code h = record { fresh = refl; stops = ap (run v false) (coda_lexed code h) ∙ sym (ap stop_at (coda_lexed code h)) }

coda_read : (code : ℕ) → code < 65536 → else_code (pieces_of (coda code)) ≡ Some code
coda_read code h =
    let small : nat_lt code 65536 ≡ true = grind (arith, nat_tests) in
    ap else_code (coda_lexed code h) ∙ ap small_code (number_again code (omega arith)) ∙ ap (λ b. if b then Some code else None) small

pub require_form : (v : Version) (w : Words) (l r : Term) (c : Comparison) (code : ℕ) (ls rs : List ℕ) → code < 65536 → Spells v ls (tokens w l) → Spells v rs (tokens w r)
    → form_of v (pieces_of (require_text (ls ++ (comparison_text c ++ rs)) code)) ≡ Some (Says (Demands (phrase w l) c (phrase w r) code))
require_form v w l r c code ls rs small h g =
    let bs : List ℕ = comparison_text c ++ (rs ++ coda code) in
    let regroup : (ls ++ (comparison_text c ++ rs)) ++ coda code ≡ ls ++ bs = append_assoc ls (comparison_text c ++ rs) (coda code) ∙ ap (λ xs. ls ++ xs) (append_assoc (comparison_text c) rs (coda code)) in
    let first : phrase_at v (pieces_of (ls ++ bs)) ≡ Some (phrase w l, pieces_of bs) = phrase_read v w l ls bs h (comparison_stops v c (rs ++ coda code)) in
    let second : phrase_at v (pieces_of (rs ++ coda code)) ≡ Some (phrase w r, pieces_of (coda code)) = phrase_read v w r rs (coda code) g (coda_stops v code small) in
    ap (form_of v) (keyword_lexed (codes "require") ((ls ++ (comparison_text c ++ rs)) ++ coda code) (record { some = omega arith; bytes = refl }))
    ∙ ap (λ xs. option_map Says (condition v demand (pieces_of xs))) regroup
    ∙ ap (λ o. option_map Says (option_and_then (after_left v demand) o)) first
    ∙ ap (λ ps. option_map Says (after_left v demand (phrase w l, ps))) (comparison_lexed c (rs ++ coda code))
    ∙ ap (λ o. option_map Says (compared v demand (phrase w l) o (pieces_of (rs ++ coda code)))) (compares c)
    ∙ ap (λ o. option_map Says (option_and_then (demand (phrase w l) c) o)) second
    ∙ ap (λ o. option_map Says (option_map (Demands (phrase w l) c (phrase w r)) o)) (coda_read code small)

pub if_form : (v : Version) (w : Words) (l r : Term) (c : Comparison) (ls rs : List ℕ) → Spells v ls (tokens w l) → Spells v rs (tokens w r)
    → form_of v (pieces_of (codes "if " ++ (ls ++ (comparison_text c ++ rs)))) ≡ Some (Says (Asks (phrase w l) c (phrase w r)))
if_form v w l r c ls rs h g =
    let bs : List ℕ = comparison_text c ++ rs in
    let first : phrase_at v (pieces_of (ls ++ bs)) ≡ Some (phrase w l, pieces_of bs) = phrase_read v w l ls bs h (comparison_stops v c rs) in
    let second : phrase_at v (pieces_of rs) ≡ Some (phrase w r, []) =
    ap (λ cs. phrase_at v (pieces_of cs)) (sym (append-nil rs)) ∙ phrase_read v w r rs [] g (nothing_stops v) ∙ ap (λ ps. Some (phrase w r, ps)) pieces_of-nil in
    ap (form_of v) (keyword_lexed (codes "if") (ls ++ bs) (record { some = omega arith; bytes = refl }))
    ∙ ap (λ o. option_map Says (option_and_then (after_left v question) o)) first
    ∙ ap (λ ps. option_map Says (after_left v question (phrase w l, ps))) (comparison_lexed c rs)
    ∙ ap (λ o. option_map Says (compared v question (phrase w l) o (pieces_of rs))) (compares c)
    ∙ ap (λ o. option_map Says (option_and_then (question (phrase w l) c) o)) second

pub repeat_form : (v : Version) (n : ℕ) → n ≤ 10000 → form_of v (pieces_of (codes "repeat " ++ fmt.decimal n)) ≡ Some (Says (Repeats n))
repeat_form v n h =
    let small : nat_le n 10000 ≡ true = grind (arith, nat_tests) in
    ap (form_of v) (keyword_lexed (codes "repeat") (fmt.decimal n) (record { some = omega arith; bytes = refl }))
    ∙ ap (λ cs. option_map Says (option_map Repeats (count_alone (pieces_of cs)))) (sym (append-nil (fmt.decimal n)))
    ∙ ap (λ ps. option_map Says (option_map Repeats (count_alone ps))) (word_lexed (fmt.decimal n) [] (number_is_word n (omega arith)) tt ∙ ap (λ ps. AWord (fmt.decimal n) ∷ ps) pieces_of-nil)
    ∙ ap (λ o. option_map Says (option_map Repeats (few_turns o))) (number_again n (omega arith))
    ∙ ap (λ b. option_map Says (option_map Repeats (if b then Some n else None))) small

-- the line between the parts of an `if`, the first line of a session, and the last of a block or a session
pub else_form : (v : Version) → form_of v (pieces_of (codes "else")) ≡ Some Otherwise
else_form v =
    ap (form_of v) (word_lexed (codes "else") [] (record { some = omega arith; bytes = refl }) tt ∙ ap (λ ps. AWord (codes "else") ∷ ps) pieces_of-nil)

pub session_form : (v : Version) (name : List ℕ) → is_name name ≡ true → form_of v (pieces_of (codes "session " ++ name)) ≡ Some (Opens name)
session_form v name h =
    ap (form_of v) (keyword_lexed (codes "session") name (record { some = omega arith; bytes = refl }))
    ∙ ap (λ cs. option_map Opens (name_alone (pieces_of cs))) (sym (append-nil name))
    ∙ ap (λ ps. option_map Opens (name_alone ps)) (word_lexed name [] (name_bytes name h).word tt ∙ ap (λ ps. AWord name ∷ ps) pieces_of-nil)
    ∙ ap (option_map Opens) (name_again name h)

pub end_form : (v : Version) → form_of v (pieces_of (codes "end")) ≡ Some Closes
end_form v =
    ap (form_of v) (word_lexed (codes "end") [] (record { some = omega arith; bytes = refl }) tt ∙ ap (λ ps. AWord (codes "end") ∷ ps) pieces_of-nil)
