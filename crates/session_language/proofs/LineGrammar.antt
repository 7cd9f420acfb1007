-- A line is read as a form exactly where the grammar has it.
use Rattle.std.proofs.Common.{◌≡◌, ◌<◌, ◌≤◌, ℕ, List, [], ◌∷◌, ◌++◌, Bool, true, false, nat_lt, nat_le, Option, Some, None, IfSome, option_map, if◌then◌else◌, codes, refl, sym, ap, ◌∙◌, subst, arith}
use Rattle.std.specs.Prelude.{option_and_then}
use Rattle.std.specs.Str.{bytes_eq}
use Rattle.std.proofs.lemmas.Bool.Decides.{nat_tests}
use Rattle.std.proofs.lemmas.List.{append-nil}
use Rattle.std.proofs.lemmas.Slice.Eq.{bytes_eq-Decides}
use Rattle.text_lines.specs.Text.{is_name, name_of, number_of}
use Rattle.bottle_values.specs.Texts.{is_text}
use Rattle.bottle_values.specs.declared.version.Version.{Version}
use Rattle.bottle_values.specs.declared.version.Version.TheVariants.{One, Two}
use Rattle.session_meaning.specs.declared.node.Comparison.{Comparison}
use Rattle.session_language.specs.declared.lexer.Symbol.{Symbol}
use Rattle.session_language.specs.declared.lexer.Symbol.TheVariants as symbol
use Rattle.session_language.specs.declared.keyword.Keyword.{Keyword}
use Rattle.session_language.specs.declared.keyword.Keyword.TheVariants.{Session, Let, Set, Give, Require, If, Else, Repeat, End, Other}
use Rattle.session_language.specs.Lexer.{Piece, AWord, ASymbol, AQuoted, AStray}
use Rattle.session_language.specs.Spelling.{Operand, ANumber, AText, AVariable, ARecord, Token, Leaf}
use Rattle.session_language.specs.Grammar.{IsExpr}
use Rattle.session_language.specs.Parse.{Part, read_part}
use Rattle.session_language.specs.Phrase.{Phrase, Run, run, stop_at, with_token, with_symbol, with_operand, with_record, operand_in, or_variable, text_in, is_read, expression_symbol, phrase_of, phrase_in, phrase_at}
use Rattle.session_language.specs.Form.{Said, Lets, Sets, Gives, Demands, Asks, Repeats, Form, Opens, Says, Otherwise, Closes, comparison_of, keyword_of, name_alone, ends_there, phrase_alone, if_named, assigned, small_code, else_code, few_turns, count_alone, Last, demand, question, compared, after_left, condition, if_empty, form_after, form_of}
use Rattle.session_language.specs.LineGrammar.{AreTokens, nothing, number, variable, value_of, text, sign, IsPhrase, IsForm, opens, lets, sets, gives, demands, asks, repeats, otherwise, closes, ReadsTheForms}
use Rattle.session_language.proofs.expressions.ParserComplete.{expression_read}
use Rattle.session_language.proofs.expressions.ParserSound.{read_spells}
use Rattle.session_language.proofs.canonical.LexerRoundTrip.{prepend}
use Rattle.session_language.proofs.canonical.Lexemes.{name_again, name_operand}

-- what is in the grammar is read
prepend-nil : (o : Option Run) → prepend [] o ≡ o
prepend-nil None = refl
prepend-nil (Some r) = refl

prepend-more : (t : Token) (ts : List Token) (o : Option Run) → with_token t (prepend ts o) ≡ prepend (t ∷ ts) o
prepend-more t ts None = refl
prepend-more t ts (Some r) = refl

number_unread : (w : List ℕ) (n : ℕ) → number_of w ≡ Some n → is_read w ≡ false
number_unread w n h = by_test (is_read w) refl
  where
    by_test : (v : Bool) → is_read w ≡ v → v ≡ false
    by_test false e = refl
    by_test true e = let none : None ≡ Some n = ap number_of (sym ((bytes_eq-Decides w (codes "read")).0 e)) ∙ h in absurd (cc)

operand_run : (v : Version) (w : List ℕ) (x : Operand) (ps : List Piece) → is_read w ≡ false → operand_in w ≡ Some x → run v false (AWord w ∷ ps) ≡ with_token (Leaf x) (run v false ps)
operand_run v w x ps unread is =
    ap (λ b. if b then run v true ps else with_operand (operand_in w) (AWord w ∷ ps) (run v false ps)) unread ∙ ap (λ o. with_operand o (AWord w ∷ ps) (run v false ps)) is

text_again : (v : Version) (bytes : List ℕ) → v ≡ Two → is_text bytes ≡ true → text_in v bytes ≡ Some (AText bytes)
text_again v bytes has is = ap (λ u. text_in u bytes) has ∙ ap (λ b. if b then Some (AText bytes) else None) is

and_token : (v : Version) (t : Token) (ts : List Token) (ps rest : List Piece) → run v false (ps ++ rest) ≡ prepend ts (run v false rest) → with_token t (run v false (ps ++ rest)) ≡ prepend (t ∷ ts) (run v false rest)
and_token v t ts ps rest h = ap (with_token t) h ∙ prepend-more t ts (run v false rest)

tokens_run : (v : Version) (ps : List Piece) (ts : List Token) → AreTokens v ps ts → (rest : List Piece) → run v false (ps ++ rest) ≡ prepend ts (run v false rest)
tokens_run v _ _ nothing rest = sym (prepend-nil (run v false rest))
tokens_run v _ _ (number w n ps ts h more) rest =
    operand_run v w (ANumber n) (ps ++ rest) (number_unread w n h) (ap (λ o. or_variable o (name_of w)) h) ∙ and_token v (Leaf (ANumber n)) ts ps rest (tokens_run v ps ts more rest)
tokens_run v _ _ (variable w ps ts h more) rest =
    let o = name_operand w h in operand_run v w (AVariable w) (ps ++ rest) o.0 o.1 ∙ and_token v (Leaf (AVariable w)) ts ps rest (tokens_run v ps ts more rest)
tokens_run v _ _ (value_of w ps ts h more) rest =
    ap (λ o. with_record o (run v false (ps ++ rest))) (name_again w h) ∙ and_token v (Leaf (ARecord w)) ts ps rest (tokens_run v ps ts more rest)
tokens_run v _ _ (text bytes ps ts has is more) rest =
    ap (λ o. with_operand o (AQuoted bytes ∷ (ps ++ rest)) (run v false (ps ++ rest))) (text_again v bytes has is) ∙ and_token v (Leaf (AText bytes)) ts ps rest (tokens_run v ps ts more rest)
tokens_run v _ _ (sign s t ps ts h more) rest =
    ap (λ o. with_symbol o (ASymbol s ∷ (ps ++ rest)) (run v false (ps ++ rest))) h ∙ and_token v t ts ps rest (tokens_run v ps ts more rest)

phrase_read : (v : Version) (ps : List Piece) (e : Phrase) (rest : List Piece) → IsPhrase v ps e → run v false rest ≡ stop_at rest → phrase_at v (ps ++ rest) ≡ Some (e, rest)
unfolding phrase_at
phrase_read v ps e rest h stops =
    ap phrase_in (tokens_run v ps e.tokens h.tokens rest ∙ ap (prepend e.tokens) stops)
    ∙ ap (λ (ts : List Token). phrase_of ts rest (read_part ts)) (append-nil e.tokens)
    ∙ ap (phrase_of e.tokens rest) (expression_read e.tokens e.tree e.depth h.grammar)

alone_read : (v : Version) (ps : List Piece) (e : Phrase) → IsPhrase v ps e → phrase_alone v ps ≡ Some e
alone_read v ps e h = ap (phrase_alone v) (sym (append-nil ps)) ∙ ap (option_and_then ends_there) (phrase_read v ps e [] h refl)

assigned_read : (v : Version) (name : List ℕ) (ps : List Piece) (e : Phrase) → is_name name ≡ true → IsPhrase v ps e → assigned v (AWord name ∷ ASymbol symbol.Assign ∷ ps) ≡ Some (name, e)
assigned_read v name ps e h g = ap (λ o. if_named o (phrase_alone v ps)) (name_again name h) ∙ ap (option_map (λ x. (name, x))) (alone_read v ps e g)

comparison_stops : (v : Version) (s : Symbol) (c : Comparison) (ps : List Piece) → comparison_of s ≡ Some c → run v false (ASymbol s ∷ ps) ≡ stop_at (ASymbol s ∷ ps)
comparison_stops v symbol.Equal c ps h = refl
comparison_stops v symbol.NotEqual c ps h = refl
comparison_stops v symbol.Less c ps h = refl
comparison_stops v symbol.AtMost c ps h = refl
comparison_stops v symbol.Greater c ps h = refl
comparison_stops v symbol.AtLeast c ps h = refl
comparison_stops v symbol.Assign c ps h = absurd (cc)
comparison_stops v symbol.Plus c ps h = absurd (cc)
comparison_stops v symbol.Minus c ps h = absurd (cc)
comparison_stops v symbol.Times c ps h = absurd (cc)
comparison_stops v symbol.Open c ps h = absurd (cc)
comparison_stops v symbol.Close c ps h = absurd (cc)

demand_read : (v : Version) (ps qs : List Piece) (left right : Phrase) (s : Symbol) (c : Comparison) (word : List ℕ) (n : ℕ) → IsPhrase v ps left → comparison_of s ≡ Some c → IsPhrase v qs right → number_of word ≡ Some n → n < 65536
    → condition v demand (ps ++ ASymbol s ∷ (qs ++ AWord (codes "else") ∷ AWord word ∷ [])) ≡ Some (Demands left c right n)
demand_read v ps qs left right s c word n first is second value few =
    let end : List Piece = AWord (codes "else") ∷ AWord word ∷ [] in
    let small : nat_lt n 65536 ≡ true = grind (arith, nat_tests) in
    let code : else_code end ≡ Some n = ap small_code value ∙ ap (λ b. if b then Some n else None) small in
    ap (option_and_then (after_left v demand)) (phrase_read v ps left (ASymbol s ∷ (qs ++ end)) first (comparison_stops v s c (qs ++ end) is))
    ∙ ap (λ o. compared v demand left o (qs ++ end)) is
    ∙ ap (option_and_then (demand left c)) (phrase_read v qs right end second refl)
    ∙ ap (option_map (Demands left c right)) code

question_read : (v : Version) (ps qs : List Piece) (left right : Phrase) (s : Symbol) (c : Comparison) → IsPhrase v ps left → comparison_of s ≡ Some c → IsPhrase v qs right → condition v question (ps ++ ASymbol s ∷ qs) ≡ Some (Asks left c right)
question_read v ps qs left right s c first is second =
    ap (option_and_then (after_left v question)) (phrase_read v ps left (ASymbol s ∷ qs) first (comparison_stops v s c qs is))
    ∙ ap (λ o. compared v question left o qs) is
    ∙ ap (λ rs. option_and_then (question left c) (phrase_at v rs)) (sym (append-nil qs))
    ∙ ap (option_and_then (question left c)) (phrase_read v qs right [] second refl)

form_read : (v : Version) (ps : List Piece) (f : Form) → IsForm v ps f → form_of v ps ≡ Some f
form_read v _ _ (opens name h) = ap (option_map Opens) (name_again name h)
form_read v _ _ (lets name ps e h g) = ap (λ o. option_map Says (option_map (λ (x : List ℕ × Phrase). Lets x.0 x.1) o)) (assigned_read v name ps e h g)
form_read v _ _ (sets name ps e h g) = ap (λ o. option_map Says (option_map (λ (x : List ℕ × Phrase). Sets x.0 x.1) o)) (assigned_read v name ps e h g)
form_read v _ _ (gives ps e h) = ap (λ o. option_map Says (option_map Gives o)) (alone_read v ps e h)
form_read v _ _ (demands ps qs left right s c word n first is second value few) = ap (option_map Says) (demand_read v ps qs left right s c word n first is second value few)
form_read v _ _ (asks ps qs left right s c first is second) = ap (option_map Says) (question_read v ps qs left right s c first is second)
form_read v _ _ (repeats word n value few) =
    let small : nat_le n 10000 ≡ true = grind (arith, nat_tests) in
    ap (λ o. option_map Says (option_map Repeats (few_turns o))) value ∙ ap (λ b. option_map Says (option_map Repeats (if b then Some n else None))) small
form_read v _ _ otherwise = refl
form_read v _ _ closes = refl

-- what is read is in the grammar
from_map : {A B : Type 0} (f : A → B) (o : Option A) (y : B) → option_map f o ≡ Some y → (x : A) × (o ≡ Some x) × (f x ≡ y)
from_map f None y e = absurd (cc)
from_map f (Some x) y e = (x, refl, (cc))

from_then : {A B : Type 0} (f : A → Option B) (o : Option A) (y : B) → option_and_then f o ≡ Some y → (x : A) × (o ≡ Some x) × (f x ≡ Some y)
from_then f None y e = absurd (cc)
from_then f (Some x) y e = (x, refl, e)

-- the pieces of a run, and those after it
record IsRun (v : Version) (ps : List Piece) (r : Run) : Type 0 where
  front : List Piece
  split : ps ≡ front ++ r.rest
  tokens : AreTokens v front r.tokens

stopped : (v : Version) (ps : List Piece) (r : Run) → stop_at ps ≡ Some r → IsRun v ps r
stopped v ps r e =
    let same : ◌≡◌ {A = Run} (record { tokens = []; rest = ps }) r = (cc) in
    subst (IsRun v ps) same (record { front = []; split = refl; tokens = nothing })

-- these pieces are one token, and a run comes after them
one_more : (v : Version) (before ps : List Piece) (t : Token) (r : Run) → ((front : List Piece) (ts : List Token) → AreTokens v front ts → AreTokens v (before ++ front) (t ∷ ts)) → with_token t (run v false ps) ≡ Some r
    → ((s : Run) → run v false ps ≡ Some s → IsRun v ps s) → (all : List Piece) → ((front : List Piece) → before ++ (front ++ r.rest) ≡ (before ++ front) ++ r.rest) → all ≡ before ++ ps → IsRun v all r
one_more v before ps t r is e others all assoc whole =
    let m = from_map (λ (s : Run). record { tokens = t ∷ s.tokens; rest = s.rest }) (run v false ps) r e in
    let o = others m.0 m.1 in
    let rest : m.0.rest ≡ r.rest = ap (λ (x : Run). x.rest) m.2 in
    let tokens : t ∷ m.0.tokens ≡ r.tokens = ap (λ (x : Run). x.tokens) m.2 in
    record {
      front = before ++ o.front;
      split = whole ∙ ap (λ x. before ++ x) (o.split ∙ ap (λ x. o.front ++ x) rest) ∙ assoc o.front;
      tokens = subst (AreTokens v (before ++ o.front)) tokens (is o.front m.0.tokens o.tokens);
    }

name_is : (w name : List ℕ) → name_of w ≡ Some name → (w ≡ name) × (is_name w ≡ true)
name_is w name e = by_test (is_name w) refl e
  where
    by_test : (v : Bool) → is_name w ≡ v → (if v then Some w else None) ≡ Some name → (w ≡ name) × (is_name w ≡ true)
    by_test true h e = ((cc), h)
    by_test false h e = absurd (cc)

operand_is : (v : Version) (w : List ℕ) (ps : List Piece) (r : Run) (number_here : Option ℕ) → number_of w ≡ number_here → with_operand (or_variable number_here (name_of w)) (AWord w ∷ ps) (run v false ps) ≡ Some r
    → ((s : Run) → run v false ps ≡ Some s → IsRun v ps s) → IsRun v (AWord w ∷ ps) r
operand_is v w ps r (Some n) h e others = one_more v (AWord w ∷ []) ps (Leaf (ANumber n)) r (λ front ts a. number w n front ts h a) e others (AWord w ∷ ps) (λ front. refl) refl
operand_is v w ps r None h e others = by_name (name_of w) refl e
  where
    by_name : (o : Option (List ℕ)) → name_of w ≡ o → with_operand (or_variable None o) (AWord w ∷ ps) (run v false ps) ≡ Some r → IsRun v (AWord w ∷ ps) r
    by_name None g e = stopped v (AWord w ∷ ps) r e
    by_name (Some name) g e =
        let n = name_is w name g in
        let e2 : with_token (Leaf (AVariable w)) (run v false ps) ≡ Some r = ap (λ x. with_token (Leaf (AVariable x)) (run v false ps)) n.0 ∙ e in
        one_more v (AWord w ∷ []) ps (Leaf (AVariable w)) r (λ front ts a. variable w front ts n.1 a) e2 others (AWord w ∷ ps) (λ front. refl) refl

record_is : (v : Version) (w : List ℕ) (ps : List Piece) (r : Run) (o : Option (List ℕ)) → name_of w ≡ o → with_record o (run v false ps) ≡ Some r
    → ((s : Run) → run v false ps ≡ Some s → IsRun v ps s) → IsRun v (AWord (codes "read") ∷ AWord w ∷ ps) r
record_is v w ps r None h e others = absurd (cc)
record_is v w ps r (Some name) h e others =
    let n = name_is w name h in
    let e2 : with_token (Leaf (ARecord w)) (run v false ps) ≡ Some r = ap (λ x. with_token (Leaf (ARecord x)) (run v false ps)) n.0 ∙ e in
    one_more v (AWord (codes "read") ∷ AWord w ∷ []) ps (Leaf (ARecord w)) r (λ front ts a. value_of w front ts n.1 a) e2 others (AWord (codes "read") ∷ AWord w ∷ ps) (λ front. refl) refl

symbol_is : (v : Version) (s : Symbol) (ps : List Piece) (r : Run) (o : Option Token) → expression_symbol s ≡ o → with_symbol o (ASymbol s ∷ ps) (run v false ps) ≡ Some r
    → ((s : Run) → run v false ps ≡ Some s → IsRun v ps s) → IsRun v (ASymbol s ∷ ps) r
symbol_is v s ps r None h e others = stopped v (ASymbol s ∷ ps) r e
symbol_is v s ps r (Some t) h e others = one_more v (ASymbol s ∷ []) ps t r (λ front ts a. sign s t front ts h a) e others (ASymbol s ∷ ps) (λ front. refl) refl

quoted_by : (bytes : List ℕ) (ps : List Piece) (r : Run) (b : Bool) → is_text bytes ≡ b → with_operand (if b then Some (AText bytes) else None) (AQuoted bytes ∷ ps) (run Two false ps) ≡ Some r
    → ((s : Run) → run Two false ps ≡ Some s → IsRun Two ps s) → IsRun Two (AQuoted bytes ∷ ps) r
quoted_by bytes ps r true h e others = one_more Two (AQuoted bytes ∷ []) ps (Leaf (AText bytes)) r (λ front ts a. text bytes front ts refl h a) e others (AQuoted bytes ∷ ps) (λ front. refl) refl
quoted_by bytes ps r false h e others = stopped Two (AQuoted bytes ∷ ps) r e

quoted_is : (v : Version) (bytes : List ℕ) (ps : List Piece) (r : Run) → with_operand (text_in v bytes) (AQuoted bytes ∷ ps) (run v false ps) ≡ Some r → ((s : Run) → run v false ps ≡ Some s → IsRun v ps s) → IsRun v (AQuoted bytes ∷ ps) r
quoted_is One bytes ps r e others = stopped One (AQuoted bytes ∷ ps) r e
quoted_is Two bytes ps r e others = quoted_by bytes ps r (is_text bytes) refl e others

word_is : (v : Version) (w : List ℕ) (ps : List Piece) (r : Run) (b : Bool) → is_read w ≡ b → (if b then run v true ps else with_operand (operand_in w) (AWord w ∷ ps) (run v false ps)) ≡ Some r
    → ((s : Run) → run v false ps ≡ Some s → IsRun v ps s) → (run v true ps ≡ Some r → IsRun v (AWord (codes "read") ∷ ps) r) → IsRun v (AWord w ∷ ps) r
word_is v w ps r true h e others reading =
    let P : List ℕ → Type 0 = λ x. IsRun v (AWord x ∷ ps) r in subst P (sym ((bytes_eq-Decides w (codes "read")).0 h)) (reading e)
word_is v w ps r false h e others reading = operand_is v w ps r (number_of w) refl e others

mutual
  is_run : (v : Version) (ps : List Piece) (r : Run) → run v false ps ≡ Some r → IsRun v ps r
  is_run v [] r e = stopped v [] r e
  is_run v (AWord w ∷ ps) r e = word_is v w ps r (is_read w) refl e (λ s f. is_run v ps s f) (λ f. is_reading v ps r f)
  is_run v (ASymbol s ∷ ps) r e = symbol_is v s ps r (expression_symbol s) refl e (λ s f. is_run v ps s f)
  is_run v (AQuoted bytes ∷ ps) r e = quoted_is v bytes ps r e (λ s f. is_run v ps s f)
  is_run v (AStray ∷ ps) r e = stopped v (AStray ∷ ps) r e

  is_reading : (v : Version) (ps : List Piece) (r : Run) → run v true ps ≡ Some r → IsRun v (AWord (codes "read") ∷ ps) r
  is_reading v [] r e = absurd (cc)
  is_reading v (AWord w ∷ ps) r e = record_is v w ps r (name_of w) refl e (λ s f. is_run v ps s f)
  is_reading v (ASymbol s ∷ ps) r e = absurd (cc)
  is_reading v (AQuoted bytes ∷ ps) r e = absurd (cc)
  is_reading v (AStray ∷ ps) r e = absurd (cc)

-- an expression at the front of some pieces
record IsFront (v : Version) (ps : List Piece) (e : Phrase) (rest : List Piece) : Type 0 where
  front : List Piece
  split : ps ≡ front ++ rest
  is : IsPhrase v front e

phrase_is : (v : Version) (ps : List Piece) (e : Phrase) (rest : List Piece) → phrase_at v ps ≡ Some (e, rest) → IsFront v ps e rest
unfolding phrase_at
phrase_is v ps e rest h = by_run (run v false ps) refl h
  where
    by_part : (r : Run) → IsRun v ps r → (o : Option Part) → IfSome o (λ x. IsExpr r.tokens x.tree x.depth) → phrase_of r.tokens r.rest o ≡ Some (e, rest) → IsFront v ps e rest
    by_part r i None x h = absurd (cc)
    by_part r i (Some part) x h =
        let whole : ◌≡◌ {A = Phrase × List Piece} (record { tokens = r.tokens; tree = part.tree; depth = part.depth }, r.rest) (e, rest) = (cc) in
        let P : Phrase × List Piece → Type 0 = λ y. IsFront v ps y.0 y.1 in
        subst P whole (record { front = i.front; split = i.split; is = record { tokens = i.tokens; grammar = x } })

    by_run : (o : Option Run) → run v false ps ≡ o → phrase_in o ≡ Some (e, rest) → IsFront v ps e rest
    by_run None g h = absurd (cc)
    by_run (Some r) g h = by_part r (is_run v ps r g) (read_part r.tokens) (read_spells r.tokens) h

alone_is : (v : Version) (ps : List Piece) (e : Phrase) → phrase_alone v ps ≡ Some e → IsPhrase v ps e
alone_is v ps e h = let m = from_then ends_there (phrase_at v ps) e h in by_rest m.0.0 m.0.1 m.1 m.2
  where
    by_rest : (x : Phrase) (rest : List Piece) → phrase_at v ps ≡ Some (x, rest) → ends_there (x, rest) ≡ Some e → IsPhrase v ps e
    by_rest x [] at same =
        let f = phrase_is v ps x [] at in
        let P : List Piece → Type 0 = λ qs. IsPhrase v qs x in
        let is : x ≡ e = (cc) in subst (IsPhrase v ps) is (subst P (sym (f.split ∙ append-nil f.front)) f.is)
    by_rest x (p ∷ rest) at same = absurd (cc)

-- the words that lines begin with
abbrev IsKeyword : List ℕ → Keyword → Type 0
IsKeyword w Session = w ≡ codes "session"
IsKeyword w Let = w ≡ codes "let"
IsKeyword w Set = w ≡ codes "set"
IsKeyword w Give = w ≡ codes "give"
IsKeyword w Require = w ≡ codes "require"
IsKeyword w If = w ≡ codes "if"
IsKeyword w Else = w ≡ codes "else"
IsKeyword w Repeat = w ≡ codes "repeat"
IsKeyword w End = w ≡ codes "end"
IsKeyword w Other = Unit {0}

if_word : (w bs : List ℕ) (k o : Keyword) → (w ≡ bs → IsKeyword w k) → IsKeyword w o → IsKeyword w (if bytes_eq w bs then k else o)
if_word w bs k o is others = by_test (bytes_eq w bs) refl
  where
    by_test : (v : Bool) → bytes_eq w bs ≡ v → IsKeyword w (if v then k else o)
    by_test true e = is ((bytes_eq-Decides w bs).0 e)
    by_test false e = others

is_keyword : (w : List ℕ) → IsKeyword w (keyword_of w)
is_keyword w =
    if_word w (codes "session") Session _ (λ e. e) (if_word w (codes "let") Let _ (λ e. e) (if_word w (codes "set") Set _ (λ e. e)
    (if_word w (codes "give") Give _ (λ e. e) (if_word w (codes "require") Require _ (λ e. e)
    (if_word w (codes "if") If _ (λ e. e) (if_word w (codes "else") Else _ (λ e. e) (if_word w (codes "repeat") Repeat _ (λ e. e) (if_word w (codes "end") End _ (λ e. e) tt))))))))

opening_is : (v : Version) (ps : List Piece) (f : Form) → option_map Opens (name_alone ps) ≡ Some f → IsForm v (AWord (codes "session") ∷ ps) f
opening_is v [] f e = absurd (cc)
opening_is v (AWord w ∷ []) f e =
    let m = from_map Opens (name_of w) f e in
    let n = name_is w m.0 m.1 in
    let is : Opens w ≡ f = ap Opens n.0 ∙ m.2 in subst (IsForm v (AWord (codes "session") ∷ AWord w ∷ [])) is (opens w n.1)
opening_is v (AWord w ∷ p ∷ ps) f e = absurd (cc)
opening_is v (ASymbol s ∷ ps) f e = absurd (cc)
opening_is v (AQuoted bytes ∷ ps) f e = absurd (cc)
opening_is v (AStray ∷ ps) f e = absurd (cc)

-- NAME = EXPRESSION
record IsAssigned (v : Version) (ps : List Piece) (x : List ℕ × Phrase) : Type 0 where
  rest : List Piece
  split : ps ≡ AWord x.0 ∷ ASymbol symbol.Assign ∷ rest
  named : is_name x.0 ≡ true
  is : IsPhrase v rest x.1

named_is : (v : Version) (w : List ℕ) (ps : List Piece) (x : List ℕ × Phrase) (o : Option (List ℕ)) → name_of w ≡ o → if_named o (phrase_alone v ps) ≡ Some x → IsAssigned v (AWord w ∷ ASymbol symbol.Assign ∷ ps) x
named_is v w ps x None h e = absurd (cc)
named_is v w ps x (Some name) h e =
    let n = name_is w name h in
    let m = from_map (λ (y : Phrase). (name, y)) (phrase_alone v ps) x e in
    let whole : ◌≡◌ {A = List ℕ × Phrase} (w, m.0) x = ap (λ y. (y, m.0)) n.0 ∙ m.2 in
    subst (IsAssigned v (AWord w ∷ ASymbol symbol.Assign ∷ ps)) whole (record { rest = ps; split = refl; named = n.1; is = alone_is v ps m.0 m.1 })

after_name : (v : Version) (w : List ℕ) (s : Symbol) (ps : List Piece) (x : List ℕ × Phrase) → assigned v (AWord w ∷ ASymbol s ∷ ps) ≡ Some x → IsAssigned v (AWord w ∷ ASymbol s ∷ ps) x
after_name v w symbol.Assign ps x e = named_is v w ps x (name_of w) refl e
after_name v w symbol.Equal ps x e = absurd (cc)
after_name v w symbol.NotEqual ps x e = absurd (cc)
after_name v w symbol.Less ps x e = absurd (cc)
after_name v w symbol.AtMost ps x e = absurd (cc)
after_name v w symbol.Greater ps x e = absurd (cc)
after_name v w symbol.AtLeast ps x e = absurd (cc)
after_name v w symbol.Plus ps x e = absurd (cc)
after_name v w symbol.Minus ps x e = absurd (cc)
after_name v w symbol.Times ps x e = absurd (cc)
after_name v w symbol.Open ps x e = absurd (cc)
after_name v w symbol.Close ps x e = absurd (cc)

assigned_is : (v : Version) (ps : List Piece) (x : List ℕ × Phrase) → assigned v ps ≡ Some x → IsAssigned v ps x
assigned_is v [] x e = absurd (cc)
assigned_is v (AWord w ∷ []) x e = absurd (cc)
assigned_is v (AWord w ∷ AWord name ∷ ps) x e = absurd (cc)
assigned_is v (AWord w ∷ ASymbol s ∷ ps) x e = after_name v w s ps x e
assigned_is v (AWord w ∷ AQuoted bytes ∷ ps) x e = absurd (cc)
assigned_is v (AWord w ∷ AStray ∷ ps) x e = absurd (cc)
assigned_is v (ASymbol s ∷ ps) x e = absurd (cc)
assigned_is v (AQuoted bytes ∷ ps) x e = absurd (cc)
assigned_is v (AStray ∷ ps) x e = absurd (cc)

-- two of what is said by a name and an expression
assignment_is : (v : Version) (word : List ℕ) (say : List ℕ → Phrase → Said) → ((name : List ℕ) (ps : List Piece) (e : Phrase) → is_name name ≡ true → IsPhrase v ps e → IsForm v (AWord word ∷ AWord name ∷ ASymbol symbol.Assign ∷ ps) (Says (say name e)))
    → (ps : List Piece) (f : Form) → option_map Says (option_map (λ (x : List ℕ × Phrase). say x.0 x.1) (assigned v ps)) ≡ Some f → IsForm v (AWord word ∷ ps) f
assignment_is v word say is ps f e =
    let m = from_map Says (option_map (λ (x : List ℕ × Phrase). say x.0 x.1) (assigned v ps)) f e in
    let n = from_map (λ (x : List ℕ × Phrase). say x.0 x.1) (assigned v ps) m.0 m.1 in
    let a = assigned_is v ps n.0 n.1 in
    let P : List Piece → Type 0 = λ qs. IsForm v (AWord word ∷ qs) f in
    subst P (sym a.split) (subst (IsForm v (AWord word ∷ AWord n.0.0 ∷ ASymbol symbol.Assign ∷ a.rest)) (ap Says n.2 ∙ m.2) (is n.0.0 a.rest n.0.1 a.named a.is))

giving_is : (v : Version) (ps : List Piece) (f : Form) → option_map Says (option_map Gives (phrase_alone v ps)) ≡ Some f → IsForm v (AWord (codes "give") ∷ ps) f
giving_is v ps f e =
    let m = from_map Says (option_map Gives (phrase_alone v ps)) f e in
    let n = from_map Gives (phrase_alone v ps) m.0 m.1 in
    subst (IsForm v (AWord (codes "give") ∷ ps)) (ap Says n.2 ∙ m.2) (gives ps n.0 (alone_is v ps n.0 n.1))

-- else CODE
record IsCode (ps : List Piece) (n : ℕ) : Type 0 where
  word : List ℕ
  split : ps ≡ AWord (codes "else") ∷ AWord word ∷ []
  value : number_of word ≡ Some n
  few : n < 65536

small_is : (o : Option ℕ) (n : ℕ) → small_code o ≡ Some n → (o ≡ Some n) × (n < 65536)
small_is None n e = absurd (cc)
small_is (Some k) n e = by_test (nat_lt k 65536) refl e
  where
    by_test : (v : Bool) → nat_lt k 65536 ≡ v → (if v then Some k else None) ≡ Some n → (Some k ≡ Some n) × (n < 65536)
    by_test true h e = let same : k ≡ n = (cc) in (e, (let low : k < 65536 = grind (h, arith, nat_tests) in omega arith))
    by_test false h e = absurd (cc)

code_is : (ps : List Piece) (n : ℕ) → else_code ps ≡ Some n → IsCode ps n
code_is [] n e = absurd (cc)
code_is (AWord w ∷ []) n e = absurd (cc)
code_is (AWord w ∷ AWord word ∷ []) n e = by_test (bytes_eq w (codes "else")) refl e
  where
    by_test : (v : Bool) → bytes_eq w (codes "else") ≡ v → (if v then small_code (number_of word) else None) ≡ Some n → IsCode (AWord w ∷ AWord word ∷ []) n
    by_test true h e =
        let s = small_is (number_of word) n e in
        record { word = word; split = ap (λ x. AWord x ∷ AWord word ∷ []) ((bytes_eq-Decides w (codes "else")).0 h); value = s.0; few = s.1 }
    by_test false h e = absurd (cc)
code_is (AWord w ∷ AWord word ∷ p ∷ ps) n e = absurd (cc)
code_is (AWord w ∷ ASymbol s ∷ ps) n e = absurd (cc)
code_is (AWord w ∷ AQuoted bytes ∷ ps) n e = absurd (cc)
code_is (AWord w ∷ AStray ∷ ps) n e = absurd (cc)
code_is (ASymbol s ∷ ps) n e = absurd (cc)
code_is (AQuoted bytes ∷ ps) n e = absurd (cc)
code_is (AStray ∷ ps) n e = absurd (cc)

abbrev IsRequirement : (v : Version) → List Piece → Said → Type 0
IsRequirement v ps x = IsForm v (AWord (codes "require") ∷ ps) (Says x)

right_is : (v : Version) (ps : List Piece) (left : Phrase) (s : Symbol) (c : Comparison) (qs : List Piece) (x : Said) → IsPhrase v ps left → comparison_of s ≡ Some c → option_and_then (demand left c) (phrase_at v qs) ≡ Some x
    → IsRequirement v (ps ++ ASymbol s ∷ qs) x
right_is v ps left s c qs x first is e =
    let m = from_then (demand left c) (phrase_at v qs) x e in
    let n = from_map (Demands left c m.0.0) (else_code m.0.1) x m.2 in
    let f = phrase_is v qs m.0.0 m.0.1 m.1 in
    let k = code_is m.0.1 n.0 n.1 in
    let P : List Piece → Type 0 = λ y. IsRequirement v (ps ++ ASymbol s ∷ y) x in
    subst P (sym (f.split ∙ ap (λ y. f.front ++ y) k.split)) (subst (IsRequirement v (ps ++ ASymbol s ∷ (f.front ++ AWord (codes "else") ∷ AWord k.word ∷ []))) n.2
    (demands ps f.front left m.0.0 s c k.word n.0 first is f.is k.value k.few))

abbrev IsQuestion : (v : Version) → List Piece → Said → Type 0
IsQuestion v ps x = IsForm v (AWord (codes "if") ∷ ps) (Says x)

asked_is : (v : Version) (ps : List Piece) (left : Phrase) (s : Symbol) (c : Comparison) (qs : List Piece) (x : Said) → IsPhrase v ps left → comparison_of s ≡ Some c → option_and_then (question left c) (phrase_at v qs) ≡ Some x
    → IsQuestion v (ps ++ ASymbol s ∷ qs) x
asked_is v ps left s c qs x first is e =
    let m = from_then (question left c) (phrase_at v qs) x e in
    let n = from_map (Asks left c) (ends_there m.0) x m.2 in
    subst (IsQuestion v (ps ++ ASymbol s ∷ qs)) n.2 (asks ps qs left n.0 s c first is (alone_is v qs n.0 (ap (option_and_then ends_there) m.1 ∙ n.1)))

-- a condition, and what comes last
module _ (v : Version) (word : List ℕ) (last : Last)
    (is_last : (ps : List Piece) (left : Phrase) (s : Symbol) (c : Comparison) (qs : List Piece) (x : Said) → IsPhrase v ps left → comparison_of s ≡ Some c → option_and_then (last left c) (phrase_at v qs) ≡ Some x → IsForm v (AWord word ∷ (ps ++ ASymbol s ∷ qs)) (Says x)) where
  after_left_is : (ps : List Piece) (left : Phrase) (rest : List Piece) (x : Said) → IsPhrase v ps left → after_left v last (left, rest) ≡ Some x → IsForm v (AWord word ∷ (ps ++ rest)) (Says x)
  after_left_is ps left [] x first e = absurd (cc)
  after_left_is ps left (AWord w ∷ qs) x first e = absurd (cc)
  after_left_is ps left (AQuoted bytes ∷ qs) x first e = absurd (cc)
  after_left_is ps left (AStray ∷ qs) x first e = absurd (cc)
  after_left_is ps left (ASymbol s ∷ qs) x first e = by_comparison (comparison_of s) refl e
    where
      by_comparison : (o : Option Comparison) → comparison_of s ≡ o → compared v last left o qs ≡ Some x → IsForm v (AWord word ∷ (ps ++ ASymbol s ∷ qs)) (Says x)
      by_comparison None h e = absurd (cc)
      by_comparison (Some c) h e = is_last ps left s c qs x first h e

  condition_is : (ps : List Piece) (f : Form) → option_map Says (condition v last ps) ≡ Some f → IsForm v (AWord word ∷ ps) f
  condition_is ps f e =
      let m = from_map Says (condition v last ps) f e in
      let n = from_then (after_left v last) (phrase_at v ps) m.0 m.1 in
      let g = phrase_is v ps n.0.0 n.0.1 n.1 in
      let P : List Piece → Type 0 = λ y. IsForm v (AWord word ∷ y) (Says m.0) in
      subst (IsForm v (AWord word ∷ ps)) m.2 (subst P (sym g.split) (after_left_is g.front n.0.0 n.0.1 m.0 g.is n.2))

-- a COUNT
record IsCount (ps : List Piece) (n : ℕ) : Type 0 where
  word : List ℕ
  split : ps ≡ AWord word ∷ []
  value : number_of word ≡ Some n
  few : n ≤ 10000

few_is : (o : Option ℕ) (n : ℕ) → few_turns o ≡ Some n → (o ≡ Some n) × (n ≤ 10000)
few_is None n e = absurd (cc)
few_is (Some k) n e = by_test (nat_le k 10000) refl e
  where
    by_test : (v : Bool) → nat_le k 10000 ≡ v → (if v then Some k else None) ≡ Some n → (Some k ≡ Some n) × (n ≤ 10000)
    by_test true h e = let same : k ≡ n = (cc) in (e, (let low : k ≤ 10000 = grind (h, arith, nat_tests) in omega arith))
    by_test false h e = absurd (cc)

count_is : (ps : List Piece) (n : ℕ) → count_alone ps ≡ Some n → IsCount ps n
count_is [] n e = absurd (cc)
count_is (AWord w ∷ []) n e = let s = few_is (number_of w) n e in record { word = w; split = refl; value = s.0; few = s.1 }
count_is (AWord w ∷ p ∷ ps) n e = absurd (cc)
count_is (ASymbol s ∷ ps) n e = absurd (cc)
count_is (AQuoted bytes ∷ ps) n e = absurd (cc)
count_is (AStray ∷ ps) n e = absurd (cc)

repeating_is : (v : Version) (ps : List Piece) (f : Form) → option_map Says (option_map Repeats (count_alone ps)) ≡ Some f → IsForm v (AWord (codes "repeat") ∷ ps) f
repeating_is v ps f e =
    let m = from_map Says (option_map Repeats (count_alone ps)) f e in
    let n = from_map Repeats (count_alone ps) m.0 m.1 in
    let k = count_is ps n.0 n.1 in
    let P : List Piece → Type 0 = λ qs. IsForm v (AWord (codes "repeat") ∷ qs) f in
    subst P (sym k.split) (subst (IsForm v (AWord (codes "repeat") ∷ AWord k.word ∷ [])) (ap Says n.2 ∙ m.2) (repeats k.word n.0 k.value k.few))

-- a word that stands alone
alone_line : (v : Version) (word : List ℕ) (g : Form) → IsForm v (AWord word ∷ []) g → (ps : List Piece) (f : Form) → if_empty g ps ≡ Some f → IsForm v (AWord word ∷ ps) f
alone_line v word g is [] f e = let same : g ≡ f = (cc) in subst (IsForm v (AWord word ∷ [])) same is
alone_line v word g is (p ∷ ps) f e = absurd (cc)

after_word : (v : Version) (w : List ℕ) (k : Keyword) (ps : List Piece) (f : Form) → IsKeyword w k → form_after v k ps ≡ Some f → IsForm v (AWord w ∷ ps) f
after_word v w k ps f is e = by_keyword k is e
  where
    at : (word : List ℕ) → w ≡ word → IsForm v (AWord word ∷ ps) f → IsForm v (AWord w ∷ ps) f
    at word same h = let P : List ℕ → Type 0 = λ x. IsForm v (AWord x ∷ ps) f in subst P (sym same) h

    by_keyword : (k : Keyword) → IsKeyword w k → form_after v k ps ≡ Some f → IsForm v (AWord w ∷ ps) f
    by_keyword Session is e = at (codes "session") is (opening_is v ps f e)
    by_keyword Let is e = at (codes "let") is (assignment_is v (codes "let") Lets lets ps f e)
    by_keyword Set is e = at (codes "set") is (assignment_is v (codes "set") Sets sets ps f e)
    by_keyword Give is e = at (codes "give") is (giving_is v ps f e)
    by_keyword Require is e = at (codes "require") is (condition_is v (codes "require") demand (right_is v) ps f e)
    by_keyword If is e = at (codes "if") is (condition_is v (codes "if") question (asked_is v) ps f e)
    by_keyword Repeat is e = at (codes "repeat") is (repeating_is v ps f e)
    by_keyword Else is e = at (codes "else") is (alone_line v (codes "else") Otherwise otherwise ps f e)
    by_keyword End is e = at (codes "end") is (alone_line v (codes "end") Closes closes ps f e)
    by_keyword Other is e = absurd (cc)

form_is : (v : Version) (ps : List Piece) (f : Form) → form_of v ps ≡ Some f → IsForm v ps f
form_is v [] f e = absurd (cc)
form_is v (AWord w ∷ ps) f e = after_word v w (keyword_of w) ps f (is_keyword w) e
form_is v (ASymbol s ∷ ps) f e = absurd (cc)
form_is v (AQuoted bytes ∷ ps) f e = absurd (cc)
form_is v (AStray ∷ ps) f e = absurd (cc)

pub by_grammar : ReadsTheForms
by_grammar v ps f = record { read = form_read v ps f; is = form_is v ps f }
