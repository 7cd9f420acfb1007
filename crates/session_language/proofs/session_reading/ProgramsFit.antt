-- Each program that is read fits the plan.
use Rattle.std.proofs.Common.{◌≡◌, ◌<◌, ◌≤◌, ℕ, ℤ, pos, List, [], ◌∷◌, ◌++◌, length, Bool, true, false, not, ◌&&◌, nat_lt, nat_le, ◌==◌, cond, is_some, Option, Some, None, IfSome, IfOk, IsTrue, All, Result, Ok, Err, if◌then◌else◌, option_map, option_and_then, unwrap_or, refl, sym, ◌∙◌, subst, arith}
use Rattle.std.proofs.lemmas.List.{length-append}
use Rattle.std.proofs.lemmas.List.Elements.{All-cons}
use Rattle.std.specs.Str.{bytes_eq}
use Rattle.std.proofs.lemmas.List.Folds.{list_all-append}
use Rattle.std.proofs.lemmas.Bool.Decides.{nat_tests}
use Rattle.std.specs.List.{list_all, position_or_len}
use Rattle.std.specs.Option.{ok_or}
use Rattle.office_map.specs.PlanValue.{PlanValue, is_end, office_named, record_named}
use Rattle.text_lines.specs.Text.{is_name, name_of, lines, statements}
use Rattle.office_map.specs.PlanText.{◌>>=◌, ◌>>◌, refuse_if}
use Rattle.bottle_values.specs.declared.Value.TheVariants.{Number, Text}
use Rattle.bottle_values.specs.Texts.{is_text}
use Rattle.bottle_values.specs.Versions.{admits}
use Rattle.bottle_values.specs.declared.version.Version.{Version}
use Rattle.bottle_values.specs.declared.version.Version.TheVariants.{One, Two}
use Rattle.session_meaning.specs.Tree.{Term, Constant, Var, ReadOf, Neg, Bin, Test, Command}
use Rattle.session_meaning.specs.Fitting.{term_fits, test_fits, block_fits}
use Rattle.session_language.specs.Spelling.{Operand, ANumber, AText, AVariable, ARecord, Spelled, Plain, Token, Plus, Minus, Times, Close}
use Rattle.session_language.specs.Grammar.{IsFactor, IsProduct, IsExpr, operand, negative, enclosed, one, star, alone, plus, minus}
use Rattle.session_language.specs.Names.{Scope, if_of_office, record_of, knows_record, token_record, knows_records, placed}
use Rattle.session_language.specs.declared.lexer.Symbol.TheVariants as symbol
use Rattle.session_language.specs.Lexer.{Piece, AWord, ASymbol, AQuoted, AStray, pieces_of}
use Rattle.session_language.specs.Parse.{Part, read_part}
use Rattle.session_language.specs.Phrase.{Phrase, Run, run, phrase_of, phrase_in, phrase_at}
use Rattle.session_language.specs.Form.{Said, Lets, Sets, Gives, Demands, Asks, Repeats, Form, Opens, Says, Otherwise, Closes, ends_there, if_named, phrase_alone, assigned, Last, demand, question, compared, comparison_of, after_left, condition, else_code, count_alone, name_alone, if_empty, said_after, form_after, form_of, keyword_of}
use Rattle.session_meaning.specs.declared.node.Comparison.{Comparison}
use Rattle.session_language.specs.declared.keyword.Keyword.{Keyword}
use Rattle.session_language.specs.declared.keyword.Keyword.TheVariants.{Session, Let, Set, Give, Require, If, Else, Repeat, End, Other}
use Rattle.session_language.specs.declared.fault.SessionRule.{SessionRule}
use Rattle.session_language.specs.declared.fault.SessionRule.TheVariants.{UnknownName, UnknownRecord, TooDeep, TooLong, TooManyRecords, TooManyGives, TooManyVariables}
use Rattle.session_meaning.specs.refinement.TreeOfStatements.{block_from}
use Rattle.session_language.specs.Reading.{Head, IfHead, ElseHead, RepeatHead, OpenBlock, Draft, Reading, Spoken, SpeaksLet, SpeaksSet, SpeaksGive, SpeaksDemand, SpeaksIf, SpeaksRepeat, spoken_of, are_variables_known, are_records_known, is_too_deep, speak, named_after, with_line, with_names, opens_block, within_limits, add, turned, turned_in, Ended, Going, Closed, ended_in, ended, closed, program_of, begun, with_open, with_ended, scope_in, take_opening, take_statement, take_otherwise, take_closing, take_form, take_formed, take_line, at_line, read_lines, nothing_read, unless_open, sessions_of}
use Rattle.session_programs.specs.Program.{is_too_long}
use Rattle.session_meaning.specs.ProgramValue.{ProgramValue}
use Rattle.session_programs.specs.measures.Measures.{block_gives}
use Rattle.session_programs.specs.Program.{fits}
use Rattle.session_language.proofs.session_reading.LiteralRanges.{operand_fits, token_fits, tokens_fit, run_fits, name_fits, code_fits, count_fits}
use Rattle.session_language.specs.refinement.KeptDraft.{named_in, IsNamed}
use Rattle.session_language.proofs.session_reading.LiteralsFit.{BlocksFit, DraftFits, SpokenFits, begun_fits, line_kept, turned_kept, end_kept}
use Rattle.session_language.proofs.session_reading.NamedRecords.{line_named, turned_named, end_named}
use Rattle.session_language.proofs.expressions.ParserSound.{read_spells}
use Rattle.session_programs.specs.measures.Needs.{with_record, term_needs, block_needs, needs_of}

pub both_left : (a b : Bool) → (a && b) ≡ true → a ≡ true
both_left true b h = refl
both_left false b h = h

pub both_right : (a b : Bool) → (a && b) ≡ true → b ≡ true
both_right true b h = h
both_right false b h = (cc)

pub and_true : (a b : Bool) → a ≡ true → b ≡ true → (a && b) ≡ true
and_true true b h k = k
and_true false b h k = h

-- whether each literal of an expression is of the plan's version, and each record that it reads is of the session's office
abbrev pub term_within : Version → (ℕ → Bool) → Term → Bool
term_within v ok (Constant c) = admits v c
term_within v ok (Var k) = true
term_within v ok (ReadOf r) = ok r
term_within v ok (Neg e) = term_within v ok e
term_within v ok (Bin o a b) = term_within v ok a && term_within v ok b

term_fits_so : (v : Version) (ok : ℕ → Bool) (e : Term) → term_within v ok e ≡ true → term_fits v e ≡ true
term_fits_so v ok (Constant c) h = h
term_fits_so v ok (Var k) h = refl
term_fits_so v ok (ReadOf r) h = refl
term_fits_so v ok (Neg e) h = term_fits_so v ok e h
term_fits_so v ok (Bin o a b) h =
    and_true (term_fits v a) (term_fits v b) (term_fits_so v ok a (both_left (term_within v ok a) (term_within v ok b) h)) (term_fits_so v ok b (both_right (term_within v ok a) (term_within v ok b) h))

abbrev pub ends_of_office : Scope → ℕ → Bool
ends_of_office s r = is_end s.plan r s.office

known : (s : Scope) (o : Option ℕ) → is_some (if_of_office s o) ≡ true → ends_of_office s (unwrap_or (if_of_office s o) 0) ≡ true
known s None h = (cc)
known s (Some r) h = by_test (is_end s.plan r s.office) refl h
  where
    by_test : (b : Bool) → is_end s.plan r s.office ≡ b → is_some (if b then Some r else None) ≡ true → ends_of_office s (unwrap_or (if b then Some r else None) 0) ≡ true
    by_test true e h = e
    by_test false e h = (cc)

admits_number : (v : Version) (z : ℤ) → admits v (Number z) ≡ true
admits_number One z = refl
admits_number Two z = refl

operand_within : (s : Scope) (x : Operand) → knows_record s x ≡ true → operand_fits s.plan.version x ≡ true → term_within s.plan.version (ends_of_office s) (placed s (Plain x)) ≡ true
operand_within s (ANumber n) h f = admits_number s.plan.version (pos n)
operand_within s (AText t) h f = both_right (is_text t) (admits s.plan.version (Text t)) f
operand_within s (AVariable name) h f = refl
operand_within s (ARecord name) h f = known s (record_named s.plan name) h

-- what is asked of each token
abbrev Good : Scope → List Token → Type 0
Good s ts = (knows_records s ts ≡ true) × tokens_fit s.plan.version ts

front : (s : Scope) (ts us : List Token) → Good s (ts ++ us) → Good s ts
front s ts us h = (
  both_left (knows_records s ts) (knows_records s us) (sym (list_all-append (token_record s) ts us) ∙ h.0),
  both_left (list_all (token_fits s.plan.version) ts) (list_all (token_fits s.plan.version) us) (sym (list_all-append (token_fits s.plan.version) ts us) ∙ h.1),
)

back : (s : Scope) (ts : List Token) (t : Token) (us : List Token) → Good s (ts ++ t ∷ us) → Good s us
back s ts t us h = (
  both_right (token_record s t) (knows_records s us) (both_right (knows_records s ts) (knows_records s (t ∷ us)) (sym (list_all-append (token_record s) ts (t ∷ us)) ∙ h.0)),
  both_right (token_fits s.plan.version t) (list_all (token_fits s.plan.version) us)
      (both_right (list_all (token_fits s.plan.version) ts) (list_all (token_fits s.plan.version) (t ∷ us)) (sym (list_all-append (token_fits s.plan.version) ts (t ∷ us)) ∙ h.1)),
)

abbrev here_within : Scope → Spelled → Bool
here_within s e = term_within s.plan.version (ends_of_office s) (placed s e)

mutual
  factor_within : (s : Scope) (ts : List Token) (e : Spelled) (d : ℕ) → IsFactor ts e d → Good s ts → here_within s e ≡ true
  factor_within s ts e d (operand x) h = operand_within s x (both_left (knows_record s x) true h.0) (both_left (operand_fits s.plan.version x) true h.1)
  factor_within s ts e d (negative us f c x) h = factor_within s us f c x h
  factor_within s ts e d (enclosed us f c x) h = expr_within s us f c x (front s us (Close ∷ []) h)

  product_within : (s : Scope) (ts : List Token) (e : Spelled) (d : ℕ) → IsProduct ts e d → Good s ts → here_within s e ≡ true
  product_within s ts e d (one us f c x) h = factor_within s us f c x h
  product_within s ts e d (star us vs a b c k x y) h = and_true (here_within s a) (here_within s b) (product_within s us a c x (front s us (Times ∷ vs) h)) (factor_within s vs b k y (back s us Times vs h))

  expr_within : (s : Scope) (ts : List Token) (e : Spelled) (d : ℕ) → IsExpr ts e d → Good s ts → here_within s e ≡ true
  expr_within s ts e d (alone us f c x) h = product_within s us f c x h
  expr_within s ts e d (plus us vs a b c k x y) h = and_true (here_within s a) (here_within s b) (expr_within s us a c x (front s us (Plus ∷ vs) h)) (product_within s vs b k y (back s us Plus vs h))
  expr_within s ts e d (minus us vs a b c k x y) h = and_true (here_within s a) (here_within s b) (expr_within s us a c x (front s us (Minus ∷ vs) h)) (product_within s vs b k y (back s us Minus vs h))

-- a list in order keeps a property with one more record
kept_with : (ok : ℕ → Bool) (r : ℕ) (rs : List ℕ) → ok r ≡ true → list_all ok rs ≡ true → list_all ok (with_record r rs) ≡ true
kept_with ok r [] o h = and_true (ok r) true o refl
kept_with ok r (t ∷ rest) o h = by_order (nat_lt r t) (r == t) (kept_with ok r rest o)
  where
    by_order : (b c : Bool) → (list_all ok rest ≡ true → list_all ok (with_record r rest) ≡ true)
        → list_all ok (if b then r ∷ t ∷ rest else if c then t ∷ rest else t ∷ with_record r rest) ≡ true
    by_order true c more = and_true (ok r) (list_all ok (t ∷ rest)) o h
    by_order false true more = h
    by_order false false more = and_true (ok t) (list_all ok (with_record r rest)) (both_left (ok t) (list_all ok rest) h) (more (both_right (ok t) (list_all ok rest) h))

term_kept : (v : Version) (ok : ℕ → Bool) (e : Term) (rs : List ℕ) → term_within v ok e ≡ true → list_all ok rs ≡ true → list_all ok (term_needs e rs) ≡ true
term_kept v ok (Constant c) rs o h = h
term_kept v ok (Var k) rs o h = h
term_kept v ok (ReadOf r) rs o h = kept_with ok r rs o h
term_kept v ok (Neg e) rs o h = term_kept v ok e rs o h
term_kept v ok (Bin op a b) rs o h =
    term_kept v ok b (term_needs a rs) (both_right (term_within v ok a) (term_within v ok b) o) (term_kept v ok a rs (both_left (term_within v ok a) (term_within v ok b) o) h)

-- the grammar has the tokens of each expression of a line, and its literals are in their range
abbrev pub IsRead : Version → Phrase → Type 0
IsRead v e = IsExpr e.tokens e.tree e.depth × tokens_fit v e.tokens

read_of : (v : Version) (ts : List Token) (rest : List Piece) (o : Option Part) → IfSome o (λ x. IsExpr ts x.tree x.depth) → tokens_fit v ts → IfSome (phrase_of ts rest o) (λ y. IsRead v y.0)
read_of v ts rest None h f = tt
read_of v ts rest (Some x) h f = (h, f)

in_run : (v : Version) (o : Option Run) → IfSome o (λ r. tokens_fit v r.tokens) → IfSome (phrase_in o) (λ y. IsRead v y.0)
in_run v None f = tt
in_run v (Some r) f = read_of v r.tokens r.rest (read_part r.tokens) (read_spells r.tokens) f

pub phrases : (v : Version) (ps : List Piece) → IfSome (phrase_at v ps) (λ y. IsRead v y.0)
phrases v ps = unfold phrase_at in in_run v (run v false ps) (run_fits v false ps)

abbrev pub IsSaid : Version → Said → Type 0
IsSaid v (Lets name e) = (is_name name ≡ true) × IsRead v e
IsSaid v (Sets name e) = IsRead v e
IsSaid v (Gives e) = IsRead v e
IsSaid v (Demands l c r code) = IsRead v l × IsRead v r × (code < 65536)
IsSaid v (Asks l c r) = IsRead v l × IsRead v r
IsSaid v (Repeats n) = n ≤ 10000

ends : (v : Version) (y : Phrase × List Piece) → IsRead v y.0 → IfSome (ends_there y) (IsRead v)
ends v (e, []) h = h
ends v (e, p ∷ ps) h = tt

alone_of : (v : Version) (o : Option (Phrase × List Piece)) → IfSome o (λ y. IsRead v y.0) → IfSome (option_and_then ends_there o) (IsRead v)
alone_of v None h = tt
alone_of v (Some y) h = ends v y h

abbrev IsAssigned : Version → List ℕ × Phrase → Type 0
IsAssigned v x = (is_name x.0 ≡ true) × IsRead v x.1

named : (v : Version) (n : Option (List ℕ)) (o : Option Phrase) → IfSome n (λ name. is_name name ≡ true) → IfSome o (IsRead v) → IfSome (if_named n o) (IsAssigned v)
named v None o g h = tt
named v (Some name) None g h = tt
named v (Some name) (Some e) g h = (g, h)

assigned_is : (v : Version) (ps : List Piece) → IfSome (assigned v ps) (IsAssigned v)
assigned_is v [] = tt
assigned_is v (AWord w ∷ []) = tt
assigned_is v (AWord w ∷ AWord name ∷ ps) = tt
assigned_is v (AWord w ∷ AQuoted bytes ∷ ps) = tt
assigned_is v (AWord w ∷ AStray ∷ ps) = tt
assigned_is v (AWord w ∷ ASymbol symbol.Assign ∷ ps) = named v (name_of w) (phrase_alone v ps) (name_fits w) (alone_of v (phrase_at v ps) (phrases v ps))
assigned_is v (AWord w ∷ ASymbol symbol.Plus ∷ ps) = tt
assigned_is v (AWord w ∷ ASymbol symbol.Minus ∷ ps) = tt
assigned_is v (AWord w ∷ ASymbol symbol.Times ∷ ps) = tt
assigned_is v (AWord w ∷ ASymbol symbol.Open ∷ ps) = tt
assigned_is v (AWord w ∷ ASymbol symbol.Close ∷ ps) = tt
assigned_is v (AWord w ∷ ASymbol symbol.Equal ∷ ps) = tt
assigned_is v (AWord w ∷ ASymbol symbol.NotEqual ∷ ps) = tt
assigned_is v (AWord w ∷ ASymbol symbol.Less ∷ ps) = tt
assigned_is v (AWord w ∷ ASymbol symbol.AtMost ∷ ps) = tt
assigned_is v (AWord w ∷ ASymbol symbol.Greater ∷ ps) = tt
assigned_is v (AWord w ∷ ASymbol symbol.AtLeast ∷ ps) = tt
assigned_is v (ASymbol s ∷ ps) = tt
assigned_is v (AQuoted bytes ∷ ps) = tt
assigned_is v (AStray ∷ ps) = tt

demand_is : (v : Version) (left : Phrase) (c : Comparison) (y : Phrase × List Piece) → IsRead v left → IsRead v y.0 → IfSome (demand left c y) (IsSaid v)
demand_is v left c (e, ps) l h = by_code (else_code ps) (code_fits ps)
  where
    by_code : (o : Option ℕ) → IfSome o (λ n. n < 65536) → IfSome (option_map (Demands left c e) o) (IsSaid v)
    by_code None f = tt
    by_code (Some n) f = (l, h, f)

question_is : (v : Version) (left : Phrase) (c : Comparison) (y : Phrase × List Piece) → IsRead v left → IsRead v y.0 → IfSome (question left c y) (IsSaid v)
question_is v left c (e, []) l h = (l, h)
question_is v left c (e, p ∷ ps) l h = tt

-- a condition, and what comes last
module _ (v : Version) (last : Last) (is : (left : Phrase) (c : Comparison) (y : Phrase × List Piece) → IsRead v left → IsRead v y.0 → IfSome (last left c y) (IsSaid v)) where
  last_is : (left : Phrase) (c : Comparison) (o : Option (Phrase × List Piece)) → IsRead v left → IfSome o (λ y. IsRead v y.0) → IfSome (option_and_then (last left c) o) (IsSaid v)
  last_is left c None l h = tt
  last_is left c (Some y) l h = is left c y l h

  compared_is : (left : Phrase) (o : Option Comparison) (ps : List Piece) → IsRead v left → IfSome (compared v last left o ps) (IsSaid v)
  compared_is left None ps l = tt
  compared_is left (Some c) ps l = last_is left c (phrase_at v ps) l (phrases v ps)

  left_is : (y : Phrase × List Piece) → IsRead v y.0 → IfSome (after_left v last y) (IsSaid v)
  left_is (left, []) l = tt
  left_is (left, AWord w ∷ ps) l = tt
  left_is (left, AQuoted bytes ∷ ps) l = tt
  left_is (left, AStray ∷ ps) l = tt
  left_is (left, ASymbol s ∷ ps) l = compared_is left (comparison_of s) ps l

  left_read : (o : Option (Phrase × List Piece)) → IfSome o (λ y. IsRead v y.0) → IfSome (option_and_then (after_left v last) o) (IsSaid v)
  left_read None h = tt
  left_read (Some y) h = left_is y h

  condition_is : (ps : List Piece) → IfSome (condition v last ps) (IsSaid v)
  condition_is ps = left_read (phrase_at v ps) (phrases v ps)

abbrev IsFormed : Version → Form → Type 0
IsFormed v (Opens name) = Unit {0}
IsFormed v (Says said) = IsSaid v said
IsFormed v Otherwise = Unit {0}
IsFormed v Closes = Unit {0}

says : (v : Version) (o : Option Said) → IfSome o (IsSaid v) → IfSome (option_map Says o) (IsFormed v)
says v None h = tt
says v (Some said) h = h

opens : (v : Version) (o : Option (List ℕ)) → IfSome (option_map Opens o) (IsFormed v)
opens v None = tt
opens v (Some name) = tt

nothing_more : (v : Version) (f : Form) (ps : List Piece) → IsFormed v f → IfSome (if_empty f ps) (IsFormed v)
nothing_more v f [] h = h
nothing_more v f (p ∷ ps) h = tt

lets : (v : Version) (o : Option (List ℕ × Phrase)) → IfSome o (IsAssigned v) → IfSome (option_map (λ x. Lets x.0 x.1) o) (IsSaid v)
lets v None h = tt
lets v (Some x) h = h

sets : (v : Version) (o : Option (List ℕ × Phrase)) → IfSome o (IsAssigned v) → IfSome (option_map (λ x. Sets x.0 x.1) o) (IsSaid v)
sets v None h = tt
sets v (Some x) h = h.1

gives : (v : Version) (o : Option Phrase) → IfSome o (IsRead v) → IfSome (option_map Gives o) (IsSaid v)
gives v None h = tt
gives v (Some e) h = h

repeats : (v : Version) (o : Option ℕ) → IfSome o (λ n. n ≤ 10000) → IfSome (option_map Repeats o) (IsSaid v)
repeats v None h = tt
repeats v (Some n) h = h

pub said_is : (v : Version) (k : Keyword) (ps : List Piece) → IfSome (said_after v k ps) (IsSaid v)
said_is v Let ps = lets v (assigned v ps) (assigned_is v ps)
said_is v Set ps = sets v (assigned v ps) (assigned_is v ps)
said_is v Give ps = gives v (phrase_alone v ps) (alone_of v (phrase_at v ps) (phrases v ps))
said_is v Require ps = condition_is v demand (demand_is v) ps
said_is v If ps = condition_is v question (question_is v) ps
said_is v Repeat ps = repeats v (count_alone ps) (count_fits ps)
said_is v Else ps = tt
said_is v Session ps = tt
said_is v End ps = tt
said_is v Other ps = tt

formed : (v : Version) (k : Keyword) (ps : List Piece) → IfSome (form_after v k ps) (IsFormed v)
formed v Session ps = opens v (name_alone ps)
formed v End ps = nothing_more v Closes ps tt
formed v Else ps = nothing_more v Otherwise ps tt
formed v Let ps = says v (said_after v Let ps) (said_is v Let ps)
formed v Set ps = says v (said_after v Set ps) (said_is v Set ps)
formed v Give ps = says v (said_after v Give ps) (said_is v Give ps)
formed v Require ps = says v (said_after v Require ps) (said_is v Require ps)
formed v If ps = says v (said_after v If ps) (said_is v If ps)
formed v Repeat ps = says v (said_after v Repeat ps) (said_is v Repeat ps)
formed v Other ps = tt

forms : (v : Version) (ps : List Piece) → IfSome (form_of v ps) (IsFormed v)
forms v [] = tt
forms v (AWord w ∷ ps) = formed v (keyword_of w) ps
forms v (ASymbol s ∷ ps) = tt
forms v (AQuoted bytes ∷ ps) = tt
forms v (AStray ∷ ps) = tt

-- a statement whose literals are of the version, and whose records are all of the office
abbrev IsWithin : Version → (ℕ → Bool) → Spoken → Type 0
IsWithin v ok (SpeaksLet name e) = term_within v ok e ≡ true
IsWithin v ok (SpeaksSet r e) = (ok r ≡ true) × (term_within v ok e ≡ true)
IsWithin v ok (SpeaksGive e) = term_within v ok e ≡ true
IsWithin v ok (SpeaksDemand t code) = (term_within v ok t.left ≡ true) × (term_within v ok t.right ≡ true)
IsWithin v ok (SpeaksIf t) = (term_within v ok t.left ≡ true) × (term_within v ok t.right ≡ true)
IsWithin v ok (SpeaksRepeat n) = Unit {0}

test_fits_so : (v : Version) (ok : ℕ → Bool) (t : Test) → (term_within v ok t.left ≡ true) × (term_within v ok t.right ≡ true) → test_fits v t ≡ true
test_fits_so v ok t w = and_true (term_fits v t.left) (term_fits v t.right) (term_fits_so v ok t.left w.0) (term_fits_so v ok t.right w.1)

literals_fit : (v : Version) (ok : ℕ → Bool) (x : Spoken) → IsWithin v ok x → SpokenFits v x
literals_fit v ok (SpeaksLet name e) w = term_fits_so v ok e w
literals_fit v ok (SpeaksSet r e) w = term_fits_so v ok e w.1
literals_fit v ok (SpeaksGive e) w = term_fits_so v ok e w
literals_fit v ok (SpeaksDemand t code) w = test_fits_so v ok t w
literals_fit v ok (SpeaksIf t) w = test_fits_so v ok t w
literals_fit v ok (SpeaksRepeat n) w = tt

abbrev IsHere : Scope → Spoken → Type 0
IsHere s = IsWithin s.plan.version (ends_of_office s)

phrase_within : (s : Scope) (e : Phrase) → IsRead s.plan.version e → knows_records s e.tokens ≡ true → here_within s e.tree ≡ true
phrase_within s e r h = expr_within s e.tokens e.tree e.depth r.0 (h, r.1)

test_within : (s : Scope) (l m : Phrase) → IsRead s.plan.version l → IsRead s.plan.version m → (knows_records s l.tokens && knows_records s m.tokens) ≡ true → (here_within s l.tree ≡ true) × (here_within s m.tree ≡ true)
test_within s l m r q h = (
  phrase_within s l r (both_left (knows_records s l.tokens) (knows_records s m.tokens) h),
  phrase_within s m q (both_right (knows_records s l.tokens) (knows_records s m.tokens) h),
)

spoken_within : (s : Scope) (said : Said) → IsSaid s.plan.version said → are_records_known s said ≡ true → IsHere s (spoken_of s said)
spoken_within s (Lets name e) r h = phrase_within s e r.1 h
spoken_within s (Sets name e) r h = (
  known s (record_named s.plan name) (both_left (is_some (record_of s name)) (knows_records s e.tokens) h),
  phrase_within s e r (both_right (is_some (record_of s name)) (knows_records s e.tokens) h),
)
spoken_within s (Gives e) r h = phrase_within s e r h
spoken_within s (Demands l c m code) r h = test_within s l m r.0 r.1 h
spoken_within s (Asks l c m) r h = test_within s l m r.0 r.1 h
spoken_within s (Repeats n) r h = tt

-- what holds behind a refusal that did not come
pub past : {A E : Type 0} (b : Bool) (rule : E) (r : Result A E) (P : A → Type 0) → (b ≡ false → IfOk r P) → IfOk (refuse_if b rule >> r) P
past true rule r P h = tt
past false rule r P h = h refl

pub and_so : {A B E : Type 0} (r : Result A E) (f : A → Result B E) (P : A → Type 0) (Q : B → Type 0) → IfOk r P → ((x : A) → P x → IfOk (f x) Q) → IfOk (r >>= f) Q
and_so (Ok x) f P Q h g = g x h
and_so (Err e) f P Q h g = tt

pub not_not : (b : Bool) → not b ≡ false → b ≡ true
not_not true h = refl
not_not false h = sym h

spoken : (s : Scope) (said : Said) → IsSaid s.plan.version said → IfOk (speak s said) (IsHere s)
spoken s said r =
    past (not (are_variables_known s said)) UnknownName _ (IsHere s) (λ a.
    past (not (are_records_known s said)) UnknownRecord _ (IsHere s) (λ b.
    past (is_too_deep said) TooDeep _ (IsHere s) (λ d. spoken_within s said r (not_not (are_records_known s said) b))))

named_kept : (v : Version) (ok : ℕ → Bool) (x : Spoken) (rs : List ℕ) → IsWithin v ok x → list_all ok rs ≡ true → list_all ok (named_after rs x) ≡ true
named_kept v ok (SpeaksLet name e) rs w h = term_kept v ok e rs w h
named_kept v ok (SpeaksSet r e) rs w h = term_kept v ok e (with_record r rs) w.1 (kept_with ok r rs w.0 h)
named_kept v ok (SpeaksGive e) rs w h = term_kept v ok e rs w h
named_kept v ok (SpeaksDemand t code) rs w h = term_kept v ok t.right (term_needs t.left rs) w.1 (term_kept v ok t.left rs w.0 h)
named_kept v ok (SpeaksIf t) rs w h = term_kept v ok t.right (term_needs t.left rs) w.1 (term_kept v ok t.left rs w.0 h)
named_kept v ok (SpeaksRepeat n) rs w h = h

-- a draft whose office is the plan's, whose records are the office's, and whose literals are of the plan's version
record IsFitting (p : PlanValue) (d : Draft) : Type 0 where
  office : nat_lt d.office (length p.offices) ≡ true
  records : list_all (λ r. is_end p r d.office) d.named ≡ true
  named : IsNamed d
  literals : DraftFits p.version d

abbrev IsIn : PlanValue → Draft → Spoken → Type 0
IsIn p d = IsWithin p.version (λ r. is_end p r d.office)

line_fits : (p : PlanValue) (d : Draft) (x : Spoken) → IsFitting p d → IsIn p d x → IsFitting p (with_line (with_names d x) x)
line_fits p d x f w = by_form x w (named_kept p.version (λ r. is_end p r d.office) x d.named w f.records) (line_named d f.named x) (line_kept p.version d f.literals x (literals_fit p.version (λ r. is_end p r d.office) x w))
  where
    by_form : (x : Spoken) → IsIn p d x → list_all (λ r. is_end p r d.office) (named_after d.named x) ≡ true → IsNamed (with_line (with_names d x) x) → DraftFits p.version (with_line (with_names d x) x)
        → IsFitting p (with_line (with_names d x) x)
    by_form (SpeaksLet name e) w k n l = record { office = f.office; records = k; named = n; literals = l }
    by_form (SpeaksSet r e) w k n l = record { office = f.office; records = k; named = n; literals = l }
    by_form (SpeaksGive e) w k n l = record { office = f.office; records = k; named = n; literals = l }
    by_form (SpeaksDemand t code) w k n l = record { office = f.office; records = k; named = n; literals = l }
    by_form (SpeaksIf t) w k n l = record { office = f.office; records = k; named = n; literals = l }
    by_form (SpeaksRepeat m) w k n l = record { office = f.office; records = k; named = n; literals = l }

limited : (p : PlanValue) (e : Draft) → IsFitting p e → IfOk (within_limits e) (IsFitting p)
limited p e f =
    past (nat_lt 16 (length e.named)) TooManyRecords _ (IsFitting p) (λ a.
    past (nat_lt 32 (length e.variables)) TooManyVariables _ (IsFitting p) (λ b. f))

added_fits : (p : PlanValue) (d : Draft) (x : Spoken) → IsFitting p d → IsIn p d x → IfOk (add d x) (IsFitting p)
added_fits p d x f w =
    past (opens_block x && nat_le 8 (length d.outer)) TooDeep _ (IsFitting p) (λ a.
    limited p (with_line (with_names d x) x) (line_fits p d x f w))

abbrev IsNamedIn : Draft → List OpenBlock → Type 0
IsNamedIn d outer = d.named ≡ block_needs (block_from d.body) (named_in outer)

turned_fits_by : (p : PlanValue) (d : Draft) (before : List Command) (head : Head) (outer : List OpenBlock) → IsFitting p d → IfOk (turned d before head outer) IsNamed → IfOk (turned d before head outer) (DraftFits p.version)
    → IfOk (turned d before head outer) (IsFitting p)
turned_fits_by p d before (IfHead t) outer f n l = record { office = f.office; records = f.records; named = n; literals = l }
turned_fits_by p d before (ElseHead t first) outer f n l = tt
turned_fits_by p d before (RepeatHead turns) outer f n l = tt

turned_fits : (p : PlanValue) (d : Draft) (outer : List OpenBlock) → IsFitting p d → IsNamedIn d outer → BlocksFit p.version outer → IfOk (turned_in d outer) (IsFitting p)
turned_fits p d [] f n l = tt
turned_fits p d (b ∷ outer) f n l = turned_fits_by p d b.before b.head outer f (turned_named d b.before b.head outer n) (turned_kept p.version d f.literals b.before b.head outer l)

abbrev Fits : PlanValue → ProgramValue → Type 0
Fits p q = fits p q ≡ true

closed_fits : (p : PlanValue) (d : Draft) → IsFitting p d → IsNamedIn d [] → IfOk (closed d) (Fits p)
closed_fits p d f n =
    past (is_too_long (program_of d)) TooLong _ (Fits p) (λ a.
    past (nat_lt 64 (block_gives (block_from d.body))) TooManyGives _ (Fits p) (λ b.
    and_true (nat_lt d.office (length p.offices) && list_all (λ r. is_end p r d.office) (needs_of (block_from d.body))) (block_fits p.version (block_from d.body))
    (and_true (nat_lt d.office (length p.offices)) (list_all (λ r. is_end p r d.office) (needs_of (block_from d.body))) f.office (subst (λ rs. list_all (λ r. is_end p r d.office) rs ≡ true) n f.records)) f.literals.body))

abbrev EndedFits : PlanValue → Ended → Type 0
EndedFits p (Going d) = IsFitting p d
EndedFits p (Closed q) = Fits p q

ended_fits : (p : PlanValue) (d : Draft) (outer : List OpenBlock) → IsFitting p d → IsNamedIn d outer → BlocksFit p.version outer → IfOk (ended_in d outer) (EndedFits p)
ended_fits p d [] f n l = and_so (closed d) (λ q. Ok (Closed q)) (Fits p) (EndedFits p) (closed_fits p d f n) (λ q h. h)
ended_fits p d (b ∷ outer) f n l = record { office = f.office; records = f.records; named = end_named d b outer n; literals = end_kept p.version d f.literals b outer l }

-- the open session fits so far, and there is room for it
abbrev IsOpen : PlanValue → Reading → Draft → Type 0
IsOpen p x d = IsFitting p d × (length x.done < 1024)

-- each session that is closed fits, and there are few of them
abbrev IsSound : PlanValue → Reading → Type 0
IsSound p x = (list_all (fits p) x.done ≡ true) × (length x.done ≤ 1024) × IfSome x.open_session (IsOpen p x)

found : (k n i : ℕ) → cond (nat_lt k n) (Some k) None ≡ Some i → nat_lt i n ≡ true
found k n i h = by_test (nat_lt k n) refl h
  where
    by_test : (b : Bool) → nat_lt k n ≡ b → cond b (Some k) None ≡ Some i → nat_lt i n ≡ true
    by_test true e f = (cc)
    by_test false e f = (cc)

opened : (p : PlanValue) (x : Reading) (o : Option Draft) (name : List ℕ) → IsSound p x → IfOk (take_opening p x o name) (IsSound p)
opened p x (Some d) name h = tt
opened p x None name h = by_office (office_named p name) refl
  where
    by_office : (n : Option ℕ) → office_named p name ≡ n
        → IfOk (ok_or n UnknownName >>= λ office. refuse_if (nat_le 1024 (length x.done)) TooLong >> Ok (with_open x (begun office))) (IsSound p)
    by_office None e = tt
    by_office (Some office) e =
        past (nat_le 1024 (length x.done)) TooLong _ (IsSound p) (λ a.
        (h.0, h.1, (record { office = found (position_or_len (λ o. bytes_eq o.name name) p.offices) (length p.offices) office e; records = refl; named = refl; literals = begun_fits p.version office }, grind (a, arith, nat_tests))))

stated : (p : PlanValue) (x : Reading) (o : Option Draft) (said : Said) → IsSaid p.version said → IsSound p x → IfSome o (IsOpen p x) → IfOk (take_statement p x o said) (IsSound p)
stated p x None said r h d = tt
stated p x (Some d) said r h k =
    and_so (speak (scope_in p d) said) _ (IsIn p d) (IsSound p) (spoken (scope_in p d) said r) (λ y w.
    and_so (add d y) (λ next. Ok (with_open x next)) (IsFitting p) (IsSound p) (added_fits p d y k.0 w) (λ next f. (h.0, h.1, (f, k.1))))

closes_fit : (p : PlanValue) (x : Reading) (e : Ended) → IsSound p x → length x.done < 1024 → EndedFits p e → IsSound p (with_ended x e)
closes_fit p x (Going d) h few f = (h.0, h.1, (f, few))
closes_fit p x (Closed program) h few f = (
  list_all-append (fits p) x.done (program ∷ []) ∙ and_true (list_all (fits p) x.done) (fits p program && true) h.0 (and_true (fits p program) true f refl),
  grind (length-append x.done (program ∷ []), few, arith),
  tt,
)

ends_sound : (p : PlanValue) (x : Reading) (o : Option Draft) → IsSound p x → IfSome o (IsOpen p x) → IfOk (take_closing x o) (IsSound p)
ends_sound p x None h d = tt
ends_sound p x (Some d) h k = and_so (ended d) (λ e. Ok (with_ended x e)) (EndedFits p) (IsSound p) (ended_fits p d d.outer k.0 k.0.named k.0.literals.blocks) (λ e f. closes_fit p x e h k.1 f)

turns_sound : (p : PlanValue) (x : Reading) (o : Option Draft) → IsSound p x → IfSome o (IsOpen p x) → IfOk (take_otherwise x o) (IsSound p)
turns_sound p x None h d = tt
turns_sound p x (Some d) h k = and_so (turned_in d d.outer) (λ next. Ok (with_open x next)) (IsFitting p) (IsSound p) (turned_fits p d d.outer k.0 k.0.named k.0.literals.blocks) (λ next f. (h.0, h.1, (f, k.1)))

taken : (p : PlanValue) (x : Reading) (f : Form) → IsFormed p.version f → IsSound p x → IfOk (take_form p x f) (IsSound p)
taken p x (Opens name) f h = opened p x x.open_session name h
taken p x (Says said) f h = stated p x x.open_session said f h h.2
taken p x Otherwise f h = turns_sound p x x.open_session h h.2
taken p x Closes f h = ends_sound p x x.open_session h h.2

formed_taken : (p : PlanValue) (x : Reading) (o : Option Form) → IfSome o (IsFormed p.version) → IsSound p x → IfOk (take_formed p x o) (IsSound p)
formed_taken p x None f h = tt
formed_taken p x (Some form) f h = taken p x form f h

at : {A : Type 0} (n : ℕ) (r : Result A SessionRule) (P : A → Type 0) → IfOk r P → IfOk (at_line n r) P
at n (Ok x) P h = h
at n (Err e) P h = tt

read : (p : PlanValue) (x : Reading) (ls : List (ℕ × List ℕ)) → IsSound p x → IfOk (read_lines p x ls) (IsSound p)
read p x [] h = h
read p x (l ∷ ls) h =
    and_so (at_line l.0 (take_line p x l.1)) (λ y. read_lines p y ls) (IsSound p) (IsSound p)
    (at l.0 (take_line p x l.1) (IsSound p) (formed_taken p x (form_of p.version (pieces_of l.1)) (forms p.version (pieces_of l.1)) h)) (λ y k. read p y ls k)

-- the programs of a text fit, and are few
abbrev AreSound : PlanValue → List ProgramValue → Type 0
AreSound p ps = (list_all (fits p) ps ≡ true) × (length ps ≤ 1024)

whole : (p : PlanValue) (count : ℕ) (ps : List ProgramValue) (o : Option Draft) → AreSound p ps → IfOk (unless_open count ps o) (AreSound p)
whole p count ps None h = h
whole p count ps (Some d) h = tt

sound : (p : PlanValue) (text : List ℕ) → IfOk (sessions_of p text) (AreSound p)
sound p text = unfold sessions_of in
    past (nat_lt 1048576 (length text)) _ _ (AreSound p) (λ a.
    and_so (read_lines p nothing_read (statements text)) _ (IsSound p) (AreSound p) (read p nothing_read (statements text) (refl, omega arith, tt)) (λ x h.
    whole p (length (lines text)) x.done x.open_session (h.0, h.1)))

pub true_is : (b : Bool) → b ≡ true → IsTrue b
true_is b h = grind (h, arith)

all_true : {X : Type 0} (f : X → Bool) (xs : List X) → list_all f xs ≡ true → All (λ x. IsTrue (f x)) xs
all_true f [] h = λ k d lt. absurd (omega arith)
all_true f (x ∷ xs) h = All-cons (λ y. IsTrue (f y)) x xs (true_is (f x) (both_left (f x) (list_all f xs) h)) (all_true f xs (both_right (f x) (list_all f xs) h))

pub sessions_fit : (p : PlanValue) (text : List ℕ) (ps : List ProgramValue) → sessions_of p text ≡ Ok ps → All (λ q. IsTrue (fits p q)) ps
sessions_fit p text ps e = all_true (fits p) ps (subst (λ r. IfOk r (AreSound p)) e (sound p text)).0

pub sessions_few : (p : PlanValue) (text : List ℕ) (ps : List ProgramValue) → sessions_of p text ≡ Ok ps → length ps ≤ 1024
sessions_few p text ps e = (subst (λ r. IfOk r (AreSound p)) e (sound p text)).1
