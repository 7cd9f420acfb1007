-- The lines of a canonical text.
use Rattle.std.proofs.Common.{◌≡◌, ◌<◌, ◌+◌, ◌-◌, ◌^◌, ◌==◌, ℕ, pos, negsuc, zero, suc, List, [], ◌∷◌, ◌++◌, length, take, drop, get_or, Bool, true, false, not, ◌&&◌, cond, if◌then◌else◌, codes, refl, sym, ap, ◌∙◌, arith, length-append}
use Rattle.std.proofs.lemmas.Bool.{and_parts}
use Rattle.std.proofs.lemmas.Bool.Decides.{nat_tests}
use Rattle.std.specs.List.{list_all, position_or_len}
use Rattle.std.specs.Fmt as fmt
use Rattle.std.specs.Str.Lines.{strip_carriage_return}
use Rattle.std.proofs.lemmas.List.Folds.{list_all-append}
use Rattle.text_lines.specs.Text.{is_newline, is_name, is_plain, lines, says_something, statements_from}
use Rattle.text_lines.specs.TextLaws.{lines_cut}
use Rattle.session_meaning.specs.declared.node.Operator.TheVariants as op
use Rattle.session_meaning.specs.declared.node.Comparison.{Comparison}
use Rattle.session_meaning.specs.declared.node.Comparison.TheVariants.{Equal, NotEqual, Less, AtMost, Greater, AtLeast}
use Rattle.session_programs.specs.declared.rank.Rank.{Rank}
use Rattle.session_programs.specs.declared.rank.Rank.TheVariants.{Factor, Product, Sum}
use Rattle.session_meaning.specs.Tree.{Term, Constant, Var, ReadOf, Neg, Bin, Test, Command, LetVar, SetTo, GiveOf, Requires, When, Choice, Loop}
use Rattle.bottle_values.specs.declared.Value.{Value}
use Rattle.bottle_values.specs.declared.Value.TheVariants.{Number, Text}
use Rattle.bottle_values.specs.ListLaws.{all_weaker}
use Rattle.bottle_values.specs.Texts.{is_text_byte, is_text}
use Rattle.bottle_values.specs.declared.version.Version.{Version}
use Rattle.session_programs.specs.Text.{Words, literal, variable_name, in_parentheses, factor_text, product_text, rank_of, operator_text, comparison_text, term_text, test_text}
use Rattle.session_programs.specs.WellFormed.{IsLiteral, IsOver, IsTestOver}
use Rattle.session_language.proofs.canonical.Lexemes.{number_is_word, name_bytes, word_is_plain}
use Rattle.session_language.proofs.session_reading.ProgramsFit.{term_within}
use Rattle.session_language.proofs.canonical.LexerRoundTrip.{took}
use Rattle.session_language.proofs.canonical.LineForms.{text_of, IsFirstOver}

-- none of these bytes ends a line
pub record IsPlain (bs : List ℕ) : Type 0 where
  pub all : list_all is_plain bs ≡ true

pub plainly : (bs : List ℕ) → list_all is_plain bs ≡ true → IsPlain bs
plainly bs h = record { all = h }

newline_at : (t after : List ℕ) → IsPlain t → position_or_len is_newline (t ++ 10 ∷ after) ≡ length t
newline_at [] after h = refl
newline_at (b ∷ t) after h =
    let parts = and_parts (is_plain b) (list_all is_plain t) h.all in
    let no : is_newline b ≡ false = let p = parts.0 in grind (arith, nat_tests) in
    let more = newline_at t after (plainly t parts.1) in
    ap (λ x. cond (not x) (1 + position_or_len is_newline (t ++ 10 ∷ after)) 0) no ∙ (omega arith)

no_return : (t : List ℕ) (i : ℕ) → IsPlain t → (get_or t i 0 == 13) ≡ false
no_return [] i h = refl
no_return (b ∷ t) zero h = let p = (and_parts (is_plain b) (list_all is_plain t) h.all).0 in grind (arith, nat_tests)
no_return (b ∷ t) (suc i) h = no_return t i (plainly t (and_parts (is_plain b) (list_all is_plain t) h.all).1)

no_strip : (t : List ℕ) → IsPlain t → strip_carriage_return t ≡ t
no_strip t h = ap (λ b. if b then take (length t - 1) t else t) (no_return t (length t - 1) h)

dropped : (t : List ℕ) (b : ℕ) (more : List ℕ) → drop (suc (length t)) (t ++ b ∷ more) ≡ more
dropped [] b more = refl
dropped (c ∷ t) b more = dropped t b more

pub first_line_is : (t after : List ℕ) → IsPlain t → lines (t ++ 10 ∷ after) ≡ t ∷ lines after
first_line_is t after h =
    let more : length t + 1 ≡ suc (length t) = omega arith in
    lines_cut (t ++ 10 ∷ after) (length t) t after (sym (newline_at t after h)) (omega (arith, length-append t (10 ∷ after)))
    (sym (ap strip_carriage_return (took t (10 ∷ after)) ∙ no_strip t h)) (sym (ap (λ k. drop k (t ++ 10 ∷ after)) more ∙ dropped t 10 after))

pub first_statement_is : (n : ℕ) (t after : List ℕ) → IsPlain t → says_something t ≡ true → statements_from n (lines (t ++ 10 ∷ after)) ≡ (n, t) ∷ statements_from (n + 1) (lines after)
first_statement_is n t after h says =
    ap (statements_from n) (first_line_is t after h)
    ∙ ap (λ b. if b then (n, t) ∷ statements_from (n + 1) (lines after) else statements_from (n + 1) (lines after)) says

-- canonical lines are plain
pub both_plain : (xs ys : List ℕ) → IsPlain xs → IsPlain ys → IsPlain (xs ++ ys)
both_plain xs ys h g = plainly (xs ++ ys) (list_all-append is_plain xs ys ∙ ap (λ b. b && list_all is_plain ys) h.all ∙ g.all)

enclosed_plain : (bs : List ℕ) → IsPlain bs → IsPlain (in_parentheses bs)
enclosed_plain bs h = both_plain (40 ∷ []) (bs ++ 41 ∷ []) (plainly (40 ∷ []) refl) (both_plain bs (41 ∷ []) h (plainly (41 ∷ []) refl))

factor_plain : (r : Rank) (bs : List ℕ) → IsPlain bs → IsPlain (factor_text r bs)
factor_plain Factor bs h = h
factor_plain Product bs h = enclosed_plain bs h
factor_plain Sum bs h = enclosed_plain bs h

product_plain : (r : Rank) (bs : List ℕ) → IsPlain bs → IsPlain (product_text r bs)
product_plain Factor bs h = h
product_plain Product bs h = h
product_plain Sum bs h = enclosed_plain bs h

number_plain : (n : ℕ) → n < 2 ^ 63 → IsPlain (fmt.decimal n)
number_plain n h = plainly (fmt.decimal n) (word_is_plain (fmt.decimal n) (number_is_word n h))

pub name_plain : (w : List ℕ) → is_name w ≡ true → IsPlain w
name_plain w h = plainly w (word_is_plain w (name_bytes w h).word)

text_byte_is_plain : (b : ℕ) → is_text_byte b ≡ true → is_plain b ≡ true
text_byte_is_plain b h = grind (h, arith, nat_tests)

text_plain : (t : List ℕ) → is_text t ≡ true → IsPlain t
text_plain t h = plainly t (all_weaker is_text_byte is_plain text_byte_is_plain t (and_parts _ (list_all is_text_byte t) h).1)

literal_plain : (v : Value) → IsLiteral v → IsPlain (literal v)
literal_plain (Number (pos n)) h = number_plain n h
literal_plain (Number (negsuc n)) h = absurd h
literal_plain (Text t) h = both_plain (34 ∷ []) (t ++ 34 ∷ []) (plainly (34 ∷ []) refl) (both_plain t (34 ∷ []) (text_plain t h) (plainly (34 ∷ []) refl))

comparison_plain : (c : Comparison) → IsPlain (comparison_text c)
comparison_plain Equal = plainly (comparison_text Equal) refl
comparison_plain NotEqual = plainly (comparison_text NotEqual) refl
comparison_plain Less = plainly (comparison_text Less) refl
comparison_plain AtMost = plainly (comparison_text AtMost) refl
comparison_plain Greater = plainly (comparison_text Greater) refl
comparison_plain AtLeast = plainly (comparison_text AtLeast) refl

-- each record of the first line of a statement is one of these
abbrev pub command_within : Version → (ℕ → Bool) → Command → Type 0
command_within v ok (LetVar k e) = term_within v ok e ≡ true
command_within v ok (SetTo r e) = (ok r ≡ true) × (term_within v ok e ≡ true)
command_within v ok (GiveOf e) = term_within v ok e ≡ true
command_within v ok (Requires t code) = (term_within v ok t.left ≡ true) × (term_within v ok t.right ≡ true)
command_within v ok (When t b) = (term_within v ok t.left ≡ true) × (term_within v ok t.right ≡ true)
command_within v ok (Choice t a b) = (term_within v ok t.left ≡ true) × (term_within v ok t.right ≡ true)
command_within v ok (Loop n b) = Unit {0}

module _ (v : Version) (w : Words) (known : ℕ) (ok : ℕ → Bool) (variables : (k : ℕ) → k < known → is_name (variable_name w k) ≡ true) (records : (r : ℕ) → ok r ≡ true → is_name (w.record_name r) ≡ true) where
  pub term_plain : (e : Term) → IsOver known e → term_within v ok e ≡ true → IsPlain (term_text w e)
  term_plain (Constant c) h g = literal_plain c h
  term_plain (Var k) h g = name_plain (variable_name w k) (variables k h)
  term_plain (ReadOf r) h g = both_plain (codes "read ") (w.record_name r) (plainly (codes "read ") refl) (name_plain (w.record_name r) (records r g))
  term_plain (Neg e) h g = both_plain (45 ∷ []) _ (plainly (45 ∷ []) refl) (factor_plain (rank_of e) (term_text w e) (term_plain e h g))
  term_plain (Bin op.Times a b) h g =
      let parts = and_parts (term_within v ok a) (term_within v ok b) g in
      both_plain _ _ (product_plain (rank_of a) _ (term_plain a h.0 parts.0)) (both_plain (operator_text op.Times) _ (plainly (operator_text op.Times) refl) (factor_plain (rank_of b) _ (term_plain b h.1 parts.1)))
  term_plain (Bin op.Plus a b) h g =
      let parts = and_parts (term_within v ok a) (term_within v ok b) g in
      both_plain _ _ (term_plain a h.0 parts.0) (both_plain (operator_text op.Plus) _ (plainly (operator_text op.Plus) refl) (product_plain (rank_of b) _ (term_plain b h.1 parts.1)))
  term_plain (Bin op.Minus a b) h g =
      let parts = and_parts (term_within v ok a) (term_within v ok b) g in
      both_plain _ _ (term_plain a h.0 parts.0) (both_plain (operator_text op.Minus) _ (plainly (operator_text op.Minus) refl) (product_plain (rank_of b) _ (term_plain b h.1 parts.1)))

  assigned_plain : (name : List ℕ) (e : Term) → is_name name ≡ true → IsOver known e → term_within v ok e ≡ true → IsPlain (name ++ (codes " = " ++ term_text w e))
  assigned_plain name e n h g = both_plain name _ (name_plain name n) (both_plain (codes " = ") (term_text w e) (plainly (codes " = ") refl) (term_plain e h g))

  test_plain : (t : Test) → IsOver known t.left → IsOver known t.right → term_within v ok t.left ≡ true → term_within v ok t.right ≡ true → IsPlain (test_text w t)
  test_plain t h i g j = both_plain _ _ (term_plain t.left h g) (both_plain _ _ (comparison_plain t.comparison) (term_plain t.right i j))

  -- the variable of a `let` is a name too
  abbrev LetsName : Command → Type 0
  LetsName (LetVar k e) = is_name (variable_name w k) ≡ true
  LetsName (SetTo r e) = Unit {0}
  LetsName (GiveOf e) = Unit {0}
  LetsName (Requires t code) = Unit {0}
  LetsName (When t b) = Unit {0}
  LetsName (Choice t a b) = Unit {0}
  LetsName (Loop n b) = Unit {0}

  condition_plain : (t : Test) → IsTestOver known t → (term_within v ok t.left ≡ true) × (term_within v ok t.right ≡ true) → IsPlain (test_text w t)
  condition_plain t h g = test_plain t h.0.0 h.1.0 g.0 g.1

  pub command_plain : (c : Command) → IsFirstOver known c → command_within v ok c → LetsName c → IsPlain (text_of w c)
  command_plain (LetVar k e) h g n = both_plain (codes "let ") _ (plainly (codes "let ") refl) (assigned_plain (variable_name w k) e n h.1.0 g)
  command_plain (SetTo r e) h g n = both_plain (codes "set ") _ (plainly (codes "set ") refl) (assigned_plain (w.record_name r) e (records r g.0) h.0 g.1)
  command_plain (GiveOf e) h g n = both_plain (codes "give ") _ (plainly (codes "give ") refl) (term_plain e h.0 g)
  command_plain (Requires t code) h g n =
      both_plain (codes "require ") _ (plainly (codes "require ") refl) (both_plain (test_text w t) _ (condition_plain t h.0 g) (both_plain (codes " else ") (fmt.decimal code) (plainly (codes " else ") refl) (number_plain code (let small = h.1 in omega arith))))
  command_plain (When t b) h g n = both_plain (codes "if ") _ (plainly (codes "if ") refl) (condition_plain t h g)
  command_plain (Choice t a b) h g n = both_plain (codes "if ") _ (plainly (codes "if ") refl) (condition_plain t h g)
  command_plain (Loop m b) h g n = both_plain (codes "repeat ") (fmt.decimal m) (plainly (codes "repeat ") refl) (number_plain m (omega arith))

-- and say something
pub command_says : (w : Words) (c : Command) → says_something (text_of w c) ≡ true
command_says w (LetVar k e) = refl
command_says w (SetTo r e) = refl
command_says w (GiveOf e) = refl
command_says w (Requires t code) = refl
command_says w (When t b) = refl
command_says w (Choice t a b) = refl
command_says w (Loop m b) = refl
