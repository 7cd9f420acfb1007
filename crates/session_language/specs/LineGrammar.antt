-- The grammar of a line: which pieces are which form.
use Rattle.std.specs.Prelude.{◌≡◌, ◌<◌, ◌≤◌, ℕ, List, [], ◌∷◌, ◌++◌, Some, true, codes}
use Rattle.text_lines.specs.Text.{is_name, number_of}
use Rattle.bottle_values.specs.Texts.{is_text}
use Rattle.bottle_values.specs.declared.version.Version.{Version}
use Rattle.bottle_values.specs.declared.version.Version.TheVariants.{Two}
use Rattle.session_meaning.specs.declared.node.Comparison.{Comparison}
use Rattle.session_language.specs.declared.lexer.Symbol.{Symbol}
use Rattle.session_language.specs.declared.lexer.Symbol.TheVariants as symbol
use Rattle.session_language.specs.Lexer.{Piece, AWord, ASymbol, AQuoted}
use Rattle.session_language.specs.Spelling.{ANumber, AText, AVariable, ARecord, Token, Leaf}
use Rattle.session_language.specs.Grammar.{IsExpr}
use Rattle.session_language.specs.Phrase.{Phrase, expression_symbol}
use Rattle.session_language.specs.Form.{Lets, Sets, Gives, Demands, Asks, Repeats, Form, Opens, Says, Otherwise, Closes, comparison_of, form_of}
use Rattle.session_programs.specs.Limits.{codes_end, most_turns}

-- the pieces of an expression, and its tokens: NUMBER, NAME, read NAME, TEXT under version 2 alone, and signs
pub data AreTokens (v : Version) : List Piece → List Token → Type 0 where
  nothing : AreTokens v [] []
  number : (w : List ℕ) (n : ℕ) (ps : List Piece) (ts : List Token) → number_of w ≡ Some n → AreTokens v ps ts → AreTokens v (AWord w ∷ ps) (Leaf (ANumber n) ∷ ts)
  variable : (w : List ℕ) (ps : List Piece) (ts : List Token) → is_name w ≡ true → AreTokens v ps ts → AreTokens v (AWord w ∷ ps) (Leaf (AVariable w) ∷ ts)
  value_of : (w : List ℕ) (ps : List Piece) (ts : List Token) → is_name w ≡ true → AreTokens v ps ts → AreTokens v (AWord (codes "read") ∷ AWord w ∷ ps) (Leaf (ARecord w) ∷ ts)
  text : (bytes : List ℕ) (ps : List Piece) (ts : List Token) → v ≡ Two → is_text bytes ≡ true → AreTokens v ps ts → AreTokens v (AQuoted bytes ∷ ps) (Leaf (AText bytes) ∷ ts)
  sign : (s : Symbol) (t : Token) (ps : List Piece) (ts : List Token) → expression_symbol s ≡ Some t → AreTokens v ps ts → AreTokens v (ASymbol s ∷ ps) (t ∷ ts)

-- an EXPRESSION, whose tokens spell this tree, this deep
pub record IsPhrase (v : Version) (ps : List Piece) (e : Phrase) : Type 0 where
  pub tokens : AreTokens v ps e.tokens
  pub grammar : IsExpr e.tokens e.tree e.depth

-- session NAME, let NAME = EXPRESSION, set NAME = EXPRESSION, give EXPRESSION,
-- require EXPRESSION COMPARISON EXPRESSION else CODE, if EXPRESSION COMPARISON EXPRESSION, repeat COUNT, else, or end
pub data IsForm (v : Version) : List Piece → Form → Type 0 where
  opens : (name : List ℕ) → is_name name ≡ true → IsForm v (AWord (codes "session") ∷ AWord name ∷ []) (Opens name)
  lets : (name : List ℕ) (ps : List Piece) (e : Phrase) → is_name name ≡ true → IsPhrase v ps e → IsForm v (AWord (codes "let") ∷ AWord name ∷ ASymbol symbol.Assign ∷ ps) (Says (Lets name e))
  sets : (name : List ℕ) (ps : List Piece) (e : Phrase) → is_name name ≡ true → IsPhrase v ps e → IsForm v (AWord (codes "set") ∷ AWord name ∷ ASymbol symbol.Assign ∷ ps) (Says (Sets name e))
  gives : (ps : List Piece) (e : Phrase) → IsPhrase v ps e → IsForm v (AWord (codes "give") ∷ ps) (Says (Gives e))
  demands : (ps qs : List Piece) (left right : Phrase) (s : Symbol) (c : Comparison) (word : List ℕ) (code : ℕ) → IsPhrase v ps left → comparison_of s ≡ Some c → IsPhrase v qs right
      → number_of word ≡ Some code → code < codes_end → IsForm v (AWord (codes "require") ∷ (ps ++ ASymbol s ∷ (qs ++ AWord (codes "else") ∷ AWord word ∷ []))) (Says (Demands left c right code))
  asks : (ps qs : List Piece) (left right : Phrase) (s : Symbol) (c : Comparison) → IsPhrase v ps left → comparison_of s ≡ Some c → IsPhrase v qs right
      → IsForm v (AWord (codes "if") ∷ (ps ++ ASymbol s ∷ qs)) (Says (Asks left c right))
  repeats : (word : List ℕ) (turns : ℕ) → number_of word ≡ Some turns → turns ≤ most_turns → IsForm v (AWord (codes "repeat") ∷ AWord word ∷ []) (Says (Repeats turns))
  otherwise : IsForm v (AWord (codes "else") ∷ []) Otherwise
  closes : IsForm v (AWord (codes "end") ∷ []) Closes

-- a line is read as a form exactly where the grammar has it
pub record IsReadAs (v : Version) (ps : List Piece) (f : Form) : Type 0 where
  pub read : IsForm v ps f → form_of v ps ≡ Some f
  pub is : form_of v ps ≡ Some f → IsForm v ps f

-- so it is with every line
abbrev pub ReadsTheForms : Type 0
ReadsTheForms = (v : Version) (ps : List Piece) (f : Form) → IsReadAs v ps f
