-- A session's text is no longer under a plan than where each name counts as 16 bytes.
use Rattle.std.proofs.Common.{◌≡◌, ◌≤◌, ℕ, List, [], ◌∷◌, ◌++◌, length, Option, Some, None, codes, unwrap_or, option_map, refl, ap, arith, length-append}
use Rattle.std.specs.Fmt as fmt
use Rattle.std.specs.Prelude.{slice_get}
use Rattle.office_map.specs.declared.entries.OfficeEntry.{OfficeEntry}
use Rattle.office_map.specs.declared.entries.RecordEntry.{RecordEntry}
use Rattle.office_map.specs.PlanValue.{PlanValue}
use Rattle.office_map.specs.Consistency.{IsConsistent}
use Rattle.session_meaning.specs.declared.node.Operator.TheVariants as op
use Rattle.session_programs.specs.declared.rank.Rank.{Rank}
use Rattle.session_programs.specs.declared.rank.Rank.TheVariants.{Factor, Product, Sum}
use Rattle.session_meaning.specs.Tree.{Term, Constant, Var, ReadOf, Neg, Bin, Test, Command, LetVar, SetTo, GiveOf, Requires, When, Choice, Loop, Block, Nothing, Then}
use Rattle.session_meaning.specs.ProgramValue.{ProgramValue}
use Rattle.session_programs.specs.Program.{words_under, text_under}
use Rattle.session_programs.specs.Text.{Words, literal, variable_name, in_parentheses, factor_text, product_text, rank_of, operator_text, comparison_text, term_text, test_text, line, command_text, block_text, session_text, wide_words}
use Rattle.session_language.proofs.canonical.Lexemes.{name_bytes}
use Rattle.session_language.proofs.canonical.NameResolution.{record_is_named, office_is_named}

record IsShorter (xs ys : List ℕ) : Type 0 where
  le : length xs ≤ length ys

same : (xs : List ℕ) → IsShorter xs xs
same xs = record { le = omega arith }

join : (us xs bs ys : List ℕ) → IsShorter us bs → IsShorter xs ys → IsShorter (us ++ xs) (bs ++ ys)
join us xs bs ys h g = let a = h.le in let x = g.le in record { le = omega (arith, length-append us xs, length-append bs ys) }

after : (us xs ys : List ℕ) → IsShorter xs ys → IsShorter (us ++ xs) (us ++ ys)
after us xs ys h = join us xs us ys (same us) h

before : (us bs xs : List ℕ) → IsShorter us bs → IsShorter (us ++ xs) (bs ++ xs)
before us bs xs h = join us xs bs xs h (same xs)

enclosed : (xs ys : List ℕ) → IsShorter xs ys → IsShorter (in_parentheses xs) (in_parentheses ys)
enclosed xs ys h = after (40 ∷ []) (xs ++ 41 ∷ []) (ys ++ 41 ∷ []) (before xs ys (41 ∷ []) h)

factor : (r : Rank) (xs ys : List ℕ) → IsShorter xs ys → IsShorter (factor_text r xs) (factor_text r ys)
factor Factor xs ys h = h
factor Product xs ys h = enclosed xs ys h
factor Sum xs ys h = enclosed xs ys h

product : (r : Rank) (xs ys : List ℕ) → IsShorter xs ys → IsShorter (product_text r xs) (product_text r ys)
product Factor xs ys h = h
product Product xs ys h = h
product Sum xs ys h = enclosed xs ys h

-- the same variables, and shorter names of the office and the records
module _ (v w : Words) (office : IsShorter v.office w.office) (variables : v.variables ≡ w.variables) (records : (r : ℕ) → IsShorter (v.record_name r) (w.record_name r)) where
  same_name : (k : ℕ) → IsShorter (variable_name v k) (variable_name w k)
  same_name k = let e : length (variable_name v k) ≡ length (variable_name w k) = ap (λ vs. length (variable_name (record { office = []; variables = vs; record_name = λ r. [] }) k)) variables in record { le = omega arith }

  term : (e : Term) → IsShorter (term_text v e) (term_text w e)
  term (Constant c) = same (literal c)
  term (Var k) = same_name k
  term (ReadOf r) = after (codes "read ") _ _ (records r)
  term (Neg e) = after (45 ∷ []) _ _ (factor (rank_of e) _ _ (term e))
  term (Bin op.Times a b) = join _ _ _ _ (product (rank_of a) _ _ (term a)) (after (operator_text op.Times) _ _ (factor (rank_of b) _ _ (term b)))
  term (Bin op.Plus a b) = join _ _ _ _ (term a) (after (operator_text op.Plus) _ _ (product (rank_of b) _ _ (term b)))
  term (Bin op.Minus a b) = join _ _ _ _ (term a) (after (operator_text op.Minus) _ _ (product (rank_of b) _ _ (term b)))

  test : (t : Test) → IsShorter (test_text v t) (test_text w t)
  test t = join _ _ _ _ (term t.left) (after (comparison_text t.comparison) _ _ (term t.right))

  ended : (xs ys : List ℕ) → IsShorter xs ys → IsShorter (line xs) (line ys)
  ended xs ys h = before xs ys (10 ∷ []) h

  mutual
    command : (c : Command) → IsShorter (command_text v c) (command_text w c)
    command (LetVar k e) = ended _ _ (after (codes "let ") _ _ (join _ _ _ _ (same_name k) (after (codes " = ") _ _ (term e))))
    command (SetTo r e) = ended _ _ (after (codes "set ") _ _ (join _ _ _ _ (records r) (after (codes " = ") _ _ (term e))))
    command (GiveOf e) = ended _ _ (after (codes "give ") _ _ (term e))
    command (Requires t code) = ended _ _ (after (codes "require ") _ _ (before _ _ (codes " else " ++ fmt.decimal code) (test t)))
    command (When t b) = join _ _ _ _ (ended _ _ (after (codes "if ") _ _ (test t))) (before _ _ (line (codes "end")) (block b))
    command (Choice t a b) = join _ _ _ _ (ended _ _ (after (codes "if ") _ _ (test t))) (join _ _ _ _ (block a) (after (line (codes "else")) _ _ (before _ _ (line (codes "end")) (block b))))
    command (Loop n b) = after (line (codes "repeat " ++ fmt.decimal n)) _ _ (before _ _ (line (codes "end")) (block b))

    block : (b : Block) → IsShorter (block_text v b) (block_text w b)
    block Nothing = same []
    block (Then c rest) = join _ _ _ _ (command c) (block rest)

  session : (b : Block) → IsShorter (session_text v b) (session_text w b)
  session b = join _ _ _ _ (ended _ _ (after (codes "session ") _ _ office)) (before _ _ (line (codes "end")) (block b))

-- a name of a plan has at most 16 bytes
module _ (p : PlanValue) (ok : IsConsistent p) where
  record_short : (r : ℕ) (o : Option RecordEntry) → slice_get p.records r ≡ o → length (unwrap_or (option_map (λ (e : RecordEntry). e.name) o) []) ≤ 16
  record_short r None h = omega arith
  record_short r (Some e) h = (name_bytes e.name (record_is_named p ok r e h)).short

  office_short : (k : ℕ) (o : Option OfficeEntry) → slice_get p.offices k ≡ o → length (unwrap_or (option_map (λ (e : OfficeEntry). e.name) o) []) ≤ 16
  office_short k None h = omega arith
  office_short k (Some e) h = (name_bytes e.name (office_is_named p ok k e h)).short

  pub text_is_short : (x : ProgramValue) → length (text_under p x) ≤ length (session_text (wide_words x.variables) x.body)
  text_is_short x =
      (session (words_under p x) (wide_words x.variables)
      (record { le = let h = office_short x.office (slice_get p.offices x.office) refl in omega arith })
      refl
      (λ r. record { le = let h = record_short r (slice_get p.records r) refl in omega arith }) x.body).le
