-- A session with few nodes and statements is short, since each has a bounded text.
use Rattle.std.proofs.Common.{◌≡◌, ◌≤◌, ◌<◌, ◌+◌, ◌*◌, ℕ, ℤ, zero, suc, pos, negsuc, Bool, true, false, nat_lt, List, [], ◌∷◌, ◌++◌, length, All, IsTrue, codes, refl, arith, length-append, slice_index_or}
use Rattle.std.specs.Fmt.{decimal}
use Rattle.std.proofs.lemmas.Fmt.{length-decimal-le}
use Rattle.std.specs.Char.{is_ascii_alphabetic}
use Rattle.std.proofs.lemmas.Bool.{and_parts}
use Rattle.std.proofs.lemmas.Bool.Decides.{nat_tests}
use Rattle.bottle_values.specs.declared.Value.{Value}
use Rattle.bottle_values.specs.declared.Value.TheVariants.{Number, Text}
use Rattle.session_meaning.specs.refinement.TextBytes.{value_bytes}
use Rattle.text_lines.specs.Text.{is_name}
use Rattle.session_meaning.specs.declared.node.Operator.{Operator}
use Rattle.session_meaning.specs.declared.node.Operator.TheVariants as op
use Rattle.session_meaning.specs.declared.node.Comparison.{Comparison}
use Rattle.session_meaning.specs.declared.node.Comparison.TheVariants.{Equal, NotEqual, Less, AtMost, Greater, AtLeast}
use Rattle.session_programs.specs.declared.rank.Rank.{Rank}
use Rattle.session_programs.specs.declared.rank.Rank.TheVariants.{Factor, Product, Sum}
use Rattle.session_meaning.specs.Tree.{Term, Constant, Var, ReadOf, Neg, Bin, Test, Command, LetVar, SetTo, GiveOf, Requires, When, Choice, Loop, Block, Nothing, Then}
use Rattle.session_programs.specs.Program.{are_too_long}
use Rattle.session_programs.specs.measures.Measures.{block_cost, block_statements}
use Rattle.session_programs.specs.measures.refinement.Extent.{term_extent, test_extent, extent, block_extent}
use Rattle.session_programs.specs.WellFormed.{IsUnsigned, IsLiteral, IsOver, IsTestOver, IsStatementOver, known_after, known_after_block, AreStatements}
use Rattle.session_programs.specs.Text.{Words, magnitude, literal, variable_name, wide_words, rank_of, term_text, comparison_text, test_text, let_text, set_text, require_text, line, command_text, block_text, session_text}
use Rattle.session_programs.specs.sizes.refinement.TextSizes.{around_factor, around_product, around_both}
use Rattle.session_programs.proofs.sizes_lemmas.SizeStep.{factor_bytes, operation_bytes}

little_around : (r : Rank) → around_factor r ≤ 2
little_around Factor = omega arith
little_around Product = omega arith
little_around Sum = omega arith

little_around_product : (r : Rank) → around_product r ≤ 2
little_around_product Factor = omega arith
little_around_product Product = omega arith
little_around_product Sum = omega arith

little_around_both : (o : Operator) (left right : Rank) → around_both o left right ≤ 4
little_around_both op.Plus left right = let h = little_around_product right in omega arith
little_around_both op.Minus left right = let h = little_around_product right in omega arith
little_around_both op.Times left right = let h = little_around_product left in let g = little_around right in omega arith

short_sign : (c : Comparison) → length (comparison_text c) ≤ 4
short_sign Equal = omega arith
short_sign NotEqual = omega arith
short_sign Less = omega arith
short_sign AtMost = omega arith
short_sign Greater = omega arith
short_sign AtLeast = omega arith

short_number : (z : ℤ) → IsUnsigned z → length (decimal (magnitude z)) ≤ 19
short_number (pos n) h = length-decimal-le 19 n (omega arith) (omega arith) (omega arith)
short_number (negsuc n) h = absurd h

short_literal : (v : Value) → IsLiteral v → length (literal v) ≤ 19 + value_bytes v
short_literal (Number z) h = let s = short_number z h in omega (arith, s)
short_literal (Text t) h = omega (arith, length-append t (34 ∷ []))

past_names : (vs : List (List ℕ)) (k : ℕ) → length vs ≤ k → length (slice_index_or vs k []) ≤ 16
past_names [] k h = omega arith
past_names (v ∷ vs) zero h = absurd (omega arith)
past_names (v ∷ vs) (suc k) h = past_names vs k (omega arith)

short_word : (w : List ℕ) → is_name w ≡ true → length w ≤ 16
short_word [] h = omega arith
short_word (b ∷ bs) h = let le = (and_parts (is_ascii_alphabetic b) _ (and_parts _ _ h).0).1 in grind (arith, nat_tests)

short_name_by : (vs : List (List ℕ)) (k : ℕ) (there : Bool) → nat_lt k (length vs) ≡ there → All (λ v. IsTrue (is_name v)) vs → length (slice_index_or vs k []) ≤ 16
short_name_by vs k true e h = let at : k < length vs = grind (arith, nat_tests) in short_word (slice_index_or vs k []) (h k [] at)
short_name_by vs k false e h = past_names vs k (grind (arith, nat_tests))

short_name : (vs : List (List ℕ)) (k : ℕ) → All (λ v. IsTrue (is_name v)) vs → length (slice_index_or vs k []) ≤ 16
short_name vs k h = short_name_by vs k (nat_lt k (length vs)) refl h

module _ (vs : List (List ℕ)) (names : All (λ v. IsTrue (is_name v)) vs) where
  abbrev w : Words
  w = wide_words vs

  term : (known : ℕ) (e : Term) → IsOver known e → length (term_text w e) ≤ 21 * term_extent e
  term known (Constant v) h = let s = short_literal v h in omega arith
  term known (Var k) h = let s : length (term_text w (Var k)) ≤ 16 = short_name vs k names in omega arith
  term known (ReadOf r) h = omega arith
  term known (Neg e) h =
      let s = term known e h in let f = factor_bytes (rank_of e) (term_text w e) in let a = little_around (rank_of e) in omega arith
  term known (Bin o a b) h =
      let s = term known a h.0 in let t = term known b h.1 in
      let f = operation_bytes w o a b in let g = little_around_both o (rank_of a) (rank_of b) in omega arith

  test : (known : ℕ) (t : Test) → IsTestOver known t → length (test_text w t) ≤ 21 * test_extent t
  test known t h =
      let s = term known t.left h.0.0 in let r = term known t.right h.1.0 in let c = short_sign t.comparison in
      omega (arith, length-append (term_text w t.left) (comparison_text t.comparison ++ term_text w t.right), length-append (comparison_text t.comparison) (term_text w t.right))

  abbrev last_line : List ℕ
  last_line = line (codes "end")

  mutual
    command : (around known : ℕ) (c : Command) → IsStatementOver around known c → length (command_text w c) ≤ 24 * extent c
    command around known (LetVar k e) h =
        let s = term known e h.1.0 in let n : length (variable_name w k) ≤ 16 = short_name vs k names in
        omega (arith, length-append (let_text (variable_name w k) (term_text w e)) (10 ∷ []), length-append (codes "let ") (variable_name w k ++ (codes " = " ++ term_text w e)), length-append (variable_name w k) (codes " = " ++ term_text w e), length-append (codes " = ") (term_text w e))
    command around known (SetTo r e) h =
        let s = term known e h.0 in
        omega (arith, length-append (set_text (w.record_name r) (term_text w e)) (10 ∷ []), length-append (codes "set ") (w.record_name r ++ (codes " = " ++ term_text w e)), length-append (w.record_name r) (codes " = " ++ term_text w e), length-append (codes " = ") (term_text w e))
    command around known (GiveOf e) h =
        let s = term known e h.0 in
        omega (arith, length-append (codes "give " ++ term_text w e) (10 ∷ []), length-append (codes "give ") (term_text w e))
    command around known (Requires t code) h =
        let s = test known t h.0 in
        let d = length-decimal-le 5 code (omega arith) (omega (arith, h.1)) (omega (arith, h.1)) in
        omega (arith, length-append (require_text (test_text w t) code) (10 ∷ []), length-append (codes "require ") (test_text w t ++ (codes " else " ++ decimal code)), length-append (test_text w t) (codes " else " ++ decimal code), length-append (codes " else ") (decimal code))
    command around known (When t b) h =
        let s = test known t h.1 in
        let inner = block (suc around) known b h.2 in
        let head = length-append (codes "if " ++ test_text w t) (10 ∷ []) in let word = length-append (codes "if ") (test_text w t) in
        omega (arith, head, word, length-append (line (codes "if " ++ test_text w t)) (block_text w b ++ last_line), length-append (block_text w b) last_line)
    command around known (Choice t a b) h =
        let s = test known t h.1 in
        let first = block (suc around) known a h.2 in
        let second = block (suc around) (known_after_block known a) b h.3 in
        let head = length-append (codes "if " ++ test_text w t) (10 ∷ []) in let word = length-append (codes "if ") (test_text w t) in
        omega (
          arith,
          head,
          word,
          length-append (line (codes "if " ++ test_text w t)) (block_text w a ++ (line (codes "else") ++ (block_text w b ++ last_line))),
          length-append (block_text w a) (line (codes "else") ++ (block_text w b ++ last_line)),
          length-append (line (codes "else")) (block_text w b ++ last_line),
          length-append (block_text w b) last_line,
        )
    command around known (Loop n b) h =
        let d = length-decimal-le 5 n (omega arith) (omega (arith, h.1)) (omega (arith, h.1)) in
        let inner = block (suc around) known b h.2 in
        let head = length-append (codes "repeat " ++ decimal n) (10 ∷ []) in let word = length-append (codes "repeat ") (decimal n) in
        omega (arith, head, word, length-append (line (codes "repeat " ++ decimal n)) (block_text w b ++ last_line), length-append (block_text w b) last_line)

    block : (around known : ℕ) (b : Block) → AreStatements around known b → length (block_text w b) ≤ 24 * block_extent b
    block around known Nothing h = omega arith
    block around known (Then c rest) h =
        let s = command around known c h.0 in let t = block around (known_after known c) rest h.1 in
        omega (arith, length-append (command_text w c) (block_text w rest))

-- so one that has up to 681 needn't be measured
module _ (vs : List (List ℕ)) (body : Block) (names : All (λ v. IsTrue (is_name v)) vs) (h : AreStatements 0 0 body) (few : block_statements body ≤ 256) (cheap : block_cost body ≤ 10000) (little : block_extent body ≤ 681) where
  short : length (session_text (wide_words vs) body) ≤ 16384
  short =
      let s = block vs names 0 0 body h in
      omega (arith, length-append (line (codes "session " ++ codes "0123456789abcdef")) (block_text (wide_words vs) body ++ line (codes "end")), length-append (block_text (wide_words vs) body) (line (codes "end")))

  pub short_by_extent : are_too_long vs body ≡ false
  short_by_extent =
      let a : nat_lt 256 (block_statements body) ≡ false = grind (arith, nat_tests) in
      let b : nat_lt 10000 (block_cost body) ≡ false = grind (arith, nat_tests) in
      let c : nat_lt 16384 (length (session_text (wide_words vs) body)) ≡ false = let s = short in grind (arith, nat_tests) in
      rw (a, b, c) refl
