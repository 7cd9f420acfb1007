-- One more node, and the bytes of what waits.
use Rattle.std.proofs.Common.{◌≡◌, ◌≤◌, ℕ, ◌+◌, min, List, [], ◌∷◌, ◌++◌, length, sym, ap, ◌∙◌, arith, length-append, codes, take, suc, Some, slice_index_or, slice_set}
use Rattle.std.proofs.Math.Seq.{take-suc, take-suc-set}
use Rattle.std.proofs.lemmas.List.{take_all, length-set}
use Rattle.std.specs.Fmt.{decimal}
use Rattle.std.specs.Prelude.{slice_get, IsTrue, nat_le}
use Rattle.std.specs.List.{list_all}
use Rattle.std.proofs.lemmas.Bool.{and_parts, leb-true}
use Rattle.bottle_values.specs.Printed.{quoted}
use Rattle.bottle_values.specs.Texts.{is_text, is_text_byte, longest_text}
use Rattle.bottle_values.specs.ListLaws.{first_more}
use Rattle.session_meaning.specs.declared.node.Operator.{Operator}
use Rattle.session_meaning.specs.declared.node.Operator.TheVariants as op
use Rattle.session_meaning.specs.declared.node.Node.TheVariants.{Apply, Negate}
use Rattle.session_programs.specs.declared.rank.Rank.{Rank}
use Rattle.session_programs.specs.declared.rank.Rank.TheVariants.{Factor, Product, Sum}
use Rattle.session_meaning.specs.Tree.{Term, Bin, Test, When, Choice, Loop, Block}
use Rattle.session_meaning.specs.declared.node.Node.{Node}
use Rattle.session_meaning.specs.refinement.Postfix.{push_node, push_nodes, postfix, push_nodes-append, push_nodes-postfix}
use Rattle.session_programs.specs.Text.{Words, rank_of, term_text, factor_text, product_text, operator_text, test_text, line, command_text, block_text}
use Rattle.session_programs.specs.sizes.refinement.TextSizes.{ranks_of, bytes_of, around_factor, around_product, around_both}
use Rattle.session_programs.proofs.LastNode.{same_last}

pub factor_bytes : (r : Rank) (text : List ℕ) → length (factor_text r text) ≡ around_factor r + length text
factor_bytes Factor text = omega arith
factor_bytes Product text = omega (arith, length-append text (41 ∷ []))
factor_bytes Sum text = omega (arith, length-append text (41 ∷ []))

pub product_bytes : (r : Rank) (text : List ℕ) → length (product_text r text) ≡ around_product r + length text
product_bytes Factor text = omega arith
product_bytes Product text = omega arith
product_bytes Sum text = omega (arith, length-append text (41 ∷ []))

pub operation_bytes : (w : Words) (o : Operator) (a b : Term) →
    length (term_text w (Bin o a b)) ≡ 3 + around_both o (rank_of a) (rank_of b) + (length (term_text w a) + length (term_text w b))
operation_bytes w op.Plus a b =
    let x = length-append (term_text w a) (operator_text op.Plus ++ product_text (rank_of b) (term_text w b)) in
    let y = length-append (operator_text op.Plus) (product_text (rank_of b) (term_text w b)) in
    let z = product_bytes (rank_of b) (term_text w b) in omega arith
operation_bytes w op.Minus a b =
    let x = length-append (term_text w a) (operator_text op.Minus ++ product_text (rank_of b) (term_text w b)) in
    let y = length-append (operator_text op.Minus) (product_text (rank_of b) (term_text w b)) in
    let z = product_bytes (rank_of b) (term_text w b) in omega arith
operation_bytes w op.Times a b =
    let x = length-append (product_text (rank_of a) (term_text w a)) (operator_text op.Times ++ factor_text (rank_of b) (term_text w b)) in
    let y = length-append (operator_text op.Times) (factor_text (rank_of b) (term_text w b)) in
    let v = product_bytes (rank_of a) (term_text w a) in
    let z = factor_bytes (rank_of b) (term_text w b) in omega arith

-- a text with both its marks
pub quoted_bytes : (text : List ℕ) → length (quoted text) ≡ length text + 2
quoted_bytes text = omega (arith, length-append text (34 ∷ []))

pub few_bytes : (text : List ℕ) → IsTrue (is_text text) → length text ≤ 64
few_bytes text h = leb-true (length text) 64 (and_parts (nat_le (length text) longest_text) (list_all is_text_byte text) h).0

-- the last of some, as it stands and once another is in its place
pub last_replaced : (rs : List Rank) (k : ℕ) (r new : Rank) → length rs ≡ suc k → r ≡ slice_index_or rs k r → (rs ≡ take k rs ++ r ∷ []) × (slice_set rs k new ≡ take k rs ++ new ∷ [])
last_replaced rs k r new len is = (
  sym (take_all (suc k) rs (omega (arith, len))) ∙ take-suc rs k r (omega (arith, len)) ∙ ap (λ x. take k rs ++ x ∷ []) (sym is),
  sym (take_all (suc k) (slice_set rs k new) (omega (arith, len, length-set rs k new))) ∙ take-suc-set rs k new (omega (arith, len)),
)

-- a minus takes the last
pub signed : (w : Words) (r : Rank) (rest new old : List Rank) (size n : ℕ) → old ≡ rest ++ r ∷ [] → new ≡ rest ++ Factor ∷ [] → n ≡ min 16385 (size + (1 + around_factor r)) →
    (st : List Term) → old ≡ ranks_of st → size ≡ min 16385 (bytes_of w st) → (new ≡ ranks_of (push_node Negate st)) × (n ≡ min 16385 (bytes_of w (push_node Negate st)))
signed w r rest new old size n front back count [] h g =
    let none : [] ≡ rest ++ r ∷ [] = sym h ∙ front in
    let long = ap length none in
    let l = length-append rest (r ∷ []) in absurd (omega arith)
signed w r rest new old size n front back count (e ∷ st) h g =
    let one = same_last (ranks_of st) rest (rank_of e) r (sym h ∙ front) in
    let around : around_factor r ≡ around_factor (rank_of e) = ap around_factor (sym one.1) in
    let bytes = factor_bytes (rank_of e) (term_text w e) in
    (back ∙ ap (λ rs. rs ++ Factor ∷ []) (sym one.0), omega (arith, count, g, bytes, around))

-- an operator takes the last two
pub operated : (w : Words) (o : Operator) (left right over : Rank) (rest pushed old : List Rank) (size n : ℕ) → ((a b : Term) → over ≡ rank_of (Bin o a b)) →
    old ≡ (rest ++ left ∷ []) ++ right ∷ [] → pushed ≡ rest ++ over ∷ [] → n ≡ min 16385 (size + (3 + around_both o left right)) →
    (st : List Term) → old ≡ ranks_of st → size ≡ min 16385 (bytes_of w st) → (pushed ≡ ranks_of (push_node (Apply o) st)) × (n ≡ min 16385 (bytes_of w (push_node (Apply o) st)))
operated w o left right over rest pushed old size n is front back count [] h g =
    let none : [] ≡ (rest ++ left ∷ []) ++ right ∷ [] = sym h ∙ front in
    let long = ap length none in
    let l = length-append (rest ++ left ∷ []) (right ∷ []) in absurd (omega arith)
operated w o left right over rest pushed old size n is front back count (b ∷ []) h g =
    let one : [] ≡ rest ++ left ∷ [] = (same_last [] (rest ++ left ∷ []) (rank_of b) right (sym h ∙ front)).0 in
    let long = ap length one in
    let l = length-append rest (left ∷ []) in absurd (omega arith)
operated w o left right over rest pushed old size n is front back count (b ∷ a ∷ st) h g =
    let two = same_last (ranks_of st ++ rank_of a ∷ []) (rest ++ left ∷ []) (rank_of b) right (sym h ∙ front) in
    let one = same_last (ranks_of st) rest (rank_of a) left two.0 in
    let top : pushed ≡ ranks_of st ++ rank_of (Bin o a b) ∷ [] = back ∙ ap (λ rs. rs ++ over ∷ []) (sym one.0) ∙ ap (λ r. ranks_of st ++ r ∷ []) (is a b) in
    let around : around_both o left right ≡ around_both o (rank_of a) (rank_of b) = ap (around_both o left) (sym two.1) ∙ ap (λ l. around_both o l (rank_of b)) (sym one.1) in
    let e = operation_bytes w o a b in
    (top, omega (arith, count, g, e, around))

-- the lines of the statements with blocks
pub when_bytes : (w : Words) (t : Test) (b : Block) → length (command_text w (When t b)) ≡ 8 + (length (test_text w t) + length (block_text w b))
when_bytes w t b = omega (arith, length-append (line (codes "if " ++ test_text w t)) (block_text w b ++ line (codes "end")), length-append (codes "if " ++ test_text w t) (10 ∷ []), length-append (codes "if ") (test_text w t), length-append (block_text w b) (line (codes "end")))

pub choice_bytes : (w : Words) (t : Test) (a b : Block) → length (command_text w (Choice t a b)) ≡ 13 + (length (test_text w t) + (length (block_text w a) + length (block_text w b)))
choice_bytes w t a b = omega (
  arith,
  length-append (line (codes "if " ++ test_text w t)) (block_text w a ++ (line (codes "else") ++ (block_text w b ++ line (codes "end")))),
  length-append (codes "if " ++ test_text w t) (10 ∷ []),
  length-append (codes "if ") (test_text w t),
  length-append (block_text w a) (line (codes "else") ++ (block_text w b ++ line (codes "end"))),
  length-append (line (codes "else")) (block_text w b ++ line (codes "end")),
  length-append (block_text w b) (line (codes "end")),
)

pub loop_bytes : (w : Words) (n : ℕ) (b : Block) → length (command_text w (Loop n b)) ≡ 12 + (length (decimal n) + length (block_text w b))
loop_bytes w n b = omega (arith, length-append (line (codes "repeat " ++ decimal n)) (block_text w b ++ line (codes "end")), length-append (codes "repeat " ++ decimal n) (10 ∷ []), length-append (codes "repeat ") (decimal n), length-append (block_text w b) (line (codes "end")))

-- one more node
pub one_more : (w : Words) (nodes : List Node) (i n : ℕ) (node : Node) (ranks : List Rank) → slice_get nodes i ≡ Some node →
    ranks ≡ ranks_of (push_node node (push_nodes (take i nodes) [])) → n ≡ min 16385 (bytes_of w (push_node node (push_nodes (take i nodes) []))) →
    (n ≤ 16385) × ((ranks ≡ ranks_of (push_nodes (take (i + 1) nodes) [])) × (n ≡ min 16385 (bytes_of w (push_nodes (take (i + 1) nodes) []))))
one_more w nodes i n node ranks is f g =
    let more : push_node node (push_nodes (take i nodes) []) ≡ push_nodes (take (i + 1) nodes) [] =
    sym (push_nodes-append (take i nodes) (node ∷ []) []) ∙ ap (λ ns. push_nodes ns []) (sym (first_more nodes i node is)) in
    (omega (arith, g), (f ∙ ap ranks_of more, g ∙ ap (λ st. min 16385 (bytes_of w st)) more))

-- what the nodes of an expression leave
pub one_left : (w : Words) (e : Term) → bytes_of w (push_nodes (postfix e) []) ≡ length (term_text w e)
one_left w e = ap (bytes_of w) (push_nodes-postfix e []) ∙ omega arith
