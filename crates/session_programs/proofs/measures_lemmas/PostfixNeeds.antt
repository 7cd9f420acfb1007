-- The records that an expression needs are those of its nodes, one after another.
use Rattle.std.proofs.Common.{◌≡◌, ℕ, ◌+◌, List, [], ◌∷◌, ◌++◌, drop, Some, refl, sym, ap, ◌∙◌}
use Rattle.std.specs.Prelude.{slice_get}
use Rattle.std.proofs.lemmas.List.{drop_more}
use Rattle.std.proofs.lemmas.Option.{slice_get_within, get_or_from_slice_get}
use Rattle.bottle_values.specs.declared.Value.TheVariants as bottle
use Rattle.session_meaning.specs.declared.part.Part.{Part}
use Rattle.session_meaning.specs.declared.part.Part.TheVariants as part
use Rattle.session_meaning.specs.refinement.NodeParts.{IsPart}
use Rattle.session_meaning.specs.declared.node.Node.{Node}
use Rattle.session_meaning.specs.declared.node.Node.TheVariants.{Literal, Variable, Read, Negate, Apply}
use Rattle.session_meaning.specs.Tree.{Term, Constant, Var, ReadOf, Neg, Bin}
use Rattle.session_meaning.specs.refinement.Postfix.{postfix}
use Rattle.session_programs.specs.measures.Needs.{with_record, term_needs, nodes_needs}

nodes_needs-append : (xs ys : List Node) (rs : List ℕ) → nodes_needs (xs ++ ys) rs ≡ nodes_needs ys (nodes_needs xs rs)
nodes_needs-append [] ys rs = refl
nodes_needs-append (Literal v ∷ xs) ys rs = nodes_needs-append xs ys rs
nodes_needs-append (Variable k ∷ xs) ys rs = nodes_needs-append xs ys rs
nodes_needs-append (Read r ∷ xs) ys rs = nodes_needs-append xs ys (with_record r rs)
nodes_needs-append (Negate ∷ xs) ys rs = nodes_needs-append xs ys rs
nodes_needs-append (Apply o ∷ xs) ys rs = nodes_needs-append xs ys rs

pub nodes_needs_are : (e : Term) (rs : List ℕ) → nodes_needs (postfix e) rs ≡ term_needs e rs
nodes_needs_are (Constant v) rs = refl
nodes_needs_are (Var k) rs = refl
nodes_needs_are (ReadOf r) rs = refl
nodes_needs_are (Neg e) rs = nodes_needs-append (postfix e) (Negate ∷ []) rs ∙ nodes_needs_are e rs
nodes_needs_are (Bin o a b) rs =
    nodes_needs-append (postfix a) (postfix b ++ Apply o ∷ []) rs ∙ ap (nodes_needs (postfix b ++ Apply o ∷ [])) (nodes_needs_are a rs)
    ∙ nodes_needs-append (postfix b) (Apply o ∷ []) (term_needs a rs) ∙ nodes_needs_are b (term_needs a rs)

at_place : (ns : List Node) (i : ℕ) (n : Node) → slice_get ns i ≡ Some n → drop i ns ≡ n ∷ drop (i + 1) ns
at_place ns i n h = drop_more ns i n (slice_get_within ns i n h) ∙ ap (λ m. m ∷ drop (i + 1) ns) (get_or_from_slice_get ns i n n h)

-- the needs so far, once one more node has come that reads a record
pub read_next : (ns : List Node) (i r : ℕ) (rs more all : List ℕ) → IsPart (slice_get ns i) (part.Read r) → more ≡ with_record r rs → nodes_needs (drop i ns) rs ≡ all → nodes_needs (drop (i + 1) ns) more ≡ all
read_next ns i r rs more all h e so_far = ap (nodes_needs (drop (i + 1) ns)) e ∙ ap (λ l. nodes_needs l rs) (sym (at_place ns i (Read r) h)) ∙ so_far

-- and one that reads none
pub other_next : (ns : List Node) (i : ℕ) (p : Part) (rs more all : List ℕ) → IsPart (slice_get ns i) p → ((r : ℕ) → p ≡ part.Read r → ⊥) → more ≡ rs → nodes_needs (drop i ns) rs ≡ all → nodes_needs (drop (i + 1) ns) more ≡ all
other_next ns i p rs more all h no_read e so_far = ap (nodes_needs (drop (i + 1) ns)) e ∙ go p h no_read ∙ so_far
  where
    go : (p : Part) → IsPart (slice_get ns i) p → ((r : ℕ) → p ≡ part.Read r → ⊥) → nodes_needs (drop (i + 1) ns) rs ≡ nodes_needs (drop i ns) rs
    go (part.Number z) h no_read = ap (λ l. nodes_needs l rs) (sym (at_place ns i (Literal (bottle.Number z)) h))
    go part.Text h no_read = ap (λ l. nodes_needs l rs) (sym (at_place ns i (Literal (bottle.Text h.0)) h.1))
    go (part.Variable k) h no_read = ap (λ l. nodes_needs l rs) (sym (at_place ns i (Variable k) h))
    go (part.Read r) h no_read = absurd (no_read r refl)
    go part.Negate h no_read = ap (λ l. nodes_needs l rs) (sym (at_place ns i Negate h))
    go (part.Apply o) h no_read = ap (λ l. nodes_needs l rs) (sym (at_place ns i (Apply o) h))
