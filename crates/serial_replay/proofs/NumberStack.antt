-- An expression worked out on numbers: the stack's values are those of numbers.
use Rattle.std.proofs.Common.{◌≡◌, ℕ, ◌+◌, ◌-◌, ◌<◌, ◌≤◌, List, ◌∷◌, length, map, drop, get_or, set, slice_get, Some, Ok, refl, sym, ap, subst, ◌∙◌, arith}
use Rattle.std.proofs.lemmas.List.{map-set, length-map, get_or-map, drop_more}
use Rattle.std.proofs.lemmas.Option.{slice_get_within, get_or_from_slice_get}
use Rattle.std.specs.List.{slice_index_or}
use Rattle.std.specs.Prelude.{ℤ, pos}
use Rattle.bottle_values.specs.declared.Value.{Value}
use Rattle.bottle_values.specs.declared.Value.TheVariants.{Number}
use Rattle.bottle_values.specs.Operations.{nought, opposite}
use Rattle.session_meaning.specs.declared.node.Node.{Node}
use Rattle.session_meaning.specs.declared.node.Node.TheVariants.{Literal, Variable, Read, Negate, Apply}
use Rattle.session_meaning.specs.declared.node.Operator.{Operator}
use Rattle.session_meaning.specs.Tree.{Term}
use Rattle.session_meaning.specs.refinement.Postfix.{postfix}
use Rattle.session_meaning.specs.Meaning.{Environment, value_in, apply}
use Rattle.session_programs.specs.WellFormed.{depth}
use Rattle.session_programs.specs.Limits.{most_depth}
use Rattle.serial_replay.proofs.StackEvaluation.{IsSoFar, begun, literal_put, variable_put, record_put, negated_top, combined_top}

pub begun_numbers : (d : Environment) (e : Term) (nodes : List Node) (zs : List ℤ) → nodes ≡ postfix e → depth e ≤ most_depth → length zs ≡ most_depth → IsSoFar d e nodes (Number (pos 0)) (map Number zs) 0
begun_numbers d e nodes zs is h whole = begun d e nodes (Number (pos 0)) (map Number zs) is refl h (length-map zs Number ∙ whole)

-- the node at a place, and those after it
at_place : (ns : List Node) (i : ℕ) (n : Node) → slice_get ns i ≡ Some n → drop i ns ≡ n ∷ drop (i + 1) ns
at_place ns i n h = drop_more ns i n (slice_get_within ns i n h) ∙ ap (λ m. m ∷ drop (i + 1) ns) (get_or_from_slice_get ns i n n h)

module _ (d : Environment) (e : Term) (ns : List Node) (i : ℕ) (y : ℤ) (zs : List ℤ) (k : ℕ) where
  -- the top is a number, and so are those below
  abbrev IsBefore : Type 0
  IsBefore = IsSoFar d e (drop i ns) (Number y) (map Number zs) k

  abbrev IsAfter : ℤ → List ℤ → ℕ → Type 0
  IsAfter z after n = IsSoFar d e (drop (i + 1) ns) (Number z) (map Number after) n

  now : (n : Node) → IsBefore → slice_get ns i ≡ Some n → IsSoFar d e (n ∷ drop (i + 1) ns) (Number y) (map Number zs) k
  now n h at = subst (λ l. IsSoFar d e l (Number y) (map Number zs) k) (at_place ns i n at) h

  -- an operand finds room
  pub literal_room : (z : ℤ) → IsBefore → slice_get ns i ≡ Some (Literal (Number z)) → k < most_depth
  literal_room z h at = (now (Literal (Number z)) h at).room.0

  pub variable_room : (place : ℕ) → IsBefore → slice_get ns i ≡ Some (Variable place) → k < most_depth
  variable_room place h at = (now (Variable place) h at).room.0

  pub record_room : (r : ℕ) → IsBefore → slice_get ns i ≡ Some (Read r) → k < most_depth
  record_room r h at = (now (Read r) h at).room.0

  -- an operator finds a left operand
  pub operator_room : (o : Operator) → IsBefore → slice_get ns i ≡ Some (Apply o) → 0 < k
  operator_room o h at = (now (Apply o) h at).room.0

  -- what is put on top, with the old top below
  put : (v : Value) (z t : ℤ) (after : List ℤ) (n : ℕ) → v ≡ Number z → t ≡ z → after ≡ set zs k y → n ≡ k + 1 → IsSoFar d e (drop (i + 1) ns) v (set (map Number zs) k (Number y)) (k + 1) → IsAfter t after n
  put v z t after n is top below more h =
      let moved = subst (λ l. IsSoFar d e (drop (i + 1) ns) v l (k + 1)) (sym (map-set Number zs k y)) h in
      let numbered = subst (λ u. IsSoFar d e (drop (i + 1) ns) u (map Number (set zs k y)) (k + 1)) is moved in
      let topped = subst (λ x. IsSoFar d e (drop (i + 1) ns) (Number x) (map Number (set zs k y)) (k + 1)) (sym top) numbered in
      let kept = subst (λ l. IsSoFar d e (drop (i + 1) ns) (Number t) (map Number l) (k + 1)) (sym below) topped in
      subst (λ m. IsSoFar d e (drop (i + 1) ns) (Number t) (map Number after) m) (sym more) kept

  pub literal_number : (z t : ℤ) (after : List ℤ) (n : ℕ) → IsBefore → slice_get ns i ≡ Some (Literal (Number z)) → t ≡ z → after ≡ set zs k y → n ≡ k + 1 → IsAfter t after n
  literal_number z t after n h at top below more =
      put (Number z) z t after n refl top below more (literal_put d e (drop (i + 1) ns) (Number y) (Number z) (map Number zs) k (now (Literal (Number z)) h at))

  pub variable_number : (place : ℕ) (z t : ℤ) (after : List ℤ) (n : ℕ) → IsBefore → slice_get ns i ≡ Some (Variable place) → slice_index_or d.variables place nought ≡ Number z → t ≡ z → after ≡ set zs k y → n ≡ k + 1 → IsAfter t after n
  variable_number place z t after n h at is top below more =
      put _ z t after n is top below more (variable_put d e (drop (i + 1) ns) (Number y) place (map Number zs) k (now (Variable place) h at))

  pub record_number : (r : ℕ) (z t : ℤ) (after : List ℤ) (n : ℕ) → IsBefore → slice_get ns i ≡ Some (Read r) → value_in d.slots r ≡ Number z → t ≡ z → after ≡ set zs k y → n ≡ k + 1 → IsAfter t after n
  record_number r z t after n h at is top below more =
      put _ z t after n is top below more (record_put d e (drop (i + 1) ns) (Number y) r (map Number zs) k (now (Read r) h at))

  pub negated_number : (z t : ℤ) (after : List ℤ) (n : ℕ) → IsBefore → slice_get ns i ≡ Some Negate → Ok (Number z) ≡ opposite (Number y) → t ≡ z → after ≡ zs → n ≡ k → IsAfter t after n
  negated_number z t after n h at is top below same =
      rw (top, below, same) (negated_top d e (drop (i + 1) ns) (Number y) (Number z) (map Number zs) k (now Negate h at) (sym is))

  -- the left operand
  below : (o : Operator) (x : ℤ) → IsSoFar d e (Apply o ∷ drop (i + 1) ns) (Number y) (map Number zs) k → get_or (map Number zs) (k - 1) (Number x) ≡ Number (get_or zs (k - 1) x)
  below o x h = get_or-map Number zs (k - 1) x (Number x) (omega (arith, h.room.0, h.few, h.whole, length-map zs Number))

  pub combined_number : (o : Operator) (x z t : ℤ) (after : List ℤ) (n : ℕ) → IsBefore → slice_get ns i ≡ Some (Apply o) → Ok (Number z) ≡ apply o (Number (get_or zs (k - 1) x)) (Number y) → t ≡ z → after ≡ zs → n ≡ k - 1 → IsAfter t after n
  combined_number o x z t after n h at is top same less =
      let here = now (Apply o) h at in
      rw (top, same, less) (combined_top d e (drop (i + 1) ns) o (Number y) (Number x) (Number z) (map Number zs) k here (ap (λ v. apply o v (Number y)) (below o x here) ∙ sym is))
