-- What is read of a line is well formed, and stays so in a session.
use Rattle.std.proofs.Common.{◌≡◌, ◌≢◌, ◌<◌, ◌≤◌, ℕ, suc, max, List, [], ◌∷◌, ◌++◌, length, get_or, Bool, true, false, not, ◌&&◌, ◌||◌, nat_lt, cond, Option, Some, None, is_some, IfSome, IfOk, Ok, unwrap_or, refl, sym, ◌∙◌, subst, arith, length-append}
use Rattle.std.specs.Prelude.{All, AllPairs, IsTrue}
use Rattle.std.specs.List.{list_all, position, position_or_len}
use Rattle.std.specs.Option.{ok_or}
use Rattle.std.specs.Str.{bytes_eq}
use Rattle.std.proofs.lemmas.Bool.{and_parts, both_ways}
use Rattle.std.proofs.lemmas.Bool.Decides.{nat_tests}
use Rattle.std.proofs.lemmas.List.Elements.{All-push}
use Rattle.std.proofs.lemmas.List.Folds.{list_all-append}
use Rattle.std.proofs.lemmas.List.Quantifiers.{all_pairs_push}
use Rattle.std.proofs.lemmas.List.Sums.{fails_before_first}
use Rattle.std.proofs.lemmas.Slice.Eq.{bytes_eq-Decides}
use Rattle.office_map.specs.PlanText.{◌>>=◌}
use Rattle.text_lines.specs.Text.{is_name}
use Rattle.bottle_values.specs.declared.Value.TheVariants.{Text}
use Rattle.bottle_values.specs.Texts.{is_text}
use Rattle.bottle_values.specs.Versions.{admits}
use Rattle.session_language.specs.declared.keyword.Keyword.{Keyword}
use Rattle.session_language.specs.declared.fault.SessionRule.TheVariants.{Syntax, UnknownName, UnknownRecord, TooDeep}
use Rattle.session_language.specs.Spelling.{Operand, ANumber, AText, AVariable, ARecord, Spelled, Plain, Token, Plus, Minus, Times, Close}
use Rattle.session_language.specs.Grammar.{IsFactor, IsProduct, IsExpr, operand, negative, enclosed, one, star, alone, plus, minus}
use Rattle.session_language.specs.Lexer.{Piece}
use Rattle.session_language.specs.Names.{Scope, variable_named, knows_variable, token_variable, knows_variables, placed}
use Rattle.session_language.specs.Phrase.{Phrase}
use Rattle.session_language.specs.Form.{Said, Lets, Sets, Gives, Demands, Asks, Repeats, said_after}
use Rattle.session_language.specs.Reading.{Spoken, spoken_of, are_variables_known, are_records_known, is_too_deep, speak, with_variable, place_of}
use Rattle.session_language.specs.refinement.ResolvedStatements.{spoken_after}
use Rattle.session_programs.specs.WellFormed.{IsOver, IsExpressionOver}
use Rattle.session_language.specs.refinement.KeptDraft.{IsSpokenOver}
use Rattle.session_language.proofs.session_reading.LiteralRanges.{operand_fits, token_fits, tokens_fit}
use Rattle.session_language.proofs.canonical.Tokens.{expr_least}
use Rattle.session_language.proofs.Places.{place_there, place_new}
use Rattle.session_language.proofs.session_reading.ProgramsFit.{IsRead, IsSaid, said_is, past, not_not, both_left, both_right, true_is}

-- a place is one of the list
inside : (k n i : ℕ) → cond (nat_lt k n) (Some k) None ≡ Some i → i < n
inside k n i h = by_test (nat_lt k n) refl h
  where
    by_test : (b : Bool) → nat_lt k n ≡ b → cond b (Some k) None ≡ Some i → i < n
    by_test true e f = let same : k ≡ i = (cc) in grind (e, same, arith, nat_tests)
    by_test false e f = (cc)

module _ (s : Scope) where
  abbrev known : ℕ
  known = length s.variables

  variable_within : (o : Option ℕ) → ((k : ℕ) → o ≡ Some k → k < known) → is_some o ≡ true → unwrap_or o 0 < known
  variable_within (Some k) h e = h k refl
  variable_within None h e = (cc)

  operand_over : (x : Operand) → operand_fits s.plan.version x ≡ true → knows_variable s x ≡ true → IsOver known (placed s (Plain x))
  operand_over (ANumber n) f h = grind (f, arith, nat_tests)
  operand_over (AText t) f h = true_is (is_text t) (both_left (is_text t) (admits s.plan.version (Text t)) f)
  operand_over (AVariable name) f h =
      variable_within (variable_named s name) (λ k e. inside (position_or_len (λ v. bytes_eq v name) s.variables) known k e) h
  operand_over (ARecord name) f h = tt

  -- what is asked of each token
  abbrev Good : List Token → Type 0
  Good ts = (knows_variables s ts ≡ true) × tokens_fit s.plan.version ts

  front : (ts us : List Token) → Good (ts ++ us) → Good ts
  front ts us h = (
    both_left (knows_variables s ts) (knows_variables s us) (sym (list_all-append (token_variable s) ts us) ∙ h.0),
    both_left (list_all (token_fits s.plan.version) ts) (list_all (token_fits s.plan.version) us) (sym (list_all-append (token_fits s.plan.version) ts us) ∙ h.1),
  )

  back : (ts : List Token) (t : Token) (us : List Token) → Good (ts ++ t ∷ us) → Good us
  back ts t us h = (
    both_right (token_variable s t) (knows_variables s us) (both_right (knows_variables s ts) (knows_variables s (t ∷ us)) (sym (list_all-append (token_variable s) ts (t ∷ us)) ∙ h.0)),
    both_right (token_fits s.plan.version t) (list_all (token_fits s.plan.version) us) (both_right (list_all (token_fits s.plan.version) ts) (list_all (token_fits s.plan.version) (t ∷ us)) (sym (list_all-append (token_fits s.plan.version) ts (t ∷ us)) ∙ h.1)),
  )

  mutual
    factor_over : (ts : List Token) (e : Spelled) (d : ℕ) → IsFactor ts e d → Good ts → IsOver known (placed s e)
    factor_over ts e d (operand x) h = operand_over x (both_left (operand_fits s.plan.version x) true h.1) (both_left (knows_variable s x) true h.0)
    factor_over ts e d (negative us f c x) h = factor_over us f c x h
    factor_over ts e d (enclosed us f c x) h = expr_over us f c x (front us (Close ∷ []) h)

    product_over : (ts : List Token) (e : Spelled) (d : ℕ) → IsProduct ts e d → Good ts → IsOver known (placed s e)
    product_over ts e d (one us f c x) h = factor_over us f c x h
    product_over ts e d (star us vs a b c k x y) h = (product_over us a c x (front us (Times ∷ vs) h), factor_over vs b k y (back us Times vs h))

    expr_over : (ts : List Token) (e : Spelled) (d : ℕ) → IsExpr ts e d → Good ts → IsOver known (placed s e)
    expr_over ts e d (alone us f c x) h = product_over us f c x h
    expr_over ts e d (plus us vs a b c k x y) h = (expr_over us a c x (front us (Plus ∷ vs) h), product_over vs b k y (back us Plus vs h))
    expr_over ts e d (minus us vs a b c k x y) h = (expr_over us a c x (front us (Minus ∷ vs) h), product_over vs b k y (back us Minus vs h))

  -- an expression that is read
  phrase_over : (e : Phrase) → IsRead s.plan.version e → knows_variables s e.tokens ≡ true → nat_lt 32 e.depth ≡ false → IsExpressionOver known (placed s e.tree)
  phrase_over e r h shallow = (
    expr_over e.tokens e.tree e.depth r.0 (h, r.1),
    (let le = expr_least s e.tokens e.tree e.depth r.0 in grind (le, shallow, arith, nat_tests)),
  )

  either : (a b : Bool) → (a || b) ≡ false → (a ≡ false) × (b ≡ false)
  either true b h = absurd (both_ways true h refl)
  either false b h = (refl, h)

  test_over : (l m : Phrase) → IsRead s.plan.version l → IsRead s.plan.version m → (knows_variables s l.tokens && knows_variables s m.tokens) ≡ true → (nat_lt 32 l.depth || nat_lt 32 m.depth) ≡ false
      → IsExpressionOver known (placed s l.tree) × IsExpressionOver known (placed s m.tree)
  test_over l m r q h d =
      let parts = and_parts (knows_variables s l.tokens) (knows_variables s m.tokens) h in
      let deep = either (nat_lt 32 l.depth) (nat_lt 32 m.depth) d in
      (phrase_over l r parts.0 deep.0, phrase_over m q parts.1 deep.1)

  spoken_over : (said : Said) → IsSaid s.plan.version said → are_variables_known s said ≡ true → is_too_deep said ≡ false → IsSpokenOver known (spoken_of s said)
  spoken_over (Lets name e) r h d = (r.0, phrase_over e r.1 h d)
  spoken_over (Sets name e) r h d = phrase_over e r h d
  spoken_over (Gives e) r h d = phrase_over e r h d
  spoken_over (Demands l c m code) r h d = (test_over l m r.0 r.1 h d, r.2)
  spoken_over (Asks l c m) r h d = test_over l m r.0 r.1 h d
  spoken_over (Repeats n) r h d = r

  speaks_over : (said : Said) → IsSaid s.plan.version said → IfOk (speak s said) (IsSpokenOver known)
  speaks_over said r =
      past (not (are_variables_known s said)) UnknownName _ (IsSpokenOver known) (λ a.
      past (not (are_records_known s said)) UnknownRecord _ (IsSpokenOver known) (λ b.
      past (is_too_deep said) TooDeep _ (IsSpokenOver known) (λ d. spoken_over said r (not_not (are_variables_known s said) a) d)))

  said_over : (o : Option Said) → IfSome o (IsSaid s.plan.version) → IfOk (ok_or o Syntax >>= speak s) (IsSpokenOver known)
  said_over None h = tt
  said_over (Some said) h = speaks_over said h

  pub after_over : (k : Keyword) (ps : List Piece) (x : Spoken) → spoken_after s k ps ≡ Ok x → IsSpokenOver known x
  after_over k ps x e = subst (λ r. IfOk r (IsSpokenOver known)) e (said_over (said_after s.plan.version k ps) (said_is s.plan.version k ps))

abbrev is_named : List ℕ → List ℕ → Bool
is_named name v = bytes_eq v name

-- the variables, with one more unless it is there
pub record IsGrown (name : List ℕ) (vs later : List (List ℕ)) : Type 0 where
  pub names : All (λ v. IsTrue (is_name v)) later
  pub distinct : AllPairs (λ a b. a ≢ b) later
  pub place : place_of name later ≤ length vs
  pub count : length later ≡ max (length vs) (suc (place_of name later))

past_the_end : (i n : ℕ) → cond (nat_lt i n) (Some i) None ≡ None → n ≤ i
past_the_end i n h = grind (arith, nat_tests)

others : (name : List ℕ) (vs : List (List ℕ)) → position (is_named name) vs ≡ None → (k : ℕ) (d : List ℕ) → k < length vs → get_or vs k d ≢ name
others name vs none k d lt same =
    let far = past_the_end (position_or_len (is_named name) vs) (length vs) none in
    both_ways (bytes_eq (get_or vs k d) name) (fails_before_first (is_named name) vs k d (omega arith)) ((bytes_eq-Decides (get_or vs k d) name).1 same)

pub variable_kept : (name : List ℕ) (vs : List (List ℕ)) → is_name name ≡ true → All (λ v. IsTrue (is_name v)) vs → AllPairs (λ a b. a ≢ b) vs → IsGrown name vs (with_variable name vs)
variable_kept name vs is names distinct = by_place (position (is_named name) vs) refl
  where
    by_place : (o : Option ℕ) → position (is_named name) vs ≡ o → IsGrown name vs (with_variable name vs)
    by_place (Some k) e =
        let p = place_there name vs k e in
        let lt = inside (position_or_len (is_named name) vs) (length vs) k e in
        subst (IsGrown name vs) p.1 (record { names = names; distinct = distinct; place = omega (arith, p.0); count = omega (arith, p.0) })
    by_place None e =
        let p = place_new name vs e in
        let longer = length-append vs (name ∷ []) in
        subst (IsGrown name vs) p.1 (record {
          names = All-push (λ v. IsTrue (is_name v)) vs name names is;
          distinct = all_pairs_push (λ a b. a ≢ b) vs name distinct (others name vs e);
          place = omega (arith, p.0);
          count = omega (arith, p.0);
        })

pub over_variables : (s : Scope) (k : Keyword) (ps : List Piece) (x : Spoken) (n : ℕ) → n ≡ length s.variables → spoken_after s k ps ≡ Ok x → IsSpokenOver n x
over_variables s k ps x n len e = subst (λ m. IsSpokenOver m x) (sym len) (after_over s k ps x e)
