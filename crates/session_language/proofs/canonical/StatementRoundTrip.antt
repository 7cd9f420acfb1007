-- A canonical line is taken as the statement that it was written for.
use Rattle.std.proofs.Common.{◌≡◌, ◌<◌, ◌≤◌, ℕ, suc, max, List, [], ◌++◌, length, take, Bool, true, false, not, ◌&&◌, ◌||◌, nat_lt, nat_le, Some, codes, is_some, unwrap_or, Result, Ok, refl, sym, ap, ◌∙◌, subst, arith}
use Rattle.std.proofs.lemmas.Bool.Decides.{nat_tests}
use Rattle.std.proofs.lemmas.List.{length-take-le}
use Rattle.office_map.specs.PlanValue.{PlanValue, is_end}
use Rattle.office_map.specs.PlanText.{◌>>=◌, ◌>>◌, refuse_if}
use Rattle.office_map.specs.Consistency.{IsConsistent}
use Rattle.text_lines.specs.Text.{is_name}
use Rattle.session_language.specs.declared.fault.SessionRule.{SessionRule}
use Rattle.session_language.specs.declared.fault.SessionRule.TheVariants.{UnknownName, UnknownRecord, TooDeep}
use Rattle.session_meaning.specs.Tree.{Term, Test, Command, LetVar, SetTo, GiveOf, Requires, When, Choice, Loop}
use Rattle.session_meaning.specs.ProgramValue.{ProgramValue}
use Rattle.session_programs.specs.measures.Needs.{with_record, term_needs, test_needs}
use Rattle.session_programs.specs.Program.{words_under}
use Rattle.session_language.specs.Lexer.{pieces_of}
use Rattle.session_language.specs.Names.{Scope, variable_named, record_of, placed, knows_variables, knows_records}
use Rattle.session_language.specs.Form.{Said, Lets, Sets, Gives, Demands, Asks, Repeats, Says, form_of}
use Rattle.session_programs.specs.Text.{Words, variable_name, term_text, test_text}
use Rattle.session_language.specs.Reading.{IfHead, RepeatHead, OpenBlock, Draft, Reading, Spoken, SpeaksLet, SpeaksSet, SpeaksGive, SpeaksDemand, SpeaksIf, SpeaksRepeat, spoken_of, are_variables_known, are_records_known, is_too_deep, speak, with_variable, place_of, variables_after, named_after, with_command, with_block, with_line, with_names, opens_block, add, with_open, take_line, take_formed}
use Rattle.session_programs.specs.WellFormed.{depth, IsExpressionOver, IsTestOver, IsDeclared}
use Rattle.session_language.proofs.canonical.Tokens.{phrase, spelled, tokens}
use Rattle.session_language.proofs.canonical.LexerRoundTrip.{Spells, term_spelled}
use Rattle.session_language.proofs.canonical.NameResolution.{variable_found, let_again, let_next, record_word_is_name, record_word_found, placed_again, variables_known, records_known}
use Rattle.session_language.proofs.canonical.LineForms.{text_of, IsFirstOver, let_form, set_form, give_form, require_form, if_form, repeat_form}
use Rattle.session_language.proofs.canonical.TextLines.{IsPlain, command_within, command_plain}
use Rattle.session_language.proofs.session_reading.ProgramsFit.{and_true, term_within}
use Rattle.session_language.proofs.session_reading.AddStatement.{is_added}

abbrev verdict : {A : Type 0} → Bool → Bool → Bool → A → Result A SessionRule
verdict v r deep x = do
  refuse_if (not v) UnknownName
  refuse_if (not r) UnknownRecord
  refuse_if deep TooDeep
  Ok x

spoken_so : (s : Scope) (said : Said) (x : Spoken) → are_variables_known s said ≡ true → are_records_known s said ≡ true → is_too_deep said ≡ false → spoken_of s said ≡ x → speak s said ≡ Ok x
spoken_so s said x v r d e =
    ap (λ b. verdict b (are_records_known s said) (is_too_deep said) (spoken_of s said)) v
    ∙ ap (λ b. verdict true b (is_too_deep said) (spoken_of s said)) r
    ∙ ap (λ b. verdict true true b (spoken_of s said)) d
    ∙ ap (λ y. Ok y) e

neither : (a b : Bool) → a ≡ false → b ≡ false → (a || b) ≡ false
neither a b h g = ap (λ x. x || b) h ∙ g

shallow : (d : ℕ) → d ≤ 32 → nat_lt 32 d ≡ false
shallow d h = grind (arith, nat_tests)

-- what the first line of a statement does
abbrev pub first_known : ℕ → Command → ℕ
first_known n (LetVar k e) = max n (suc k)
first_known n (SetTo r e) = n
first_known n (GiveOf e) = n
first_known n (Requires t code) = n
first_known n (When t b) = n
first_known n (Choice t a b) = n
first_known n (Loop m b) = n

abbrev pub first_needs : Command → List ℕ → List ℕ
first_needs (LetVar k e) rs = term_needs e rs
first_needs (SetTo r e) rs = term_needs e (with_record r rs)
first_needs (GiveOf e) rs = term_needs e rs
first_needs (Requires t code) rs = test_needs t rs
first_needs (When t b) rs = test_needs t rs
first_needs (Choice t a b) rs = test_needs t rs
first_needs (Loop m b) rs = rs

abbrev pub opens : Command → Bool
opens (LetVar k e) = false
opens (SetTo r e) = false
opens (GiveOf e) = false
opens (Requires t code) = false
opens (When t b) = true
opens (Choice t a b) = true
opens (Loop m b) = true

abbrev pub first_done : Draft → Command → Draft
first_done d (LetVar k e) = with_command d (LetVar k e)
first_done d (SetTo r e) = with_command d (SetTo r e)
first_done d (GiveOf e) = with_command d (GiveOf e)
first_done d (Requires t code) = with_command d (Requires t code)
first_done d (When t b) = with_block d (IfHead t)
first_done d (Choice t a b) = with_block d (IfHead t)
first_done d (Loop m b) = with_block d (RepeatHead m)

same_named : (d : Draft) (c : Command) → (first_done d c).named ≡ d.named
same_named d (LetVar k e) = refl
same_named d (SetTo r e) = refl
same_named d (GiveOf e) = refl
same_named d (Requires t code) = refl
same_named d (When t b) = refl
same_named d (Choice t a b) = refl
same_named d (Loop m b) = refl

same_variables : (d : Draft) (c : Command) → (first_done d c).variables ≡ d.variables
same_variables d (LetVar k e) = refl
same_variables d (SetTo r e) = refl
same_variables d (GiveOf e) = refl
same_variables d (Requires t code) = refl
same_variables d (When t b) = refl
same_variables d (Choice t a b) = refl
same_variables d (Loop m b) = refl

-- what the line says, and how it stands in the program again
pub record Retold (s : Scope) (w : Words) (c : Command) (later : List (List ℕ)) : Type 0 where
  pub said : Said
  pub spoken : Spoken
  pub form : form_of s.plan.version (pieces_of (text_of w c)) ≡ Some (Says said)
  pub speaks : speak s said ≡ Ok spoken
  pub variables : variables_after s.variables spoken ≡ later
  pub names : (rs : List ℕ) → named_after rs spoken ≡ first_needs c rs
  pub opening : opens_block spoken ≡ opens c
  pub done : (d : Draft) → d.variables ≡ later → with_line d spoken ≡ first_done d c

module _ (p : PlanValue) (ok : IsConsistent p) (x : ProgramValue) (d : IsDeclared x.variables x.body) where
  abbrev w : Words
  w = words_under p x

  abbrev pub own : ℕ → Bool
  own r = is_end p r x.office

  abbrev pub front : ℕ → List (List ℕ)
  front n = take n x.variables

  abbrev scope : ℕ → Scope
  scope n = record { plan = p; office = x.office; variables = front n }

  pub record_names : (r : ℕ) → own r ≡ true → is_name (w.record_name r) ≡ true
  record_names r h = record_word_is_name p ok r x.office h

  pub variable_names : (k : ℕ) → k < length x.variables → is_name (variable_name w k) ≡ true
  variable_names k lt = d.names k [] lt

  module _ (n : ℕ) (le : n ≤ length x.variables) where
    names : (k : ℕ) → k < n → is_name (variable_name w k) ≡ true
    names k lt = variable_names k (omega arith)

    found : (k : ℕ) → k < n → variable_named (scope n) (variable_name w k) ≡ Some k
    found k lt = variable_found x.variables d.distinct n le k lt

    records : (r : ℕ) → own r ≡ true → record_of (scope n) (w.record_name r) ≡ Some r
    records r h = record_word_found p ok r (scope n) refl h

    pub plain_line : (c : Command) → IsFirstOver n c → command_within p.version own c → first_known n c ≤ length x.variables → IsPlain (text_of w c)
    plain_line (LetVar k e) h g room = command_plain p.version w n own names record_names (LetVar k e) h g (variable_names k (omega arith))
    plain_line (SetTo r e) h g room = command_plain p.version w n own names record_names (SetTo r e) h g tt
    plain_line (GiveOf e) h g room = command_plain p.version w n own names record_names (GiveOf e) h g tt
    plain_line (Requires t code) h g room = command_plain p.version w n own names record_names (Requires t code) h g tt
    plain_line (When t b) h g room = command_plain p.version w n own names record_names (When t b) h g tt
    plain_line (Choice t a b) h g room = command_plain p.version w n own names record_names (Choice t a b) h g tt
    plain_line (Loop m b) h g room = command_plain p.version w n own names record_names (Loop m b) h g tt

    spells : (e : Term) → IsExpressionOver n e → term_within p.version own e ≡ true → Spells p.version (term_text w e) (tokens w e)
    spells e h g = term_spelled p.version w n own names record_names e h.0 g

    same_term : (e : Term) → IsExpressionOver n e → term_within p.version own e ≡ true → placed (scope n) (spelled w e) ≡ e
    same_term e h g = placed_again p.version (scope n) w n own found records e h.0 g

    known : (e : Term) → IsExpressionOver n e → term_within p.version own e ≡ true → knows_variables (scope n) (tokens w e) ≡ true
    known e h g = variables_known p.version (scope n) w n own found records e h.0 g

    read : (e : Term) → IsExpressionOver n e → term_within p.version own e ≡ true → knows_records (scope n) (tokens w e) ≡ true
    read e h g = records_known p.version (scope n) w n own found records e h.0 g

    let_retold : (k : ℕ) (e : Term) (later : List (List ℕ)) → IsExpressionOver n e → term_within p.version own e ≡ true → k < length x.variables → (place_of (variable_name w k) later ≡ k) × (with_variable (variable_name w k) (front n) ≡ later) → Retold (scope n) w (LetVar k e) later
    let_retold k e later h g lt placed_so = record {
      said = Lets (variable_name w k) (phrase w e);
      spoken = SpeaksLet (variable_name w k) e;
      form = let_form p.version w e (variable_name w k) (term_text w e) (variable_names k lt) (spells e h g);
      speaks = spoken_so (scope n) (Lets (variable_name w k) (phrase w e)) (SpeaksLet (variable_name w k) e) (known e h g) (read e h g) (shallow (depth e) h.1) (ap (SpeaksLet (variable_name w k)) (same_term e h g));
      variables = placed_so.1;
      names = λ rs. refl;
      opening = refl;
      done = λ d is. ap (λ (vs : List (List ℕ)). with_command d (LetVar (place_of (variable_name w k) vs) e)) is ∙ ap (λ i. with_command d (LetVar i e)) placed_so.0;
    }

    abbrev Placed : ℕ → ℕ → Type 0
    Placed i m = (place_of (variable_name w i) (front m) ≡ i) × (with_variable (variable_name w i) (front n) ≡ front m)

    let_placed : (k : ℕ) → k ≤ n → k < length x.variables → (place_of (variable_name w k) (front (max n (suc k))) ≡ k) × (with_variable (variable_name w k) (front n) ≡ front (max n (suc k)))
    let_placed k low lt = by_case (nat_lt k n) refl
      where
        by_case : (b : Bool) → nat_lt k n ≡ b → Placed k (max n (suc k))
        by_case true e =
            let inside : k < n = grind (e, arith, nat_tests) in
            let m : n ≡ max n (suc k) = omega arith in
            subst (Placed k) m (let_again x.variables d.distinct n le k inside)
        by_case false e =
            let last : n ≡ k = grind (e, low, arith, nat_tests) in
            let m : suc n ≡ max n (suc k) = omega arith in
            let Q : ℕ → Type 0 = λ i. Placed i (max n (suc k)) in
            subst Q last (subst (Placed n) m (let_next x.variables d.distinct n le (omega arith)))

    abbrev IsTestWithin : Test → Type 0
    IsTestWithin t = (term_within p.version own t.left ≡ true) × (term_within p.version own t.right ≡ true)

    -- both sides of a condition
    sides_known : (t : Test) → IsTestOver n t → IsTestWithin t → (knows_variables (scope n) (tokens w t.left) && knows_variables (scope n) (tokens w t.right)) ≡ true
    sides_known t h g = and_true (knows_variables (scope n) (tokens w t.left)) (knows_variables (scope n) (tokens w t.right)) (known t.left h.0 g.0) (known t.right h.1 g.1)

    sides_read : (t : Test) → IsTestOver n t → IsTestWithin t → (knows_records (scope n) (tokens w t.left) && knows_records (scope n) (tokens w t.right)) ≡ true
    sides_read t h g = and_true (knows_records (scope n) (tokens w t.left)) (knows_records (scope n) (tokens w t.right)) (read t.left h.0 g.0) (read t.right h.1 g.1)

    sides_shallow : (t : Test) → IsTestOver n t → (nat_lt 32 (depth t.left) || nat_lt 32 (depth t.right)) ≡ false
    sides_shallow t h = neither (nat_lt 32 (depth t.left)) (nat_lt 32 (depth t.right)) (shallow (depth t.left) h.0.1) (shallow (depth t.right) h.1.1)

    same_test : (t : Test) → IsTestOver n t → IsTestWithin t → record { left = placed (scope n) (spelled w t.left); comparison = t.comparison; right = placed (scope n) (spelled w t.right) } ≡ t
    same_test t h g =
        ap (λ (e : Term). record { left = e; comparison = t.comparison; right = placed (scope n) (spelled w t.right) }) (same_term t.left h.0 g.0)
        ∙ ap (λ (e : Term). record { left = t.left; comparison = t.comparison; right = e }) (same_term t.right h.1 g.1)

    abbrev question_of : Test → Said
    question_of t = Asks (phrase w t.left) t.comparison (phrase w t.right)

    question_form : (t : Test) → IsTestOver n t → IsTestWithin t → form_of p.version (pieces_of (codes "if " ++ test_text w t)) ≡ Some (Says (question_of t))
    question_form t h g = if_form p.version w t.left t.right t.comparison (term_text w t.left) (term_text w t.right) (spells t.left h.0 g.0) (spells t.right h.1 g.1)

    question_speaks : (t : Test) → IsTestOver n t → IsTestWithin t → speak (scope n) (question_of t) ≡ Ok (SpeaksIf t)
    question_speaks t h g = spoken_so (scope n) (question_of t) (SpeaksIf t) (sides_known t h g) (sides_read t h g) (sides_shallow t h) (ap SpeaksIf (same_test t h g))

    pub retold : (c : Command) → IsFirstOver n c → command_within p.version own c → first_known n c ≤ length x.variables → Retold (scope n) w c (front (first_known n c))
    retold (LetVar k e) h g room = let_retold k e (front (max n (suc k))) h.1 g (omega arith) (let_placed k h.0 (omega arith))
    retold (SetTo r e) h g room = record {
      said = Sets (w.record_name r) (phrase w e);
      spoken = SpeaksSet r e;
      form = set_form p.version w e (w.record_name r) (term_text w e) (record_names r g.0) (spells e h g.1);
      speaks = spoken_so (scope n) (Sets (w.record_name r) (phrase w e)) (SpeaksSet r e) (known e h g.1)
          (and_true (is_some (record_of (scope n) (w.record_name r))) (knows_records (scope n) (tokens w e)) (ap is_some (records r g.0)) (read e h g.1))
          (shallow (depth e) h.1)
          (ap (λ o. SpeaksSet (unwrap_or o 0) (placed (scope n) (spelled w e))) (records r g.0) ∙ ap (SpeaksSet r) (same_term e h g.1));
      variables = refl;
      names = λ rs. refl;
      opening = refl;
      done = λ d is. refl;
    }
    retold (GiveOf e) h g room = record {
      said = Gives (phrase w e);
      spoken = SpeaksGive e;
      form = give_form p.version w e (term_text w e) (spells e h g);
      speaks = spoken_so (scope n) (Gives (phrase w e)) (SpeaksGive e) (known e h g) (read e h g) (shallow (depth e) h.1) (ap SpeaksGive (same_term e h g));
      variables = refl;
      names = λ rs. refl;
      opening = refl;
      done = λ d is. refl;
    }
    retold (Requires t code) h g room = record {
      said = Demands (phrase w t.left) t.comparison (phrase w t.right) code;
      spoken = SpeaksDemand t code;
      form = require_form p.version w t.left t.right t.comparison code (term_text w t.left) (term_text w t.right) h.1 (spells t.left h.0.0 g.0) (spells t.right h.0.1 g.1);
      speaks = spoken_so (scope n) (Demands (phrase w t.left) t.comparison (phrase w t.right) code) (SpeaksDemand t code) (sides_known t h.0 g) (sides_read t h.0 g) (sides_shallow t h.0)
          (ap (λ (u : Test). SpeaksDemand u code) (same_test t h.0 g));
      variables = refl;
      names = λ rs. refl;
      opening = refl;
      done = λ d is. refl;
    }
    retold (When t b) h g room = record {
      said = question_of t;
      spoken = SpeaksIf t;
      form = question_form t h g;
      speaks = question_speaks t h g;
      variables = refl;
      names = λ rs. refl;
      opening = refl;
      done = λ d is. refl;
    }
    retold (Choice t a b) h g room = record {
      said = question_of t;
      spoken = SpeaksIf t;
      form = question_form t h g;
      speaks = question_speaks t h g;
      variables = refl;
      names = λ rs. refl;
      opening = refl;
      done = λ d is. refl;
    }
    retold (Loop m b) h g room = record {
      said = Repeats m;
      spoken = SpeaksRepeat m;
      form = repeat_form p.version m h;
      speaks = refl;
      variables = refl;
      names = λ rs. refl;
      opening = refl;
      done = λ d is. refl;
    }

  -- the session so far
  abbrev pub draft : List ℕ → List OpenBlock → ℕ → List Command → Draft
  draft named outer n cs = record { office = x.office; variables = front n; named = named; outer = outer; body = cs }

  abbrev pub going : Draft → Reading
  going d = record { done = []; open_session = Some d }

  pub line_retaken : (named : List ℕ) (outer : List OpenBlock) (n : ℕ) (cs : List Command) (c : Command) → n ≤ length x.variables → IsFirstOver n c → command_within p.version own c → first_known n c ≤ length x.variables → length x.variables ≤ 32
      → length (first_needs c named) ≤ 16 → (opens c && nat_le 8 (length outer)) ≡ false → take_line p (going (draft named outer n cs)) (text_of w c) ≡ Ok (going (first_done (draft (first_needs c named) outer (first_known n c) cs) c))
  line_retaken named outer n cs c le h g room few needs shallow_here =
      let r : Retold (scope n) w c (front (first_known n c)) = retold n le c h g room in
      let later : List (List ℕ) = front (first_known n c) in
      let now : Draft = draft named outer n cs in
      let named_now : Draft = draft (first_needs c named) outer (first_known n c) cs in
      let next : Draft = first_done named_now c in
      let short : length next.variables ≤ 32 = let l = length-take-le (first_known n c) x.variables room in let e = ap (λ (vs : List (List ℕ)). length vs) (same_variables named_now c) in omega arith in
      let small : length next.named ≤ 16 = let e = ap (λ (rs : List ℕ). length rs) (same_named named_now c) in omega arith in
      let with_its_names : named_now ≡ with_names now r.spoken =
      ap (λ (vs : List (List ℕ)). record { office = x.office; variables = vs; named = first_needs c named; outer = outer; body = cs }) (sym r.variables)
      ∙ ap (λ (rs : List ℕ). record { office = x.office; variables = variables_after (front n) r.spoken; named = rs; outer = outer; body = cs }) (sym (r.names named)) in
      let is : next ≡ with_line (with_names now r.spoken) r.spoken = sym (r.done named_now refl) ∙ ap (λ (d : Draft). with_line d r.spoken) with_its_names in
      let deep : (opens_block r.spoken && nat_le 8 (length outer)) ≡ false = ap (λ b. b && nat_le 8 (length outer)) r.opening ∙ shallow_here in
      ap (take_formed p (going now)) r.form
      ∙ ap (λ t. t >>= λ spoken. add now spoken >>= λ d. Ok (with_open (going now) d)) r.speaks
      ∙ ap (λ t. t >>= λ d. Ok (with_open (going now) d)) (is_added now next r.spoken is deep small short)
