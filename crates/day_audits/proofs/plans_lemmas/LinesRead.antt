-- Lines of words are read one after the other.
use Rattle.std.proofs.Common.{◌≡◌, ℕ, ◌+◌, List, [], ◌∷◌, ◌++◌, true, false, not, ◌==◌, Ok, Some, if◌then◌else◌, refl, sym, ap, ◌∙◌, subst, arith, append_assoc}
use Rattle.std.proofs.lemmas.List.{append-nil}
use Rattle.std.specs.List.{list_all, flat_map}
use Rattle.std.specs.Option.{ok_or}
use Rattle.std.proofs.lemmas.Bool.{and_parts}
use Rattle.std.proofs.lemmas.Bool.Decides.{nat_tests}
use Rattle.office_map.specs.declared.fault.PlanRule.TheVariants.{Line}
use Rattle.office_map.specs.PlanValue.{PlanValue}
use Rattle.office_map.specs.PlanText.{◌>>=◌, Declaration, and_then, value_under, declaration_of, declare, at_line, read_line, read_lines}
use Rattle.text_lines.specs.Text.{is_blank, is_name_byte, lines, says_something, statements_from}
use Rattle.session_language.proofs.canonical.Lexemes.{IsWord}
use Rattle.session_language.proofs.canonical.TextLines.{plainly, first_statement_is}
use Rattle.journal_texts.specs.wording.Words.{line_of_words}
use Rattle.day_audits.specs.plans.WrittenPlans.{ended}
use Rattle.day_audits.proofs.plans_lemmas.PlanLines.{AreCut, line_is_plain, line_is_cut}

first_says : (w rest : List ℕ) → IsWord w → says_something (w ++ rest) ≡ true
first_says [] rest h = let some = h.some in absurd (omega (arith, some))
first_says (b ∷ w) rest h =
    let byte = (and_parts (is_name_byte b) _ h.bytes).0 in
    let text : is_blank b ≡ false = grind (arith, nat_tests) in
    let note : (b == 35) ≡ false = grind (arith, nat_tests) in
    ap (λ x. if x then says_something (w ++ rest) else not (b == 35)) text ∙ ap not note

line_says : (w : List ℕ) (ws : List (List ℕ)) → IsWord w → says_something (line_of_words (w ∷ ws)) ≡ true
line_says w [] h = ap says_something (sym (append-nil w)) ∙ first_says w [] h
line_says w (v ∷ ws) h = first_says w (32 ∷ line_of_words (v ∷ ws)) h

-- a line of words is the first statement
pub statement_is : (n : ℕ) (w : List ℕ) (ws : List (List ℕ)) (rest : List ℕ) → IsWord w → AreCut (w ∷ ws)
    → statements_from n (lines (ended (w ∷ ws) ++ rest)) ≡ (n, line_of_words (w ∷ ws)) ∷ statements_from (n + 1) (lines rest)
statement_is n w ws rest h good =
    ap (λ t. statements_from n (lines t)) (append_assoc (line_of_words (w ∷ ws)) (10 ∷ []) rest)
    ∙ first_statement_is n (line_of_words (w ∷ ws)) rest (plainly (line_of_words (w ∷ ws)) (line_is_plain (w ∷ ws) good)) (line_says w ws h)

-- the words of a line declare something, and with it a plan becomes another
pub record Reads (p : PlanValue) (ws : List (List ℕ)) (q : PlanValue) : Type 0 where
  pub keyword : List ℕ
  pub others : List (List ℕ)
  pub is : ws ≡ keyword ∷ others
  pub word : IsWord keyword
  pub good : AreCut ws
  pub declaration : Declaration
  pub declares : declaration_of (value_under p.version) ws ≡ Some declaration
  pub accepted : declare p declaration ≡ Ok q

line_read : (p : PlanValue) (n : ℕ) (ws : List (List ℕ)) (q : PlanValue) → Reads p ws q → read_line p (n, line_of_words ws) ≡ Ok q
unfolding read_line
line_read p n ws q r =
    ap (λ o. at_line n (ok_or (and_then o (declaration_of (value_under p.version))) Line >>= declare p)) (line_is_cut ws r.good)
    ∙ ap (λ o. at_line n (ok_or o Line >>= declare p)) r.declares
    ∙ ap (at_line n) r.accepted

first_read : (p : PlanValue) (n : ℕ) (ws : List (List ℕ)) (q : PlanValue) (rest : List ℕ) → Reads p ws q
    → read_lines p (statements_from n (lines (ended ws ++ rest))) ≡ read_lines q (statements_from (n + 1) (lines rest))
first_read p n ws q rest r =
    ap (λ l. read_lines p (statements_from n (lines (ended l ++ rest)))) r.is
    ∙ ap (read_lines p) (statement_is n r.keyword r.others rest r.word (subst AreCut r.is r.good))
    ∙ ap (λ l. read_line p (n, line_of_words l) >>= λ s. read_lines s (statements_from (n + 1) (lines rest))) (sym r.is)
    ∙ ap (λ s. s >>= λ t. read_lines t (statements_from (n + 1) (lines rest))) (line_read p n ws q r)

module _ {X : Type 0} (words : X → List (List ℕ)) (add : PlanValue → X → PlanValue) where
  -- each element is read, on what those before it made
  abbrev pub AreRead : PlanValue → List X → Type 0
  AreRead p [] = Unit {0}
  AreRead p (x ∷ xs) = Reads p (words x) (add p x) × AreRead (add p x) xs

  abbrev pub all_added : PlanValue → List X → PlanValue
  all_added p [] = p
  all_added p (x ∷ xs) = all_added (add p x) xs

  -- so their lines lead to what they make, whatever lines come after them
  pub section_read : (p : PlanValue) (xs : List X) (n : ℕ) (rest : List ℕ) → AreRead p xs
      → (m : ℕ) × (read_lines p (statements_from n (lines (flat_map (λ x. ended (words x)) xs ++ rest))) ≡ read_lines (all_added p xs) (statements_from m (lines rest)))
  section_read p [] n rest h = (n, refl)
  section_read p (x ∷ xs) n rest h =
      let more = section_read (add p x) xs (n + 1) rest h.1 in (
        more.0,
        ap (λ t. read_lines p (statements_from n (lines t))) (append_assoc (ended (words x)) (flat_map (λ y. ended (words y)) xs) rest)
            ∙ first_read p n (words x) (add p x) (flat_map (λ y. ended (words y)) xs ++ rest) h.0
            ∙ more.1,
      )
