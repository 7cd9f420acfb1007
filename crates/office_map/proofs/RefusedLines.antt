-- Where a text of a plan is refused.
use Rattle.std.proofs.Common.{◌≡◌, ◌≤◌, ℕ, List, [], ◌∷◌, ◌++◌, length, Bool, true, false, nat_lt, Result, Ok, Err, refl, ap, ◌∙◌, subst, arith}
use Rattle.std.specs.Result.{MatchResult}
use Rattle.std.proofs.lemmas.Bool.Decides.{nat_tests}
use Rattle.office_map.specs.declared.fault.PlanRule.{PlanRule}
use Rattle.office_map.specs.declared.fault.PlanRule.TheVariants.{Limit}
use Rattle.office_map.specs.declared.fault.PlanRefusal.{PlanRefusal}
use Rattle.office_map.specs.PlanValue.{PlanValue}
use Rattle.office_map.specs.PlanText.{◌>>=◌, ◌>>◌, refuse_if, at_line, read_header, read_line, read_lines, read_statements, plan_of, Lead, IsFirstFault}
use Rattle.text_lines.specs.Text.{statements}
use Rattle.office_map.specs.RefusedLines.{SaysSomethingAt, IsReadTo, IsRefusedAs, too_long, without_lines, at_the_header, at_a_line, too_few, IsReadAs, RefusesALine}
use Rattle.office_map.specs.StatementLaws.{says_at}
use Rattle.office_map.proofs.FirstFault.{in_order}

its_line : {A : Type 0} (n : ℕ) (r : Result A PlanRule) (f : PlanRefusal) → at_line n r ≡ Err f → n ≡ f.line
its_line n (Ok x) f e = absurd (cc)
its_line n (Err rule) f e = let same : ◌≡◌ {A = PlanRefusal} (record { rule = rule; line = n }) f = (cc) in ap (λ (x : PlanRefusal). x.line) same

header_line : (l : ℕ × List ℕ) (f : PlanRefusal) → read_header l ≡ Err f → l.0 ≡ f.line
unfolding read_header
header_line l f e = its_line l.0 _ f e

line_line : (p : PlanValue) (l : ℕ × List ℕ) (f : PlanRefusal) → read_line p l ≡ Err f → l.0 ≡ f.line
unfolding read_line
line_line p l f e = its_line l.0 _ f e

abbrev Answers : List ℕ → Result PlanValue PlanRefusal → Type 0
Answers text r = MatchResult r (IsReadAs text) (IsRefusedAs text)

abbrev finish : PlanValue → Result PlanValue PlanRefusal
finish p = refuse_if (nat_lt (length p.offices) 2) (record { rule = Limit; line = 0 }) >> Ok p

module _ (text : List ℕ) (short : length text ≤ 262144) where
  enough_offices : (p : PlanValue) → IsReadTo text p → Answers text (refuse_if (nat_lt (length p.offices) 2) (record { rule = Limit; line = 0 }) >> Ok p)
  enough_offices p r = by_count (nat_lt (length p.offices) 2) refl
    where
      by_count : (v : Bool) → nat_lt (length p.offices) 2 ≡ v → Answers text (refuse_if v (record { rule = Limit; line = 0 }) >> Ok p)
      by_count true e = too_few p short r (grind (e, arith, nat_tests))
      by_count false e = record { short = short; read = r; offices = grind (e, arith, nat_tests) }

  after_header : (first : ℕ × List ℕ) (others : List (ℕ × List ℕ)) (empty : PlanValue) → statements text ≡ first ∷ others → read_header first ≡ Ok empty
      → (r : Result PlanValue PlanRefusal) → MatchResult r (Lead empty others) (IsFirstFault empty others) → Answers text (r >>= finish)
  after_header first others empty split header (Ok p) h = enough_offices p (record { first = first; others = others; split = split; empty = empty; header = header; accepted = h })
  after_header first others empty split header (Err f) h =
      let P : ℕ → Type 0 = SaysSomethingAt text in
      let at : statements text ≡ (first ∷ h.before) ++ h.line ∷ h.after = split ∙ ap (λ ls. first ∷ ls) h.split in
      at_a_line first others empty f short split header h (subst P (line_line h.reached h.line f h.refused) (says_at text (first ∷ h.before) h.line h.after at))

  by_header : (first : ℕ × List ℕ) (others : List (ℕ × List ℕ)) → statements text ≡ first ∷ others → (r : Result PlanValue PlanRefusal) → read_header first ≡ r → Answers text ((r >>= λ p. read_lines p others) >>= finish)
  by_header first others split (Ok empty) e = after_header first others empty split e (read_lines empty others) (in_order empty others)
  by_header first others split (Err f) e =
      let P : ℕ → Type 0 = SaysSomethingAt text in
      at_the_header first others f short split e (subst P (header_line first f e) (says_at text [] first others split))

  by_lines : (ls : List (ℕ × List ℕ)) → statements text ≡ ls → Answers text (read_statements ls >>= finish)
  by_lines [] e = without_lines short e
  by_lines (first ∷ others) e = by_header first others e (read_header first) refl

pub refuses_a_line : RefusesALine
unfolding plan_of
refuses_a_line text = by_length (nat_lt 262144 (length text)) refl
  where
    by_length : (v : Bool) → nat_lt 262144 (length text) ≡ v → Answers text (refuse_if v (record { rule = Limit; line = 0 }) >> (read_statements (statements text) >>= finish))
    by_length true e = too_long (grind (e, arith, nat_tests))
    by_length false e = by_lines text (grind (e, arith, nat_tests)) (statements text) refl
