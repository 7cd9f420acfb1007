-- The laws of reading.
use Rattle.std.proofs.Common.{◌≡◌, ◌≤◌, ℕ, List, [], ◌∷◌, length, Bool, true, false, Option, Some, None, IfSome, Result, Ok, Err, refl, ap, subst, arith, nat_lt}
use Rattle.std.specs.Result.{MatchResult}
use Rattle.std.proofs.lemmas.Bool.Decides.{nat_tests}
use Rattle.office_map.specs.PlanValue.{PlanValue}
use Rattle.office_map.specs.PlanText.{◌>>=◌, ◌>>◌, refuse_if}
use Rattle.text_lines.specs.Text.{lines, statements}
use Rattle.office_map.specs.RefusedLines.{SaysSomethingAt}
use Rattle.office_map.specs.StatementLaws.{says_at}
use Rattle.session_language.specs.declared.fault.SessionRule.{SessionRule}
use Rattle.session_language.specs.declared.fault.SessionRule.TheVariants.{TooLong}
use Rattle.session_language.specs.declared.fault.SessionRefusal.{SessionRefusal}
use Rattle.session_meaning.specs.ProgramValue.{ProgramValue}
use Rattle.session_language.specs.Spelling.{Spelled, Token}
use Rattle.session_language.specs.Parse.{Part, read_part}
use Rattle.session_language.specs.Grammar.{IsExpr}
use Rattle.session_language.specs.Reading.{Reading, Draft, take_line, at_line, read_lines, nothing_read, unless_open, all_closed, sessions_of}
use Rattle.session_language.specs.Laws.{Lead, IsFirstFault, ReadsInOrder, IsRefusedAs, too_long, at_a_line, left_open, IsReadAs, RefusesALine, ReadsTheGrammar, IsUnambiguous}
use Rattle.session_language.proofs.expressions.ParserSound.{read_spells}
use Rattle.session_language.proofs.expressions.ParserComplete.{expression_read, one_tree}

one_more : (p : PlanValue) (x : Reading) (l : ℕ × List ℕ) (ls : List (ℕ × List ℕ)) (y : Reading) → at_line l.0 (take_line p x l.1) ≡ Ok y → (r : Result Reading SessionRefusal)
    → MatchResult r (Lead p y ls) (IsFirstFault p y ls) → MatchResult r (Lead p x (l ∷ ls)) (IsFirstFault p x (l ∷ ls))
one_more p x l ls y h (Ok z) d = (y, h, d)
one_more p x l ls y h (Err f) d = record { before = l ∷ d.before; line = d.line; after = d.after; split = ap (λ us. l ∷ us) d.split; reached = d.reached; accepted = (y, h, d.accepted); refused = d.refused }

first_line : (p : PlanValue) (x : Reading) (l : ℕ × List ℕ) (ls : List (ℕ × List ℕ)) (r : Result Reading SessionRefusal) → at_line l.0 (take_line p x l.1) ≡ r
    → ((y : Reading) → MatchResult (read_lines p y ls) (Lead p y ls) (IsFirstFault p y ls)) → MatchResult (r >>= λ y. read_lines p y ls) (Lead p x (l ∷ ls)) (IsFirstFault p x (l ∷ ls))
first_line p x l ls (Ok y) h others = one_more p x l ls y h (read_lines p y ls) (others y)
first_line p x l ls (Err f) h others = record { before = []; line = l; after = ls; split = refl; reached = x; accepted = refl; refused = h }

pub in_order : ReadsInOrder
in_order p x [] = refl
in_order p x (l ∷ ls) = first_line p x l ls (at_line l.0 (take_line p x l.1)) refl (λ y. in_order p y ls)

-- where a text is refused
its_line : {A : Type 0} (n : ℕ) (r : Result A SessionRule) (f : SessionRefusal) → at_line n r ≡ Err f → n ≡ f.line
its_line n (Ok x) f e = absurd (cc)
its_line n (Err rule) f e = let same : ◌≡◌ {A = SessionRefusal} (record { rule = rule; line = n }) f = (cc) in ap (λ (x : SessionRefusal). x.line) same

abbrev Answers : PlanValue → List ℕ → Result (List ProgramValue) SessionRefusal → Type 0
Answers p text r = MatchResult r (IsReadAs p text) (IsRefusedAs p text)

at_the_end : (p : PlanValue) (text : List ℕ) → length text ≤ 1048576 → (done : List ProgramValue) (o : Option Draft) → Lead p nothing_read (statements text) (record { done = done; open_session = o })
    → Answers p text (unless_open (length (lines text)) done o)
at_the_end p text short done None h = record { short = short; accepted = h }
at_the_end p text short done (Some d) h = left_open (record { done = done; open_session = Some d }) d short h refl

lines_answer : (p : PlanValue) (text : List ℕ) → length text ≤ 1048576 → (r : Result Reading SessionRefusal) → MatchResult r (Lead p nothing_read (statements text)) (IsFirstFault p nothing_read (statements text))
    → Answers p text (r >>= all_closed (length (lines text)))
lines_answer p text short (Ok x) h = at_the_end p text short x.done x.open_session h
lines_answer p text short (Err f) h =
    let P : ℕ → Type 0 = SaysSomethingAt text in
    at_a_line f short h (subst P (its_line h.line.0 (take_line p h.reached h.line.1) f h.refused) (says_at text h.before h.line h.after h.split))

pub a_line : RefusesALine
unfolding sessions_of
a_line p text = by_length (nat_lt 1048576 (length text)) refl
  where
    by_length : (v : Bool) → nat_lt 1048576 (length text) ≡ v → Answers p text (refuse_if v (record { rule = TooLong; line = 0 }) >> (read_lines p nothing_read (statements text) >>= all_closed (length (lines text))))
    by_length true e = too_long (grind (e, arith, nat_tests))
    by_length false e = lines_answer p text (grind (e, arith, nat_tests)) (read_lines p nothing_read (statements text)) (in_order p nothing_read (statements text))

spelled_of : (ts : List Token) (e : Spelled) (d : ℕ) (o : Option Part) → IfSome o (λ x. IsExpr ts x.tree x.depth) → o ≡ Some (record { tree = e; depth = d }) → IsExpr ts e d
spelled_of ts e d o h is = subst (λ r. IfSome r (λ (x : Part). IsExpr ts x.tree x.depth)) is h

pub by_grammar : ReadsTheGrammar
by_grammar ts e d = record { read = expression_read ts e d; spelled = spelled_of ts e d (read_part ts) (read_spells ts) }

pub unambiguous : IsUnambiguous
unambiguous = one_tree
