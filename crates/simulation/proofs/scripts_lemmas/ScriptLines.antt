-- The line that prints an event says that event, and a text of such lines is a script.
use Rattle.std.proofs.Common.{◌≡◌, ℕ, zero, suc, ◌+◌, ◌-◌, ◌<◌, ◌^◌, ◌==◌, List, [], ◌∷◌, length, map, true, false, ◌&&◌, if◌then◌else◌, codes, All, Option, Some, None, is_some, option_map, refl, ap, ap₂, ◌∙◌, append_assoc, arith}
use Rattle.std.specs.Prelude.{slice_get}
use Rattle.std.specs.List.{list_all, cons_option}
use Rattle.std.specs.Fmt.{decimal}
use Rattle.std.proofs.lemmas.Bool.Decides.{nat_tests}
use Rattle.std.proofs.lemmas.List.Elements.{All-head, All-tail}
use Rattle.office_map.specs.PlanValue.{PlanValue}
use Rattle.office_map.specs.Consistency.{IsConsistent}
use Rattle.office_map.specs.PlanText.{and_then}
use Rattle.text_lines.specs.Text.{number_of, lines, says_something, statements_from}
use Rattle.session_meaning.specs.ProgramValue.{ProgramValue}
use Rattle.session_language.proofs.canonical.Lexemes.{number_again}
use Rattle.session_language.proofs.canonical.TextLines.{plainly, first_statement_is}
use Rattle.office_journal.specs.declared.rule.Rule.{Rule}
use Rattle.office_journal.specs.declared.rule.Rule.TheVariants as rule
use Rattle.journal_texts.specs.wording.Words.{office_name, office_by, is_word}
use Rattle.journal_texts.specs.wording.Rules.{rule_of, rule_words}
use Rattle.journal_texts.proofs.wording_lemmas.LinesOfWords.{line_of, lines_are_cut}
use Rattle.journal_texts.proofs.wording_lemmas.NamesAndNumbers.{number_word, count_again, office_word, office_again}
use Rattle.journal_texts.proofs.wording_lemmas.RuleWords.{with_word, rules_read_back}
use Rattle.simulation.specs.declared.scripts.event.ScriptEvent.{ScriptEvent}
use Rattle.simulation.specs.declared.scripts.event.ScriptEvent.TheVariants as event
use Rattle.simulation.specs.scripts.Script.{Act, delivery, done_by, advanced_by, withdrawn_by, sent_by, said_by, said_of, nth, act_with, acts_with, act_of}
use Rattle.simulation.specs.scripts.ScriptLines as printed_as
use Rattle.simulation.specs.scripts.ScriptLines.{event_words, script_of, IsEventOf, LinesReadBack, ScriptsReadBack}

one_word : (w : List ℕ) (ws : List (List ℕ)) → is_word w ≡ true → list_all is_word ws ≡ true → list_all is_word (w ∷ ws) ≡ true
one_word w ws h k = ap₂ (λ x y. x && y) h k

-- a rule's words after an office
do_said : (p : PlanValue) (o : List ℕ) (r : Rule) → said_by p (codes "do" ∷ o ∷ rule_words p r) ≡ done_by (office_by p o) (rule_of p (rule_words p r))
do_said p o rule.Start = refl
do_said p o rule.Hungry = refl
do_said p o (rule.AskFork v) = refl
do_said p o (rule.GiveFork v) = refl
do_said p o rule.Eat = refl
do_said p o rule.Leave = refl
do_said p o (rule.AskBottle b) = refl
do_said p o (rule.GiveBottle b) = refl
do_said p o rule.Drink = refl
do_said p o (rule.Work n) = refl
do_said p o rule.Finish = refl

module _ (p : PlanValue) (ok : IsConsistent p) where
  -- an event is written in words
  are_words : (sessions : ℕ) (e : ScriptEvent) → sessions < 2 ^ 63 → IsEventOf p sessions e → list_all is_word (event_words p e) ≡ true
  are_words sessions (event.Submit n) few h = with_word (codes "submit") (decimal n) refl (number_word n (omega (arith, few, h.1)))
  are_words sessions (event.Withdraw o n) few h =
      one_word (codes "withdraw") (office_name p o ∷ decimal n ∷ []) refl (with_word (office_name p o) (decimal n) (office_word p ok o h.0) (number_word n (omega (arith, h.2))))
  are_words sessions (event.Settle n) few h = with_word (codes "settle") (decimal n) refl (number_word n (omega (arith, h.1)))
  are_words sessions event.SettleToTheEnd few h = refl
  are_words sessions (event.Do o r) few h =
      one_word (codes "do") (office_name p o ∷ rule_words p r) refl (one_word (office_name p o) (rule_words p r) (office_word p ok o h.0) (rules_read_back p r ok h.1).0)
  are_words sessions (event.Advance o n) few h =
      one_word (codes "advance") (office_name p o ∷ decimal n ∷ []) refl (with_word (office_name p o) (decimal n) (office_word p ok o h.0) (number_word n (omega (arith, h.2))))
  are_words sessions (event.Send o v i) few h =
      one_word (codes "send") (office_name p o ∷ office_name p v ∷ decimal i ∷ []) refl
      (one_word (office_name p o) (office_name p v ∷ decimal i ∷ []) (office_word p ok o h.0) (with_word (office_name p v) (decimal i) (office_word p ok v h.1) (number_word i h.2)))
  are_words sessions (event.Deliver k) few h = with_word (codes "deliver") (decimal k) refl (number_word k h.1)

  -- and these words say that event
  words_say : (sessions : ℕ) (e : ScriptEvent) → sessions < 2 ^ 63 → IsEventOf p sessions e → said_by p (event_words p e) ≡ Some e
  words_say sessions (event.Submit n) few h = ap (option_map event.Submit) (number_again n (omega (arith, few, h.1)))
  words_say sessions (event.Withdraw o n) few h = ap₂ withdrawn_by (office_again p ok o h.0) (count_again 4294967295 n h.1 h.2 (omega (arith, h.2)))
  words_say sessions (event.Settle n) few h = ap (option_map event.Settle) (count_again 1000000 n h.0 h.1 (omega (arith, h.1)))
  words_say sessions event.SettleToTheEnd few h = refl
  words_say sessions (event.Do o r) few h = do_said p (office_name p o) r ∙ ap₂ done_by (office_again p ok o h.0) (rules_read_back p r ok h.1).1
  words_say sessions (event.Advance o n) few h = ap₂ advanced_by (office_again p ok o h.0) (count_again 1000 n h.1 h.2 (omega (arith, h.2)))
  words_say sessions (event.Send o v i) few h =
      ap₂ (λ x y. sent_by x y (number_of (decimal i))) (office_again p ok o h.0) (office_again p ok v h.1) ∙ ap (sent_by (Some o) (Some v)) (number_again i h.2)
  words_say sessions (event.Deliver k) few h =
      let some : (k == 0) ≡ false = let low = h.0 in grind (arith, nat_tests) in
      ap (λ o. and_then o delivery) (number_again k h.1) ∙ ap (λ b. if b then None else Some (event.Deliver k)) some

  again : (sessions : ℕ) (e : ScriptEvent) → sessions < 2 ^ 63 → IsEventOf p sessions e → said_of p (printed_as.line_of p e) ≡ Some e
  unfolding said_of
  again sessions e few h = ap (λ o. and_then o (said_by p)) (lines_are_cut (event_words p e) (are_words sessions e few h)) ∙ words_say sessions e few h

pub lines_read_back : LinesReadBack
lines_read_back p sessions e ok few h = again p ok sessions e few h

-- a text of such lines

there : (programs : List ProgramValue) (k : ℕ) → k < length programs → is_some (slice_get programs k) ≡ true
there [] k lt = absurd (omega (arith, lt))
there (x ∷ programs) zero lt = refl
there (x ∷ programs) (suc k) lt = there programs k (omega (arith, lt))

some_of : {A B : Type 0} (f : A → B) (o : Option A) → is_some o ≡ true → is_some (option_map f o) ≡ true
some_of f None h = (cc)
some_of f (Some x) h = refl

is_event : (p : PlanValue) (programs : List ProgramValue) (e : ScriptEvent) → IsEventOf p (length programs) e → is_some (act_with programs e) ≡ true
is_event p programs (event.Submit n) h =
    let some : (n == 0) ≡ false = let low = h.0 in grind (arith, nat_tests) in
    some_of _ (nth programs n) (ap (λ b. is_some (if b then None else slice_get programs (n - 1))) some ∙ there programs (n - 1) (omega (arith, h.0, h.1)))
is_event p programs (event.Withdraw o n) h = refl
is_event p programs (event.Settle n) h = refl
is_event p programs event.SettleToTheEnd h = refl
is_event p programs (event.Do o r) h = refl
is_event p programs (event.Advance o n) h = refl
is_event p programs (event.Send o v i) h = refl
is_event p programs (event.Deliver k) h = refl

one_more : (o : Option Act) (ws : List Act) → is_some o ≡ true → o ∷ map Some ws ≡ map Some (cons_option o ws)
one_more None ws h = (cc)
one_more (Some w) ws h = refl

says : (p : PlanValue) (e : ScriptEvent) → says_something (printed_as.line_of p e) ≡ true
says p (event.Submit n) = refl
says p (event.Withdraw o n) = refl
says p (event.Settle n) = refl
says p event.SettleToTheEnd = refl
says p (event.Do o r) = refl
says p (event.Advance o n) = refl
says p (event.Send o v i) = refl
says p (event.Deliver k) = refl

-- the lines with their numbers
abbrev printed : PlanValue → ℕ → List ScriptEvent → List (ℕ × List ℕ)
printed p n [] = []
printed p n (e ∷ es) = (n, printed_as.line_of p e) ∷ printed p (n + 1) es

module _ (p : PlanValue) (ok : IsConsistent p) (programs : List ProgramValue) (few : length programs < 2 ^ 63) where
  abbrev Good : ScriptEvent → Type 0
  Good = IsEventOf p (length programs)

  statements_are : (n : ℕ) (es : List ScriptEvent) → All Good es → statements_from n (lines (script_of p es)) ≡ printed p n es
  statements_are n [] h = refl
  statements_are n (e ∷ es) h =
      let line = printed_as.line_of p e in
      let plain = plainly line (line_of (event_words p e) (are_words p ok (length programs) e few (All-head Good e es h))).plain in
      ap (λ t. statements_from n (lines t)) (append_assoc line (10 ∷ []) (script_of p es))
      ∙ first_statement_is n line (script_of p es) plain (says p e)
      ∙ ap (λ ls. (n, line) ∷ ls) (statements_are (n + 1) es (All-tail Good e es h))

  events_are : (n : ℕ) (es : List ScriptEvent) → All Good es → map (λ l. act_of p programs l.1) (printed p n es) ≡ map Some (acts_with programs es)
  events_are n [] h = refl
  events_are n (e ∷ es) h =
      ap₂ (λ o os. o ∷ os) (ap (λ o. and_then o (act_with programs)) (again p ok (length programs) e few (All-head Good e es h))) (events_are (n + 1) es (All-tail Good e es h))
      ∙ one_more (act_with programs e) (acts_with programs es) (is_event p programs e (All-head Good e es h))

pub scripts_read_back : ScriptsReadBack
scripts_read_back p programs es ok few h short = record {
  short = short;
  each = ap (map (λ l. act_of p programs l.1)) (statements_are p ok programs few 1 es h) ∙ events_are p ok programs few 1 es h;
}
