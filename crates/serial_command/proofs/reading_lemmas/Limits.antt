-- A text of which only so much was read as shows that it is too long means what the whole text means.
use Rattle.std.proofs.Common.{◌≡◌, ◌≤◌, ◌<◌, ℕ, List, length, Option, true, false, nat_lt, Result, Ok, Err, refl, sym, subst, ap, ◌∙◌, arith, inl, inr}
use Rattle.std.proofs.lemmas.Bool.Decides.{nat_tests}
use Rattle.host_files.specs.inputs.Words.{HasText, IsReadUpTo, Unread}
use Rattle.office_map.specs.Limits as plans
use Rattle.session_language.specs.Limits as sessions
use Rattle.office_map.specs.PlanValue.{PlanValue}
use Rattle.office_map.specs.PlanText.{plan_of}
use Rattle.office_map.specs.Precedence.{HasOrder}
use Rattle.office_map.specs.declared.fault.PlanRule.TheVariants as plan_rules
use Rattle.session_meaning.specs.ProgramValue.{ProgramValue}
use Rattle.session_language.specs.declared.fault.SessionRule.TheVariants as rules_of
use Rattle.session_language.specs.Reading.{sessions_of}
use Rattle.serial_command.specs.reading.Plans.{IsAcceptedAs}
use Rattle.serial_command.specs.reading.Texts.{WasRead}

same_by_length : {X : Type 0} (f : List ℕ → X) (limit : ℕ) (refused : X) → ((text : List ℕ) → limit < length text → f text ≡ refused)
    → (text read : List ℕ) → IsReadUpTo limit text read → f read ≡ f text
same_by_length f limit refused h text read (inl e) = ap f e
same_by_length f limit refused h text read (inr (a, b)) = h read a ∙ sym (h text b)

HasOk : {X E : Type 0} → Result X E → Type 0
HasOk (Ok x) = Unit {0}
HasOk (Err e) = ⊥

ok_is_no_err : {X E : Type 0} (x : X) (e : E) → ◌≡◌ {A = Result X E} (Ok x) (Err e) → ⊥
unfolding HasOk
ok_is_no_err x e same = subst HasOk same tt

short_by_ok : {X E : Type 0} (f : List ℕ → Result X E) (limit : ℕ) (refused : E) → ((text : List ℕ) → limit < length text → f text ≡ Err refused)
    → (read : List ℕ) (x : X) → f read ≡ Ok x → length read ≤ limit
short_by_ok f limit refused h read x e =
    elim (nat_lt limit (length read)) as (λ b. nat_lt limit (length read) ≡ b → length read ≤ limit) [
      | true ↦ λ t. let long : limit < length read = grind (arith, nat_tests, t) in absurd (ok_is_no_err x refused (sym e ∙ h read long))
      | false ↦ λ t. grind (arith, nat_tests, t)
    ] refl

above : (k n : ℕ) → k < n → nat_lt k n ≡ true
above k n h = grind (arith, nat_tests)

-- ---- plans

long_plan : (text : List ℕ) → plans.most_text < length text → plan_of text ≡ Err (record { rule = plan_rules.Limit; line = 0 })
unfolding plan_of
long_plan text h = rw (above plans.most_text (length text) h) refl

pub plan_read : (text read : List ℕ) → IsReadUpTo plans.most_text text read → plan_of read ≡ plan_of text
plan_read text read h = same_by_length plan_of plans.most_text _ long_plan text read h

pub plan_accepted : (files : List ℕ → Option (List ℕ)) (old : Unread) (word : List ℕ) (new : Unread) (read : List ℕ) (p : PlanValue)
    → WasRead files old word new plans.most_text read → plan_of read ≡ Ok p → HasOrder p
    → (text : List ℕ) (after : Unread) → HasText files old word text after → IsAcceptedAs text p × (new ≡ after)
plan_accepted files old word new read p was e o text after has =
    let it = was text after has in
    ((sym (plan_read text read it.0) ∙ e, o), it.1 (short_by_ok plan_of plans.most_text _ long_plan read p e))

-- ---- sessions

long_sessions : (p : PlanValue) (text : List ℕ) → sessions.most_text < length text → sessions_of p text ≡ Err (record { rule = rules_of.TooLong; line = 0 })
unfolding sessions_of
long_sessions p text h = rw (above sessions.most_text (length text) h) refl

pub sessions_read : (p : PlanValue) (text read : List ℕ) → IsReadUpTo sessions.most_text text read → sessions_of p read ≡ sessions_of p text
sessions_read p text read h = same_by_length (sessions_of p) sessions.most_text _ (long_sessions p) text read h

pub sessions_accepted : (files : List ℕ → Option (List ℕ)) (old : Unread) (word : List ℕ) (new : Unread) (read : List ℕ) (p : PlanValue)
    (programs : List ProgramValue) → WasRead files old word new sessions.most_text read → sessions_of p read ≡ Ok programs
    → (text : List ℕ) (after : Unread) → HasText files old word text after → (sessions_of p text ≡ Ok programs) × (new ≡ after)
sessions_accepted files old word new read p programs was e text after has =
    let it = was text after has in
    (sym (sessions_read p text read it.0) ∙ e, it.1 (short_by_ok (sessions_of p) sessions.most_text _ (long_sessions p) read programs e))
