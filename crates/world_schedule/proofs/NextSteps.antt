-- What a world does next, looked for one after the other.
use Rattle.std.proofs.Common.{◌≡◌, ℕ, zero, suc, ◌+◌, ◌<◌, ◌≤◌, true, cond, List, [], ◌∷◌, ◌++◌, length, take, take_all, get_or, Option, None, Some, refl, sym, ap, ◌∙◌, arith}
use Rattle.std.specs.Prelude.{◌==◌, ◌&&◌, option_map, unwrap_or}
use Rattle.std.specs.List.{list_all, range_with_len, sum_by}
use Rattle.std.specs.Option.{option_or}
use Rattle.std.proofs.lemmas.Bool.{and_parts, eqb-true, eq-eqb, false_from_ne_true}
use Rattle.std.proofs.lemmas.List.{take_more}
use Rattle.std.proofs.lemmas.List.Sums.{sum_by-cons}
use Rattle.std.proofs.lemmas.List.FromFn.{length-range_with_len, get_or-range_with_len}
use Rattle.office_journal.specs.declared.rule.Rule.{Rule}
use Rattle.site_core.specs.RuleOrder.{next_rule}
use Rattle.site_core.specs.Agenda.{unfinished}
use Rattle.site_core.specs.Journals.{Site, office_of}
use Rattle.frame_world.specs.declared.next_step.NextStep.{NextStep}
use Rattle.frame_world.specs.declared.next_step.NextStep.TheVariants as next
use Rattle.frame_world.specs.Worlds.{World, site_at}
use Rattle.frame_world.specs.Standstill.{first_of, first_office, are_all_finished, rule_at, message_from, next_step}
use Rattle.world_schedule.specs.Readers.{unfinished_in}

-- ---- the first of several

passed : (step : ℕ → Option NextStep) (x : ℕ) (xs : List ℕ) → first_of step (x ∷ xs) ≡ None → (step x ≡ None) × (first_of step xs ≡ None)
passed step x xs e = go (step x) refl e
  where
    go : (o : Option NextStep) → step x ≡ o → option_or o (first_of step xs) ≡ None → (step x ≡ None) × (first_of step xs ≡ None)
    go None h k = (h, k)
    go (Some y) h k = absurd cc

first_append : (step : ℕ → Option NextStep) (xs ys : List ℕ) → first_of step xs ≡ None → first_of step (xs ++ ys) ≡ first_of step ys
first_append step [] ys e = refl
first_append step (x ∷ xs) ys e =
    let before = passed step x xs e in
    ap (λ o. option_or o (first_of step (xs ++ ys))) before.0 ∙ first_append step xs ys before.1

pub found_at : (step : ℕ → Option NextStep) (xs : List ℕ) (i x d : ℕ) (y : NextStep) → i < length xs → x ≡ get_or xs i d → first_of step (take i xs) ≡ None → step x ≡ Some y → first_of step xs ≡ Some y
found_at step [] i x d y lt is none e = absurd (omega (arith, lt))
found_at step (z ∷ xs) zero x d y lt is none e = ap (λ o. option_or o (first_of step xs)) (ap step (sym is) ∙ e)
found_at step (z ∷ xs) (suc i) x d y lt is none e =
    let before = passed step z (take i xs) none in
    ap (λ o. option_or o (first_of step xs)) before.0 ∙ found_at step xs i x d y (omega (arith, lt)) is before.1 e

pub not_yet : (step : ℕ → Option NextStep) (xs : List ℕ) (i x d : ℕ) → i < length xs → x ≡ get_or xs i d → first_of step (take i xs) ≡ None → step x ≡ None → first_of step (take (i + 1) xs) ≡ None
not_yet step xs i x d lt is none e =
    ap (first_of step) (take_more xs i d lt) ∙ first_append step (take i xs) (get_or xs i d ∷ []) none ∙ ap (λ o. option_or o None) (ap step (sym is) ∙ e)

-- of the offices of a plan, by number
module _ (step : ℕ → Option NextStep) (n a : ℕ) (so_far : first_of step (take a (range_with_len 0 n)) ≡ None) where
  inside : a < n → a < length (range_with_len 0 n)
  inside lt = omega (arith, lt, length-range_with_len 0 n)

  office_is : (x : ℕ) → a < n → x ≡ a → x ≡ get_or (range_with_len 0 n) a x
  office_is x lt is = let place = get_or-range_with_len 0 n a x lt in omega (arith, is, place)

  pub found_in : (x : ℕ) (y : NextStep) → a < n → x ≡ a → step x ≡ Some y → first_of step (range_with_len 0 n) ≡ Some y
  found_in x y lt is e = found_at step (range_with_len 0 n) a x x y (inside lt) (office_is x lt is) so_far e

  pub none_yet : (x : ℕ) → a < n → x ≡ a → step x ≡ None → first_of step (take (a + 1) (range_with_len 0 n)) ≡ None
  none_yet x lt is e = not_yet step (range_with_len 0 n) a x x (inside lt) (office_is x lt is) so_far e

  pub none_in : n ≤ a → first_of step (range_with_len 0 n) ≡ None
  none_in le = ap (first_of step) (sym (take_all a (range_with_len 0 n) (omega (arith, le, length-range_with_len 0 n)))) ∙ so_far

-- the rule that an office of a world tells
pub told_rule : (w : World) (s : Site) (a : ℕ) (r : Option Rule) → s ≡ site_at w a → s.plan ≡ w.plan → s.me ≡ a → r ≡ next_rule s.plan s.me (office_of s) → option_map (next.Rule a) r ≡ rule_at w a
told_rule w s a r site plan me e =
    ap (option_map (next.Rule a)) (e ∙ ap (λ p. next_rule p s.me (office_of s)) plan ∙ ap (λ m. next_rule w.plan m (office_of s)) me ∙ ap (λ x. next_rule w.plan a (office_of x)) site)

-- ---- the message between two

-- ---- whether a session is left

all_zero : {X : Type 0} (f : X → ℕ) (xs : List X) → sum_by f xs ≡ 0 → list_all (λ x. f x == 0) xs ≡ true
all_zero f [] e = refl
all_zero f (x ∷ xs) e =
    let split = sum_by-cons f x xs in
    let none_here : f x ≡ 0 = omega (arith, e, split) in
    ap (λ b. b && list_all (λ y. f y == 0) xs) (eq-eqb (f x) 0 none_here) ∙ all_zero f xs (omega (arith, e, split))

none_left : {X : Type 0} (f : X → ℕ) (xs : List X) → list_all (λ x. f x == 0) xs ≡ true → sum_by f xs ≡ 0
none_left f [] h = refl
none_left f (x ∷ xs) h =
    let parts = and_parts (f x == 0) (list_all (λ y. f y == 0) xs) h in
    let none_here : f x ≡ 0 = eqb-true (f x) 0 parts.0 in
    omega (arith, sum_by-cons f x xs, none_here, none_left f xs parts.1)

abbrev left_at : Site → ℕ
left_at s = unfinished (office_of s).agenda

abbrev steps_of : World → NextStep
steps_of w = unwrap_or (option_or (first_office w (rule_at w)) (first_office w (message_from w))) next.AllFinished

pub all_finished : (w : World) → unfinished_in w ≡ 0 → next_step w ≡ next.AllFinished
all_finished w e = ap (λ b. cond b next.AllFinished (steps_of w)) (all_zero left_at w.sites e)

one_is_left : (w : World) → (unfinished_in w ≡ 0 → ⊥) → next_step w ≡ steps_of w
one_is_left w ne = ap (λ b. cond b next.AllFinished (steps_of w)) (false_from_ne_true (are_all_finished w) (λ h. ne (none_left left_at w.sites h)))

pub a_rule_is_next : (w : World) (y : NextStep) → (unfinished_in w ≡ 0 → ⊥) → first_office w (rule_at w) ≡ Some y → next_step w ≡ y
a_rule_is_next w y ne e = one_is_left w ne ∙ ap (λ o. unwrap_or (option_or o (first_office w (message_from w))) next.AllFinished) e

pub a_message_is_next : (w : World) (o : Option NextStep) → (unfinished_in w ≡ 0 → ⊥) → first_office w (rule_at w) ≡ None → o ≡ first_office w (message_from w) → next_step w ≡ unwrap_or o next.AllFinished
a_message_is_next w o ne none e = one_is_left w ne ∙ ap (λ r. unwrap_or (option_or r (first_office w (message_from w))) next.AllFinished) none ∙ ap (λ m. unwrap_or m next.AllFinished) (sym e)
