-- The table of an opening is the office that the plan seats.
use Rattle.std.proofs.Common.{◌≡◌, ℕ, Bool, true, false, not, ◌&&◌, List, length, map, refl, sym, ap, ◌∙◌, arith, ⊎_elim}
use Rattle.std.specs.List.{range_with_len}
use Rattle.std.proofs.lemmas.Bool.{cases_Bool, cases_lt}
use Rattle.std.proofs.lemmas.List.{get_or_past}
use Rattle.std.proofs.lemmas.List.FromFn.{length-map-range_with_len, get_or-map-range_with_len}
use mathlib.Core.Path.{fun_ext}
use Rattle.office_map.specs.PlanValue.{PlanValue, are_neighbours, neighbours_of, fork_starts_at}
use Rattle.office_map.specs.Consistency.{IsConsistent}
use Rattle.dining_core.specs.declared.shared_fork.SharedFork.{SharedFork}
use Rattle.dining_core.specs.declared.phase.Phase.TheVariants.{Thinking}
use Rattle.dining_core.specs.Diners.{diner_at_start}
use Rattle.dining_core.specs.refinement.Tables.{diner_of, place_at, nothing, holds, has_clean, has_token, is_held, is_clean, start_fork, start_place}
use Rattle.office_map.specs.NeighbourLaws.{near_within}

-- what is asked of a place, where it is false of none and of those that are no neighbours
at_start : (plan : PlanValue) (a v : ℕ) (f : SharedFork → Bool) → IsConsistent plan → f nothing ≡ false → (are_neighbours plan a v ≡ false → f (start_place plan a v) ≡ false) →
    f (place_at (map (start_place plan a) (range_with_len 0 (length plan.offices))) v) ≡ f (start_place plan a v)
at_start plan a v f h none far =
    ⊎_elim
    (λ lt. ap f (get_or-map-range_with_len (start_place plan a) 0 (length plan.offices) v v nothing lt (omega arith)))
    (λ ge. ap f (get_or_past (map (start_place plan a) (range_with_len 0 (length plan.offices))) v nothing (omega (arith, ge, length-map-range_with_len (start_place plan a) 0 (length plan.offices))))
    ∙ none ∙ sym (far (⊎_elim (λ t. absurd (omega (arith, ge, near_within plan a v h t))) (λ e. e) (cases_Bool (are_neighbours plan a v)))))
    (cases_lt v (length plan.offices))

held_start : (b : Bool) → is_held (start_fork b) ≡ b
held_start true = refl
held_start false = refl

clean_start : (b : Bool) → is_clean (start_fork b) ≡ false
clean_start true = refl
clean_start false = refl

far_held : (b c : Bool) → b ≡ false → is_held (start_fork (b && c)) ≡ false
far_held b c e = held_start (b && c) ∙ ap (λ x. x && c) e

held_at_start : (plan : PlanValue) (a v : ℕ) → IsConsistent plan → holds (map (start_place plan a) (range_with_len 0 (length plan.offices))) v ≡ (are_neighbours plan a v && fork_starts_at plan a v a)
held_at_start plan a v h =
    at_start plan a v (λ (p : SharedFork). is_held p.fork) h refl (λ e. far_held (are_neighbours plan a v) (fork_starts_at plan a v a) e)
    ∙ held_start (are_neighbours plan a v && fork_starts_at plan a v a)

clean_at_start : (plan : PlanValue) (a v : ℕ) → IsConsistent plan → has_clean (map (start_place plan a) (range_with_len 0 (length plan.offices))) v ≡ false
clean_at_start plan a v h =
    at_start plan a v (λ (p : SharedFork). is_clean p.fork) h refl (λ e. clean_start (are_neighbours plan a v && fork_starts_at plan a v a))
    ∙ clean_start (are_neighbours plan a v && fork_starts_at plan a v a)

token_at_start : (plan : PlanValue) (a v : ℕ) → IsConsistent plan → has_token (map (start_place plan a) (range_with_len 0 (length plan.offices))) v ≡ (are_neighbours plan a v && not (fork_starts_at plan a v a))
token_at_start plan a v h =
    at_start plan a v (λ (p : SharedFork). p.token) h refl (λ e. ap (λ x. x && not (fork_starts_at plan a v a)) e)

pub table_starts : (plan : PlanValue) (a : ℕ) (ns : List ℕ) (ps : List SharedFork) → IsConsistent plan → ns ≡ neighbours_of plan a → ps ≡ map (start_place plan a) (range_with_len 0 (length plan.offices)) →
    diner_of (record { neighbours = ns; phase = Thinking; places = ps }) ≡ diner_at_start plan a
table_starts plan a ns ps h near places =
    ap (λ l. diner_of (record { neighbours = l; phase = Thinking; places = ps })) near
    ∙ ap (λ l. diner_of (record { neighbours = neighbours_of plan a; phase = Thinking; places = l })) places
    ∙ ap (λ (f : ℕ → Bool). record { neighbours = neighbours_of plan a; phase = Thinking; held = f; clean = has_clean start; token = has_token start }) (fun_ext (λ v. held_at_start plan a v h))
    ∙ ap (λ (f : ℕ → Bool). record { neighbours = neighbours_of plan a; phase = Thinking; held = λ v. are_neighbours plan a v && fork_starts_at plan a v a; clean = f; token = has_token start }) (fun_ext (λ v. clean_at_start plan a v h))
    ∙ ap (λ (f : ℕ → Bool). record { neighbours = neighbours_of plan a; phase = Thinking; held = λ v. are_neighbours plan a v && fork_starts_at plan a v a; clean = λ v. false; token = f }) (fun_ext (λ v. token_at_start plan a v h))
  where
    start : List SharedFork
    start = map (start_place plan a) (range_with_len 0 (length plan.offices))
