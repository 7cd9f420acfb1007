-- Each fork and each request token has one place, event by event, and none between strangers.
use Rattle.std.proofs.Common.{◌≡◌, ℕ, zero, suc, ◌+◌, ◌≤◌, Bool, true, false, not, ◌&&◌, ◌||◌, cond, List, [], ◌∷◌, length, Option, Some, refl, sym, ap, ◌∙◌, arith, inl, inr, ◌⊎◌, ⊎_elim}
use Rattle.std.specs.Prelude.{◌==◌, nat_lt, find, option_map}
use Rattle.std.specs.Option.{option_map_or}
use Rattle.std.specs.List.{list_any}
use Rattle.std.proofs.lemmas.Bool.{cond_both, eqb-true, eq-eqb, ne_eqb, and_parts, or_cases, cases_eq, cases_Bool}
use Rattle.office_map.specs.declared.entries.PairEntry.{PairEntry}
use Rattle.office_map.specs.PlanValue.{PlanValue, joins, are_neighbours, neighbours_of, fork_end, fork_starts_at}
use Rattle.office_map.specs.Consistency.{IsConsistent}
use Rattle.dining_core.specs.Diners.{Diner, ForkRule, BecomeHungry, AskFork, GiveFork, Eat, Leave, is_hungry, is_eating, may, act, with_token, with_fork}
use Rattle.dining_core.specs.Worlds.{World, Event, Do, TokenComes, ForkComes, opening, done, does, token_taken, fork_taken, happens, run, fork_places, token_places, HasOnePlaceEach}
use Rattle.office_map.specs.NeighbourLaws.{neighbours_apart, near_both, joins_swap}
use Rattle.bottle_values.specs.ListLaws.{find_same}
use Rattle.dining_core.proofs.OnTheWay.{places_kept, places_sent, places_came, not_here}
use Rattle.bottle_values.specs.Maps.{put}
use Rattle.bottle_values.specs.Lists.{num}
use Rattle.bottle_values.specs.MapLaws.{put_cases}

-- what a fork that is given was before
pub given : (b t h c : Bool) → (not b && (t && (h && not c))) ≡ true → (h ≡ true) × (c ≡ false)
given b t h c e = both h c (and_parts t (h && not c) (and_parts (not b) (t && (h && not c)) e).1).1
  where
    both : (h c : Bool) → (h && not c) ≡ true → (h ≡ true) × (c ≡ false)
    both true false s = (refl, refl)
    both true true s = cc
    both false c s = cc

asked : (p h t : Bool) → (p && (not h && t)) ≡ true → t ≡ true
asked p h t e = (and_parts (not h) t (and_parts p (not h && t) e).1).1

-- ---- an event leaves how many places there are

fork_rule : (w : World) (a : ℕ) (rule : ForkRule) → may (w.diner a) rule ≡ true → (x y : ℕ) → fork_places (done w a rule) x y ≡ fork_places w x y
fork_rule w a (BecomeHungry thirsty) g x y = places_kept (λ d. d.held) w.diner a (act (w.diner a) (BecomeHungry thirsty)) w.forks_on_way refl x y
fork_rule w a (AskFork v) g x y = places_kept (λ d. d.held) w.diner a (act (w.diner a) (AskFork v)) w.forks_on_way refl x y
fork_rule w a (GiveFork v) g x y =
    let d : Diner = w.diner a in
    places_sent (λ d. d.held) w.diner a v (act d (GiveFork v)) w.forks_on_way refl (given (is_eating d.phase) (d.token v) (d.held v) (d.clean v) g).0 x y
fork_rule w a Eat g x y = places_kept (λ d. d.held) w.diner a (act (w.diner a) Eat) w.forks_on_way refl x y
fork_rule w a (Leave thirsty) g x y = places_kept (λ d. d.held) w.diner a (act (w.diner a) (Leave thirsty)) w.forks_on_way refl x y

token_rule : (w : World) (a : ℕ) (rule : ForkRule) → may (w.diner a) rule ≡ true → (x y : ℕ) → token_places (done w a rule) x y ≡ token_places w x y
token_rule w a (BecomeHungry thirsty) g x y = places_kept (λ d. d.token) w.diner a (act (w.diner a) (BecomeHungry thirsty)) w.tokens_on_way refl x y
token_rule w a (AskFork v) g x y =
    let d : Diner = w.diner a in
    places_sent (λ d. d.token) w.diner a v (act d (AskFork v)) w.tokens_on_way refl (asked (is_hungry d.phase) (d.held v) (d.token v) g) x y
token_rule w a (GiveFork v) g x y = places_kept (λ d. d.token) w.diner a (act (w.diner a) (GiveFork v)) w.tokens_on_way refl x y
token_rule w a Eat g x y = places_kept (λ d. d.token) w.diner a (act (w.diner a) Eat) w.tokens_on_way refl x y
token_rule w a (Leave thirsty) g x y = places_kept (λ d. d.token) w.diner a (act (w.diner a) (Leave thirsty)) w.tokens_on_way refl x y

-- few places of each, so that nothing comes to where it is
record AreFew (w : World) : Type 0 where
  pub fork : (x y : ℕ) → fork_places w x y ≤ 1 + num (x == y)
  pub token : (x y : ℕ) → token_places w x y ≤ 1 + num (x == y)

record AreAsIn (w v : World) : Type 0 where
  pub fork : (x y : ℕ) → fork_places v x y ≡ fork_places w x y
  pub token : (x y : ℕ) → token_places v x y ≡ token_places w x y

fork_comes : (w : World) (a v n : ℕ) → AreFew w → w.forks_on_way v a ≡ n → AreAsIn w (fork_taken w a v n)
fork_comes w a v zero few e = record { fork = λ x y. refl; token = λ x y. refl }
fork_comes w a v (suc left) few e = record {
  fork = places_came (λ d. d.held) w.diner a v left (with_fork (w.diner a) v) w.forks_on_way refl (not_here (λ z. (w.diner z).held) w.forks_on_way a v left (few.fork a v) e) e;
  token = places_kept (λ d. d.token) w.diner a (with_fork (w.diner a) v) w.tokens_on_way refl;
}

token_comes : (w : World) (a v n : ℕ) → AreFew w → w.tokens_on_way v a ≡ n → AreAsIn w (token_taken w a v n)
token_comes w a v zero few e = record { fork = λ x y. refl; token = λ x y. refl }
token_comes w a v (suc left) few e = record {
  fork = places_kept (λ d. d.held) w.diner a (with_token (w.diner a) v) w.forks_on_way refl;
  token = places_came (λ d. d.token) w.diner a v left (with_token (w.diner a) v) w.tokens_on_way refl (not_here (λ z. (w.diner z).token) w.tokens_on_way a v left (few.token a v) e) e;
}

places_after : (plan : PlanValue) (w : World) (e : Event) → AreFew w → AreAsIn w (happens plan w e)
places_after plan w (Do a rule) few =
    cond_both (does plan w a rule) (done w a rule) w (AreAsIn w)
    (λ e. let g : may (w.diner a) rule ≡ true = (and_parts (nat_lt a (length plan.offices)) (may (w.diner a) rule) e).1 in
    record { fork = fork_rule w a rule g; token = token_rule w a rule g })
    (λ e. record { fork = λ x y. refl; token = λ x y. refl })
places_after plan w (TokenComes a v) few = token_comes w a v (w.tokens_on_way v a) few refl
places_after plan w (ForkComes a v) few = fork_comes w a v (w.forks_on_way v a) few refl

few_in : (w v : World) → AreFew w → AreAsIn w v → AreFew v
few_in w v few same = record { fork = λ x y. omega (arith, few.fork x y, same.fork x y); token = λ x y. omega (arith, few.token x y, same.token x y) }

places_run : (plan : PlanValue) (w : World) (es : List Event) → AreFew w → AreAsIn w (run plan w es)
places_run plan w [] few = record { fork = λ x y. refl; token = λ x y. refl }
places_run plan w (e ∷ es) few =
    let one : AreAsIn w (happens plan w e) = places_after plan w e few in
    let more : AreAsIn (happens plan w e) (run plan (happens plan w e) es) = places_run plan (happens plan w e) es (few_in w (happens plan w e) few one) in
    record { fork = λ x y. more.fork x y ∙ one.fork x y; token = λ x y. more.token x y ∙ one.token x y }

-- ---- at the start

pub one_end : (plan : PlanValue) (u v x : ℕ) → fork_starts_at plan u v x ≡ fork_starts_at plan v u x
one_end plan u v x = ap (λ (e : Option PairEntry). option_map_or (λ z. z == x) (option_map fork_end e) false) (find_same (joins u v) (joins v u) (joins_swap u v) plan.pairs)

-- the fork starts at one of the two
one_of : (e u v : ℕ) → (u ≡ v → ⊥) → (e ≡ u) ⊎ (e ≡ v) → num (e == u) + num (e == v) ≡ 1
one_of e u v ne h = ⊎_elim
    (λ s. omega (arith, ap num (eq-eqb e u s), ap num (ne_eqb e v (λ t. ne (sym s ∙ t)))))
    (λ s. omega (arith, ap num (eq-eqb e v s), ap num (ne_eqb e u (λ t. ne (sym t ∙ s)))))
    h

end_of_pair : (pair : PairEntry) (u v : ℕ) → joins u v pair ≡ true → (fork_end pair ≡ u) ⊎ (fork_end pair ≡ v)
end_of_pair pair u v j = cond_both pair.fork_at_first pair.first pair.second (λ e. (e ≡ u) ⊎ (e ≡ v))
    (λ _. ⊎_elim
    (λ s. inl (eqb-true pair.first u (and_parts (pair.first == u) (pair.second == v) s).0))
    (λ s. inr (eqb-true pair.first v (and_parts (pair.first == v) (pair.second == u) s).0))
    (or_cases (pair.first == u && pair.second == v) (pair.first == v && pair.second == u) j))
    (λ _. ⊎_elim
    (λ s. inr (eqb-true pair.second v (and_parts (pair.first == u) (pair.second == v) s).1))
    (λ s. inl (eqb-true pair.second u (and_parts (pair.first == v) (pair.second == u) s).1))
    (or_cases (pair.first == u && pair.second == v) (pair.first == v && pair.second == u) j))

abbrev ends_at : ℕ → Option PairEntry → ℕ
ends_at x e = num (option_map_or (λ z. z == x) (option_map fork_end e) false)

one_start : (pairs : List PairEntry) (u v : ℕ) → (u ≡ v → ⊥) → list_any (joins u v) pairs ≡ true → ends_at u (find (joins u v) pairs) + ends_at v (find (joins u v) pairs) ≡ 1
one_start [] u v ne h = cc
one_start (x ∷ xs) u v ne h = go (joins u v x) (λ e. e) (one_start xs u v ne) h
  where
    go : (b : Bool) → (b ≡ true → joins u v x ≡ true) → (list_any (joins u v) xs ≡ true → ends_at u (find (joins u v) xs) + ends_at v (find (joins u v) xs) ≡ 1) → (b || list_any (joins u v) xs) ≡ true → ends_at u (cond b (Some x) (find (joins u v) xs)) + ends_at v (cond b (Some x) (find (joins u v) xs)) ≡ 1
    go true j r e = one_of (fork_end x) u v ne (end_of_pair x u v (j refl))
    go false j r e = r e

-- of two strangers nothing starts anywhere
strangers_start : (plan : PlanValue) (u v : ℕ) → are_neighbours plan u v ≡ false → (fork_places (opening plan) u v ≡ 0) × (token_places (opening plan) u v ≡ 0)
strangers_start plan u v far =
    let back : are_neighbours plan v u ≡ false = near_both plan v u ∙ far in (
      omega (arith, ap (λ b. num (b && fork_starts_at plan u v u)) far, ap (λ b. num (b && fork_starts_at plan v u v)) back),
      omega (arith, ap (λ b. num (b && not (fork_starts_at plan u v u))) far, ap (λ b. num (b && not (fork_starts_at plan v u v))) back),
    )

either_end : (b : Bool) → num b + num (not b) ≡ 1
either_end true = refl
either_end false = refl

neighbours_start : (plan : PlanValue) (u v : ℕ) → (u ≡ v → ⊥) → are_neighbours plan u v ≡ true → (fork_places (opening plan) u v ≡ 1) × (token_places (opening plan) u v ≡ 1)
neighbours_start plan u v apart near =
    let back : are_neighbours plan v u ≡ true = near_both plan v u ∙ near in
    let one : num (fork_starts_at plan u v u) + num (fork_starts_at plan v u v) ≡ 1 = omega (arith, ap num (one_end plan v u v), one_start plan.pairs u v apart near) in (
      omega (arith, ap (λ b. num (b && fork_starts_at plan u v u)) near, ap (λ b. num (b && fork_starts_at plan v u v)) back, one),
      omega (
        arith,
        ap (λ b. num (b && not (fork_starts_at plan u v u))) near,
        ap (λ b. num (b && not (fork_starts_at plan v u v))) back,
        one,
        either_end (fork_starts_at plan u v u),
        either_end (fork_starts_at plan v u v),
      ),
    )

at_most_one : (b : Bool) → num b ≤ 1
at_most_one true = omega arith
at_most_one false = omega arith

opening_few : (plan : PlanValue) → AreFew (opening plan)
opening_few plan = record {
  fork = λ x y. of x y (fork_places (opening plan)) (λ k. at_most_two x (λ z. are_neighbours plan z z && fork_starts_at plan z z z)) (λ ne near. (neighbours_start plan x y ne near).0) (λ far. (strangers_start plan x y far).0);
  token = λ x y. of x y (token_places (opening plan)) (λ k. at_most_two x (λ z. are_neighbours plan z z && not (fork_starts_at plan z z z))) (λ ne near. (neighbours_start plan x y ne near).1) (λ far. (strangers_start plan x y far).1);
}
  where
    at_most_two : (z : ℕ) (h : ℕ → Bool) → num (h z) + (num (h z) + (0 + 0)) ≤ 2
    at_most_two z h = omega (arith, at_most_one (h z))

    of : (x y : ℕ) (p : ℕ → ℕ → ℕ) → (Unit {0} → p x x ≤ 2) → ((x ≡ y → ⊥) → are_neighbours plan x y ≡ true → p x y ≡ 1) → (are_neighbours plan x y ≡ false → p x y ≡ 0) → p x y ≤ 1 + num (x == y)
    of x y p same near far = ⊎_elim
        (λ e. omega (arith, same tt, ap (p x) e, ap num (eq-eqb x y e)))
        (λ ne. ⊎_elim (λ n. omega (arith, near ne n)) (λ f. omega (arith, far f)) (cases_Bool (are_neighbours plan x y)))
        (cases_eq x y)

-- ---- laws

pub strangers_share_nothing : (plan : PlanValue) (es : List Event) (u v : ℕ) → are_neighbours plan u v ≡ false →
    (fork_places (run plan (opening plan) es) u v ≡ 0) × (token_places (run plan (opening plan) es) u v ≡ 0)
strangers_share_nothing plan es u v far =
    let same : AreAsIn (opening plan) (run plan (opening plan) es) = places_run plan (opening plan) es (opening_few plan) in
    let none : (fork_places (opening plan) u v ≡ 0) × (token_places (opening plan) u v ≡ 0) = strangers_start plan u v far in
    (same.fork u v ∙ none.0, same.token u v ∙ none.1)

pub each_has_one_place : (plan : PlanValue) (es : List Event) → IsConsistent plan → HasOnePlaceEach plan (run plan (opening plan) es)
each_has_one_place plan es h = record {
  fork = λ u v. ⊎_elim
      (λ near. same.fork u v ∙ (neighbours_start plan u v (neighbours_apart plan u v h near) near).0 ∙ sym (ap num near))
      (λ far. (strangers_share_nothing plan es u v far).0 ∙ sym (ap num far))
      (cases_Bool (are_neighbours plan u v));
  token = λ u v. ⊎_elim
      (λ near. same.token u v ∙ (neighbours_start plan u v (neighbours_apart plan u v h near) near).1 ∙ sym (ap num near))
      (λ far. (strangers_share_nothing plan es u v far).1 ∙ sym (ap num far))
      (cases_Bool (are_neighbours plan u v));
}
  where
    same : AreAsIn (opening plan) (run plan (opening plan) es)
    same = places_run plan (opening plan) es (opening_few plan)

-- ---- neighbours

act_neighbours : (d : Diner) (rule : ForkRule) → (act d rule).neighbours ≡ d.neighbours
act_neighbours d (BecomeHungry thirsty) = refl
act_neighbours d (AskFork v) = refl
act_neighbours d (GiveFork v) = refl
act_neighbours d Eat = refl
act_neighbours d (Leave thirsty) = refl

abbrev Sits : PlanValue → World → Type 0
Sits plan w = (a : ℕ) → (w.diner a).neighbours ≡ neighbours_of plan a

sits_put : (plan : PlanValue) (w : World) (a : ℕ) (d : Diner) → d.neighbours ≡ (w.diner a).neighbours → Sits plan w → (x : ℕ) → (put w.diner a d x).neighbours ≡ neighbours_of plan x
sits_put plan w a d same s x = put_cases w.diner a d x (λ (e : Diner). e.neighbours ≡ neighbours_of plan x) (λ e. same ∙ s a ∙ ap (neighbours_of plan) (sym e)) (λ ne. s x)

sits_token : (plan : PlanValue) (w : World) (a v n : ℕ) → Sits plan w → Sits plan (token_taken w a v n)
sits_token plan w a v zero s = s
sits_token plan w a v (suc left) s = sits_put plan w a (with_token (w.diner a) v) refl s

sits_fork : (plan : PlanValue) (w : World) (a v n : ℕ) → Sits plan w → Sits plan (fork_taken w a v n)
sits_fork plan w a v zero s = s
sits_fork plan w a v (suc left) s = sits_put plan w a (with_fork (w.diner a) v) refl s

sits_after : (plan : PlanValue) (w : World) (e : Event) → Sits plan w → Sits plan (happens plan w e)
sits_after plan w (Do a rule) s =
    cond_both (does plan w a rule) (done w a rule) w (Sits plan)
    (λ e. sits_put plan w a (act (w.diner a) rule) (act_neighbours (w.diner a) rule) s)
    (λ e. s)
sits_after plan w (TokenComes a v) s = sits_token plan w a v (w.tokens_on_way v a) s
sits_after plan w (ForkComes a v) s = sits_fork plan w a v (w.forks_on_way v a) s

sits_run : (plan : PlanValue) (w : World) (es : List Event) → Sits plan w → Sits plan (run plan w es)
sits_run plan w [] s = s
sits_run plan w (e ∷ es) s = sits_run plan (happens plan w e) es (sits_after plan w e s)

pub neighbours_stay : (plan : PlanValue) (es : List Event) (a : ℕ) → ((run plan (opening plan) es).diner a).neighbours ≡ neighbours_of plan a
neighbours_stay plan es = sits_run plan (opening plan) es (λ a. refl)
