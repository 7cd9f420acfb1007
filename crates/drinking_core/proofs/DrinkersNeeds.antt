-- An office that drinks has what it needs, event by event.
use Rattle.std.proofs.Common.{◌≡◌, ℕ, zero, suc, Bool, true, false, not, ◌&&◌, ◌||◌, cond, List, [], ◌∷◌, length, Option, None, Some, is_some, refl, ap, ◌∙◌}
use Rattle.std.specs.Prelude.{◌==◌, nat_lt}
use Rattle.std.specs.List.{list_all}
use Rattle.std.proofs.lemmas.Bool.{cond_both, eqb-true, and_parts, and_from}
use Rattle.bottle_values.specs.declared.Value.{Value}
use Rattle.bottle_values.specs.Maps.{put}
use Rattle.office_map.specs.PlanValue.{PlanValue}
use Rattle.drinking_core.specs.Drinkers.{Drinker, BottleRule, Start, AskBottle, GiveBottle, Drink, Finish, Withdraw, is_thirsty, is_drinking, is_served, holds, may, act, with_token, with_bottle}
use Rattle.drinking_core.specs.Worlds.{World, opening, Event, Do, TokenComes, BottleComes, done, bottle_taken, token_taken, does, happens, run, HasWhatItNeeds}

no_true : false ≡ true → ⊥
no_true e = absurd cc

all_more : (f g : ℕ → Bool) → ((q : ℕ) → f q ≡ true → g q ≡ true) → (rs : List ℕ) → list_all f rs ≡ true → list_all g rs ≡ true
all_more f g h [] e = refl
all_more f g h (r ∷ rs) e =
    let k : (f r ≡ true) × (list_all f rs ≡ true) = and_parts (f r) (list_all f rs) e in
    and_from (g r) (list_all g rs) (h r k.0) (all_more f g h rs k.1)

-- a bottle that goes wasn't needed, and one that comes serves
gone : (m n : Bool) (b : Option Value) → (m ≡ true → n ≡ false) → (not n || is_some b) ≡ true → (not n || is_some (cond m None b)) ≡ true
gone false n b h e = e
gone true n b h e = ap (λ x. not x || false) (h refl)

came : (m n : Bool) (b : Option Value) (x : Value) → (not n || is_some b) ≡ true → (not n || is_some (cond m (Some x) b)) ≡ true
came false n b x e = e
came true true b x e = refl
came true false b x e = refl

not_needed : (t h n d f : Bool) → (t && (h && not (n && (d || f)))) ≡ true → d ≡ true → n ≡ false
not_needed t h false d f g e = refl
not_needed t h true false f g e = absurd (no_true e)
not_needed true true true true f g e = absurd (no_true g)
not_needed true false true true f g e = absurd (no_true g)
not_needed false h true true f g e = absurd (no_true g)

needs_after : (d : Drinker) (rule : BottleRule) → may d rule ≡ true → HasWhatItNeeds d → HasWhatItNeeds (act d rule)
needs_after d (Start None) g h = h
needs_after d (Start (Some rs)) g h = λ e. absurd (no_true e)
needs_after d (AskBottle r) g h = h
needs_after d (GiveBottle r forks) g h = λ e.
    all_more (is_served d) (is_served (act d (GiveBottle r forks)))
    (λ q s. gone (q == r) (d.needed q) (d.bottle q) (λ m. ap d.needed (eqb-true q r m) ∙ not_needed (d.token r) (holds d r) (d.needed r) (is_drinking d.phase) (forks (d.peer r)) g e) s)
    d.records (h e)
needs_after d Drink g h = λ e. (and_parts (is_thirsty d.phase) (list_all (is_served d) d.records) g).1
needs_after d (Finish None) g h = h
needs_after d (Finish (Some ws)) g h = λ e. absurd (no_true e)
needs_after d Withdraw g h = λ e. absurd (no_true e)

needs_bottle : (d : Drinker) (r : ℕ) (x : Value) → HasWhatItNeeds d → HasWhatItNeeds (with_bottle d r x)
needs_bottle d r x h = λ e. all_more (is_served d) (is_served (with_bottle d r x)) (λ q s. came (q == r) (d.needed q) (d.bottle q) x s) d.records (h e)

one_put : (f : ℕ → Drinker) (a : ℕ) (d : Drinker) → HasWhatItNeeds d → ((c : ℕ) → HasWhatItNeeds (f c)) → (c : ℕ) → HasWhatItNeeds (put f a d c)
one_put f a d p h c = cond_both (c == a) d (f c) HasWhatItNeeds (λ e. p) (λ e. h c)

token_came : (w : World) (a v r n : ℕ) → ((c : ℕ) → HasWhatItNeeds (w.drinker c)) → (c : ℕ) → HasWhatItNeeds ((token_taken w a v r n).drinker c)
token_came w a v r zero h c = h c
token_came w a v r (suc left) h c = one_put w.drinker a (with_token (w.drinker a) r) (h a) h c

bottle_came : (w : World) (a v r : ℕ) (sent : List Value) → ((c : ℕ) → HasWhatItNeeds (w.drinker c)) → (c : ℕ) → HasWhatItNeeds ((bottle_taken w a v r sent).drinker c)
bottle_came w a v r [] h c = h c
bottle_came w a v r (x ∷ later) h c = one_put w.drinker a (with_bottle (w.drinker a) r x) (needs_bottle (w.drinker a) r x (h a)) h c

all_after : (plan : PlanValue) (w : World) (e : Event) → ((c : ℕ) → HasWhatItNeeds (w.drinker c)) → (c : ℕ) → HasWhatItNeeds ((happens plan w e).drinker c)
all_after plan w (Do a rule) h c =
    cond_both (does plan w a rule) (done w a rule) w (λ (x : World). HasWhatItNeeds (x.drinker c))
    (λ e. one_put w.drinker a (act (w.drinker a) rule) (needs_after (w.drinker a) rule (and_parts (nat_lt a (length plan.offices)) (may (w.drinker a) rule) e).1 (h a)) h c)
    (λ e. h c)
all_after plan w (TokenComes a v r) h c = token_came w a v r (w.tokens_on_way r v a) h c
all_after plan w (BottleComes a v r) h c = bottle_came w a v r (w.bottles_on_way r v a) h c

run_needs : (plan : PlanValue) (w : World) (es : List Event) → ((c : ℕ) → HasWhatItNeeds (w.drinker c)) → (c : ℕ) → HasWhatItNeeds ((run plan w es).drinker c)
run_needs plan w [] h c = h c
run_needs plan w (e ∷ es) h c = run_needs plan (happens plan w e) es (all_after plan w e h) c

pub drinkers_have_what_they_need : (plan : PlanValue) (es : List Event) (a : ℕ) → HasWhatItNeeds ((run plan (opening plan) es).drinker a)
drinkers_have_what_they_need plan es a = run_needs plan (opening plan) es (λ c e. absurd (no_true e)) a
