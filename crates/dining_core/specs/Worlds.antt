-- All offices of a plan at their tables with the forks and request tokens on the way, and who precedes whom.
use Rattle.std.specs.Prelude.{◌≡◌, ◌≢◌, ℕ, zero, suc, ◌+◌, Bool, true, false, not, ◌==◌, nat_lt, ◌&&◌, ◌||◌, List, [], ◌∷◌, ◌++◌, length, filter, if◌then◌else◌}
use Rattle.std.specs.List.{list_all}
use Rattle.office_map.specs.PlanValue.{PlanValue, are_neighbours, neighbours_of, fork_starts_at}
use Rattle.office_map.specs.Precedence.{occurrences, comes_before}
use Rattle.office_map.specs.Precedence as plans
use Rattle.office_map.specs.Consistency.{IsConsistent, IsAccepted}
use Rattle.dining_core.specs.Diners.{Diner, ForkRule, BecomeHungry, AskFork, GiveFork, Eat, Leave, is_eating, may, act, with_token, with_fork, diner_at_start}
use Rattle.bottle_values.specs.Maps.{put}
use Rattle.bottle_values.specs.Lists.{num}

-- each office; and how many forks, and how many request tokens, an office sent to another, who hasn't taken them
pub record World : Type 0 where
  pub diner : ℕ → Diner
  pub forks_on_way : ℕ → ℕ → ℕ
  pub tokens_on_way : ℕ → ℕ → ℕ

-- at the start every office sits at its table, and nothing is on the way
abbrev pub opening : PlanValue → World
opening plan = record { diner = diner_at_start plan; forks_on_way = λ a v. 0; tokens_on_way = λ a v. 0 }

-- an office does a rule, or takes the request token or the fork that v sent to it
pub data Event : Type 0 where
  Do : (a : ℕ) (rule : ForkRule) → Event
  TokenComes : (a v : ℕ) → Event
  ForkComes : (a v : ℕ) → Event

-- what goes from each office to each other, with what goes from a to v changed
abbrev pub with_way : {A : Type 0} → (ℕ → ℕ → A) → ℕ → ℕ → A → ℕ → ℕ → A
with_way way a v x = put way a (put (way a) v x)

abbrev pub one_more : (ℕ → ℕ → ℕ) → ℕ → ℕ → ℕ → ℕ → ℕ
one_more way a v = with_way way a v (way a v + 1)

-- a fork that is given is on the way
abbrev pub forks_after : (ℕ → ℕ → ℕ) → ℕ → ForkRule → ℕ → ℕ → ℕ
forks_after way a (BecomeHungry thirsty) = way
forks_after way a (AskFork v) = way
forks_after way a (GiveFork v) = one_more way a v
forks_after way a Eat = way
forks_after way a (Leave thirsty) = way

-- and so is the token of a fork that is asked for
abbrev pub tokens_after : (ℕ → ℕ → ℕ) → ℕ → ForkRule → ℕ → ℕ → ℕ
tokens_after way a (BecomeHungry thirsty) = way
tokens_after way a (AskFork v) = one_more way a v
tokens_after way a (GiveFork v) = way
tokens_after way a Eat = way
tokens_after way a (Leave thirsty) = way

abbrev pub done : World → ℕ → ForkRule → World
done w a rule = record {
  diner = put w.diner a (act (w.diner a) rule);
  forks_on_way = forks_after w.forks_on_way a rule;
  tokens_on_way = tokens_after w.tokens_on_way a rule;
}

-- of so many that v sent to a, one is taken, if there is one
abbrev pub token_taken : World → ℕ → ℕ → ℕ → World
token_taken w a v zero = w
token_taken w a v (suc left) = record {
  diner = put w.diner a (with_token (w.diner a) v);
  forks_on_way = w.forks_on_way;
  tokens_on_way = with_way w.tokens_on_way v a left;
}

abbrev pub fork_taken : World → ℕ → ℕ → ℕ → World
fork_taken w a v zero = w
fork_taken w a v (suc left) = record {
  diner = put w.diner a (with_fork (w.diner a) v);
  forks_on_way = with_way w.forks_on_way v a left;
  tokens_on_way = w.tokens_on_way;
}

-- an office of the plan does a rule where the guard holds
abbrev pub does : PlanValue → World → ℕ → ForkRule → Bool
does plan w a rule = nat_lt a (length plan.offices) && may (w.diner a) rule

-- What each event does. What comes is one of those that were sent; where none was, nothing happens.
abbrev pub happens : PlanValue → World → Event → World
happens plan w (Do a rule) = if does plan w a rule then done w a rule else w
happens plan w (TokenComes a v) = token_taken w a v (w.tokens_on_way v a)
happens plan w (ForkComes a v) = fork_taken w a v (w.forks_on_way v a)

abbrev pub run : PlanValue → World → List Event → World
run plan w [] = w
run plan w (e ∷ es) = run plan (happens plan w e) es

-- at how many places something of two offices is: held at either end, or on the way
abbrev pub places : (ℕ → ℕ → Bool) → (ℕ → ℕ → ℕ) → ℕ → ℕ → ℕ
places held on_way u v = num (held u v) + (num (held v u) + (on_way u v + on_way v u))

-- so their fork
abbrev pub fork_places : World → ℕ → ℕ → ℕ
fork_places w u v = places (λ a. (w.diner a).held) w.forks_on_way u v

-- so its request token
abbrev pub token_places : World → ℕ → ℕ → ℕ
token_places w u v = places (λ a. (w.diner a).token) w.tokens_on_way u v

-- the fork of two neighbours is at one place, and so is its request token; those of two other offices are at none
pub record HasOnePlaceEach (plan : PlanValue) (w : World) : Type 0 where
  pub fork : (u v : ℕ) → fork_places w u v ≡ num (are_neighbours plan u v)
  pub token : (u v : ℕ) → token_places w u v ≡ num (are_neighbours plan u v)

-- these two have neither fork nor request token, at either or on the way
abbrev pub ShareNothing : World → ℕ → ℕ → Type 0
ShareNothing w u v = (fork_places w u v ≡ 0) × (token_places w u v ≡ 0)

-- an office that eats has the fork of each of its neighbours
abbrev pub HasItsForks : Diner → Type 0
HasItsForks d = is_eating d.phase ≡ true → list_all d.held d.neighbours ≡ true

-- u precedes v: u has their fork clean, or v has it dirty and so has to give it, or v sent it to u
abbrev pub precedes : World → ℕ → ℕ → Bool
precedes w u v =
    ((w.diner u).held v && (w.diner u).clean v)
    || (((w.diner v).held u && not ((w.diner v).clean u))
    || nat_lt 0 (w.forks_on_way v u))

-- all offices, each once, in which of two neighbours the one that precedes comes earlier
pub record IsOrder (plan : PlanValue) (w : World) (order : List ℕ) : Type 0 where
  pub once : (a : ℕ) → occurrences a order ≡ num (nat_lt a (length plan.offices))
  pub earlier : (u v : ℕ) → are_neighbours plan u v ≡ true → precedes w u v ≡ true → comes_before order u v ≡ true

-- there is such a list
pub record HasNoRing (plan : PlanValue) (w : World) : Type 0 where
  pub order : List ℕ
  pub is : IsOrder plan w order

-- an office of the plan begins to eat
abbrev pub eats : PlanValue → World → Event → Bool
eats plan w (Do a (BecomeHungry thirsty)) = false
eats plan w (Do a (AskFork v)) = false
eats plan w (Do a (GiveFork v)) = false
eats plan w (Do a Eat) = does plan w a Eat
eats plan w (Do a (Leave thirsty)) = false
eats plan w (TokenComes a v) = false
eats plan w (ForkComes a v) = false

-- the list with one office put last
abbrev pub with_last : ℕ → List ℕ → List ℕ
with_last a order = filter (λ x. not (x == a)) order ++ a ∷ []

-- ---- laws

-- after every list of events forks and request tokens are where they belong
abbrev pub EachHasOnePlace : Type 0
EachHasOnePlace = (plan : PlanValue) (events : List Event) → IsConsistent plan → HasOnePlaceEach plan (run plan (opening plan) events)

-- two offices that are no neighbours share nothing, after every list of events
abbrev pub StrangersShareNothing : Type 0
StrangersShareNothing = (plan : PlanValue) (events : List Event) (u v : ℕ) → are_neighbours plan u v ≡ false → ShareNothing (run plan (opening plan) events) u v

-- after every list of events each office sits with its neighbours of the plan
abbrev pub NeighboursStay : Type 0
NeighboursStay = (plan : PlanValue) (events : List Event) (a : ℕ) → ((run plan (opening plan) events).diner a).neighbours ≡ neighbours_of plan a

-- after every list of events an office that eats has the fork of each of its neighbours
abbrev pub EatersHaveTheirForks : Type 0
EatersHaveTheirForks = (plan : PlanValue) (events : List Event) (a : ℕ) → HasItsForks ((run plan (opening plan) events).diner a)

-- two neighbours never eat at once, whatever events there were
abbrev pub NeighboursEatApart : Type 0
NeighboursEatApart = (plan : PlanValue) (events : List Event) (u v : ℕ) → IsConsistent plan → are_neighbours plan u v ≡ true →
    (is_eating ((run plan (opening plan) events).diner u).phase && is_eating ((run plan (opening plan) events).diner v).phase) ≡ false

-- at the start an office precedes the neighbour that has their fork, which is dirty
abbrev pub ForksStartDirty : Type 0
ForksStartDirty = (plan : PlanValue) (u v : ℕ) → are_neighbours plan u v ≡ true → precedes (opening plan) u v ≡ fork_starts_at plan v u v

-- no event but eating changes which of two offices precedes the other, where their fork is at one place
abbrev pub OnlyEatingTurns : Type 0
OnlyEatingTurns = (plan : PlanValue) (w : World) (e : Event) (u v : ℕ) → u ≢ v → fork_places w u v ≡ 1 → eats plan w e ≡ false →
    precedes (happens plan w e) u v ≡ precedes w u v

-- where an office eats that sits with its neighbours and has its forks at one place each, an order of before, with the
-- eater put last, is one of after
abbrev pub TheEaterComesLast : Type 0
TheEaterComesLast = (plan : PlanValue) (w : World) (a : ℕ) (order : List ℕ) → IsConsistent plan →
    (w.diner a).neighbours ≡ neighbours_of plan a → ((v : ℕ) → are_neighbours plan a v ≡ true → fork_places w a v ≡ 1) → eats plan w (Do a Eat) ≡ true →
    IsOrder plan w order → IsOrder plan (happens plan w (Do a Eat)) (with_last a order)

-- an order in which the plan's offices precede one another is one of the world at the start
abbrev pub StartsInThePlansOrder : Type 0
StartsInThePlansOrder = (plan : PlanValue) (order : List ℕ) → plans.IsOrder plan order → IsOrder plan (opening plan) order

-- from every plan that `Plan::read` accepts, over every list of events, precedence has no ring
abbrev pub NoRingFromAnAcceptedPlan : Type 0
NoRingFromAnAcceptedPlan = (plan : PlanValue) (events : List Event) → IsAccepted plan → HasNoRing plan (run plan (opening plan) events)

-- where precedence has no ring at the start, it has none after every list of events
abbrev pub NeverARing : Type 0
NeverARing = (plan : PlanValue) (events : List Event) → IsConsistent plan → HasNoRing plan (opening plan) → HasNoRing plan (run plan (opening plan) events)
