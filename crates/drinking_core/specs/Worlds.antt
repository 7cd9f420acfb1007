-- All offices of a plan at their bars with the bottles and request tokens on the way, and where each bottle is.
use Rattle.std.specs.Prelude.{◌≡◌, ℕ, zero, suc, ◌<◌, ◌≤◌, Bool, true, false, ◌==◌, ◌&&◌, nat_lt, List, [], ◌∷◌, ◌++◌, length, Option, None, Some, slice_get, if◌then◌else◌}
use Rattle.std.specs.List.{list_all}
use Rattle.bottle_values.specs.declared.Value.{Value}
use Rattle.bottle_values.specs.Maps.{put}
use Rattle.bottle_values.specs.Lists.{num}
use Rattle.office_map.specs.declared.entries.RecordEntry.{RecordEntry}
use Rattle.office_map.specs.PlanValue.{PlanValue, are_neighbours, records_of, is_end, has_ends, peer, start_end}
use Rattle.office_map.specs.Consistency.{IsConsistent}
use Rattle.dining_core.specs.Worlds.{with_way, one_more, places}
use Rattle.drinking_core.specs.Drinkers.{Drinker, BottleRule, Start, AskBottle, GiveBottle, Drink, Finish, Withdraw, is_drinking, is_served, holds, may, act, with_token, with_bottle, value_after, opened}

-- each office; and of each record the bottles, with their values and the first one first, and how many request tokens
-- an office sent to another, who hasn't taken them
pub record World : Type 0 where
  pub drinker : ℕ → Drinker
  pub bottles_on_way : ℕ → ℕ → ℕ → List Value
  pub tokens_on_way : ℕ → ℕ → ℕ → ℕ

-- at the start nothing is on the way
abbrev pub opening : PlanValue → World
opening plan = record { drinker = opened plan; bottles_on_way = λ r a v. []; tokens_on_way = λ r a v. 0 }

-- an office does a rule, or takes the request token or the bottle of a record that v sent to it
pub data Event : Type 0 where
  Do : (a : ℕ) (rule : BottleRule) → Event
  TokenComes : (a v r : ℕ) → Event
  BottleComes : (a v r : ℕ) → Event

-- a bottle that is given is on the way, behind those that are
abbrev pub bottle_sent : (ℕ → ℕ → ℕ → List Value) → ℕ → ℕ → ℕ → Option Value → ℕ → ℕ → ℕ → List Value
bottle_sent way r a v None = way
bottle_sent way r a v (Some x) = put way r (with_way (way r) a v (way r a v ++ x ∷ []))

-- what is given goes to the other end
abbrev pub bottles_after : (ℕ → ℕ → ℕ → List Value) → ℕ → Drinker → BottleRule → ℕ → ℕ → ℕ → List Value
bottles_after way a d (Start session) = way
bottles_after way a d (AskBottle r) = way
bottles_after way a d (GiveBottle r forks) = bottle_sent way r a (d.peer r) (d.bottle r)
bottles_after way a d Drink = way
bottles_after way a d (Finish writes) = way
bottles_after way a d Withdraw = way

-- and so does the token of a bottle that is asked for
abbrev pub tokens_after : (ℕ → ℕ → ℕ → ℕ) → ℕ → Drinker → BottleRule → ℕ → ℕ → ℕ → ℕ
tokens_after way a d (Start session) = way
tokens_after way a d (AskBottle r) = put way r (one_more (way r) a (d.peer r))
tokens_after way a d (GiveBottle r forks) = way
tokens_after way a d Drink = way
tokens_after way a d (Finish writes) = way
tokens_after way a d Withdraw = way

abbrev pub done : World → ℕ → BottleRule → World
done w a rule = record {
  drinker = put w.drinker a (act (w.drinker a) rule);
  bottles_on_way = bottles_after w.bottles_on_way a (w.drinker a) rule;
  tokens_on_way = tokens_after w.tokens_on_way a (w.drinker a) rule;
}

-- of the tokens that v sent to a, so many, one is taken, if there is one
abbrev pub token_taken : World → ℕ → ℕ → ℕ → ℕ → World
token_taken w a v r zero = w
token_taken w a v r (suc left) = record {
  drinker = put w.drinker a (with_token (w.drinker a) r);
  bottles_on_way = w.bottles_on_way;
  tokens_on_way = put w.tokens_on_way r (with_way (w.tokens_on_way r) v a left);
}

-- of these bottles the first
abbrev pub bottle_taken : World → ℕ → ℕ → ℕ → List Value → World
bottle_taken w a v r [] = w
bottle_taken w a v r (x ∷ later) = record {
  drinker = put w.drinker a (with_bottle (w.drinker a) r x);
  bottles_on_way = put w.bottles_on_way r (with_way (w.bottles_on_way r) v a later);
  tokens_on_way = w.tokens_on_way;
}

-- an office of the plan does a rule where the guard holds
abbrev pub does : PlanValue → World → ℕ → BottleRule → Bool
does plan w a rule = nat_lt a (length plan.offices) && may (w.drinker a) rule

-- What each event does. What comes is the first of those that were sent; where none was, nothing happens.
abbrev pub happens : PlanValue → World → Event → World
happens plan w (Do a rule) = if does plan w a rule then done w a rule else w
happens plan w (TokenComes a v r) = token_taken w a v r (w.tokens_on_way r v a)
happens plan w (BottleComes a v r) = bottle_taken w a v r (w.bottles_on_way r v a)

abbrev pub run : PlanValue → World → List Event → World
run plan w [] = w
run plan w (e ∷ es) = run plan (happens plan w e) es

-- the spot of a bottle or a request token: with an office, or on the way from one to another
pub data Spot : Type 0 where
  With : (a : ℕ) → Spot
  Toward : (a v : ℕ) → Spot

abbrev pub is_with : Spot → ℕ → Bool
is_with (With a) c = c == a
is_with (Toward a v) c = false

abbrev pub is_toward : Spot → ℕ → ℕ → Bool
is_toward (With a) b c = false
is_toward (Toward a v) b c = b == a && c == v

-- with an end of the record, or on the way from an end to the other
abbrev pub is_at_ends : PlanValue → ℕ → Spot → Bool
is_at_ends plan r (With a) = is_end plan r a
is_at_ends plan r (Toward a v) = has_ends plan r a v

-- at the spot an office has x, or one x' is on the way, and there is nothing anywhere else
pub record IsAt {X Y : Type 0} (nowhere : X) (nothing : Y) (held : ℕ → X) (on_way : ℕ → ℕ → Y) (spot : Spot) (x : X) (x' : Y) : Type 0 where
  pub here : (c : ℕ) → held c ≡ (if is_with spot c then x else nowhere)
  pub sent : (b c : ℕ) → on_way b c ≡ (if is_toward spot b c then x' else nothing)

-- the bottle of the record is there with this value, and nowhere else
abbrev pub IsBottleAt : World → ℕ → Spot → Value → Type 0
IsBottleAt w r spot v = IsAt None [] (λ c. (w.drinker c).bottle r) (w.bottles_on_way r) spot (Some v) (v ∷ [])

abbrev pub IsTokenAt : World → ℕ → Spot → Type 0
IsTokenAt w r spot = IsAt false 0 (λ c. (w.drinker c).token r) (w.tokens_on_way r) spot true 1

-- the bottle of the record is at a spot of its ends, and so is its request token
pub record HasItsSpots (plan : PlanValue) (w : World) (r : ℕ) : Type 0 where
  pub spot : Spot
  pub value : Value
  pub bottle : IsBottleAt w r spot value
  pub bottle_end : is_at_ends plan r spot ≡ true
  pub token_spot : Spot
  pub token : IsTokenAt w r token_spot
  pub token_at_end : is_at_ends plan r token_spot ≡ true

-- at how many places the bottle of a record is between two offices: held at one to which the other is the other end, or
-- on the way
abbrev pub bottle_places : World → ℕ → ℕ → ℕ → ℕ
bottle_places w r u v = places (λ a b. (w.drinker a).peer r == b && holds (w.drinker a) r) (λ a b. length (w.bottles_on_way r a b)) u v

-- and at how many its request token is
abbrev pub token_places : World → ℕ → ℕ → ℕ → ℕ
token_places w r u v = places (λ a b. (w.drinker a).peer r == b && (w.drinker a).token r) (w.tokens_on_way r) u v

-- the bottle of a record is at one place between its two ends, and so is its request token; between two other offices,
-- or of a record that the plan doesn't have, there is neither
pub record HasOnePlaceEach (plan : PlanValue) (w : World) : Type 0 where
  pub bottle : (r u v : ℕ) → bottle_places w r u v ≡ num (has_ends plan r u v)
  pub token : (r u v : ℕ) → token_places w r u v ≡ num (has_ends plan r u v)

-- these two have no bottle and no request token between them
abbrev pub ShareNothing : World → ℕ → ℕ → Type 0
ShareNothing w u v = (r : ℕ) → (bottle_places w r u v ≡ 0) × (token_places w r u v ≡ 0)

-- of the record there is neither bottle nor request token, at any office or on the way
pub record IsNowhere (w : World) (r : ℕ) : Type 0 where
  pub bottle : (a : ℕ) → (w.drinker a).bottle r ≡ None
  pub token : (a : ℕ) → (w.drinker a).token r ≡ false
  pub bottles_on_way : (a v : ℕ) → w.bottles_on_way r a v ≡ []
  pub tokens_on_way : (a v : ℕ) → w.tokens_on_way r a v ≡ 0

-- an office of the plan finishes its session with these writes
abbrev pub finishes : PlanValue → World → Event → Bool
finishes plan w (Do a (Start session)) = false
finishes plan w (Do a (AskBottle r)) = false
finishes plan w (Do a (GiveBottle r forks)) = false
finishes plan w (Do a Drink) = false
finishes plan w (Do a (Finish writes)) = does plan w a (Finish writes)
finishes plan w (Do a Withdraw) = false
finishes plan w (TokenComes a v r) = false
finishes plan w (BottleComes a v r) = false

-- the bottle of the record has this value, wherever it is
pub record HasValue (w : World) (r : ℕ) (v : Value) : Type 0 where
  pub spot : Spot
  pub at : IsBottleAt w r spot v

-- an office that drinks has the bottles of its records that its session needs
abbrev pub HasWhatItNeeds : Drinker → Type 0
HasWhatItNeeds d = is_drinking d.phase ≡ true → list_all (is_served d) d.records ≡ true

-- ---- laws

-- after every list of events bottles and request tokens are where they belong
abbrev pub EachHasItsSpots : Type 0
EachHasItsSpots = (plan : PlanValue) (events : List Event) (r : ℕ) → r < length plan.records → HasItsSpots plan (run plan (opening plan) events) r

-- after every list of events each record's bottle and request token are at one place between its ends
abbrev pub EachHasOnePlace : Type 0
EachHasOnePlace = (plan : PlanValue) (events : List Event) → IsConsistent plan → HasOnePlaceEach plan (run plan (opening plan) events)

-- two offices that are no neighbours share nothing, after every list of events
abbrev pub StrangersShareNothing : Type 0
StrangersShareNothing = (plan : PlanValue) (events : List Event) (u v : ℕ) → IsConsistent plan → are_neighbours plan u v ≡ false → ShareNothing (run plan (opening plan) events) u v

-- so it is, after every list of events, of records that the plan doesn't have
abbrev pub UnknownRecordsAreNowhere : Type 0
UnknownRecordsAreNowhere = (plan : PlanValue) (events : List Event) (r : ℕ) → length plan.records ≤ r → IsNowhere (run plan (opening plan) events) r

-- after every list of events each office has its records of the plan
abbrev pub RecordsStay : Type 0
RecordsStay = (plan : PlanValue) (events : List Event) (a : ℕ) → ((run plan (opening plan) events).drinker a).records ≡ records_of plan a

-- and the other end of each is that of the plan
abbrev pub PeersStay : Type 0
PeersStay = (plan : PlanValue) (events : List Event) (a r : ℕ) → ((run plan (opening plan) events).drinker a).peer r ≡ peer plan a r

-- two spots of a bottle are the same, with the same value
abbrev pub NoOtherSpot : Type 0
NoOtherSpot = (w : World) (r : ℕ) (spot other : Spot) (v x : Value) → IsBottleAt w r spot v → IsBottleAt w r other x → (spot ≡ other) × (v ≡ x)

-- each bottle starts at the plan's end with the plan's value
abbrev pub BottlesStartWithTheirValues : Type 0
BottlesStartWithTheirValues = (plan : PlanValue) (r : ℕ) (e : RecordEntry) → slice_get plan.records r ≡ Some e → IsBottleAt (opening plan) r (With (start_end e)) e.value

-- no event but the end of a session changes the value of a bottle
abbrev pub ValuesStay : Type 0
ValuesStay = (plan : PlanValue) (w : World) (e : Event) (r : ℕ) (v : Value) → finishes plan w e ≡ false → HasValue w r v → HasValue (happens plan w e) r v

-- where an office finishes, the bottles that it has get what was written to their records last, and no bottle moves
abbrev pub FinishingWrites : Type 0
FinishingWrites = (plan : PlanValue) (w : World) (a : ℕ) (writes : List (ℕ × Value)) (r : ℕ) (spot : Spot) (v : Value) → finishes plan w (Do a (Finish (Some writes))) ≡ true → IsBottleAt w r spot v →
    IsBottleAt (happens plan w (Do a (Finish (Some writes)))) r spot (if is_with spot a then value_after writes r v else v)

-- so it is after every list of events
abbrev pub DrinkersHaveWhatTheyNeed : Type 0
DrinkersHaveWhatTheyNeed = (plan : PlanValue) (events : List Event) (a : ℕ) → HasWhatItNeeds ((run plan (opening plan) events).drinker a)
