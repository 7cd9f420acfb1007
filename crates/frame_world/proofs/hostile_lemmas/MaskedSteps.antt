-- What happens to an office that keeps to the rules, seen through the mask: a step of what is shown, or nothing. Its guard holds there too.
use Rattle.std.proofs.Common.{◌≡◌, ℕ, Bool, true, false, cond, List, [], ◌∷◌, length, Option, None, Some, refl, sym, ap, ◌∙◌, ⊎_elim}
use Rattle.std.specs.Prelude.{◌==◌, ◌&&◌, ◌||◌, not, is_some, filter, slice_get, option_map}
use Rattle.std.specs.List.{list_all, range_with_len}
use Rattle.std.specs.Option.{option_map_or}
use Rattle.std.proofs.lemmas.Bool.{and_parts, and_from, eqb-true, or_cases, or_left, or_right, eq-eqb}
use Rattle.std.proofs.lemmas.Map.Views.{any-filter_same}
use Rattle.bottle_values.specs.Lists.{is_among}
use Rattle.frame_codec.specs.declared.message.Msg.{Msg}
use Rattle.frame_codec.specs.declared.message.Msg.TheVariants as msg
use Rattle.frame_codec.specs.Frame.{Fields}
use Rattle.office_map.specs.declared.entries.PairEntry.{PairEntry}
use Rattle.office_map.specs.declared.entries.RecordEntry.{RecordEntry}
use Rattle.office_map.specs.PlanValue.{PlanValue, joins, are_neighbours, neighbours_of, lies_between, has_ends, is_end, peer}
use Rattle.office_map.specs.Consistency.{IsConsistent}
use Rattle.office_map.specs.NeighbourLaws.{between_cases, among_neighbours, has_peer}
use Rattle.window_link.specs.Links.{LinkState, fault_of, after_arrival, arrival_at}
use Rattle.window_link.specs.Windows.{next_kept}
use Rattle.window_link.specs.declared.arrival.Arrival.{Arrival}
use Rattle.window_link.specs.declared.arrival.Arrival.TheVariants as arrival
use Rattle.window_link.specs.declared.fault.LinkFault.TheVariants.{Stranger}
use Rattle.token_channel.specs.declared.fault.ChannelFault.TheVariants.{Link}
use Rattle.token_channel.specs.declared.thing.Thing.{Thing}
use Rattle.token_channel.specs.declared.thing.Thing.TheVariants as thing
use Rattle.token_channel.specs.Things.{thing_of}
use Rattle.token_channel.specs.Places.{waits}
use Rattle.token_channel.specs.Ends.{is_shared}
use Rattle.token_channel.specs.Channels.{breach_among, unless_breach, link_fault_or, fault_among, follows_among, left_by, next_of, link_then, WhatComesWasAway, WhatFollowsWasAway}
use Rattle.dining_core.specs.Diners.{ForkRule, is_hungry, is_eating}
use Rattle.dining_core.specs.Diners as forks
use Rattle.drinking_core.specs.Drinkers.{Drinker, BottleRule, is_tranquil, is_thirsty, is_drinking, is_served}
use Rattle.drinking_core.specs.Drinkers as bottles
use Rattle.site_core.specs.neighbours.Pairs.{Pairs, held, frame_fault, arrival_of, arrived, as_arrival, follows}
use Rattle.site_core.specs.neighbours.PairLaws.{passed}
use Rattle.frame_world.proofs.OneLink.{brought}
use Rattle.frame_world.proofs.Answers.{PairStep, Stays, ByFork, ByBottle, ByFrame, ByKept, pair_after, MayStep}
use Rattle.frame_world.proofs.PlacesAndForks.{all_at}
use Rattle.frame_world.specs.hostile.Claims.{has_honest_ends}
use Rattle.frame_world.proofs.hostile_lemmas.Masks.{joined, table_plan, masked_drinker, first_link, first_bottle, first_token, seen, shown_if, shown_fork, shown_bottle, shown_writes, GoesThere, IsOfSuch, fork_row_seen, bottle_row_seen, arrived_seen, arrived_hidden}

-- ---- ends of records

and_swap : (x y : Bool) → (x && y) ≡ (y && x)
and_swap true true = refl
and_swap true false = refl
and_swap false true = refl
and_swap false false = refl

-- a record between two offices has honest ends where both are
pub ends_between : (h : ℕ → Bool) (p : PlanValue) (r a v : ℕ) → has_ends p r a v ≡ true → has_honest_ends h p r ≡ (h a && h v)
ends_between h p r a v e = go (slice_get p.records r) e
  where
    go : (o : Option RecordEntry) → option_map_or (lies_between a v) o false ≡ true → option_map_or (λ (x : RecordEntry). h x.first && h x.second) o false ≡ (h a && h v)
    go None k = absurd cc
    go (Some x) k = ⊎_elim
        (λ s. ap (λ i. h i && h x.second) s.0 ∙ ap (λ i. h a && h i) s.1)
        (λ s. ap (λ i. h i && h x.second) s.0 ∙ ap (λ i. h v && h i) s.1 ∙ and_swap (h v) (h a))
        (between_cases x a v k)

-- of an honest office's record the other end tells
ends_by_peer : (h : ℕ → Bool) (p : PlanValue) (r a : ℕ) → h a ≡ true → is_end p r a ≡ true → has_honest_ends h p r ≡ h (peer p a r)
ends_by_peer h p r a e own = ends_between h p r a (peer p a r) (has_peer p r a own) ∙ ap (λ b. b && h (peer p a r)) e

-- ---- what is held of things that are shared with an honest office

pub held_seen : (h : ℕ → Bool) (p : PlanValue) (a v : ℕ) (q : Pairs) (t : Thing) → h a ≡ true → h v ≡ true → is_shared p a v t ≡ true → held (seen h p a q) v t ≡ held q v t
held_seen h p a v q thing.Fork ea ev s = ap (λ b. b && q.diner.held v) ev
held_seen h p a v q thing.ForkToken ea ev s = ap (λ b. b && q.diner.token v) ev
held_seen h p a v q (thing.Bottle r) ea ev s =
    let ends : has_honest_ends h p r ≡ true = ends_between h p r a v s ∙ and_from (h a) (h v) ea ev in
    ap (λ b. (q.drinker.peer r == v) && is_some (cond b (q.drinker.bottle r) (first_bottle p a r))) ends
held_seen h p a v q (thing.BottleToken r) ea ev s =
    let ends : has_honest_ends h p r ≡ true = ends_between h p r a v s ∙ and_from (h a) (h v) ea ev in
    ap (λ b. (q.drinker.peer r == v) && cond b (q.drinker.token r) (first_token p a r)) ends

-- so a breach is one there too
breach_same : (shared here there : Thing → Bool) (l : LinkState) (count : ℕ) (m : Msg) → ((t : Thing) → shared t ≡ true → there t ≡ here t) → breach_among shared there l count m ≡ breach_among shared here l count m
breach_same shared here there l count m same = by (shared (thing_of m)) refl
  where
    rest : Bool
    rest = waits (thing_of m) (left_by l count)

    by : (b : Bool) → shared (thing_of m) ≡ b → (not b || there (thing_of m) || rest) ≡ (not b || here (thing_of m) || rest)
    by true e = ap (λ x. x || rest) (same (thing_of m) e)
    by false e = refl

fault_same : (shared here there : Thing → Bool) (l : LinkState) (f : Fields) → ((t : Thing) → shared t ≡ true → there t ≡ here t) → fault_among shared there l f ≡ fault_among shared here l f
fault_same shared here there l f same = by (next_of l f)
  where
    by : (o : Option Msg) → link_fault_or (fault_of l f) (option_map_or (breach_among shared there l f.count) o false) ≡ link_fault_or (fault_of l f) (option_map_or (breach_among shared here l f.count) o false)
    by None = refl
    by (Some m) = ap (link_fault_or (fault_of l f)) (breach_same shared here there l f.count m same)

follows_same : (shared here there : Thing → Bool) (l : LinkState) → ((t : Thing) → shared t ≡ true → there t ≡ here t) → follows_among shared there l ≡ follows_among shared here l
follows_same shared here there l same = by (next_kept l.receiving)
  where
    by : (o : Option Msg) → unless_breach (breach_among shared there l l.sending.acked) o ≡ unless_breach (breach_among shared here l l.sending.acked) o
    by None = refl
    by (Some m) = ap (λ b. cond b None (Some m)) (breach_same shared here there l l.sending.acked m same)

pub link_seen : (h : ℕ → Bool) (p : PlanValue) (a v : ℕ) (q : Pairs) → h v ≡ true → (seen h p a q).link v ≡ q.link v
link_seen h p a v q e = ap (λ b. cond b (q.link v) (first_link p a v)) e

-- ---- guards

-- what holds of all of a list holds of it where it asks for less
all_weaker : (f g : ℕ → Bool) (xs : List ℕ) → ((x : ℕ) → f x ≡ true → g x ≡ true) → list_all f xs ≡ true → list_all g xs ≡ true
all_weaker f g [] less e = refl
all_weaker f g (x ∷ xs) less e =
    let parts : (f x ≡ true) × (list_all f xs ≡ true) = and_parts (f x) (list_all f xs) e in
    and_from (g x) (list_all g xs) (less x parts.0) (all_weaker f g xs less parts.1)

-- of all members
all_members : (g : ℕ → Bool) (xs : List ℕ) → ((x : ℕ) → is_among xs x ≡ true → g x ≡ true) → list_all g xs ≡ true
all_members g [] all = refl
all_members g (x ∷ xs) all = and_from (g x) (list_all g xs) (all x (or_left (x == x) (is_among xs x) (eq-eqb x x refl))) (all_members g xs (λ y i. all y (or_right (x == y) (is_among xs y) i)))

-- a pair that joins two offices is of honest ones where both are
pub joins_such : (h : ℕ → Bool) (a v : ℕ) (e : PairEntry) → joins a v e ≡ true → joined h e ≡ (h a && h v)
joins_such h a v e j = ⊎_elim
    (λ s.
    let k : ((e.first == a) ≡ true) × ((e.second == v) ≡ true) = and_parts (e.first == a) (e.second == v) s in
    ap (λ i. h i && h e.second) (eqb-true e.first a k.0) ∙ ap (λ i. h a && h i) (eqb-true e.second v k.1))
    (λ s.
    let k : ((e.first == v) ≡ true) × ((e.second == a) ≡ true) = and_parts (e.first == v) (e.second == a) s in
    ap (λ i. h i && h e.second) (eqb-true e.first v k.0) ∙ ap (λ i. h v && h i) (eqb-true e.second a k.1) ∙ and_swap (h v) (h a))
    (or_cases (e.first == a && e.second == v) (e.first == v && e.second == a) j)

-- who is a neighbour in the plan of honest pairs
pub near_there : (h : ℕ → Bool) (p : PlanValue) (a v : ℕ) → are_neighbours (table_plan h p) a v ≡ ((h a && h v) && are_neighbours p a v)
near_there h p a v = any-filter_same (joins a v) (joined h) (h a && h v) (joins_such h a v) p.pairs

-- each neighbour there is one of the plan, and honest
neighbours_there : (h : ℕ → Bool) (p : PlanValue) (a v : ℕ) → is_among (neighbours_of (table_plan h p) a) v ≡ true → (h v ≡ true) × (are_neighbours p a v ≡ true)
neighbours_there h p a v i =
    let there : are_neighbours (table_plan h p) a v ≡ true = (and_parts (are_neighbours (table_plan h p) a v) (is_among (range_with_len 0 (length p.offices)) v) (sym (any-filter_same (λ x. x == v) (are_neighbours (table_plan h p) a) (are_neighbours (table_plan h p) a v) (λ k e. ap (are_neighbours (table_plan h p) a) (eqb-true k v e)) (range_with_len 0 (length p.offices))) ∙ i)).0 in
    let parts : ((h a && h v) ≡ true) × (are_neighbours p a v ≡ true) = and_parts (h a && h v) (are_neighbours p a v) (sym (near_there h p a v) ∙ there) in
    ((and_parts (h a) (h v) parts.0).1, parts.1)

fork_may : (h : ℕ → Bool) (p : PlanValue) (a : ℕ) (q : Pairs) (rule : ForkRule) → IsConsistent p → q.diner.neighbours ≡ neighbours_of p a → forks.may q.diner rule ≡ true → MayStep p a (seen h p a q) (shown_fork h rule)
fork_may h p a q (forks.BecomeHungry thirsty) c sits e = e
fork_may h p a q (forks.AskFork v) c sits e = by (h v) refl
  where
    by : (b : Bool) → h v ≡ b → MayStep p a (seen h p a q) (shown_if b (ByFork (forks.AskFork v)))
    by true i = ap (λ b. is_hungry q.diner.phase && (not (b && q.diner.held v) && (b && q.diner.token v))) i ∙ e
    by false i = tt
fork_may h p a q (forks.GiveFork v) c sits e = by (h v) refl
  where
    by : (b : Bool) → h v ≡ b → MayStep p a (seen h p a q) (shown_if b (ByFork (forks.GiveFork v)))
    by true i = ap (λ b. not (is_eating q.diner.phase) && ((b && q.diner.token v) && ((b && q.diner.held v) && not (b && q.diner.clean v)))) i ∙ e
    by false i = tt
fork_may h p a q forks.Eat c sits e =
    let parts : (is_hungry q.diner.phase ≡ true) × (list_all q.diner.held q.diner.neighbours ≡ true) = and_parts (is_hungry q.diner.phase) (list_all q.diner.held q.diner.neighbours) e in
    and_from (is_hungry q.diner.phase) (list_all (λ v. h v && q.diner.held v) (neighbours_of (table_plan h p) a)) parts.0
    (all_members (λ v. h v && q.diner.held v) (neighbours_of (table_plan h p) a) (λ v i.
    let near = neighbours_there h p a v i in
    and_from (h v) (q.diner.held v) near.0 (all_at q.diner.held q.diner.neighbours v parts.1 (ap (λ l. is_among l v) sits ∙ among_neighbours p a v c near.1))))
fork_may h p a q (forks.Leave thirsty) c sits e = e

some_mapped : {A B : Type 0} (f : A → B) (o : Option A) → is_some o ≡ true → is_some (option_map f o) ≡ true
some_mapped f None e = e
some_mapped f (Some x) e = refl

bottle_may : (h : ℕ → Bool) (p : PlanValue) (a : ℕ) (q : Pairs) (rule : BottleRule) → bottles.may q.drinker rule ≡ true → MayStep p a (seen h p a q) (shown_bottle h p rule)
bottle_may h p a q (bottles.Start session) e =
    let parts : (is_tranquil q.drinker.phase ≡ true) × (is_some session ≡ true) = and_parts (is_tranquil q.drinker.phase) (is_some session) e in
    and_from (is_tranquil q.drinker.phase) (is_some (option_map (filter (has_honest_ends h p)) session)) parts.0 (some_mapped (filter (has_honest_ends h p)) session parts.1)
bottle_may h p a q (bottles.AskBottle r) e = by (has_honest_ends h p r) refl
  where
    by : (b : Bool) → has_honest_ends h p r ≡ b → MayStep p a (seen h p a q) (shown_if b (ByBottle (bottles.AskBottle r)))
    by true i = ap (λ b. is_thirsty q.drinker.phase && ((b && q.drinker.needed r) && (not (is_some (cond b (q.drinker.bottle r) (first_bottle p a r))) && cond b (q.drinker.token r) (first_token p a r)))) i ∙ e
    by false i = tt
bottle_may h p a q (bottles.GiveBottle r held) e = by (has_honest_ends h p r) refl
  where
    by : (b : Bool) → has_honest_ends h p r ≡ b → MayStep p a (seen h p a q) (shown_if b (ByBottle (bottles.GiveBottle r held)))
    by true i = ap (λ b. cond b (q.drinker.token r) (first_token p a r) && (is_some (cond b (q.drinker.bottle r) (first_bottle p a r)) && not ((b && q.drinker.needed r) && (is_drinking q.drinker.phase || held (q.drinker.peer r))))) i ∙ e
    by false i = tt
bottle_may h p a q bottles.Drink e =
    let parts : (is_thirsty q.drinker.phase ≡ true) × (list_all (is_served q.drinker) q.drinker.records ≡ true) = and_parts (is_thirsty q.drinker.phase) (list_all (is_served q.drinker) q.drinker.records) e in
    and_from (is_thirsty q.drinker.phase) (list_all (is_served (masked_drinker h p a q.drinker)) q.drinker.records) parts.0 (all_weaker (is_served q.drinker) (is_served (masked_drinker h p a q.drinker)) q.drinker.records (λ r s. served r (has_honest_ends h p r) s) parts.1)
  where
    served : (r : ℕ) (b : Bool) → (not (q.drinker.needed r) || is_some (q.drinker.bottle r)) ≡ true → (not (b && q.drinker.needed r) || is_some (cond b (q.drinker.bottle r) (first_bottle p a r))) ≡ true
    served r true s = s
    served r false s = refl
bottle_may h p a q (bottles.Finish writes) e =
    let parts : (is_drinking q.drinker.phase ≡ true) × (is_some writes ≡ true) = and_parts (is_drinking q.drinker.phase) (is_some writes) e in
    and_from (is_drinking q.drinker.phase) (is_some (option_map (shown_writes (has_honest_ends h p)) writes)) parts.0 (some_mapped (shown_writes (has_honest_ends h p)) writes parts.1)
bottle_may h p a q bottles.Withdraw e = e

-- ---- all steps

abbrev pub shown_step : (ℕ → Bool) → PlanValue → PairStep → PairStep
shown_step h p Stays = Stays
shown_step h p (ByFork rule) = shown_fork h rule
shown_step h p (ByBottle rule) = shown_bottle h p rule
shown_step h p (ByFrame f) = shown_if (h f.from) (ByFrame f)
shown_step h p (ByKept v o) = shown_if (h v) (ByKept v o)

-- what is brought is shared, so its record's ends are honest where the other office is
of_such : (h : ℕ → Bool) (p : PlanValue) (a v : ℕ) (m : Msg) → h a ≡ true → is_shared p a v (thing_of m) ≡ true → IsOfSuch h p (h v) (Some m)
of_such h p a v msg.AskFork e s = tt
of_such h p a v msg.Fork e s = tt
of_such h p a v (msg.AskBottle r) e s = ends_between h p r a v s ∙ ap (λ b. b && h v) e
of_such h p a v (msg.Bottle r x) e s = ends_between h p r a v s ∙ ap (λ b. b && h v) e

frame_of_such : (h : ℕ → Bool) (p : PlanValue) (a : ℕ) (q : Pairs) (f : Fields) → WhatComesWasAway → h a ≡ true → frame_fault p a q f ≡ None → IsOfSuch h p (h f.from) (brought (arrival_of q f))
frame_of_such h p a q f away e fine = by (arrival_of q f) refl
  where
    by : (x : Arrival) → arrival_of q f ≡ x → IsOfSuch h p (h f.from) (brought x)
    by (arrival.Fresh m) i = of_such h p a f.from m e (away (is_shared p a f.from) (held q f.from) (q.link f.from) f m (passed p a q f fine).1 i).0
    by arrival.Acked i = tt
    by arrival.Repeat i = tt
    by arrival.Kept i = tt
    by arrival.Early i = tt

kept_of_such : (h : ℕ → Bool) (p : PlanValue) (a v : ℕ) (q : Pairs) (o : Option Msg) → WhatFollowsWasAway → h a ≡ true → follows p a v q ≡ o → IsOfSuch h p (h v) (brought (as_arrival o))
kept_of_such h p a v q None away e is = tt
kept_of_such h p a v q (Some m) away e is = of_such h p a v m e (away (is_shared p a v) (held q v) (q.link v) m is).0

-- ask and give only go where the office is an end
abbrev pub IsOwn : PlanValue → ℕ → PairStep → Type 0
IsOwn p a (ByBottle (bottles.AskBottle r)) = is_end p r a ≡ true
IsOwn p a (ByBottle (bottles.GiveBottle r held)) = is_end p r a ≡ true
IsOwn p a _ = Unit {0}

goes_there : (h : ℕ → Bool) (p : PlanValue) (a : ℕ) (k : Drinker) (rule : BottleRule) → h a ≡ true → ((r : ℕ) → k.peer r ≡ peer p a r) → IsOwn p a (ByBottle rule) → GoesThere h p k rule
goes_there h p a k (bottles.Start session) e peers own = tt
goes_there h p a k (bottles.AskBottle r) e peers own = ap h (peers r) ∙ sym (ends_by_peer h p r a e own)
goes_there h p a k (bottles.GiveBottle r held) e peers own = ap h (peers r) ∙ sym (ends_by_peer h p r a e own)
goes_there h p a k bottles.Drink e peers own = tt
goes_there h p a k (bottles.Finish writes) e peers own = tt
goes_there h p a k bottles.Withdraw e peers own = tt

pub step_seen : (h : ℕ → Bool) (p : PlanValue) (a : ℕ) (q : Pairs) (step : PairStep) → WhatComesWasAway → WhatFollowsWasAway → h a ≡ true → ((r : ℕ) → q.drinker.peer r ≡ peer p a r) → IsOwn p a step → MayStep p a q step →
    seen h p a (pair_after q step) ≡ pair_after (seen h p a q) (shown_step h p step)
step_seen h p a q Stays away kept e peers own may = refl
step_seen h p a q (ByFork rule) away kept e peers own may = fork_row_seen h p a q rule
step_seen h p a q (ByBottle rule) away kept e peers own may = bottle_row_seen h p a q rule (goes_there h p a q.drinker rule e peers own)
step_seen h p a q (ByFrame f) away kept e peers own may = by (h f.from) refl (frame_of_such h p a q f away e may)
  where
    by : (b : Bool) → h f.from ≡ b → IsOfSuch h p b (brought (arrival_of q f)) → seen h p a (pair_after q (ByFrame f)) ≡ pair_after (seen h p a q) (shown_if b (ByFrame f))
    by true i s = arrived_seen h p a q f.from (after_arrival (q.link f.from) f) (arrival_of q f) i s ∙ ap (λ l. arrived (seen h p a q) f.from (after_arrival l f) (arrival_at l f)) (sym (link_seen h p a f.from q i))
    by false i s = arrived_hidden h p a q f.from (after_arrival (q.link f.from) f) (arrival_of q f) i s
step_seen h p a q (ByKept v o) away kept e peers own may = by (h v) refl (kept_of_such h p a v q o kept e may)
  where
    by : (b : Bool) → h v ≡ b → IsOfSuch h p b (brought (as_arrival o)) → seen h p a (pair_after q (ByKept v o)) ≡ pair_after (seen h p a q) (shown_if b (ByKept v o))
    by true i s = arrived_seen h p a q v (link_then (q.link v) o) (as_arrival o) i s ∙ ap (λ l. arrived (seen h p a q) v (link_then l o) (as_arrival o)) (sym (link_seen h p a v q i))
    by false i s = arrived_hidden h p a q v (link_then (q.link v) o) (as_arrival o) i s

pub may_seen : (h : ℕ → Bool) (p : PlanValue) (a : ℕ) (q : Pairs) (step : PairStep) → IsConsistent p → h a ≡ true → q.diner.neighbours ≡ neighbours_of p a → MayStep p a q step → MayStep p a (seen h p a q) (shown_step h p step)
may_seen h p a q Stays c e sits may = tt
may_seen h p a q (ByFork rule) c e sits may = fork_may h p a q rule c sits may
may_seen h p a q (ByBottle rule) c e sits may = bottle_may h p a q rule may
may_seen h p a q (ByFrame f) c e sits may = by (h f.from) refl
  where
    fine : fault_among (is_shared p a f.from) (held q f.from) (q.link f.from) f ≡ None
    fine = (passed p a q f may).1

    by : (b : Bool) → h f.from ≡ b → MayStep p a (seen h p a q) (shown_if b (ByFrame f))
    by true i = ap (λ b. cond b (fault_among (is_shared p a f.from) (held (seen h p a q) f.from) ((seen h p a q).link f.from) f) (Some (Link Stranger))) (passed p a q f may).0
        ∙ ap (λ l. fault_among (is_shared p a f.from) (held (seen h p a q) f.from) l f) (link_seen h p a f.from q i)
        ∙ fault_same (is_shared p a f.from) (held q f.from) (held (seen h p a q) f.from) (q.link f.from) f (λ t s. held_seen h p a f.from q t e i s) ∙ fine
    by false i = tt
may_seen h p a q (ByKept v o) c e sits may = by (h v) refl
  where
    by : (b : Bool) → h v ≡ b → MayStep p a (seen h p a q) (shown_if b (ByKept v o))
    by true i = ap (λ l. follows_among (is_shared p a v) (held (seen h p a q) v) l) (link_seen h p a v q i)
        ∙ follows_same (is_shared p a v) (held q v) (held (seen h p a q) v) (q.link v) (λ t s. held_seen h p a v q t e i s) ∙ may
    by false i = tt
