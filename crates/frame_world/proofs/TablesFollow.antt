-- The tables of the offices follow: what happens to an office is an event of the tables, or none.
use Rattle.std.proofs.Common.{◌≡◌, ℕ, suc, ◌+◌, Bool, true, false, cond, List, [], ◌∷◌, length, Option, None, Some, refl, sym, ap, ◌∙◌, arith, ◌&&◌}
use Rattle.std.specs.Prelude.{nat_lt, ◌==◌}
use mathlib.Core.Path.{fun_ext}
use Rattle.bottle_values.specs.declared.Value.{Value}
use Rattle.bottle_values.specs.Maps.{put}
use Rattle.bottle_values.specs.MapLaws.{put_cases}
use Rattle.frame_codec.specs.declared.message.Msg.{Msg}
use Rattle.frame_codec.specs.declared.message.Msg.TheVariants as msg
use Rattle.frame_codec.specs.Frame.{Fields}
use Rattle.office_map.specs.PlanValue.{PlanValue}
use Rattle.window_link.specs.declared.arrival.Arrival.{Arrival}
use Rattle.window_link.specs.declared.arrival.Arrival.TheVariants as arrival
use Rattle.token_channel.specs.declared.thing.Thing.{Thing}
use Rattle.token_channel.specs.declared.thing.Thing.TheVariants.{Fork, ForkToken}
use Rattle.token_channel.specs.Things.{count_carrying}
use Rattle.dining_core.specs.Diners.{Diner, ForkRule}
use Rattle.dining_core.specs.Diners as forks
use Rattle.dining_core.specs.Worlds.{with_way, one_more}
use Rattle.dining_core.specs.Worlds as tables
use Rattle.drinking_core.specs.Drinkers.{Drinker, BottleRule}
use Rattle.drinking_core.specs.Drinkers as bottles
use Rattle.site_core.specs.Pairs.{Pairs, bottle_sends, bottle_message, arrival_of, as_arrival, fork_came, diner_after}
use Rattle.frame_world.specs.Ways.{between, tables_of}
use Rattle.frame_world.proofs.Answers.{PairStep, Stays, ByFork, ByBottle, ByFrame, ByKept, pair_after}
use Rattle.frame_world.proofs.OneLink.{brought}
use Rattle.frame_world.proofs.Links.{Goes, Comes, sends_of}
use Rattle.frame_world.proofs.WaysBetween.{measured, unmeasured, count_append, nothing_sent, one_sent, nothing_came, one_came}

-- the event of the tables that it is
abbrev pub fork_coming : ℕ → ℕ → Option Msg → Option tables.Event
fork_coming a u None = None
fork_coming a u (Some msg.AskFork) = Some (tables.TokenComes a u)
fork_coming a u (Some msg.Fork) = Some (tables.ForkComes a u)
fork_coming a u (Some (msg.AskBottle r)) = None
fork_coming a u (Some (msg.Bottle r x)) = None

abbrev pub fork_event : ℕ → Pairs → PairStep → Option tables.Event
fork_event a p Stays = None
fork_event a p (ByFork rule) = Some (tables.Do a rule)
fork_event a p (ByBottle rule) = None
fork_event a p (ByFrame f) = fork_coming a f.from (brought (arrival_of p f))
fork_event a p (ByKept v o) = fork_coming a v o

abbrev pub tables_then : PlanValue → tables.World → Option tables.Event → tables.World
tables_then plan w None = w
tables_then plan w (Some e) = tables.happens plan w e

-- ---- worlds of tables

abbrev world : (ℕ → Diner) → (ℕ → ℕ → ℕ) → (ℕ → ℕ → ℕ) → tables.World
world d f t = record { diner = d; forks_on_way = f; tokens_on_way = t }

abbrev counts : Thing → (ℕ → Pairs) → ℕ → ℕ → ℕ
counts t pairs x y = count_carrying t (between pairs x y)

abbrev diners : (ℕ → Pairs) → ℕ → Diner
diners pairs x = (pairs x).diner

pub diners_put : (pairs : ℕ → Pairs) (a : ℕ) (p' : Pairs) → diners (put pairs a p') ≡ put (diners pairs) a p'.diner
diners_put pairs a p' = fun_ext (λ x. at (x == a) x)
  where
    at : (b : Bool) (x : ℕ) → (cond b p' (pairs x)).diner ≡ cond b p'.diner (pairs x).diner
    at true x = refl
    at false x = refl

pub put_kept : {X : Type 0} (f : ℕ → X) (a : ℕ) (x : X) → x ≡ f a → put f a x ≡ f
put_kept f a x e = fun_ext (λ j. put_cases f a x j (λ y. y ≡ f j) (λ i. e ∙ ap f (sym i)) (λ ne. refl))

are_tables : (pairs' : ℕ → Pairs) (d : ℕ → Diner) (f t : ℕ → ℕ → ℕ) → diners pairs' ≡ d → ◌≡◌ {A = ℕ → ℕ → ℕ} (λ x y. counts Fork pairs' x y) f → ◌≡◌ {A = ℕ → ℕ → ℕ} (λ x y. counts ForkToken pairs' x y) t → tables_of pairs' ≡ world d f t
are_tables pairs' d f t ed ef et = ap (λ x. world x (λ x y. counts Fork pairs' x y) (λ x y. counts ForkToken pairs' x y)) ed ∙ ap (λ x. world d x (λ x y. counts ForkToken pairs' x y)) ef ∙ ap (world d f) et

-- where neither diner nor ways change
as_they_were : (pairs : ℕ → Pairs) (a : ℕ) (p' : Pairs) → p'.diner ≡ (pairs a).diner → ◌≡◌ {A = ℕ → ℕ → ℕ} (λ x y. counts Fork (put pairs a p') x y) (λ x y. counts Fork pairs x y) →
    ◌≡◌ {A = ℕ → ℕ → ℕ} (λ x y. counts ForkToken (put pairs a p') x y) (λ x y. counts ForkToken pairs x y) → tables_of (put pairs a p') ≡ tables_of pairs
as_they_were pairs a p' e f t = are_tables (put pairs a p') (diners pairs) _ _ (diners_put pairs a p' ∙ put_kept (diners pairs) a p'.diner e) f t

counts_same : (t : Thing) (pairs pairs' : ℕ → Pairs) → between pairs' ≡ between pairs → ◌≡◌ {A = ℕ → ℕ → ℕ} (λ x y. counts t pairs' x y) (λ x y. counts t pairs x y)
counts_same t pairs pairs' e = ap (λ (b : ℕ → ℕ → List Msg). (λ x y. count_carrying t (b x y))) e

sent_none : (t : Thing) (pairs pairs' : ℕ → Pairs) (a v : ℕ) (m : Msg) → Goes pairs a (Some (v, m)) pairs' → count_carrying t (m ∷ []) ≡ 0 → ◌≡◌ {A = ℕ → ℕ → ℕ} (λ x y. counts t pairs' x y) (λ x y. counts t pairs x y)
sent_none t pairs pairs' a v m g e =
    let o = one_sent pairs pairs' a v m g in
    unmeasured (count_carrying t) (between pairs') (between pairs) a v o.0 (omega (arith, ap (count_carrying t) o.1, count_append t (between pairs a v) (m ∷ []), e))

sent_one : (t : Thing) (pairs pairs' : ℕ → Pairs) (a v : ℕ) (m : Msg) → Goes pairs a (Some (v, m)) pairs' → count_carrying t (m ∷ []) ≡ 1 → ◌≡◌ {A = ℕ → ℕ → ℕ} (λ x y. counts t pairs' x y) (one_more (λ x y. counts t pairs x y) a v)
sent_one t pairs pairs' a v m g e =
    let o = one_sent pairs pairs' a v m g in
    let one : counts t pairs' a v ≡ counts t pairs a v + 1 = omega (arith, ap (count_carrying t) o.1, count_append t (between pairs a v) (m ∷ []), e) in
    measured (count_carrying t) (between pairs') (between pairs) a v o.0 ∙ ap (with_way (λ x y. counts t pairs x y) a v) one

came_none : (t : Thing) (pairs pairs' : ℕ → Pairs) (u a : ℕ) (m : Msg) → Comes pairs u a (Some m) pairs' → count_carrying t (m ∷ []) ≡ 0 → ◌≡◌ {A = ℕ → ℕ → ℕ} (λ x y. counts t pairs' x y) (λ x y. counts t pairs x y)
came_none t pairs pairs' u a m c e =
    let o = one_came pairs pairs' u a m c in
    unmeasured (count_carrying t) (between pairs') (between pairs) u a o.0 (omega (arith, ap (count_carrying t) o.1, count_append t (m ∷ []) (between pairs' u a), e))

pub came_one : (t : Thing) (pairs pairs' : ℕ → Pairs) (u a : ℕ) (m : Msg) → Comes pairs u a (Some m) pairs' → count_carrying t (m ∷ []) ≡ 1 → counts t pairs u a ≡ suc (counts t pairs' u a)
came_one t pairs pairs' u a m c e =
    let o = one_came pairs pairs' u a m c in
    omega (arith, ap (count_carrying t) o.1, count_append t (m ∷ []) (between pairs' u a), e)

came_left : (t : Thing) (pairs pairs' : ℕ → Pairs) (u a : ℕ) (m : Msg) → Comes pairs u a (Some m) pairs' → ◌≡◌ {A = ℕ → ℕ → ℕ} (λ x y. counts t pairs' x y) (with_way (λ x y. counts t pairs x y) u a (counts t pairs' u a))
came_left t pairs pairs' u a m c = measured (count_carrying t) (between pairs') (between pairs) u a (one_came pairs pairs' u a m c).0

-- ---- rows of the forks

done_is : (plan : PlanValue) (pairs : ℕ → Pairs) (a : ℕ) (rule : ForkRule) → nat_lt a (length plan.offices) ≡ true → forks.may (pairs a).diner rule ≡ true → tables.happens plan (tables_of pairs) (tables.Do a rule) ≡ tables.done (tables_of pairs) a rule
done_is plan pairs a rule inside h = ap (λ b. cond (b && forks.may (pairs a).diner rule) (tables.done (tables_of pairs) a rule) (tables_of pairs)) inside ∙ ap (λ b. cond b (tables.done (tables_of pairs) a rule) (tables_of pairs)) h

nothing_goes : (pairs : ℕ → Pairs) (a : ℕ) (p' : Pairs) (d : Diner) → Goes pairs a None (put pairs a p') → p'.diner ≡ d → tables_of (put pairs a p') ≡ world (put (diners pairs) a d) (λ x y. counts Fork pairs x y) (λ x y. counts ForkToken pairs x y)
nothing_goes pairs a p' d g e =
    let same = nothing_sent pairs (put pairs a p') a g in
    are_tables (put pairs a p') _ _ _ (diners_put pairs a p' ∙ ap (put (diners pairs) a) e) (counts_same Fork pairs (put pairs a p') same) (counts_same ForkToken pairs (put pairs a p') same)

by_fork : (pairs : ℕ → Pairs) (a : ℕ) (rule : ForkRule) → Goes pairs a (sends_of (pairs a) (ByFork rule)) (put pairs a (pair_after (pairs a) (ByFork rule))) → tables_of (put pairs a (pair_after (pairs a) (ByFork rule))) ≡ tables.done (tables_of pairs) a rule
by_fork pairs a (forks.BecomeHungry thirsty) g = nothing_goes pairs a _ _ g refl
by_fork pairs a (forks.AskFork v) g =
    let p' : Pairs = pair_after (pairs a) (ByFork (forks.AskFork v)) in
    are_tables (put pairs a p') _ _ _ (diners_put pairs a p') (sent_none Fork pairs (put pairs a p') a v msg.AskFork g refl) (sent_one ForkToken pairs (put pairs a p') a v msg.AskFork g refl)
by_fork pairs a (forks.GiveFork v) g =
    let p' : Pairs = pair_after (pairs a) (ByFork (forks.GiveFork v)) in
    are_tables (put pairs a p') _ _ _ (diners_put pairs a p') (sent_one Fork pairs (put pairs a p') a v msg.Fork g refl) (sent_none ForkToken pairs (put pairs a p') a v msg.Fork g refl)
by_fork pairs a forks.Eat g = nothing_goes pairs a _ _ g refl
by_fork pairs a (forks.Leave thirsty) g = nothing_goes pairs a _ _ g refl

-- ---- rows of the bottles: no event of the tables

abbrev CarriesNoFork : Option (ℕ × Msg) → Type 0
CarriesNoFork None = Unit {0}
CarriesNoFork (Some x) = (count_carrying Fork (x.1 ∷ []) ≡ 0) × (count_carrying ForkToken (x.1 ∷ []) ≡ 0)

no_fork_goes : (d : Drinker) (rule : BottleRule) → CarriesNoFork (bottle_sends d rule)
no_fork_goes d (bottles.Start session) = tt
no_fork_goes d (bottles.AskBottle r) = (refl, refl)
no_fork_goes d (bottles.GiveBottle r held) = of (d.bottle r)
  where
    of : (o : Option Value) → CarriesNoFork (bottle_message (d.peer r) r o)
    of None = tt
    of (Some y) = (refl, refl)
no_fork_goes d bottles.Drink = tt
no_fork_goes d bottles.Withdraw = tt
no_fork_goes d (bottles.Finish writes) = tt

bottle_goes : (pairs : ℕ → Pairs) (a : ℕ) (p' : Pairs) (m : Option (ℕ × Msg)) → p'.diner ≡ (pairs a).diner → CarriesNoFork m → Goes pairs a m (put pairs a p') → tables_of (put pairs a p') ≡ tables_of pairs
bottle_goes pairs a p' None e h g =
    let same = nothing_sent pairs (put pairs a p') a g in
    as_they_were pairs a p' e (counts_same Fork pairs (put pairs a p') same) (counts_same ForkToken pairs (put pairs a p') same)
bottle_goes pairs a p' (Some x) e h g =
    as_they_were pairs a p' e (sent_none Fork pairs (put pairs a p') a x.0 x.1 g h.0) (sent_none ForkToken pairs (put pairs a p') a x.0 x.1 g h.1)

-- ---- frames

-- the diner after an arrival, by what that brings
abbrev pub diner_with : Diner → ℕ → Option Msg → Diner
diner_with d u None = d
diner_with d u (Some m) = fork_came d u m

pub diner_after_is : (d : Diner) (u : ℕ) (a : Arrival) → diner_after d u a ≡ diner_with d u (brought a)
diner_after_is d u (arrival.Fresh m) = refl
diner_after_is d u arrival.Acked = refl
diner_after_is d u arrival.Repeat = refl
diner_after_is d u arrival.Kept = refl
diner_after_is d u arrival.Early = refl

diner_then_is : (d : Diner) (u : ℕ) (o : Option Msg) → diner_after d u (as_arrival o) ≡ diner_with d u o
diner_then_is d u None = refl
diner_then_is d u (Some m) = refl

by_message : (plan : PlanValue) (pairs : ℕ → Pairs) (u a : ℕ) (p' : Pairs) (m : Option Msg) → Comes pairs u a m (put pairs a p') → p'.diner ≡ diner_with (pairs a).diner u m → tables_of (put pairs a p') ≡ tables_then plan (tables_of pairs) (fork_coming a u m)
by_message plan pairs u a p' None c e =
    let same = nothing_came pairs (put pairs a p') u a c in
    as_they_were pairs a p' e (counts_same Fork pairs (put pairs a p') same) (counts_same ForkToken pairs (put pairs a p') same)
by_message plan pairs u a p' (Some msg.AskFork) c e =
    are_tables (put pairs a p') _ _ _ (diners_put pairs a p' ∙ ap (put (diners pairs) a) e) (came_none Fork pairs (put pairs a p') u a msg.AskFork c refl) (came_left ForkToken pairs (put pairs a p') u a msg.AskFork c)
    ∙ sym (ap (tables.token_taken (tables_of pairs) a u) (came_one ForkToken pairs (put pairs a p') u a msg.AskFork c refl))
by_message plan pairs u a p' (Some msg.Fork) c e =
    are_tables (put pairs a p') _ _ _ (diners_put pairs a p' ∙ ap (put (diners pairs) a) e) (came_left Fork pairs (put pairs a p') u a msg.Fork c) (came_none ForkToken pairs (put pairs a p') u a msg.Fork c refl)
    ∙ sym (ap (tables.fork_taken (tables_of pairs) a u) (came_one Fork pairs (put pairs a p') u a msg.Fork c refl))
by_message plan pairs u a p' (Some (msg.AskBottle r)) c e = as_they_were pairs a p' e (came_none Fork pairs (put pairs a p') u a (msg.AskBottle r) c refl) (came_none ForkToken pairs (put pairs a p') u a (msg.AskBottle r) c refl)
by_message plan pairs u a p' (Some (msg.Bottle r x)) c e = as_they_were pairs a p' e (came_none Fork pairs (put pairs a p') u a (msg.Bottle r x) c refl) (came_none ForkToken pairs (put pairs a p') u a (msg.Bottle r x) c refl)

-- ---- all of it

pub fork_row : (plan : PlanValue) (pairs : ℕ → Pairs) (a : ℕ) (rule : ForkRule) → nat_lt a (length plan.offices) ≡ true → forks.may (pairs a).diner rule ≡ true →
    Goes pairs a (sends_of (pairs a) (ByFork rule)) (put pairs a (pair_after (pairs a) (ByFork rule))) → tables_of (put pairs a (pair_after (pairs a) (ByFork rule))) ≡ tables.happens plan (tables_of pairs) (tables.Do a rule)
fork_row plan pairs a rule inside h g = by_fork pairs a rule g ∙ sym (done_is plan pairs a rule inside h)

pub bottle_row_leaves_tables : (pairs : ℕ → Pairs) (a : ℕ) (rule : BottleRule) → Goes pairs a (sends_of (pairs a) (ByBottle rule)) (put pairs a (pair_after (pairs a) (ByBottle rule))) → tables_of (put pairs a (pair_after (pairs a) (ByBottle rule))) ≡ tables_of pairs
bottle_row_leaves_tables pairs a rule g = bottle_goes pairs a (pair_after (pairs a) (ByBottle rule)) (bottle_sends (pairs a).drinker rule) refl (no_fork_goes (pairs a).drinker rule) g

pub frame_is_taken : (plan : PlanValue) (pairs : ℕ → Pairs) (a : ℕ) (f : Fields) → Comes pairs f.from a (brought (arrival_of (pairs a) f)) (put pairs a (pair_after (pairs a) (ByFrame f))) →
    tables_of (put pairs a (pair_after (pairs a) (ByFrame f))) ≡ tables_then plan (tables_of pairs) (fork_event a (pairs a) (ByFrame f))
frame_is_taken plan pairs a f c = by_message plan pairs f.from a (pair_after (pairs a) (ByFrame f)) (brought (arrival_of (pairs a) f)) c (diner_after_is (pairs a).diner f.from (arrival_of (pairs a) f))

pub kept_is_taken : (plan : PlanValue) (pairs : ℕ → Pairs) (a v : ℕ) (o : Option Msg) → Comes pairs v a o (put pairs a (pair_after (pairs a) (ByKept v o))) →
    tables_of (put pairs a (pair_after (pairs a) (ByKept v o))) ≡ tables_then plan (tables_of pairs) (fork_event a (pairs a) (ByKept v o))
kept_is_taken plan pairs a v o c = by_message plan pairs v a (pair_after (pairs a) (ByKept v o)) o c (diner_then_is (pairs a).diner v o)
