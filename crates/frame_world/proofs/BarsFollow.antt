-- The bars of the offices follow: what happens to an office is an event of the bars, or none.
use Rattle.std.proofs.Common.{◌≡◌, ℕ, suc, ◌+◌, Bool, true, false, cond, List, [], ◌∷◌, ◌++◌, length, Option, None, Some, refl, sym, ap, ◌∙◌, arith, ◌&&◌, append-nil}
use Rattle.std.specs.Prelude.{nat_lt, ◌==◌}
use Rattle.std.proofs.lemmas.Bool.{eq-eqb, ne_eqb}
use mathlib.Core.Path.{fun_ext}
use Rattle.bottle_values.specs.declared.Value.{Value}
use Rattle.bottle_values.specs.Lists.{num}
use Rattle.bottle_values.specs.Maps.{put}
use Rattle.frame_codec.specs.declared.message.Msg.{Msg}
use Rattle.frame_codec.specs.declared.message.Msg.TheVariants as msg
use Rattle.frame_codec.specs.Frame.{Fields}
use Rattle.office_map.specs.PlanValue.{PlanValue}
use Rattle.window_link.specs.declared.arrival.Arrival.{Arrival}
use Rattle.window_link.specs.declared.arrival.Arrival.TheVariants as arrival
use Rattle.token_channel.specs.declared.thing.Thing.TheVariants.{BottleToken}
use Rattle.token_channel.specs.Things.{count_carrying}
use Rattle.dining_core.specs.Diners.{ForkRule}
use Rattle.dining_core.specs.Diners as forks
use Rattle.dining_core.specs.Worlds.{with_way, one_more}
use Rattle.drinking_core.specs.Drinkers.{Drinker, BottleRule}
use Rattle.drinking_core.specs.Drinkers as bottles
use Rattle.drinking_core.specs.Worlds as bars
use Rattle.site_core.specs.Pairs.{Pairs, bottle_message, arrival_of, as_arrival, bottle_came, drinker_after}
use Rattle.frame_world.specs.Ways.{between, bottles_in, bars_of}
use Rattle.frame_world.proofs.Answers.{PairStep, Stays, ByFork, ByBottle, ByFrame, ByKept, pair_after}
use Rattle.frame_world.proofs.OneLink.{brought}
use Rattle.frame_world.proofs.Links.{Goes, Comes, sends_of}
use Rattle.frame_world.proofs.WaysBetween.{measured_of, unmeasured_of, count_append, bottles_append, nothing_sent, one_sent, nothing_came, one_came}
use Rattle.frame_world.proofs.TablesFollow.{put_kept}

-- the event of the bars that it is
abbrev pub bottle_coming : ℕ → ℕ → Option Msg → Option bars.Event
bottle_coming a u None = None
bottle_coming a u (Some msg.AskFork) = None
bottle_coming a u (Some msg.Fork) = None
bottle_coming a u (Some (msg.AskBottle r)) = Some (bars.TokenComes a u r)
bottle_coming a u (Some (msg.Bottle r x)) = Some (bars.BottleComes a u r)

abbrev pub bottle_event : ℕ → Pairs → PairStep → Option bars.Event
bottle_event a p Stays = None
bottle_event a p (ByFork rule) = None
bottle_event a p (ByBottle rule) = Some (bars.Do a rule)
bottle_event a p (ByFrame f) = bottle_coming a f.from (brought (arrival_of p f))
bottle_event a p (ByKept v o) = bottle_coming a v o

abbrev pub bars_then : PlanValue → bars.World → Option bars.Event → bars.World
bars_then plan w None = w
bars_then plan w (Some e) = bars.happens plan w e

-- ---- worlds of bars

abbrev world : (ℕ → Drinker) → (ℕ → ℕ → ℕ → List Value) → (ℕ → ℕ → ℕ → ℕ) → bars.World
world d b t = record { drinker = d; bottles_on_way = b; tokens_on_way = t }

-- the bottles among messages, and the tokens, by record
abbrev token_count : ℕ → List Msg → ℕ
token_count q ms = count_carrying (BottleToken q) ms

abbrev Bottles : Type 0
Bottles = ℕ → ℕ → ℕ → List Value

abbrev Tokens : Type 0
Tokens = ℕ → ℕ → ℕ → ℕ

abbrev bottles_at : (ℕ → Pairs) → Bottles
bottles_at pairs = λ q x y. bottles_in q (between pairs x y)

abbrev tokens_at : (ℕ → Pairs) → Tokens
tokens_at pairs = λ q x y. token_count q (between pairs x y)

abbrev drinkers : (ℕ → Pairs) → ℕ → Drinker
drinkers pairs x = (pairs x).drinker

drinkers_put : (pairs : ℕ → Pairs) (a : ℕ) (p' : Pairs) → drinkers (put pairs a p') ≡ put (drinkers pairs) a p'.drinker
drinkers_put pairs a p' = fun_ext (λ x. at (x == a) x)
  where
    at : (b : Bool) (x : ℕ) → (cond b p' (pairs x)).drinker ≡ cond b p'.drinker (pairs x).drinker
    at true x = refl
    at false x = refl

are_bars : (pairs' : ℕ → Pairs) (d : ℕ → Drinker) (b : Bottles) (t : Tokens) → drinkers pairs' ≡ d → ◌≡◌ {A = Bottles} (bottles_at pairs') b → ◌≡◌ {A = Tokens} (tokens_at pairs') t → bars_of pairs' ≡ world d b t
are_bars pairs' d b t ed eb et = ap (λ x. world x (bottles_at pairs') (tokens_at pairs')) ed ∙ ap (λ x. world d x (tokens_at pairs')) eb ∙ ap (world d b) et

as_they_were : (pairs : ℕ → Pairs) (a : ℕ) (p' : Pairs) → p'.drinker ≡ (pairs a).drinker → ◌≡◌ {A = Bottles} (bottles_at (put pairs a p')) (bottles_at pairs) → ◌≡◌ {A = Tokens} (tokens_at (put pairs a p')) (tokens_at pairs) → bars_of (put pairs a p') ≡ bars_of pairs
as_they_were pairs a p' e b t = are_bars (put pairs a p') (drinkers pairs) (bottles_at pairs) (tokens_at pairs) (drinkers_put pairs a p' ∙ put_kept (drinkers pairs) a p'.drinker e) b t

bottles_same : (pairs pairs' : ℕ → Pairs) → between pairs' ≡ between pairs → ◌≡◌ {A = Bottles} (bottles_at pairs') (bottles_at pairs)
bottles_same pairs pairs' e = ap (λ (b : ℕ → ℕ → List Msg). (λ q x y. bottles_in q (b x y))) e

tokens_same : (pairs pairs' : ℕ → Pairs) → between pairs' ≡ between pairs → ◌≡◌ {A = Tokens} (tokens_at pairs') (tokens_at pairs)
tokens_same pairs pairs' e = ap (λ (b : ℕ → ℕ → List Msg). (λ q x y. token_count q (b x y))) e

-- ---- a message goes

no_bottles_sent : (pairs pairs' : ℕ → Pairs) (a v : ℕ) (m : Msg) → Goes pairs a (Some (v, m)) pairs' → ((q : ℕ) → bottles_in q (m ∷ []) ≡ []) → ◌≡◌ {A = Bottles} (bottles_at pairs') (bottles_at pairs)
no_bottles_sent pairs pairs' a v m g e =
    let o = one_sent pairs pairs' a v m g in
    unmeasured_of bottles_in (between pairs') (between pairs) a v o.0 (λ q. ap (bottles_in q) o.1 ∙ bottles_append q (between pairs a v) (m ∷ []) ∙ ap (λ l. bottles_in q (between pairs a v) ++ l) (e q) ∙ append-nil (bottles_in q (between pairs a v)))

no_tokens_sent : (pairs pairs' : ℕ → Pairs) (a v : ℕ) (m : Msg) → Goes pairs a (Some (v, m)) pairs' → ((q : ℕ) → token_count q (m ∷ []) ≡ 0) → ◌≡◌ {A = Tokens} (tokens_at pairs') (tokens_at pairs)
no_tokens_sent pairs pairs' a v m g e =
    let o = one_sent pairs pairs' a v m g in
    unmeasured_of token_count (between pairs') (between pairs) a v o.0 (λ q. omega (arith, ap (token_count q) o.1, count_append (BottleToken q) (between pairs a v) (m ∷ []), e q))

-- the bottles of a record among one bottle, and its tokens among one
one_bottle : (r : ℕ) (x : Value) (ms : List Msg) → bottles_in r (msg.Bottle r x ∷ ms) ≡ x ∷ bottles_in r ms
one_bottle r x ms = ap (λ b. cond b (x ∷ bottles_in r ms) (bottles_in r ms)) (eq-eqb r r refl)

other_bottle : (q r : ℕ) (x : Value) (ms : List Msg) → (q ≡ r → ⊥) → bottles_in q (msg.Bottle r x ∷ ms) ≡ bottles_in q ms
other_bottle q r x ms ne = ap (λ b. cond b (x ∷ bottles_in q ms) (bottles_in q ms)) (ne_eqb q r ne)

one_token : (r : ℕ) (ms : List Msg) → token_count r (msg.AskBottle r ∷ ms) ≡ suc (token_count r ms)
one_token r ms = omega (arith, ap num (eq-eqb r r refl))

other_token : (q r : ℕ) (ms : List Msg) → (q ≡ r → ⊥) → token_count q (msg.AskBottle r ∷ ms) ≡ token_count q ms
other_token q r ms ne = omega (arith, ap num (ne_eqb q r ne))

bottle_sent : (pairs pairs' : ℕ → Pairs) (a v r : ℕ) (x : Value) → Goes pairs a (Some (v, msg.Bottle r x)) pairs' → ◌≡◌ {A = Bottles} (bottles_at pairs') (put (bottles_at pairs) r (with_way (bottles_at pairs r) a v (bottles_at pairs r a v ++ x ∷ [])))
bottle_sent pairs pairs' a v r x g =
    let o = one_sent pairs pairs' a v (msg.Bottle r x) g in
    measured_of bottles_in r (between pairs') (between pairs) a v o.0
    (λ q ne. ap (bottles_in q) o.1 ∙ bottles_append q (between pairs a v) (msg.Bottle r x ∷ []) ∙ ap (λ l. bottles_in q (between pairs a v) ++ l) (other_bottle q r x [] ne) ∙ append-nil (bottles_in q (between pairs a v)))
    ∙ ap (λ l. put (bottles_at pairs) r (with_way (bottles_at pairs r) a v l)) (ap (bottles_in r) o.1 ∙ bottles_append r (between pairs a v) (msg.Bottle r x ∷ []) ∙ ap (λ l. bottles_in r (between pairs a v) ++ l) (one_bottle r x []))

token_sent : (pairs pairs' : ℕ → Pairs) (a v r : ℕ) → Goes pairs a (Some (v, msg.AskBottle r)) pairs' → ◌≡◌ {A = Tokens} (tokens_at pairs') (put (tokens_at pairs) r (one_more (tokens_at pairs r) a v))
token_sent pairs pairs' a v r g =
    let o = one_sent pairs pairs' a v (msg.AskBottle r) g in
    let one : token_count r (between pairs' a v) ≡ token_count r (between pairs a v) + 1 = omega (arith, ap (token_count r) o.1, count_append (BottleToken r) (between pairs a v) (msg.AskBottle r ∷ []), one_token r []) in
    measured_of token_count r (between pairs') (between pairs) a v o.0
    (λ q ne. omega (arith, ap (token_count q) o.1, count_append (BottleToken q) (between pairs a v) (msg.AskBottle r ∷ []), other_token q r [] ne))
    ∙ ap (λ n. put (tokens_at pairs) r (with_way (tokens_at pairs r) a v n)) one

-- ---- rows of the bottles

done_is : (plan : PlanValue) (pairs : ℕ → Pairs) (a : ℕ) (rule : BottleRule) → nat_lt a (length plan.offices) ≡ true → bottles.may (pairs a).drinker rule ≡ true → bars.happens plan (bars_of pairs) (bars.Do a rule) ≡ bars.done (bars_of pairs) a rule
done_is plan pairs a rule inside h = ap (λ b. cond (b && bottles.may (pairs a).drinker rule) (bars.done (bars_of pairs) a rule) (bars_of pairs)) inside ∙ ap (λ b. cond b (bars.done (bars_of pairs) a rule) (bars_of pairs)) h

nothing_goes : (pairs : ℕ → Pairs) (a : ℕ) (p' : Pairs) (d : Drinker) → Goes pairs a None (put pairs a p') → p'.drinker ≡ d → bars_of (put pairs a p') ≡ world (put (drinkers pairs) a d) (bottles_at pairs) (tokens_at pairs)
nothing_goes pairs a p' d g e =
    let same = nothing_sent pairs (put pairs a p') a g in
    are_bars (put pairs a p') (put (drinkers pairs) a d) (bottles_at pairs) (tokens_at pairs) (drinkers_put pairs a p' ∙ ap (put (drinkers pairs) a) e) (bottles_same pairs (put pairs a p') same) (tokens_same pairs (put pairs a p') same)

given : (pairs : ℕ → Pairs) (a r v : ℕ) (p' : Pairs) (o : Option Value) (d : Drinker) → Goes pairs a (bottle_message v r o) (put pairs a p') → p'.drinker ≡ d →
    bars_of (put pairs a p') ≡ world (put (drinkers pairs) a d) (bars.bottle_sent (bottles_at pairs) r a v o) (tokens_at pairs)
given pairs a r v p' None d g e = nothing_goes pairs a p' d g e
given pairs a r v p' (Some x) d g e =
    are_bars (put pairs a p') (put (drinkers pairs) a d) _ (tokens_at pairs) (drinkers_put pairs a p' ∙ ap (put (drinkers pairs) a) e) (bottle_sent pairs (put pairs a p') a v r x g) (no_tokens_sent pairs (put pairs a p') a v (msg.Bottle r x) g (λ q. refl))

by_bottle : (pairs : ℕ → Pairs) (a : ℕ) (rule : BottleRule) → Goes pairs a (sends_of (pairs a) (ByBottle rule)) (put pairs a (pair_after (pairs a) (ByBottle rule))) → bars_of (put pairs a (pair_after (pairs a) (ByBottle rule))) ≡ bars.done (bars_of pairs) a rule
by_bottle pairs a (bottles.Start session) g = nothing_goes pairs a (pair_after (pairs a) (ByBottle (bottles.Start session))) _ g refl
by_bottle pairs a (bottles.AskBottle r) g =
    let p' : Pairs = pair_after (pairs a) (ByBottle (bottles.AskBottle r)) in
    are_bars (put pairs a p') _ (bottles_at pairs) _ (drinkers_put pairs a p') (no_bottles_sent pairs (put pairs a p') a ((pairs a).drinker.peer r) (msg.AskBottle r) g (λ q. refl)) (token_sent pairs (put pairs a p') a ((pairs a).drinker.peer r) r g)
by_bottle pairs a (bottles.GiveBottle r held) g = given pairs a r ((pairs a).drinker.peer r) (pair_after (pairs a) (ByBottle (bottles.GiveBottle r held))) ((pairs a).drinker.bottle r) _ g refl
by_bottle pairs a bottles.Drink g = nothing_goes pairs a (pair_after (pairs a) (ByBottle bottles.Drink)) _ g refl
by_bottle pairs a bottles.Withdraw g = nothing_goes pairs a (pair_after (pairs a) (ByBottle bottles.Withdraw)) _ g refl
by_bottle pairs a (bottles.Finish writes) g = nothing_goes pairs a (pair_after (pairs a) (ByBottle (bottles.Finish writes))) _ g refl

-- ---- rows of the forks: no event of the bars

fork_goes : (pairs : ℕ → Pairs) (a : ℕ) (rule : ForkRule) → Goes pairs a (sends_of (pairs a) (ByFork rule)) (put pairs a (pair_after (pairs a) (ByFork rule))) → bars_of (put pairs a (pair_after (pairs a) (ByFork rule))) ≡ bars_of pairs
fork_goes pairs a rule g = of rule g
  where
    quiet : (p' : Pairs) → p'.drinker ≡ (pairs a).drinker → Goes pairs a None (put pairs a p') → bars_of (put pairs a p') ≡ bars_of pairs
    quiet p' e g =
        let same = nothing_sent pairs (put pairs a p') a g in
        as_they_were pairs a p' e (bottles_same pairs (put pairs a p') same) (tokens_same pairs (put pairs a p') same)

    one : (p' : Pairs) (v : ℕ) (m : Msg) → p'.drinker ≡ (pairs a).drinker → Goes pairs a (Some (v, m)) (put pairs a p') → ((q : ℕ) → bottles_in q (m ∷ []) ≡ []) → ((q : ℕ) → token_count q (m ∷ []) ≡ 0) → bars_of (put pairs a p') ≡ bars_of pairs
    one p' v m e g b t = as_they_were pairs a p' e (no_bottles_sent pairs (put pairs a p') a v m g b) (no_tokens_sent pairs (put pairs a p') a v m g t)

    of : (rule : ForkRule) → Goes pairs a (sends_of (pairs a) (ByFork rule)) (put pairs a (pair_after (pairs a) (ByFork rule))) → bars_of (put pairs a (pair_after (pairs a) (ByFork rule))) ≡ bars_of pairs
    of (forks.BecomeHungry thirsty) g = quiet (pair_after (pairs a) (ByFork (forks.BecomeHungry thirsty))) refl g
    of (forks.AskFork v) g = one (pair_after (pairs a) (ByFork (forks.AskFork v))) v msg.AskFork refl g (λ q. refl) (λ q. refl)
    of (forks.GiveFork v) g = one (pair_after (pairs a) (ByFork (forks.GiveFork v))) v msg.Fork refl g (λ q. refl) (λ q. refl)
    of forks.Eat g = quiet (pair_after (pairs a) (ByFork forks.Eat)) refl g
    of (forks.Leave thirsty) g = quiet (pair_after (pairs a) (ByFork (forks.Leave thirsty))) refl g

-- ---- frames

abbrev pub drinker_with : Drinker → Option Msg → Drinker
drinker_with d None = d
drinker_with d (Some m) = bottle_came d m

pub drinker_after_is : (d : Drinker) (a : Arrival) → drinker_after d a ≡ drinker_with d (brought a)
drinker_after_is d (arrival.Fresh m) = refl
drinker_after_is d arrival.Acked = refl
drinker_after_is d arrival.Repeat = refl
drinker_after_is d arrival.Kept = refl
drinker_after_is d arrival.Early = refl

drinker_then_is : (d : Drinker) (o : Option Msg) → drinker_after d (as_arrival o) ≡ drinker_with d o
drinker_then_is d None = refl
drinker_then_is d (Some m) = refl

no_bottles_came : (pairs pairs' : ℕ → Pairs) (u a : ℕ) (m : Msg) → Comes pairs u a (Some m) pairs' → ((q : ℕ) (ms : List Msg) → bottles_in q (m ∷ ms) ≡ bottles_in q ms) → ◌≡◌ {A = Bottles} (bottles_at pairs') (bottles_at pairs)
no_bottles_came pairs pairs' u a m c e =
    let o = one_came pairs pairs' u a m c in
    unmeasured_of bottles_in (between pairs') (between pairs) u a o.0 (λ q. sym (ap (bottles_in q) o.1 ∙ e q (between pairs' u a)))

no_tokens_came : (pairs pairs' : ℕ → Pairs) (u a : ℕ) (m : Msg) → Comes pairs u a (Some m) pairs' → ((q : ℕ) (ms : List Msg) → token_count q (m ∷ ms) ≡ token_count q ms) → ◌≡◌ {A = Tokens} (tokens_at pairs') (tokens_at pairs)
no_tokens_came pairs pairs' u a m c e =
    let o = one_came pairs pairs' u a m c in
    unmeasured_of token_count (between pairs') (between pairs) u a o.0 (λ q. sym (ap (token_count q) o.1 ∙ e q (between pairs' u a)))

by_message : (plan : PlanValue) (pairs : ℕ → Pairs) (u a : ℕ) (p' : Pairs) (m : Option Msg) → Comes pairs u a m (put pairs a p') → p'.drinker ≡ drinker_with (pairs a).drinker m → bars_of (put pairs a p') ≡ bars_then plan (bars_of pairs) (bottle_coming a u m)
by_message plan pairs u a p' None c e =
    let same = nothing_came pairs (put pairs a p') u a c in
    as_they_were pairs a p' e (bottles_same pairs (put pairs a p') same) (tokens_same pairs (put pairs a p') same)
by_message plan pairs u a p' (Some msg.AskFork) c e = as_they_were pairs a p' e (no_bottles_came pairs (put pairs a p') u a msg.AskFork c (λ q ms. refl)) (no_tokens_came pairs (put pairs a p') u a msg.AskFork c (λ q ms. omega arith))
by_message plan pairs u a p' (Some msg.Fork) c e = as_they_were pairs a p' e (no_bottles_came pairs (put pairs a p') u a msg.Fork c (λ q ms. refl)) (no_tokens_came pairs (put pairs a p') u a msg.Fork c (λ q ms. omega arith))
by_message plan pairs u a p' (Some (msg.AskBottle r)) c e =
    let o = one_came pairs (put pairs a p') u a (msg.AskBottle r) c in
    are_bars (put pairs a p') _ (bottles_at pairs) _ (drinkers_put pairs a p' ∙ ap (put (drinkers pairs) a) e) (no_bottles_came pairs (put pairs a p') u a (msg.AskBottle r) c (λ q ms. refl))
    (measured_of token_count r (between (put pairs a p')) (between pairs) u a o.0 (λ q ne. sym (ap (token_count q) o.1 ∙ other_token q r (between (put pairs a p') u a) ne)))
    ∙ sym (ap (bars.token_taken (bars_of pairs) a u r) (ap (token_count r) o.1 ∙ one_token r (between (put pairs a p') u a)))
by_message plan pairs u a p' (Some (msg.Bottle r x)) c e =
    let o = one_came pairs (put pairs a p') u a (msg.Bottle r x) c in
    are_bars (put pairs a p') _ _ (tokens_at pairs) (drinkers_put pairs a p' ∙ ap (put (drinkers pairs) a) e)
    (measured_of bottles_in r (between (put pairs a p')) (between pairs) u a o.0 (λ q ne. sym (ap (bottles_in q) o.1 ∙ other_bottle q r x (between (put pairs a p') u a) ne)))
    (no_tokens_came pairs (put pairs a p') u a (msg.Bottle r x) c (λ q ms. omega arith))
    ∙ sym (ap (bars.bottle_taken (bars_of pairs) a u r) (ap (bottles_in r) o.1 ∙ one_bottle r x (between (put pairs a p') u a)))

-- ---- all of it

pub bottle_row : (plan : PlanValue) (pairs : ℕ → Pairs) (a : ℕ) (rule : BottleRule) → nat_lt a (length plan.offices) ≡ true → bottles.may (pairs a).drinker rule ≡ true →
    Goes pairs a (sends_of (pairs a) (ByBottle rule)) (put pairs a (pair_after (pairs a) (ByBottle rule))) → bars_of (put pairs a (pair_after (pairs a) (ByBottle rule))) ≡ bars.happens plan (bars_of pairs) (bars.Do a rule)
bottle_row plan pairs a rule inside h g = by_bottle pairs a rule g ∙ sym (done_is plan pairs a rule inside h)

pub fork_row_leaves_bars : (pairs : ℕ → Pairs) (a : ℕ) (rule : ForkRule) → Goes pairs a (sends_of (pairs a) (ByFork rule)) (put pairs a (pair_after (pairs a) (ByFork rule))) → bars_of (put pairs a (pair_after (pairs a) (ByFork rule))) ≡ bars_of pairs
fork_row_leaves_bars = fork_goes

pub frame_is_taken : (plan : PlanValue) (pairs : ℕ → Pairs) (a : ℕ) (f : Fields) → Comes pairs f.from a (brought (arrival_of (pairs a) f)) (put pairs a (pair_after (pairs a) (ByFrame f))) →
    bars_of (put pairs a (pair_after (pairs a) (ByFrame f))) ≡ bars_then plan (bars_of pairs) (bottle_event a (pairs a) (ByFrame f))
frame_is_taken plan pairs a f c = by_message plan pairs f.from a (pair_after (pairs a) (ByFrame f)) (brought (arrival_of (pairs a) f)) c (drinker_after_is (pairs a).drinker (arrival_of (pairs a) f))

pub kept_is_taken : (plan : PlanValue) (pairs : ℕ → Pairs) (a v : ℕ) (o : Option Msg) → Comes pairs v a o (put pairs a (pair_after (pairs a) (ByKept v o))) →
    bars_of (put pairs a (pair_after (pairs a) (ByKept v o))) ≡ bars_then plan (bars_of pairs) (bottle_event a (pairs a) (ByKept v o))
kept_is_taken plan pairs a v o c = by_message plan pairs v a (pair_after (pairs a) (ByKept v o)) o c (drinker_then_is (pairs a).drinker o)
