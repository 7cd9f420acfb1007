-- Over every list of events, with frames that are made up, what the mask shows are tables and bars that some events of theirs lead to, with links that are true.
use Rattle.std.proofs.Common.{◌≡◌, ℕ, zero, suc, Bool, true, false, cond, List, [], ◌∷◌, ◌++◌, length, Option, None, Some, Ok, refl, sym, ap, subst, ◌∙◌, inl, inr, ◌⊎◌, ⊎_elim}
use Rattle.std.specs.Prelude.{nat_lt, nat_le, slice_get}
use Rattle.std.proofs.lemmas.Bool.{and_parts}
use Rattle.bottle_values.specs.Maps.{put}
use Rattle.bottle_values.specs.MapLaws.{put_cases}
use Rattle.frame_codec.specs.declared.message.Msg.{Msg}
use Rattle.frame_codec.specs.declared.message.Msg.TheVariants as msg
use Rattle.frame_codec.specs.Frame.{Fields}
use Rattle.office_map.specs.PlanValue.{PlanValue, neighbours_of, peer, is_end}
use Rattle.office_map.specs.Consistency.{IsConsistent}
use Rattle.window_link.specs.Links.{LinkState, ack_frame_of, frame_of}
use Rattle.window_link.specs.declared.arrival.Arrival.{Arrival}
use Rattle.window_link.specs.declared.arrival.Arrival.TheVariants as arrival
use Rattle.token_channel.specs.Channels.{WhatComesWasAway, WhatFollowsWasAway}
use Rattle.dining_core.specs.Diners.{Diner, ForkRule}
use Rattle.dining_core.specs.Diners as forks
use Rattle.dining_core.specs.Worlds as tables
use Rattle.drinking_core.specs.Drinkers as bottles
use Rattle.drinking_core.specs.Worlds as bars
use Rattle.office_journal.specs.declared.rule.Rule.{Rule}
use Rattle.office_journal.specs.declared.rule.Rule.TheVariants as rule
use Rattle.office_journal.specs.declared.event.Event as office
use Rattle.office_journal.specs.declared.event.Event.TheVariants as event
use Rattle.office_journal.specs.declared.reply.Reply.{Reply}
use Rattle.site_core.specs.neighbours.Pairs.{Pairs, frame_on, sent, fork_sends, bottle_sends, diner_after, follows}
use Rattle.site_core.specs.agendas.Agenda.{is_waiting}
use Rattle.site_core.specs.Offices.{Office, may, answer}
use Rattle.frame_world.specs.Worlds.{World, opening, happens}
use Rattle.frame_world.specs.Ways.{tables_of, bars_of}
use Rattle.frame_world.specs.WorldStates.{State, state_of, starting, MayCome, IsAccepted, IsSeated, Left}
use Rattle.frame_world.specs.WorldLaws.{seated_opening, state_opening, happens_leaves}
use Rattle.frame_world.proofs.Answers.{PairStep, Stays, ByFork, ByBottle, ByFrame, ByKept, rule_step, step_of, withdrawal_step, pair_after, MayStep, was_done, is_step}
use Rattle.frame_world.proofs.Links.{AreLinked, IsHonest, made_honest}
use Rattle.frame_world.proofs.TablesFollow.{fork_event, tables_then}
use Rattle.frame_world.proofs.BarsFollow.{bottle_event, bars_then}
use Rattle.frame_world.proofs.Following.{Arrived, Moves, moves, moved, pairs_in, IsOfTables, IsOfBars, tables_go_on, bars_go_on, through_moves, pairs_after, IsNew, old_or_new}
use Rattle.frame_world.specs.hostile.Hostile.{HostileEvent, AsEver, MadeUp, makes_up, goes_on}
use Rattle.frame_world.proofs.hostile_lemmas.Masks.{table_plan, masks, masked_seen, masks_put, masks_unseen, shown_if}
use Rattle.frame_world.proofs.hostile_lemmas.MaskedSteps.{link_seen, joins_such, IsOwn, shown_step, step_seen, may_seen}
use Rattle.frame_world.proofs.hostile_lemmas.MaskedPlans.{tables_start, bars_start, linked_start}

-- the laws of the parts that it rests on
pub record Laws : Type 0 where
  pub away : WhatComesWasAway
  pub away_kept : WhatFollowsWasAway
  pub peers : bars.PeersStay

-- the two ends of each link
abbrev pub AreEnds : ℕ → (ℕ → LinkState) → Type 0
AreEnds a link = (v : ℕ) → ((link v).me ≡ a) × ((link v).peer ≡ v)

-- these offices with these frames, seen through the mask
pub record Shows (p : PlanValue) (h : ℕ → Bool) (frames : List Fields) (qs : ℕ → Pairs) : Type 0 where
  pub linked : AreLinked (masks h p qs)
  pub sent : (k : ℕ) (f : Fields) → slice_get frames k ≡ Some f → h f.from ≡ true → h f.to ≡ true → IsHonest (masks h p qs) f
  pub tables : IsOfTables (table_plan h p) (tables_of (masks h p qs))
  pub bars : IsOfBars p (bars_of (masks h p qs))
  pub ends : (a : ℕ) → AreEnds a (qs a).link
  pub sits : (a : ℕ) → (qs a).diner.neighbours ≡ neighbours_of p a

-- ---- what no step changes

ends_put : (a u : ℕ) (link : ℕ → LinkState) (l : LinkState) → l.me ≡ a → l.peer ≡ u → AreEnds a link → AreEnds a (put link u l)
ends_put a u link l me peer ends v = put_cases link u l v (λ (x : LinkState). (x.me ≡ a) × (x.peer ≡ v)) (λ i. (me, peer ∙ sym i)) (λ ne. ends v)

ends_sent : (a : ℕ) (link : ℕ → LinkState) (m : Option (ℕ × Msg)) → AreEnds a link → AreEnds a (sent link m)
ends_sent a link None ends = ends
ends_sent a link (Some m) ends = ends_put a m.0 link _ (ends m.0).0 (ends m.0).1 ends

ends_after : (a : ℕ) (q : Pairs) (step : PairStep) → AreEnds a q.link → AreEnds a (pair_after q step).link
ends_after a q Stays ends = ends
ends_after a q (ByFork rule) ends = ends_sent a q.link (fork_sends rule) ends
ends_after a q (ByBottle rule) ends = ends_sent a q.link (bottle_sends q.drinker rule) ends
ends_after a q (ByFrame f) ends = ends_put a f.from q.link _ (ends f.from).0 (ends f.from).1 ends
ends_after a q (ByKept v o) ends = ends_put a v q.link _ (ends v).0 (ends v).1 ends

sits_acting : (d : Diner) (rule : ForkRule) → (forks.act d rule).neighbours ≡ d.neighbours
sits_acting d (forks.BecomeHungry thirsty) = refl
sits_acting d (forks.AskFork v) = refl
sits_acting d (forks.GiveFork v) = refl
sits_acting d forks.Eat = refl
sits_acting d (forks.Leave thirsty) = refl

sits_taking : (d : Diner) (v : ℕ) (x : Arrival) → (diner_after d v x).neighbours ≡ d.neighbours
sits_taking d v (arrival.Fresh msg.AskFork) = refl
sits_taking d v (arrival.Fresh msg.Fork) = refl
sits_taking d v (arrival.Fresh (msg.AskBottle r)) = refl
sits_taking d v (arrival.Fresh (msg.Bottle r x)) = refl
sits_taking d v arrival.Acked = refl
sits_taking d v arrival.Repeat = refl
sits_taking d v arrival.Kept = refl
sits_taking d v arrival.Early = refl

sits_after : (q : Pairs) (step : PairStep) → (pair_after q step).diner.neighbours ≡ q.diner.neighbours
sits_after q Stays = refl
sits_after q (ByFork rule) = sits_acting q.diner rule
sits_after q (ByBottle rule) = refl
sits_after q (ByFrame f) = sits_taking q.diner f.from _
sits_after q (ByKept v o) = sits_taking q.diner v _

module _ (p : PlanValue) (h : ℕ → Bool) (frames : List Fields) (qs : ℕ → Pairs) (a : ℕ) (step : PairStep) (s : Shows p h frames qs) where
  ends_moved : (x : ℕ) → AreEnds x (moved qs a step x).link
  ends_moved x = put_cases qs a (pair_after (qs a) step) x (λ (q : Pairs). AreEnds x q.link) (λ i. subst (λ y. AreEnds y (pair_after (qs a) step).link) (sym i) (ends_after a (qs a) step (s.ends a))) (λ ne. s.ends x)

  sits_moved : (x : ℕ) → (moved qs a step x).diner.neighbours ≡ neighbours_of p x
  sits_moved x = put_cases qs a (pair_after (qs a) step) x (λ (q : Pairs). q.diner.neighbours ≡ neighbours_of p x) (λ i. sits_after (qs a) step ∙ s.sits a ∙ ap (neighbours_of p) (sym i)) (λ ne. s.sits x)

-- ---- a step

-- a frame that comes was sent to it, and is true where an office that keeps to the rules sent it
abbrev pub ComesTrue : PlanValue → (ℕ → Bool) → (ℕ → Pairs) → ℕ → PairStep → Type 0
ComesTrue p h qs a (ByFrame f) = (f.to ≡ a) × (h f.from ≡ true → IsHonest (masks h p qs) f)
ComesTrue p h qs a _ = Unit {0}

-- the tables know no more of the plan than its offices
tables_same : (p : PlanValue) (h : ℕ → Bool) (w : tables.World) (e : Option tables.Event) → tables_then p w e ≡ tables_then (table_plan h p) w e
tables_same p h w None = refl
tables_same p h w (Some (tables.Do a rule)) = refl
tables_same p h w (Some (tables.TokenComes a v)) = refl
tables_same p h w (Some (tables.ForkComes a v)) = refl

arrives_there : (p : PlanValue) (h : ℕ → Bool) (qs : ℕ → Pairs) (a : ℕ) (step : PairStep) → ComesTrue p h qs a step → Arrived (masks h p qs) a (shown_step h p step)
arrives_there p h qs a Stays c = tt
arrives_there p h qs a (ByFork (forks.BecomeHungry thirsty)) c = tt
arrives_there p h qs a (ByFork (forks.AskFork v)) c = by (h v)
  where
    by : (b : Bool) → Arrived (masks h p qs) a (shown_if b (ByFork (forks.AskFork v)))
    by true = tt
    by false = tt
arrives_there p h qs a (ByFork (forks.GiveFork v)) c = by (h v)
  where
    by : (b : Bool) → Arrived (masks h p qs) a (shown_if b (ByFork (forks.GiveFork v)))
    by true = tt
    by false = tt
arrives_there p h qs a (ByFork forks.Eat) c = tt
arrives_there p h qs a (ByFork (forks.Leave thirsty)) c = tt
arrives_there p h qs a (ByBottle (bottles.Start session)) c = tt
arrives_there p h qs a (ByBottle (bottles.AskBottle r)) c = by _
  where
    by : (b : Bool) → Arrived (masks h p qs) a (shown_if b (ByBottle (bottles.AskBottle r)))
    by true = tt
    by false = tt
arrives_there p h qs a (ByBottle (bottles.GiveBottle r held)) c = by _
  where
    by : (b : Bool) → Arrived (masks h p qs) a (shown_if b (ByBottle (bottles.GiveBottle r held)))
    by true = tt
    by false = tt
arrives_there p h qs a (ByBottle bottles.Drink) c = tt
arrives_there p h qs a (ByBottle (bottles.Finish writes)) c = tt
arrives_there p h qs a (ByBottle bottles.Withdraw) c = tt
arrives_there p h qs a (ByFrame f) c = by (h f.from) refl
  where
    by : (b : Bool) → h f.from ≡ b → Arrived (masks h p qs) a (shown_if b (ByFrame f))
    by true e = (c.0, c.1 e)
    by false e = tt
arrives_there p h qs a (ByKept v o) c = by (h v)
  where
    by : (b : Bool) → Arrived (masks h p qs) a (shown_if b (ByKept v o))
    by true = tt
    by false = tt

-- what an office does that isn't seen isn't seen
pub unseen_on : (p : PlanValue) (h : ℕ → Bool) (frames : List Fields) (qs : ℕ → Pairs) (a : ℕ) (step : PairStep) → h a ≡ false → Shows p h frames qs → Shows p h frames (moved qs a step)
unseen_on p h frames qs a step e s =
    let same = masks_unseen h p qs a (pair_after (qs a) step) e in
    record {
      linked = subst AreLinked (sym same) s.linked;
      sent = λ k f i ef et. subst (λ x. IsHonest x f) (sym same) (s.sent k f i ef et);
      tables = subst (λ x. IsOfTables (table_plan h p) (tables_of x)) (sym same) s.tables;
      bars = subst (λ x. IsOfBars p (bars_of x)) (sym same) s.bars;
      ends = ends_moved p h frames qs a step s;
      sits = sits_moved p h frames qs a step s;
    }

module _ (p : PlanValue) (h : ℕ → Bool) (frames : List Fields) (qs : ℕ → Pairs) (a : ℕ) (step : PairStep)
    (laws : Laws)
    (c : IsConsistent p)
    (inside : nat_lt a (length p.offices) ≡ true)
    (s : Shows p h frames qs)
    (own : IsOwn p a step)
    (guard : MayStep p a (qs a) step)
    (comes : ComesTrue p h qs a step)
  where
    -- the peers of an office that is seen are the plan's
    peers_there : h a ≡ true → (r : ℕ) → (qs a).drinker.peer r ≡ peer p a r
    peers_there e r = sym (ap (λ (q : Pairs). q.drinker.peer r) (masked_seen h p a (qs a) e)) ∙ subst (λ (w : bars.World). (w.drinker a).peer r ≡ peer p a r) (sym s.bars.led) (laws.peers p s.bars.events a r)

    there : h a ≡ true → masks h p (moved qs a step) ≡ moved (masks h p qs) a (shown_step h p step)
    there e = masks_put h p qs a (pair_after (qs a) step)
        ∙ ap (put (masks h p qs) a) (masked_seen h p a (pair_after (qs a) step) e ∙ step_seen h p a (qs a) step laws.away laws.away_kept e (peers_there e) own guard ∙ ap (λ q. pair_after q (shown_step h p step)) (sym (masked_seen h p a (qs a) e)))

    moves_there : h a ≡ true → Moves p (masks h p qs) a (shown_step h p step)
    moves_there e = moves p (masks h p qs) a (shown_step h p step) inside s.linked
        (subst (λ q. MayStep p a q (shown_step h p step)) (sym (masked_seen h p a (qs a) e)) (may_seen h p a (qs a) step c e (s.sits a) guard))
        (arrives_there p h qs a step comes)

    pub bars_step : h a ≡ true → bars_of (masks h p (moved qs a step)) ≡ bars_then p (bars_of (masks h p qs)) (bottle_event a (masks h p qs a) (shown_step h p step))
    bars_step e = ap bars_of (there e) ∙ (moves_there e).bars

    shows_seen : h a ≡ true → Shows p h frames (moved qs a step)
    shows_seen e =
        let m = moves_there e in
        let same = there e in
        record {
          linked = subst AreLinked (sym same) m.linked;
          sent = λ k f i ef et. subst (λ x. IsHonest x f) (sym same) (m.honest f (s.sent k f i ef et));
          tables = subst (λ x. IsOfTables (table_plan h p) (tables_of x)) (sym same)
              (tables_go_on (table_plan h p) (tables_of (masks h p qs)) (tables_of (moved (masks h p qs) a (shown_step h p step))) (fork_event a (masks h p qs a) (shown_step h p step))
              (m.tables ∙ tables_same p h (tables_of (masks h p qs)) (fork_event a (masks h p qs a) (shown_step h p step))) s.tables);
          bars = subst (λ x. IsOfBars p (bars_of x)) (sym same)
              (bars_go_on p (bars_of (masks h p qs)) (bars_of (moved (masks h p qs) a (shown_step h p step))) (bottle_event a (masks h p qs a) (shown_step h p step)) m.bars s.bars);
          ends = ends_moved p h frames qs a step s;
          sits = sits_moved p h frames qs a step s;
        }

    pub shows_step : Shows p h frames (moved qs a step)
    shows_step = by (h a) refl
      where
        by : (b : Bool) → h a ≡ b → Shows p h frames (moved qs a step)
        by true e = shows_seen e
        by false e = unseen_on p h frames qs a step e s

-- ---- frames that are made, by the rules or not

made_ends : (l : LinkState) (i : ℕ) (f : Fields) → frame_on l i ≡ Some f → (f.from ≡ l.me) × (f.to ≡ l.peer)
made_ends l zero f e = let same : ack_frame_of l ≡ f = cc in (ap (λ (g : Fields). g.from) (sym same), ap (λ (g : Fields). g.to) (sym same))
made_ends l (suc i) f e = by (nat_le (suc i) (length l.sending.waiting)) e
  where
    by : (b : Bool) → cond b (Some (frame_of l (suc i))) None ≡ Some f → (f.from ≡ l.me) × (f.to ≡ l.peer)
    by true k = let same : frame_of l (suc i) ≡ f = cc in (ap (λ (g : Fields). g.from) (sym same), ap (λ (g : Fields). g.to) (sym same))
    by false k = absurd cc

new_is_true : (p : PlanValue) (h : ℕ → Bool) (frames : List Fields) (qs : ℕ → Pairs) (f : Fields) → Shows p h frames qs → IsNew p qs f → h f.from ≡ true → h f.to ≡ true → IsHonest (masks h p qs) f
new_is_true p h frames qs f s n ef et = made_honest (masks h p qs) n.sender n.receiver n.place f s.linked (ap (λ l. frame_on l n.place) (ap (λ (q : Pairs). q.link n.receiver) (masked_seen h p n.sender (qs n.sender) sender) ∙ link_seen h p n.sender n.receiver (qs n.sender) receiver) ∙ n.made)
  where
    ends : (f.from ≡ ((qs n.sender).link n.receiver).me) × (f.to ≡ ((qs n.sender).link n.receiver).peer)
    ends = made_ends ((qs n.sender).link n.receiver) n.place f n.made

    sender : h n.sender ≡ true
    sender = ap h (sym (s.ends n.sender n.receiver).0 ∙ sym ends.0) ∙ ef

    receiver : h n.receiver ≡ true
    receiver = ap h (sym (s.ends n.sender n.receiver).1 ∙ sym ends.1) ∙ et

-- a frame more is the last
last_or_old : (xs : List Fields) (f g : Fields) (k : ℕ) → slice_get (xs ++ f ∷ []) k ≡ Some g → (slice_get xs k ≡ Some g) ⊎ (f ≡ g)
last_or_old [] f g zero e = inr cc
last_or_old [] f g (suc k) e = absurd cc
last_or_old (x ∷ xs) f g zero e = inl e
last_or_old (x ∷ xs) f g (suc k) e = last_or_old xs f g k e

pub with_made_up : (p : PlanValue) (h : ℕ → Bool) (frames : List Fields) (qs : ℕ → Pairs) (f : Fields) → h f.from ≡ false → Shows p h frames qs → Shows p h (frames ++ f ∷ []) qs
with_made_up p h frames qs f e s = record {
  linked = s.linked;
  sent = λ k g i ef et. ⊎_elim (λ old. s.sent k g old ef et) (λ same. let no : false ≡ true = sym e ∙ ap (λ (x : Fields). h x.from) same ∙ ef in absurd cc) (last_or_old frames f g k i);
  tables = s.tables;
  bars = s.bars;
  ends = s.ends;
  sits = s.sits;
}

-- ---- an accepted event

abbrev pub ShowsState : PlanValue → (ℕ → Bool) → State → Type 0
ShowsState p h s = Shows p h s.frames (pairs_in s)

pub with_new : (p : PlanValue) (h : ℕ → Bool) (s s' : State) → ShowsState p h s → IsAccepted p s s' → Shows p h s'.frames (pairs_in s)
with_new p h s s' x i = record {
  linked = x.linked;
  sent = λ k f e ef et. ⊎_elim (λ old. x.sent k f old ef et) (λ new. new_is_true p h s.frames (pairs_in s) f x new ef et) (old_or_new p s s' i k f e);
  tables = x.tables;
  bars = x.bars;
  ends = x.ends;
  sits = x.sits;
}

rule_own : (p : PlanValue) (a : ℕ) (o : Office) (r : Rule) → may p a o r ≡ true → IsOwn p a (rule_step o r)
rule_own p a o rule.Start g = tt
rule_own p a o rule.Hungry g = tt
rule_own p a o (rule.AskFork v) g = tt
rule_own p a o (rule.GiveFork v) g = tt
rule_own p a o rule.Eat g = tt
rule_own p a o rule.Leave g = tt
rule_own p a o (rule.AskBottle r) g = (and_parts (is_end p r a) (bottles.may o.pairs.drinker (bottles.AskBottle r)) g).0
rule_own p a o (rule.GiveBottle r) g = (and_parts (is_end p r a) (bottles.may o.pairs.drinker (bottles.GiveBottle r o.pairs.diner.held)) g).0
rule_own p a o rule.Drink g = tt
rule_own p a o (rule.Work n) g = tt
rule_own p a o rule.Finish g = tt

pub step_own : (p : PlanValue) (a : ℕ) (o : Office) (e : office.Event) (r : Reply) (o' : Office) → answer p a o e ≡ Ok (r, o') → IsOwn p a (step_of o e)
step_own p a o (event.Submit q) r o' ans = tt
step_own p a o (event.Do x) r o' ans = rule_own p a o x (was_done p a o x r o' ans).guard
step_own p a o (event.Send v i) r o' ans = tt
step_own p a o (event.Took f) r o' ans = tt
step_own p a o (event.Withdraw t) r o' ans = by (is_waiting o.agenda.queue t)
  where
    by : (b : Bool) → IsOwn p a (withdrawal_step b)
    by true = tt
    by false = tt

rule_comes : (p : PlanValue) (h : ℕ → Bool) (qs : ℕ → Pairs) (a : ℕ) (o : Office) (r : Rule) → ComesTrue p h qs a (rule_step o r)
rule_comes p h qs a o rule.Start = tt
rule_comes p h qs a o rule.Hungry = tt
rule_comes p h qs a o (rule.AskFork v) = tt
rule_comes p h qs a o (rule.GiveFork v) = tt
rule_comes p h qs a o rule.Eat = tt
rule_comes p h qs a o rule.Leave = tt
rule_comes p h qs a o (rule.AskBottle r) = tt
rule_comes p h qs a o (rule.GiveBottle r) = tt
rule_comes p h qs a o rule.Drink = tt
rule_comes p h qs a o (rule.Work n) = tt
rule_comes p h qs a o rule.Finish = tt

-- for an office that isn't seen nothing is to be true
pub comes_true : (p : PlanValue) (h : ℕ → Bool) (s : State) (a : ℕ) (e : office.Event) → h a ≡ true → ShowsState p h s → MayCome s.frames a e → ComesTrue p h (pairs_in s) a (step_of (s.office a) e)
comes_true p h s a (event.Submit q) ea x c = tt
comes_true p h s a (event.Do r) ea x c = rule_comes p h (pairs_in s) a (s.office a) r
comes_true p h s a (event.Send v i) ea x c = tt
comes_true p h s a (event.Took f) ea x c = (c.0, λ ef. x.sent c.1 f c.2 ef (ap h c.0 ∙ ea))
comes_true p h s a (event.Withdraw t) ea x c = by (is_waiting (s.office a).agenda.queue t)
  where
    by : (b : Bool) → ComesTrue p h (pairs_in s) a (withdrawal_step b)
    by true = tt
    by false = tt

pub shows_on : (p : PlanValue) (h : ℕ → Bool) → Laws → IsConsistent p → (s s' : State) → ShowsState p h s → IsAccepted p s s' → ShowsState p h s'
shows_on p h laws c s s' x i = subst (Shows p h s'.frames) (sym (pairs_after p s s' i)) (through_moves p a (Shows p h s'.frames) kept_on (pairs_in s) step own_step)
  where
    a : ℕ
    a = i.place

    step : PairStep
    step = step_of (s.office i.place) i.event

    more : Shows p h s'.frames (pairs_in s)
    more = with_new p h s s' x i

    kept_on : (qs : ℕ → Pairs) (v : ℕ) (o : Option Msg) → follows p a v (qs a) ≡ o → Shows p h s'.frames qs → Shows p h s'.frames (moved qs a (ByKept v o))
    kept_on qs v o e y = shows_step p h s'.frames qs a (ByKept v o) laws c i.inside y tt e tt

    own_step : Shows p h s'.frames (moved (pairs_in s) a step)
    own_step = by (h a) refl
      where
        guard : MayStep p a (pairs_in s a) step
        guard = (is_step p i.place (s.office i.place) i.event i.reply i.new i.answered).may

        own : IsOwn p a step
        own = step_own p i.place (s.office i.place) i.event i.reply i.new i.answered

        by : (b : Bool) → h a ≡ b → Shows p h s'.frames (moved (pairs_in s) a step)
        by true e = shows_step p h s'.frames (pairs_in s) a step laws c i.inside more own guard (comes_true p h s i.place i.event e x i.comes)
        by false e = unseen_on p h s'.frames (pairs_in s) a step e more

-- ---- all of them

-- with a frame that was made up
abbrev pub with_frame : State → Fields → State
with_frame s f = record { office = s.office; journal = s.journal; frames = s.frames ++ f ∷ []; finished = s.finished }

-- what each event and each frame that is made up leaves, all of them leave
pub through_such : (p : PlanValue) (h : ℕ → Bool) (P : State → Type 0) → ((s s' : State) → P s → IsAccepted p s s' → P s') → ((s : State) (f : Fields) → h f.from ≡ false → P s → P (with_frame s f)) →
    (w : World) (es : List HostileEvent) → IsSeated p w → P (state_of w) → IsSeated p (goes_on h w es) × P (state_of (goes_on h w es))
through_such p h P on made w [] seated x = (seated, x)
through_such p h P on made w (AsEver e ∷ es) seated x =
    let l : Left p w (happens w e).1 = happens_leaves p w e seated in
    through_such p h P on made (happens w e).1 es l.seated (⊎_elim (λ same. subst P (sym same) x) (λ i. on (state_of w) (state_of (happens w e).1) x i) l.led)
through_such p h P on made w (MadeUp f ∷ es) seated x =
    by (h f.from) refl (through_such p h P on made w es seated x)
    (λ e. through_such p h P on made (makes_up false w f) es (record { planned = seated.planned; size = seated.size; plans = seated.plans; numbers = seated.numbers }) (made (state_of w) f e x))
  where
    Goes : World → Type 0
    Goes k = IsSeated p (goes_on h k es) × P (state_of (goes_on h k es))

    by : (b : Bool) → h f.from ≡ b → Goes w → (h f.from ≡ false → Goes (makes_up false w f)) → Goes (makes_up b w f)
    by true e as_before more = as_before
    by false e as_before more = more e

pub shows_start : (p : PlanValue) (h : ℕ → Bool) → ShowsState p h (starting p)
shows_start p h = record {
  linked = linked_start h p;
  sent = λ k f e. absurd cc;
  tables = record { events = []; led = tables_start h p (joins_such h) };
  bars = record { events = []; led = bars_start h p };
  ends = λ a v. (refl, refl);
  sits = λ a. refl;
}

pub shows : (p : PlanValue) (h : ℕ → Bool) (es : List HostileEvent) → Laws → IsConsistent p → IsSeated p (goes_on h (opening p) es) × ShowsState p h (state_of (goes_on h (opening p) es))
shows p h es laws c = through_such p h (ShowsState p h) (λ s s' x i. shows_on p h laws c s s' x i) (λ s f e x. with_made_up p h s.frames (pairs_in s) f e x) (opening p) es (seated_opening p) (subst (ShowsState p h) (sym (state_opening p)) (shows_start p h))
