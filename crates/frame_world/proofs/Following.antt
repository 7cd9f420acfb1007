-- Over every list of events the offices' tables and bars are those that some events of tables and of bars lead to.
use Rattle.std.proofs.Common.{◌≡◌, ℕ, zero, suc, ◌+◌, Bool, true, false, cond, List, [], ◌∷◌, ◌++◌, length, Option, None, Some, Ok, refl, sym, ap, subst, ◌∙◌, inl, inr, ◌⊎◌, ⊎_elim}
use Rattle.std.specs.Prelude.{nat_lt, slice_get, ◌==◌}
use mathlib.Core.Path.{fun_ext}
use Rattle.bottle_values.specs.Maps.{put}
use Rattle.bottle_values.specs.MapLaws.{put_same}
use Rattle.frame_codec.specs.declared.message.Msg.{Msg}
use Rattle.frame_codec.specs.Frame.{Fields}
use Rattle.office_map.specs.PlanValue.{PlanValue, are_neighbours}
use Rattle.window_link.specs.declared.arrival.Arrival.{Arrival}
use Rattle.window_link.specs.declared.arrival.Arrival.TheVariants as arrival
use Rattle.window_link.specs.Windows.{next_kept}
use Rattle.window_link.specs.Links.{LinkState}
use Rattle.token_channel.specs.Ends.{is_shared}
use Rattle.token_channel.specs.Channels.{breach_among, unless_breach}
use Rattle.dining_core.specs.Worlds as tables
use Rattle.drinking_core.specs.Worlds as bars
use Rattle.office_journal.specs.declared.rule.Rule.{Rule}
use Rattle.office_journal.specs.declared.rule.Rule.TheVariants as rule
use Rattle.office_journal.specs.declared.event.Event as office
use Rattle.office_journal.specs.declared.event.Event.TheVariants as event
use Rattle.office_journal.specs.declared.reply.Reply.{Reply}
use Rattle.site_core.specs.Replies.{reply_to}
use Rattle.site_core.specs.Pairs.{Pairs, held, fork_sends, bottle_sends, arrival_of, follows as followed_by}
use Rattle.site_core.specs.Offices.{Office, answer, frame_on}
use Rattle.frame_world.specs.declared.event.WorldEvent.{WorldEvent}
use Rattle.frame_world.specs.Worlds.{opening, run_of, frames_of}
use Rattle.frame_world.specs.Ways.{tables_of, bars_of}
use Rattle.frame_world.specs.WorldStates.{State, state_of, starting, MayCome, IsAccepted}
use Rattle.frame_world.specs.WorldLaws.{through}
use Rattle.frame_world.proofs.Answers.{PairStep, Stays, ByFork, ByBottle, ByFrame, ByKept, rule_step, step_of, pair_after, all_after, MayStep, through_all, was_submitted, was_done, was_sent, was_taken, is_step, was_withdrawn, withdrawal_step}
use Rattle.site_core.specs.Agenda.{is_waiting}
use Rattle.frame_world.proofs.OneLink.{Keeps, keeps_next}
use Rattle.frame_world.proofs.Links.{AreLinked, IsHonest, goes_out, comes_in, follows_in, receiving_of, taken_of, linked_at_start, made_honest}
use Rattle.frame_world.proofs.TablesFollow.{fork_event, tables_then, fork_row, bottle_row_leaves_tables, put_kept}
use Rattle.frame_world.proofs.TablesFollow as forks_follow
use Rattle.frame_world.proofs.BarsFollow.{bottle_event, bars_then, bottle_row, fork_row_leaves_bars}
use Rattle.frame_world.proofs.BarsFollow as bottles_follow

-- ---- one office's step

abbrev pub moved : (ℕ → Pairs) → ℕ → PairStep → ℕ → Pairs
moved pairs a step = put pairs a (pair_after (pairs a) step)

pub record Moves (plan : PlanValue) (pairs : ℕ → Pairs) (a : ℕ) (step : PairStep) : Type 0 where
  pub linked : AreLinked (moved pairs a step)
  pub honest : (f : Fields) → IsHonest pairs f → IsHonest (moved pairs a step) f
  pub tables : tables_of (moved pairs a step) ≡ tables_then plan (tables_of pairs) (fork_event a (pairs a) step)
  pub bars : bars_of (moved pairs a step) ≡ bars_then plan (bars_of pairs) (bottle_event a (pairs a) step)

-- a frame that comes is one that was sent to it
abbrev pub Arrived : (ℕ → Pairs) → ℕ → PairStep → Type 0
Arrived pairs a Stays = Unit {0}
Arrived pairs a (ByFork rule) = Unit {0}
Arrived pairs a (ByBottle rule) = Unit {0}
Arrived pairs a (ByFrame f) = (f.to ≡ a) × IsHonest pairs f
Arrived pairs a (ByKept v o) = Unit {0}

frame_moves : (plan : PlanValue) (pairs : ℕ → Pairs) (f : Fields) → AreLinked pairs → IsHonest pairs f → Moves plan pairs f.to (ByFrame f)
frame_moves plan pairs f l h =
    let c = comes_in pairs f (pair_after (pairs f.to) (ByFrame f)) refl l h in
    record { linked = c.linked; honest = c.honest; tables = forks_follow.frame_is_taken plan pairs f.to f c; bars = bottles_follow.frame_is_taken plan pairs f.to f c }

-- what follows is kept of the next number
pub kept_there : (breach : Msg → Bool) (x : Option Msg) (m : Msg) → unless_breach breach x ≡ Some m → x ≡ Some m
kept_there breach None m e = absurd cc
kept_there breach (Some n) m e = go (breach n) e
  where
    go : (b : Bool) → cond b None (Some n) ≡ Some m → Some n ≡ Some m
    go true k = absurd cc
    go false k = k

pub kept_moves : (plan : PlanValue) (pairs : ℕ → Pairs) (a v : ℕ) (o : Option Msg) → AreLinked pairs → followed_by plan a v (pairs a) ≡ o → Moves plan pairs a (ByKept v o)
kept_moves plan pairs a v o l may =
    let c = follows_in pairs v a o (pair_after (pairs a) (ByKept v o)) refl l next in
    record { linked = c.linked; honest = c.honest; tables = forks_follow.kept_is_taken plan pairs a v o c; bars = bottles_follow.kept_is_taken plan pairs a v o c }
  where
    link : LinkState
    link = (pairs a).link v

    next : (m : Msg) → o ≡ Some m → Keeps (receiving_of pairs a v) (taken_of pairs a v + 1) m
    next m is = keeps_next (receiving_of pairs a v) m (kept_there (breach_among (is_shared plan a v) (held (pairs a) v) link link.sending.acked) (next_kept link.receiving) m (may ∙ is))

pub moves : (plan : PlanValue) (pairs : ℕ → Pairs) (a : ℕ) (step : PairStep) → nat_lt a (length plan.offices) ≡ true → AreLinked pairs → MayStep plan a (pairs a) step → Arrived pairs a step → Moves plan pairs a step
moves plan pairs a Stays inside l may here =
    let same : moved pairs a Stays ≡ pairs = put_kept pairs a (pairs a) refl in
    record { linked = subst AreLinked (sym same) l; honest = λ f h. subst (λ p. IsHonest p f) (sym same) h; tables = ap tables_of same; bars = ap bars_of same }
moves plan pairs a (ByFork rule) inside l may here =
    let g = goes_out pairs a (pair_after (pairs a) (ByFork rule)) (fork_sends rule) refl l in
    record { linked = g.linked; honest = g.honest; tables = fork_row plan pairs a rule inside may g; bars = fork_row_leaves_bars pairs a rule g }
moves plan pairs a (ByBottle rule) inside l may here =
    let g = goes_out pairs a (pair_after (pairs a) (ByBottle rule)) (bottle_sends (pairs a).drinker rule) refl l in
    record { linked = g.linked; honest = g.honest; tables = bottle_row_leaves_tables pairs a rule g; bars = bottle_row plan pairs a rule inside may g }
moves plan pairs a (ByKept v o) inside l may here = kept_moves plan pairs a v o l may
moves plan pairs a (ByFrame f) inside l may here = subst (λ k. Moves plan pairs k (ByFrame f)) here.0 (frame_moves plan pairs f l here.1)

-- ---- all of it

abbrev pub pairs_in : State → ℕ → Pairs
pairs_in s a = (s.office a).pairs

pub record IsOfTables (plan : PlanValue) (w : tables.World) : Type 0 where
  pub events : List tables.Event
  pub led : w ≡ tables.run plan (tables.opening plan) events

pub record IsOfBars (plan : PlanValue) (w : bars.World) : Type 0 where
  pub events : List bars.Event
  pub led : w ≡ bars.run plan (bars.opening plan) events

-- these offices with these frames
pub record Follow (plan : PlanValue) (frames : List Fields) (pairs : ℕ → Pairs) : Type 0 where
  pub linked : AreLinked pairs
  pub honest : (k : ℕ) (f : Fields) → slice_get frames k ≡ Some f → IsHonest pairs f
  pub tables : IsOfTables plan (tables_of pairs)
  pub bars : IsOfBars plan (bars_of pairs)

abbrev pub Follows : PlanValue → State → Type 0
Follows plan s = Follow plan s.frames (pairs_in s)

tables_more : (plan : PlanValue) (w : tables.World) (es : List tables.Event) (e : tables.Event) → tables.run plan w (es ++ e ∷ []) ≡ tables.happens plan (tables.run plan w es) e
tables_more plan w [] e = refl
tables_more plan w (x ∷ xs) e = tables_more plan (tables.happens plan w x) xs e

bars_more : (plan : PlanValue) (w : bars.World) (es : List bars.Event) (e : bars.Event) → bars.run plan w (es ++ e ∷ []) ≡ bars.happens plan (bars.run plan w es) e
bars_more plan w [] e = refl
bars_more plan w (x ∷ xs) e = bars_more plan (bars.happens plan w x) xs e

pub tables_go_on : (plan : PlanValue) (w w' : tables.World) (e : Option tables.Event) → w' ≡ tables_then plan w e → IsOfTables plan w → IsOfTables plan w'
tables_go_on plan w w' None is o = record { events = o.events; led = is ∙ o.led }
tables_go_on plan w w' (Some e) is o = record { events = o.events ++ e ∷ []; led = is ∙ ap (λ x. tables.happens plan x e) o.led ∙ sym (tables_more plan (tables.opening plan) o.events e) }

pub bars_go_on : (plan : PlanValue) (w w' : bars.World) (e : Option bars.Event) → w' ≡ bars_then plan w e → IsOfBars plan w → IsOfBars plan w'
bars_go_on plan w w' None is o = record { events = o.events; led = is ∙ o.led }
bars_go_on plan w w' (Some e) is o = record { events = o.events ++ e ∷ []; led = is ∙ ap (λ x. bars.happens plan x e) o.led ∙ sym (bars_more plan (bars.opening plan) o.events e) }

-- ---- what an event leaves

put_again : {X : Type 0} (f : ℕ → X) (a : ℕ) (x y : X) → put (put f a x) a y ≡ put f a y
put_again f a x y = fun_ext (λ j. at (j == a) j)
  where
    at : (b : Bool) (j : ℕ) → cond b y (cond b x (f j)) ≡ cond b y (f j)
    at true j = refl
    at false j = refl

-- what the event's step and each kept message leaves, all of it leaves
pub through_moves : (plan : PlanValue) (a : ℕ) (P : (ℕ → Pairs) → Type 0) → ((qs : ℕ → Pairs) (v : ℕ) (o : Option Msg) → followed_by plan a v (qs a) ≡ o → P qs → P (moved qs a (ByKept v o))) →
    (pairs : ℕ → Pairs) (step : PairStep) → P (moved pairs a step) → P (put pairs a (all_after plan a (pairs a) step))
through_moves plan a P keeps pairs step h = through_all plan a (λ p. P (put pairs a p))
    (λ p v o e k. subst P (there p (ByKept v o)) (keeps (put pairs a p) v o (ap (followed_by plan a v) (put_same pairs a p) ∙ e) k))
    (pairs a) step h
  where
    there : (p : Pairs) (next : PairStep) → moved (put pairs a p) a next ≡ put pairs a (pair_after p next)
    there p next = ap (λ q. put (put pairs a p) a (pair_after q next)) (put_same pairs a p) ∙ put_again pairs a p (pair_after p next)

-- the pairs after an accepted event
pub pairs_after : (plan : PlanValue) (s s' : State) (i : IsAccepted plan s s') → pairs_in s' ≡ put (pairs_in s) i.place (all_after plan i.place (pairs_in s i.place) (step_of (s.office i.place) i.event))
pairs_after plan s s' i =
    ap pairs_in i.led ∙ fun_ext (λ x. at (x == i.place) x) ∙ ap (put (pairs_in s) i.place) (is_step plan i.place (s.office i.place) i.event i.reply i.new i.answered).after
  where
    at : (b : Bool) (x : ℕ) → (cond b i.new (s.office x)).pairs ≡ cond b i.new.pairs (s.office x).pairs
    at true x = refl
    at false x = refl

rule_arrives : (pairs : ℕ → Pairs) (a : ℕ) (o : Office) (r : Rule) → Arrived pairs a (rule_step o r)
rule_arrives pairs a o rule.Start = tt
rule_arrives pairs a o rule.Hungry = tt
rule_arrives pairs a o (rule.AskFork v) = tt
rule_arrives pairs a o (rule.GiveFork v) = tt
rule_arrives pairs a o rule.Eat = tt
rule_arrives pairs a o rule.Leave = tt
rule_arrives pairs a o (rule.AskBottle r) = tt
rule_arrives pairs a o (rule.GiveBottle r) = tt
rule_arrives pairs a o rule.Drink = tt
rule_arrives pairs a o (rule.Work n) = tt
rule_arrives pairs a o rule.Finish = tt

withdrawal_arrives : (pairs : ℕ → Pairs) (a : ℕ) (waiting : Bool) → Arrived pairs a (withdrawal_step waiting)
withdrawal_arrives pairs a true = tt
withdrawal_arrives pairs a false = tt

pub arrived : (plan : PlanValue) (s s' : State) (i : IsAccepted plan s s') → ((k : ℕ) (f : Fields) → slice_get s.frames k ≡ Some f → IsHonest (pairs_in s) f) → Arrived (pairs_in s) i.place (step_of (s.office i.place) i.event)
arrived plan s s' i honest = by i.event i.comes
  where
    by : (e : office.Event) → MayCome s.frames i.place e → Arrived (pairs_in s) i.place (step_of (s.office i.place) e)
    by (event.Submit p) c = tt
    by (event.Do rule) c = rule_arrives (pairs_in s) i.place (s.office i.place) rule
    by (event.Send v n) c = tt
    by (event.Took f) c = (c.0, honest c.1 f c.2)
    by (event.Withdraw t) c = withdrawal_arrives (pairs_in s) i.place (is_waiting (s.office i.place).agenda.queue t)

pub moves_on : (plan : PlanValue) (s s' : State) (i : IsAccepted plan s s') → Follows plan s → Moves plan (pairs_in s) i.place (step_of (s.office i.place) i.event)
moves_on plan s s' i h = moves plan (pairs_in s) i.place (step_of (s.office i.place) i.event) i.inside h.linked (is_step plan i.place (s.office i.place) i.event i.reply i.new i.answered).may (arrived plan s s' i h.honest)

-- of more frames each is an old or a new one
one_of : (xs ys : List Fields) (k : ℕ) (f : Fields) → slice_get (xs ++ ys) k ≡ Some f → (slice_get xs k ≡ Some f) ⊎ ((j : ℕ) × (slice_get ys j ≡ Some f))
one_of [] ys k f e = inr (k, e)
one_of (x ∷ xs) ys zero f e = inl e
one_of (x ∷ xs) ys (suc k) f e = one_of xs ys k f e

no_frame : (a : Arrival) → frames_of (reply_to a) ≡ []
no_frame (arrival.Fresh m) = refl
no_frame arrival.Acked = refl
no_frame arrival.Repeat = refl
no_frame arrival.Kept = refl
no_frame arrival.Early = refl

none_new : (P : Fields → Type 0) (r : Reply) → frames_of r ≡ [] → (j : ℕ) (f : Fields) → slice_get (frames_of r) j ≡ Some f → P f
none_new P r e j f is = let none : slice_get (frames_of r) j ≡ None = ap (λ (l : List Fields). slice_get l j) e in absurd cc

-- a frame that was just made: where, and for which neighbour
pub record IsNew (plan : PlanValue) (pairs : ℕ → Pairs) (f : Fields) : Type 0 where
  pub sender : ℕ
  pub receiver : ℕ
  pub place : ℕ
  pub near : are_neighbours plan sender receiver ≡ true
  pub made : frame_on ((pairs sender).link receiver) place ≡ Some f

-- a frame that a reply tells was just made
pub new_frame : (plan : PlanValue) (s s' : State) (i : IsAccepted plan s s') → (j : ℕ) (f : Fields) → slice_get (frames_of i.reply) j ≡ Some f → IsNew plan (pairs_in s) f
new_frame plan s s' i j f is = by i.event i.answered
  where
    a : ℕ
    a = i.place

    by : (e : office.Event) → answer plan i.place (s.office i.place) e ≡ Ok (i.reply, i.new) → IsNew plan (pairs_in s) f
    by (event.Submit p) ans = none_new (IsNew plan (pairs_in s)) i.reply (ap frames_of (was_submitted plan a (s.office a) p i.reply i.new ans).told) j f is
    by (event.Do rule) ans = none_new (IsNew plan (pairs_in s)) i.reply (ap frames_of (was_done plan a (s.office a) rule i.reply i.new ans).told) j f is
    by (event.Took g) ans = none_new (IsNew plan (pairs_in s)) i.reply (ap frames_of (was_taken plan a (s.office a) g i.reply i.new ans).told ∙ no_frame (arrival_of (s.office a).pairs g)) j f is
    by (event.Withdraw t) ans = none_new (IsNew plan (pairs_in s)) i.reply (ap frames_of (was_withdrawn (s.office a) t i.reply i.new ans).told) j f is
    by (event.Send v n) ans =
        let t = was_sent plan a (s.office a) v n i.reply i.new ans in
        first t.frame j (ap (λ (l : List Fields). slice_get l j) (ap frames_of (sym t.told)) ∙ is) (record { sender = a; receiver = v; place = n; near = t.near; made = t.made })
      where
        first : (g : Fields) (j : ℕ) → slice_get (g ∷ []) j ≡ Some f → IsNew plan (pairs_in s) g → IsNew plan (pairs_in s) f
        first g zero e h = let same : g ≡ f = cc in subst (IsNew plan (pairs_in s)) same h
        first g (suc j) e h = absurd cc

-- each frame was there before, or was just made
pub old_or_new : (plan : PlanValue) (s s' : State) (i : IsAccepted plan s s') → (k : ℕ) (f : Fields) → slice_get s'.frames k ≡ Some f → (slice_get s.frames k ≡ Some f) ⊎ IsNew plan (pairs_in s) f
old_or_new plan s s' i k f e = ⊎_elim inl (λ x. inr (new_frame plan s s' i x.0 f x.1)) (one_of s.frames (frames_of i.reply) k f (ap (λ (l : List Fields). slice_get l k) (sym (ap (λ (x : State). x.frames) i.led)) ∙ e))

-- the frames that an event makes are honest too
pub with_new_frames : (plan : PlanValue) (s s' : State) → Follows plan s → IsAccepted plan s s' → Follow plan s'.frames (pairs_in s)
with_new_frames plan s s' h i = record {
  linked = h.linked;
  honest = λ k f e. ⊎_elim (h.honest k f) (λ n. made_honest (pairs_in s) n.sender n.receiver n.place f h.linked n.made) (old_or_new plan s s' i k f e);
  tables = h.tables;
  bars = h.bars;
}

step_follows : (plan : PlanValue) (frames : List Fields) (pairs : ℕ → Pairs) (a : ℕ) (step : PairStep) → Moves plan pairs a step → Follow plan frames pairs → Follow plan frames (moved pairs a step)
step_follows plan frames pairs a step m h = record {
  linked = m.linked;
  honest = λ k f e. m.honest f (h.honest k f e);
  tables = tables_go_on plan (tables_of pairs) (tables_of (moved pairs a step)) (fork_event a (pairs a) step) m.tables h.tables;
  bars = bars_go_on plan (bars_of pairs) (bars_of (moved pairs a step)) (bottle_event a (pairs a) step) m.bars h.bars;
}

pub kept_follows : (plan : PlanValue) (frames : List Fields) (pairs : ℕ → Pairs) (a v : ℕ) (o : Option Msg) → followed_by plan a v (pairs a) ≡ o → Follow plan frames pairs → Follow plan frames (moved pairs a (ByKept v o))
kept_follows plan frames pairs a v o e h = step_follows plan frames pairs a (ByKept v o) (kept_moves plan pairs a v o h.linked e) h

-- with its own step alone
pub own_step_follows : (plan : PlanValue) (s s' : State) (h : Follows plan s) (i : IsAccepted plan s s') → Follow plan s'.frames (moved (pairs_in s) i.place (step_of (s.office i.place) i.event))
own_step_follows plan s s' h i = step_follows plan s'.frames (pairs_in s) i.place (step_of (s.office i.place) i.event) (moves_on plan s s' i h) (with_new_frames plan s s' h i)

pub follows_on : (plan : PlanValue) (s s' : State) → Follows plan s → IsAccepted plan s s' → Follows plan s'
follows_on plan s s' h i = subst (Follow plan s'.frames) (sym (pairs_after plan s s' i))
    (through_moves plan i.place (Follow plan s'.frames) (λ qs v o e k. kept_follows plan s'.frames qs i.place v o e k) (pairs_in s) (step_of (s.office i.place) i.event) (own_step_follows plan s s' h i))

pub starts : (plan : PlanValue) → Follows plan (starting plan)
starts plan = record {
  linked = linked_at_start plan.run plan.version (pairs_in (starting plan)) (λ a v. refl);
  honest = λ k f e. absurd cc;
  tables = record { events = []; led = refl };
  bars = record { events = []; led = refl };
}

pub follows : (plan : PlanValue) (es : List WorldEvent) → Follows plan (state_of (run_of (opening plan) es))
follows plan es = through plan (Follows plan) (starts plan) (follows_on plan) es
