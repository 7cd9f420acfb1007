-- What an office holds at the start, and after a thing went or came.
use Rattle.std.proofs.Common.{◌≡◌, ℕ, Bool, true, false, cond, ◌&&◌, is_some, Option, None, Some, option_map, List, refl, sym, ap, ◌∙◌, ⊎_elim}
use Rattle.std.specs.Prelude.{◌==◌, ◌||◌, not, slice_get}
use Rattle.std.proofs.lemmas.Bool.{eq-eqb, ne_eqb, cases_eq}
use Rattle.bottle_values.specs.declared.Value.{Value}
use Rattle.bottle_values.specs.Maps.{put}
use Rattle.frame_codec.specs.declared.message.Msg.{Msg}
use Rattle.frame_codec.specs.declared.message.Msg.TheVariants as msg
use Rattle.window_link.specs.declared.arrival.Arrival.{Arrival}
use Rattle.window_link.specs.declared.arrival.Arrival.TheVariants as arrival
use Rattle.token_channel.specs.declared.thing.Thing.{Thing}
use Rattle.token_channel.specs.declared.thing.Thing.TheVariants.{Fork, ForkToken, Bottle, BottleToken}
use Rattle.token_channel.specs.Things.{hold, thing_of}
use Rattle.token_channel.specs.Channels.{held_after}
use Rattle.dining_core.specs.Diners.{Diner}
use Rattle.dining_core.specs.Diners as forks
use Rattle.drinking_core.specs.Drinkers.{Drinker, start_bottle, start_token, token_end}
use Rattle.drinking_core.specs.Drinkers as bottles
use Rattle.site_core.specs.neighbours.Pairs.{held_by, fork_came, bottle_came, diner_after, drinker_after}
use Rattle.std.specs.Option.{option_map_or}
use Rattle.office_map.specs.declared.entries.RecordEntry.{RecordEntry}
use Rattle.office_map.specs.PlanValue.{PlanValue, lies_between, other_end, start_end}
use Rattle.office_map.specs.Consistency.{IsConsistent}
use Rattle.office_map.specs.NeighbourLaws.{entry_apart}
use Rattle.token_channel.specs.Ends.{is_shared, starts_here}

-- what is held of a thing that a message carries, toward one office
abbrev pub with_held : (ℕ → Thing → Bool) → ℕ → Thing → Bool → ℕ → Thing → Bool
with_held h v t b = put h v (hold (h v) t b)

applied : (b : Bool) (f g : Thing → Bool) (t : Thing) → cond b (f t) (g t) ≡ cond b f g t
applied true f g t = refl
applied false f g t = refl

-- what isn't of that thing stays
still : (h : ℕ → Thing → Bool) (v u : ℕ) (t : Thing) (f : Thing → Bool) → f t ≡ h v t → h u t ≡ put h v f u t
still h v u t f e = ⊎_elim
    (λ uv. ap (λ k. h k t) uv ∙ sym e ∙ sym (ap (λ b. cond b (f t) (h u t)) (eq-eqb u v uv)) ∙ applied (u == v) f (h u) t)
    (λ ne. sym (ap (λ b. cond b (f t) (h u t)) (ne_eqb u v ne)) ∙ applied (u == v) f (h u) t)
    (cases_eq u v)

-- ---- forks

token_is : (d : Diner) (k : Drinker) (v : ℕ) (b : Bool) (u : ℕ) (t : Thing) → held_by (record d { token = put d.token v b }) k u t ≡ with_held (held_by d k) v ForkToken b u t
token_is d k v b u Fork = still (held_by d k) v u Fork _ refl
token_is d k v b u ForkToken = by_office (u == v)
  where
    by_office : (e : Bool) → cond e b (d.token u) ≡ cond e (hold (held_by d k v) ForkToken b) (held_by d k u) ForkToken
    by_office true = refl
    by_office false = refl
token_is d k v b u (Bottle r) = still (held_by d k) v u (Bottle r) _ refl
token_is d k v b u (BottleToken r) = still (held_by d k) v u (BottleToken r) _ refl

fork_is : (d : Diner) (k : Drinker) (clean : ℕ → Bool) (v : ℕ) (b : Bool) (u : ℕ) (t : Thing) → held_by (record d { held = put d.held v b; clean = clean }) k u t ≡ with_held (held_by d k) v Fork b u t
fork_is d k clean v b u ForkToken = still (held_by d k) v u ForkToken _ refl
fork_is d k clean v b u Fork = by_office (u == v)
  where
    by_office : (e : Bool) → cond e b (d.held u) ≡ cond e (hold (held_by d k v) Fork b) (held_by d k u) Fork
    by_office true = refl
    by_office false = refl
fork_is d k clean v b u (Bottle r) = still (held_by d k) v u (Bottle r) _ refl
fork_is d k clean v b u (BottleToken r) = still (held_by d k) v u (BottleToken r) _ refl

-- ---- bottles

-- of the records of an office v one changed
of_record : (peer : ℕ → ℕ) (g : ℕ → Bool) (r v : ℕ) (b : Bool) (u q : ℕ) → peer r ≡ v → ((peer q == u) && cond (q == r) b (g q)) ≡ cond (u == v) (cond (q == r) b ((peer q == v) && g q)) ((peer q == u) && g q)
of_record peer g r v b u q e = ⊎_elim
    (λ uv. ⊎_elim
    (λ qr.
    let here : (peer q == u) ≡ true = eq-eqb (peer q) u (ap peer qr ∙ e ∙ sym uv) in
    ap (λ x. x && cond (q == r) b (g q)) here ∙ ap (λ x. cond x b (g q)) (eq-eqb q r qr)
    ∙ sym (ap (λ x. cond x (cond (q == r) b ((peer q == v) && g q)) ((peer q == u) && g q)) (eq-eqb u v uv) ∙ ap (λ x. cond x b ((peer q == v) && g q)) (eq-eqb q r qr)))
    (λ qr.
    ap (λ x. (peer q == u) && cond x b (g q)) (ne_eqb q r qr) ∙ ap (λ k. (peer q == k) && g q) uv
    ∙ sym (ap (λ x. cond x (cond (q == r) b ((peer q == v) && g q)) ((peer q == u) && g q)) (eq-eqb u v uv) ∙ ap (λ x. cond x b ((peer q == v) && g q)) (ne_eqb q r qr)))
    (cases_eq q r))
    (λ uv. ⊎_elim
    (λ qr.
    let away : (peer q == u) ≡ false = ne_eqb (peer q) u (λ k. uv (sym k ∙ ap peer qr ∙ e)) in
    ap (λ x. x && cond (q == r) b (g q)) away
    ∙ sym (ap (λ x. cond x (cond (q == r) b ((peer q == v) && g q)) ((peer q == u) && g q)) (ne_eqb u v uv) ∙ ap (λ x. x && g q) away))
    (λ qr.
    ap (λ x. (peer q == u) && cond x b (g q)) (ne_eqb q r qr)
    ∙ sym (ap (λ x. cond x (cond (q == r) b ((peer q == v) && g q)) ((peer q == u) && g q)) (ne_eqb u v uv)))
    (cases_eq q r))
    (cases_eq u v)

some_in : {A : Type 0} (e : Bool) (x y : Option A) → is_some (cond e x y) ≡ cond e (is_some x) (is_some y)
some_in true x y = refl
some_in false x y = refl

bottle_token_is : (d : Diner) (k : Drinker) (r v : ℕ) (b : Bool) → k.peer r ≡ v → (u : ℕ) (t : Thing) → held_by d (record k { token = put k.token r b }) u t ≡ with_held (held_by d k) v (BottleToken r) b u t
bottle_token_is d k r v b e u Fork = still (held_by d k) v u Fork _ refl
bottle_token_is d k r v b e u ForkToken = still (held_by d k) v u ForkToken _ refl
bottle_token_is d k r v b e u (Bottle q) = still (held_by d k) v u (Bottle q) _ refl
bottle_token_is d k r v b e u (BottleToken q) = of_record k.peer k.token r v b u q e ∙ by_office (u == v)
  where
    by_office : (x : Bool) → cond x (cond (q == r) b ((k.peer q == v) && k.token q)) ((k.peer q == u) && k.token q) ≡ cond x (hold (held_by d k v) (BottleToken r) b) (held_by d k u) (BottleToken q)
    by_office true = refl
    by_office false = refl

bottle_is : (d : Diner) (k : Drinker) (r v : ℕ) (x : Option Value) → k.peer r ≡ v → (u : ℕ) (t : Thing) → held_by d (record k { bottle = put k.bottle r x }) u t ≡ with_held (held_by d k) v (Bottle r) (is_some x) u t
bottle_is d k r v x e u Fork = still (held_by d k) v u Fork _ refl
bottle_is d k r v x e u ForkToken = still (held_by d k) v u ForkToken _ refl
bottle_is d k r v x e u (BottleToken q) = still (held_by d k) v u (BottleToken q) _ refl
bottle_is d k r v x e u (Bottle q) = ap (λ y. (k.peer q == u) && y) (some_in (q == r) x (k.bottle q)) ∙ of_record k.peer (λ j. is_some (k.bottle j)) r v (is_some x) u q e ∙ by_office (u == v)
  where
    by_office : (y : Bool) → cond y (cond (q == r) (is_some x) ((k.peer q == v) && is_some (k.bottle q))) ((k.peer q == u) && is_some (k.bottle q)) ≡ cond y (hold (held_by d k v) (Bottle r) (is_some x)) (held_by d k u) (Bottle q)
    by_office true = refl
    by_office false = refl

-- ---- rules

pub after_ask_fork : (d : Diner) (k : Drinker) (v u : ℕ) (t : Thing) → held_by (forks.act d (forks.AskFork v)) k u t ≡ with_held (held_by d k) v (thing_of msg.AskFork) false u t
after_ask_fork d k v u t = token_is d k v false u t

pub after_give_fork : (d : Diner) (k : Drinker) (v u : ℕ) (t : Thing) → held_by (forks.act d (forks.GiveFork v)) k u t ≡ with_held (held_by d k) v (thing_of msg.Fork) false u t
after_give_fork d k v u t = fork_is d k d.clean v false u t

pub after_ask_bottle : (d : Diner) (k : Drinker) (r v : ℕ) → k.peer r ≡ v → (u : ℕ) (t : Thing) → held_by d (bottles.act k (bottles.AskBottle r)) u t ≡ with_held (held_by d k) v (thing_of (msg.AskBottle r)) false u t
after_ask_bottle d k r v e u t = bottle_token_is d k r v false e u t

pub after_give_bottle : (d : Diner) (k : Drinker) (r v : ℕ) (x : Value) (here : ℕ → Bool) → k.peer r ≡ v → (u : ℕ) (t : Thing) → held_by d (bottles.act k (bottles.GiveBottle r here)) u t ≡ with_held (held_by d k) v (thing_of (msg.Bottle r x)) false u t
after_give_bottle d k r v x here e u t = bottle_is d k r v None e u t

-- ---- what comes

-- the message is of what the office shares with v
abbrev pub IsFrom : (ℕ → ℕ) → ℕ → Msg → Type 0
IsFrom peer v msg.AskFork = Unit {0}
IsFrom peer v msg.Fork = Unit {0}
IsFrom peer v (msg.AskBottle r) = peer r ≡ v
IsFrom peer v (msg.Bottle r x) = peer r ≡ v

pub after_message : (d : Diner) (k : Drinker) (v : ℕ) (m : Msg) → IsFrom k.peer v m → (u : ℕ) (t : Thing) → held_by (fork_came d v m) (bottle_came k m) u t ≡ with_held (held_by d k) v (thing_of m) true u t
after_message d k v msg.AskFork e u t = token_is d k v true u t
after_message d k v msg.Fork e u t = fork_is d k (put d.clean v true) v true u t
after_message d k v (msg.AskBottle r) e u t = bottle_token_is d k r v true e u t
after_message d k v (msg.Bottle r x) e u t = bottle_is d k r v (Some x) e u t

pub after_arrival : (d : Diner) (k : Drinker) (v : ℕ) (a : Arrival) → ((m : Msg) → a ≡ arrival.Fresh m → IsFrom k.peer v m) → (u : ℕ) (t : Thing) →
    held_by (diner_after d v a) (drinker_after k a) u t ≡ put (held_by d k) v (held_after (held_by d k v) a) u t
after_arrival d k v (arrival.Fresh m) from u t = after_message d k v m (from m refl) u t
after_arrival d k v arrival.Acked from u t = still (held_by d k) v u t _ refl
after_arrival d k v arrival.Repeat from u t = still (held_by d k) v u t _ refl
after_arrival d k v arrival.Kept from u t = still (held_by d k) v u t _ refl
after_arrival d k v arrival.Early from u t = still (held_by d k) v u t _ refl

-- ---- rules that send nothing

some_of : {A B : Type 0} (f : A → B) (x : Option A) → is_some (option_map f x) ≡ is_some x
some_of f None = refl
some_of f (Some x) = refl

-- a session that starts or ends leaves what is held
pub record IsLike (k k' : Drinker) : Type 0 where
  pub records : k'.records ≡ k.records
  pub peer : k'.peer ≡ k.peer
  pub held : (d : Diner) (u : ℕ) (t : Thing) → held_by d k' u t ≡ held_by d k u t

-- where records and peers, and what is there of each record, are the same
alike : (k k' : Drinker) → k'.records ≡ k.records → k'.peer ≡ k.peer → ((r : ℕ) → is_some (k'.bottle r) ≡ is_some (k.bottle r)) → k'.token ≡ k.token → IsLike k k'
alike k k' records peer there tokens = record { records = records; peer = peer; held = same }
  where
    same : (d : Diner) (u : ℕ) (t : Thing) → held_by d k' u t ≡ held_by d k u t
    same d u Fork = refl
    same d u ForkToken = refl
    same d u (Bottle r) = ap (λ (f : ℕ → ℕ). (f r == u) && is_some (k'.bottle r)) peer ∙ ap (λ b. (k.peer r == u) && b) (there r)
    same d u (BottleToken r) = ap (λ (f : ℕ → ℕ). (f r == u) && k'.token r) peer ∙ ap (λ (f : ℕ → Bool). (k.peer r == u) && f r) tokens

pub like_started : (k : Drinker) (session : Option (List ℕ)) → IsLike k (bottles.act k (bottles.Start session))
like_started k None = alike k k refl refl (λ r. refl) refl
like_started k (Some rs) = alike k (bottles.act k (bottles.Start (Some rs))) refl refl (λ r. refl) refl

pub like_drinking : (k : Drinker) → IsLike k (bottles.act k bottles.Drink)
like_drinking k = alike k (bottles.act k bottles.Drink) refl refl (λ r. refl) refl

pub like_withdrawn : (k : Drinker) → IsLike k (bottles.act k bottles.Withdraw)
like_withdrawn k = alike k (bottles.act k bottles.Withdraw) refl refl (λ r. refl) refl

pub like_finished : (k : Drinker) (writes : Option (List (ℕ × Value))) → IsLike k (bottles.act k (bottles.Finish writes))
like_finished k None = alike k k refl refl (λ r. refl) refl
like_finished k (Some ws) = alike k (bottles.act k (bottles.Finish (Some ws))) refl refl (λ r. some_of (bottles.value_after ws r) (k.bottle r)) refl

-- a phase that changes leaves what is held
pub like_diner : (d d' : Diner) (k : Drinker) → d'.held ≡ d.held → d'.token ≡ d.token → (u : ℕ) (t : Thing) → held_by d' k u t ≡ held_by d k u t
like_diner d d' k eh et u Fork = ap (λ f. f u) eh
like_diner d d' k eh et u ForkToken = ap (λ f. f u) et
like_diner d d' k eh et u (Bottle r) = refl
like_diner d d' k eh et u (BottleToken r) = refl

-- ---- at the start

eqb_swap : (a b : ℕ) → (a == b) ≡ (b == a)
eqb_swap a b = ⊎_elim (λ e. eq-eqb a b e ∙ sym (eq-eqb b a (sym e))) (λ ne. ne_eqb a b ne ∙ sym (ne_eqb b a (λ e. ne (sym e)))) (cases_eq a b)

either : (b : Bool) (x y z : ℕ) → (cond b x y == z) ≡ cond b (x == z) (y == z)
either true x y z = refl
either false x y z = refl

a_bottle : (a b x y st : Bool) → (a && b) ≡ false → (cond a y x && cond st a b) ≡ (((a && y) || (x && b)) && cond st a b)
a_bottle true true x y st h = cc
a_bottle true false x true st h = refl
a_bottle true false true false st h = refl
a_bottle true false false false st h = refl
a_bottle false true true y st h = refl
a_bottle false true false y st h = refl
a_bottle false false true y true h = refl
a_bottle false false true y false h = refl
a_bottle false false false y st h = refl

a_token : (a b x y st : Bool) → (a && b) ≡ false → (cond a y x && cond st b a) ≡ (((a && y) || (x && b)) && not (cond st a b))
a_token true true x y st h = cc
a_token true false x true true h = refl
a_token true false x true false h = refl
a_token true false true false true h = refl
a_token true false true false false h = refl
a_token true false false false true h = refl
a_token true false false false false h = refl
a_token false true true y true h = refl
a_token false true true y false h = refl
a_token false true false y true h = refl
a_token false true false y false h = refl
a_token false false true y true h = refl
a_token false false true y false h = refl
a_token false false false y true h = refl
a_token false false false y false h = refl

some_if : {A : Type 0} (b : Bool) (x : A) → is_some (cond b (Some x) None) ≡ b
some_if true x = refl
some_if false x = refl

not_both : (f s me : ℕ) → (f ≡ s → ⊥) → ((f == me) && (s == me)) ≡ false
not_both f s me ne = ⊎_elim
    (λ e. ap (λ b. b && (s == me)) (eq-eqb f me e) ∙ ne_eqb s me (λ k. ne (e ∙ sym k)))
    (λ n. ap (λ b. b && (s == me)) (ne_eqb f me n))
    (cases_eq f me)

bottle_of : (e : RecordEntry) (me v : ℕ) → (e.first ≡ e.second → ⊥) → ((other_end me e == v) && is_some (start_bottle me (Some e))) ≡ (lies_between me v e && (start_end e == me))
bottle_of e me v ne =
    ap (λ b. (other_end me e == v) && b) (some_if (me == start_end e) _ ∙ eqb_swap me (start_end e) ∙ either e.starts_at_first e.first e.second me)
    ∙ ap (λ b. b && cond e.starts_at_first (e.first == me) (e.second == me)) (either (e.first == me) e.second e.first v)
    ∙ a_bottle (e.first == me) (e.second == me) (e.first == v) (e.second == v) e.starts_at_first (not_both e.first e.second me ne)
    ∙ ap (λ b. lies_between me v e && b) (sym (either e.starts_at_first e.first e.second me))

token_of : (e : RecordEntry) (me v : ℕ) → (e.first ≡ e.second → ⊥) → ((other_end me e == v) && start_token me (Some e)) ≡ (lies_between me v e && not (start_end e == me))
token_of e me v ne =
    ap (λ b. (other_end me e == v) && b) (eqb_swap me (token_end e) ∙ either e.starts_at_first e.second e.first me)
    ∙ ap (λ b. b && cond e.starts_at_first (e.second == me) (e.first == me)) (either (e.first == me) e.second e.first v)
    ∙ a_token (e.first == me) (e.second == me) (e.first == v) (e.second == v) e.starts_at_first (not_both e.first e.second me ne)
    ∙ ap (λ b. lies_between me v e && not b) (sym (either e.starts_at_first e.first e.second me))

none_here : (b : Bool) → (b && false) ≡ false
none_here true = refl
none_here false = refl

pub held_at_start : (p : PlanValue) (me v : ℕ) (t : Thing) → IsConsistent p → held_by (forks.diner_at_start p me) (bottles.opened p me) v t ≡ (is_shared p me v t && starts_here p me v t)
held_at_start p me v Fork h = refl
held_at_start p me v ForkToken h = refl
held_at_start p me v (Bottle r) h = go (slice_get p.records r) refl
  where
    go : (o : Option RecordEntry) → slice_get p.records r ≡ o →
        ((option_map_or (other_end me) o 0 == v) && is_some (start_bottle me o)) ≡ (option_map_or (lies_between me v) o false && option_map_or (λ e. start_end e == me) o false)
    go None s = none_here (0 == v)
    go (Some e) s = bottle_of e me v (entry_apart p r e h s)
held_at_start p me v (BottleToken r) h = go (slice_get p.records r) refl
  where
    go : (o : Option RecordEntry) → slice_get p.records r ≡ o →
        ((option_map_or (other_end me) o 0 == v) && start_token me o) ≡ (option_map_or (lies_between me v) o false && not (option_map_or (λ e. start_end e == me) o false))
    go None s = none_here (0 == v)
    go (Some e) s = token_of e me v (entry_apart p r e h s)
