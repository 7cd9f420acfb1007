-- A mask that shows of each office what it shares with offices that keep to the rules. All else is as the plan starts it, and an office that keeps to none stands at its start.
use Rattle.std.proofs.Common.{◌≡◌, ℕ, Bool, true, false, cond, List, [], ◌∷◌, Option, None, Some, refl, sym, ap, ◌∙◌, ⊎_elim}
use Rattle.std.specs.Prelude.{◌==◌, ◌&&◌, filter, slice_get, option_map}
use Rattle.std.proofs.lemmas.Bool.{cases_eq, eqb-true}
use Rattle.std.proofs.lemmas.Map.Views.{any-filter_same}
use mathlib.Core.Path.{fun_ext}
use Rattle.bottle_values.specs.declared.Value.{Value}
use Rattle.bottle_values.specs.Lists.{is_among}
use Rattle.bottle_values.specs.Maps.{put, write_all}
use Rattle.bottle_values.specs.MapLaws.{put_at, put_other}
use Rattle.frame_codec.specs.declared.message.Msg.{Msg}
use Rattle.frame_codec.specs.declared.message.Msg.TheVariants as msg
use Rattle.office_map.specs.declared.entries.PairEntry.{PairEntry}
use Rattle.office_map.specs.PlanValue.{PlanValue, neighbours_of}
use Rattle.window_link.specs.Links.{LinkState, resumed}
use Rattle.window_link.specs.declared.arrival.Arrival.{Arrival}
use Rattle.dining_core.specs.declared.phase.Phase.TheVariants as dining
use Rattle.dining_core.specs.Diners.{Diner, ForkRule, diner_at_start}
use Rattle.dining_core.specs.Diners as forks
use Rattle.drinking_core.specs.declared.phase.Phase.TheVariants as drinking
use Rattle.drinking_core.specs.Drinkers.{Drinker, BottleRule, value_after, start_bottle, start_token}
use Rattle.drinking_core.specs.Drinkers as bottles
use Rattle.site_core.specs.neighbours.Pairs.{Pairs, queued_to, sent, bottle_message, after_fork_rule, after_bottle_rule, arrived}
use Rattle.frame_world.proofs.Links.{queued_link}
use Rattle.frame_world.proofs.TablesFollow.{put_kept, diner_with, diner_after_is}
use Rattle.frame_world.proofs.BarsFollow.{drinker_with, drinker_after_is}
use Rattle.frame_world.proofs.OneLink.{brought}
use Rattle.frame_world.proofs.Answers.{PairStep, Stays, ByFork, ByBottle, pair_after}
use Rattle.frame_world.specs.hostile.Claims.{has_honest_ends}

-- ---- functions from numbers, of which some places are shown

-- what is put in one place, seen through something
put_under : {A B : Type 0} (g : ℕ → A → B) (f : ℕ → A) (v : ℕ) (y : A) → ◌≡◌ {A = ℕ → B} (λ x. g x (put f v y x)) (put (λ x. g x (f x)) v (g v y))
put_under g f v y = fun_ext (λ x. ⊎_elim
    (λ e. ap (g x) (put_at f v y x e) ∙ ap (λ k. g k y) e ∙ sym (put_at (λ z. g z (f z)) v (g v y) x e))
    (λ ne. ap (g x) (put_other f v y x ne) ∙ sym (put_other (λ z. g z (f z)) v (g v y) x ne))
    (cases_eq x v))

-- where nothing is seen of that place
hidden : {A B : Type 0} (g : ℕ → A → B) (f : ℕ → A) (v : ℕ) (y : A) → g v y ≡ g v (f v) → ◌≡◌ {A = ℕ → B} (λ x. g x (put f v y x)) (λ x. g x (f x))
hidden g f v y e = put_under g f v y ∙ put_kept (λ x. g x (f x)) v (g v y) e

shown_put : (t f : ℕ → Bool) (v : ℕ) (b : Bool) → t v ≡ true → ◌≡◌ {A = ℕ → Bool} (λ x. t x && put f v b x) (put (λ x. t x && f x) v b)
shown_put t f v b e = put_under (λ x z. t x && z) f v b ∙ ap (put (λ x. t x && f x) v) (ap (λ k. k && b) e)

shown_hidden : (t f : ℕ → Bool) (v : ℕ) (b : Bool) → t v ≡ false → ◌≡◌ {A = ℕ → Bool} (λ x. t x && put f v b x) (λ x. t x && f x)
shown_hidden t f v b e = hidden (λ x z. t x && z) f v b (ap (λ k. k && b) e ∙ sym (ap (λ k. k && f v) e))

pub cond_put : {A : Type 0} (t : ℕ → Bool) (s f : ℕ → A) (v : ℕ) (y : A) → t v ≡ true → ◌≡◌ {A = ℕ → A} (λ x. cond (t x) (put f v y x) (s x)) (put (λ x. cond (t x) (f x) (s x)) v y)
cond_put t s f v y e = put_under (λ x z. cond (t x) z (s x)) f v y ∙ ap (put (λ x. cond (t x) (f x) (s x)) v) (ap (λ b. cond b y (s v)) e)

pub cond_hidden : {A : Type 0} (t : ℕ → Bool) (s f : ℕ → A) (v : ℕ) (y : A) → t v ≡ false → ◌≡◌ {A = ℕ → A} (λ x. cond (t x) (put f v y x) (s x)) (λ x. cond (t x) (f x) (s x))
cond_hidden t s f v y e = hidden (λ x z. cond (t x) z (s x)) f v y (ap (λ b. cond b y (s v)) e ∙ sym (ap (λ b. cond b (f v) (s v)) e))

pub and_no : (b : Bool) → (b && false) ≡ false
and_no true = refl
and_no false = refl

-- ---- the mask

-- the pair is of offices that keep to the rules
abbrev pub joined : (ℕ → Bool) → PairEntry → Bool
joined h e = h e.first && h e.second

-- the plan of such pairs alone, without records
abbrev pub table_plan : (ℕ → Bool) → PlanValue → PlanValue
table_plan h p = record { version = p.version; run = p.run; offices = p.offices; pairs = filter (joined h) p.pairs; records = [] }

abbrev pub masked_diner : (ℕ → Bool) → PlanValue → ℕ → Diner → Diner
masked_diner h p a d = record {
  neighbours = neighbours_of (table_plan h p) a;
  phase = d.phase;
  held = λ v. h v && d.held v;
  clean = λ v. h v && d.clean v;
  token = λ v. h v && d.token v;
}

abbrev pub first_bottle : PlanValue → ℕ → ℕ → Option Value
first_bottle p a r = start_bottle a (slice_get p.records r)

abbrev pub first_token : PlanValue → ℕ → ℕ → Bool
first_token p a r = start_token a (slice_get p.records r)

abbrev pub masked_drinker : (ℕ → Bool) → PlanValue → ℕ → Drinker → Drinker
masked_drinker h p a k = record {
  records = k.records;
  phase = k.phase;
  needed = λ r. has_honest_ends h p r && k.needed r;
  bottle = λ r. cond (has_honest_ends h p r) (k.bottle r) (first_bottle p a r);
  token = λ r. cond (has_honest_ends h p r) (k.token r) (first_token p a r);
  peer = k.peer;
}

abbrev pub first_link : PlanValue → ℕ → ℕ → LinkState
first_link p a v = resumed p.run a v 0 0 p.version

abbrev pub masked_links : (ℕ → Bool) → PlanValue → ℕ → (ℕ → LinkState) → ℕ → LinkState
masked_links h p a link = λ v. cond (h v) (link v) (first_link p a v)

-- of an office that keeps to the rules
abbrev pub seen : (ℕ → Bool) → PlanValue → ℕ → Pairs → Pairs
seen h p a q = record { diner = masked_diner h p a q.diner; drinker = masked_drinker h p a q.drinker; link = masked_links h p a q.link }

-- of another
abbrev pub unseen : (ℕ → Bool) → PlanValue → ℕ → Pairs
unseen h p a = record { diner = diner_at_start (table_plan h p) a; drinker = bottles.opened p a; link = first_link p a }

abbrev pub masked : (ℕ → Bool) → PlanValue → ℕ → Pairs → Pairs
masked h p a q = cond (h a) (seen h p a q) (unseen h p a)

abbrev pub masks : (ℕ → Bool) → PlanValue → (ℕ → Pairs) → ℕ → Pairs
masks h p qs a = masked h p a (qs a)

pub masked_seen : (h : ℕ → Bool) (p : PlanValue) (a : ℕ) (q : Pairs) → h a ≡ true → masked h p a q ≡ seen h p a q
masked_seen h p a q e = ap (λ b. cond b (seen h p a q) (unseen h p a)) e

-- one office changed
pub masks_put : (h : ℕ → Bool) (p : PlanValue) (qs : ℕ → Pairs) (a : ℕ) (q : Pairs) → masks h p (put qs a q) ≡ put (masks h p qs) a (masked h p a q)
masks_put h p qs a q = put_under (masked h p) qs a q

-- one that keeps to no rule
pub masks_unseen : (h : ℕ → Bool) (p : PlanValue) (qs : ℕ → Pairs) (a : ℕ) (q : Pairs) → h a ≡ false → masks h p (put qs a q) ≡ masks h p qs
masks_unseen h p qs a q e = hidden (masked h p) qs a q (ap (λ b. cond b (seen h p a q) (unseen h p a)) e ∙ sym (ap (λ b. cond b (seen h p a (qs a)) (unseen h p a)) e))

-- ---- what is shown of a step

abbrev pub shown_if : Bool → PairStep → PairStep
shown_if true step = step
shown_if false step = Stays

abbrev made : Diner → Drinker → (ℕ → LinkState) → Pairs
made d k l = record { diner = d; drinker = k; link = l }

same_parts : (d d' : Diner) (k k' : Drinker) (l l' : ℕ → LinkState) → d ≡ d' → k ≡ k' → l ≡ l' → made d k l ≡ made d' k' l'
same_parts d d' k k' l l' ed ek el = ap (λ x. made x k l) ed ∙ ap (λ x. made d' x l) ek ∙ ap (made d' k') el

-- ---- links

sent_seen : (h : ℕ → Bool) (p : PlanValue) (a : ℕ) (link : ℕ → LinkState) (v : ℕ) (m : Msg) → h v ≡ true → masked_links h p a (queued_to link v m) ≡ queued_to (masked_links h p a link) v m
sent_seen h p a link v m e = cond_put h (first_link p a) link v (queued_link (link v) m) e
    ∙ ap (λ l. put (masked_links h p a link) v (queued_link l m)) (sym (ap (λ b. cond b (link v) (first_link p a v)) e))

sent_hidden : (h : ℕ → Bool) (p : PlanValue) (a : ℕ) (link : ℕ → LinkState) (v : ℕ) (m : Msg) → h v ≡ false → masked_links h p a (queued_to link v m) ≡ masked_links h p a link
sent_hidden h p a link v m e = cond_hidden h (first_link p a) link v (queued_link (link v) m) e

-- ---- rows of the forks

abbrev pub shown_fork : (ℕ → Bool) → ForkRule → PairStep
shown_fork h (forks.BecomeHungry thirsty) = ByFork (forks.BecomeHungry thirsty)
shown_fork h (forks.AskFork v) = shown_if (h v) (ByFork (forks.AskFork v))
shown_fork h (forks.GiveFork v) = shown_if (h v) (ByFork (forks.GiveFork v))
shown_fork h forks.Eat = ByFork forks.Eat
shown_fork h (forks.Leave thirsty) = ByFork (forks.Leave thirsty)

pub fork_row_seen : (h : ℕ → Bool) (p : PlanValue) (a : ℕ) (q : Pairs) (rule : ForkRule) → seen h p a (after_fork_rule q rule) ≡ pair_after (seen h p a q) (shown_fork h rule)
fork_row_seen h p a q (forks.BecomeHungry thirsty) = refl
fork_row_seen h p a q (forks.AskFork v) = by (h v) refl
  where
    k : Drinker
    k = masked_drinker h p a q.drinker

    by : (b : Bool) → h v ≡ b → seen h p a (after_fork_rule q (forks.AskFork v)) ≡ pair_after (seen h p a q) (shown_if b (ByFork (forks.AskFork v)))
    by true e = same_parts _ _ k k _ _ (ap (λ t. record (masked_diner h p a q.diner) { token = t }) (shown_put h q.diner.token v false e)) refl (sent_seen h p a q.link v msg.AskFork e)
    by false e = same_parts _ _ k k _ _ (ap (λ t. record (masked_diner h p a q.diner) { token = t }) (shown_hidden h q.diner.token v false e)) refl (sent_hidden h p a q.link v msg.AskFork e)
fork_row_seen h p a q (forks.GiveFork v) = by (h v) refl
  where
    k : Drinker
    k = masked_drinker h p a q.drinker

    by : (b : Bool) → h v ≡ b → seen h p a (after_fork_rule q (forks.GiveFork v)) ≡ pair_after (seen h p a q) (shown_if b (ByFork (forks.GiveFork v)))
    by true e = same_parts _ _ k k _ _ (ap (λ t. record (masked_diner h p a q.diner) { held = t }) (shown_put h q.diner.held v false e)) refl (sent_seen h p a q.link v msg.Fork e)
    by false e = same_parts _ _ k k _ _ (ap (λ t. record (masked_diner h p a q.diner) { held = t }) (shown_hidden h q.diner.held v false e)) refl (sent_hidden h p a q.link v msg.Fork e)
fork_row_seen h p a q forks.Eat = ap (λ c. made (record (masked_diner h p a q.diner) { phase = dining.Eating; clean = c }) (masked_drinker h p a q.drinker) (masked_links h p a q.link)) (fun_ext (λ v. and_no (h v)))
fork_row_seen h p a q (forks.Leave thirsty) = refl

-- ---- lists of records, of which some are shown

among_shown : (t : ℕ → Bool) (xs : List ℕ) (r : ℕ) → is_among (filter t xs) r ≡ (t r && is_among xs r)
among_shown t xs r = any-filter_same (λ x. x == r) t (t r) (λ k e. ap t (eqb-true k r e)) xs

abbrev pub shown_writes : (ℕ → Bool) → List (ℕ × Value) → List (ℕ × Value)
shown_writes t ws = filter (λ (w : ℕ × Value). t w.0) ws

-- a record that is shown is written as before
pub written_shown : (t : ℕ → Bool) (ws : List (ℕ × Value)) (f g : ℕ → Value) (r : ℕ) → t r ≡ true → f r ≡ g r → write_all (shown_writes t ws) f r ≡ write_all ws g r
written_shown t [] f g r s e = e
written_shown t (w ∷ ws) f g r s e = by (t w.0) refl (λ k. written_shown t ws (put f w.0 w.1) (put g w.0 w.1) r s k) (λ k. written_shown t ws f (put g w.0 w.1) r s k)
  where
    both : (b : Bool) → cond b w.1 (f r) ≡ cond b w.1 (g r)
    both true = refl
    both false = e

    by : (b : Bool) → t w.0 ≡ b → (put f w.0 w.1 r ≡ put g w.0 w.1 r → write_all (shown_writes t ws) (put f w.0 w.1) r ≡ write_all ws (put g w.0 w.1) r) → (f r ≡ put g w.0 w.1 r → write_all (shown_writes t ws) f r ≡ write_all ws (put g w.0 w.1) r) →
        write_all (cond b (w ∷ shown_writes t ws) (shown_writes t ws)) f r ≡ write_all ws (put g w.0 w.1) r
    by true i later others = later (both (r == w.0))
    by false i later others = others (e ∙ sym (put_other g w.0 w.1 r (λ k. let no : true ≡ false = sym s ∙ ap t k ∙ i in absurd cc)))

-- and one that isn't stays
written_hidden : (t : ℕ → Bool) (ws : List (ℕ × Value)) (f : ℕ → Value) (r : ℕ) → t r ≡ false → write_all (shown_writes t ws) f r ≡ f r
written_hidden t [] f r s = refl
written_hidden t (w ∷ ws) f r s = by (t w.0) refl (written_hidden t ws (put f w.0 w.1) r s) (written_hidden t ws f r s)
  where
    by : (b : Bool) → t w.0 ≡ b → write_all (shown_writes t ws) (put f w.0 w.1) r ≡ put f w.0 w.1 r → write_all (shown_writes t ws) f r ≡ f r → write_all (cond b (w ∷ shown_writes t ws) (shown_writes t ws)) f r ≡ f r
    by true i later others = later ∙ put_other f w.0 w.1 r (λ k. let no : false ≡ true = sym s ∙ ap t k ∙ i in absurd cc)
    by false i later others = others

-- ---- rows of the bottles

abbrev pub shown_rule : (ℕ → Bool) → PlanValue → BottleRule → BottleRule
shown_rule h p (bottles.Start session) = bottles.Start (option_map (filter (has_honest_ends h p)) session)
shown_rule h p (bottles.AskBottle r) = bottles.AskBottle r
shown_rule h p (bottles.GiveBottle r held) = bottles.GiveBottle r held
shown_rule h p bottles.Drink = bottles.Drink
shown_rule h p (bottles.Finish writes) = bottles.Finish (option_map (shown_writes (has_honest_ends h p)) writes)
shown_rule h p bottles.Withdraw = bottles.Withdraw

abbrev pub shown_bottle : (ℕ → Bool) → PlanValue → BottleRule → PairStep
shown_bottle h p (bottles.Start session) = ByBottle (shown_rule h p (bottles.Start session))
shown_bottle h p (bottles.AskBottle r) = shown_if (has_honest_ends h p r) (ByBottle (bottles.AskBottle r))
shown_bottle h p (bottles.GiveBottle r held) = shown_if (has_honest_ends h p r) (ByBottle (bottles.GiveBottle r held))
shown_bottle h p bottles.Drink = ByBottle bottles.Drink
shown_bottle h p (bottles.Finish writes) = ByBottle (shown_rule h p (bottles.Finish writes))
shown_bottle h p bottles.Withdraw = ByBottle bottles.Withdraw

-- what is sent goes to an office that keeps to the rules just where the record has such ends
abbrev pub GoesThere : (ℕ → Bool) → PlanValue → Drinker → BottleRule → Type 0
GoesThere h p k (bottles.Start session) = Unit {0}
GoesThere h p k (bottles.AskBottle r) = h (k.peer r) ≡ has_honest_ends h p r
GoesThere h p k (bottles.GiveBottle r held) = h (k.peer r) ≡ has_honest_ends h p r
GoesThere h p k bottles.Drink = Unit {0}
GoesThere h p k (bottles.Finish writes) = Unit {0}
GoesThere h p k bottles.Withdraw = Unit {0}

none_needed : (h : ℕ → Bool) (p : PlanValue) → ◌≡◌ {A = ℕ → Bool} (λ r. has_honest_ends h p r && false) (λ r. false)
none_needed h p = fun_ext (λ r. and_no (has_honest_ends h p r))

start_seen : (h : ℕ → Bool) (p : PlanValue) (a : ℕ) (k : Drinker) (s : Option (List ℕ)) → masked_drinker h p a (bottles.started k s) ≡ bottles.started (masked_drinker h p a k) (option_map (filter (has_honest_ends h p)) s)
start_seen h p a k None = refl
start_seen h p a k (Some rs) = ap (λ n. record (masked_drinker h p a k) { phase = drinking.Thirsty; needed = n }) (fun_ext (λ r. sym (among_shown (has_honest_ends h p) rs r)))

finish_seen : (h : ℕ → Bool) (p : PlanValue) (a : ℕ) (k : Drinker) (ws : Option (List (ℕ × Value))) → masked_drinker h p a (bottles.finished k ws) ≡ bottles.finished (masked_drinker h p a k) (option_map (shown_writes (has_honest_ends h p)) ws)
finish_seen h p a k None = refl
finish_seen h p a k (Some ws) = ap (λ n. record (masked_drinker h p a k) { phase = drinking.Tranquil; needed = n; bottle = λ r. cond (t r) (option_map (value_after ws r) (k.bottle r)) (first_bottle p a r) }) (none_needed h p)
    ∙ ap (λ b. record (masked_drinker h p a k) { phase = drinking.Tranquil; needed = λ r. false; bottle = b }) (fun_ext (λ r. at r (t r) refl))
  where
    t : ℕ → Bool
    t = has_honest_ends h p

    kept : (r : ℕ) (o : Option Value) → t r ≡ true → option_map (value_after ws r) o ≡ option_map (value_after (shown_writes t ws) r) o
    kept r None s = refl
    kept r (Some x) s = ap Some (sym (written_shown t ws (λ q. x) (λ q. x) r s refl))

    stays : (r : ℕ) (o : Option Value) → t r ≡ false → o ≡ option_map (value_after (shown_writes t ws) r) o
    stays r None s = refl
    stays r (Some x) s = ap Some (sym (written_hidden t ws (λ q. x) r s))

    at : (r : ℕ) (b : Bool) → t r ≡ b → cond b (option_map (value_after ws r) (k.bottle r)) (first_bottle p a r) ≡ option_map (value_after (shown_writes t ws) r) (cond b (k.bottle r) (first_bottle p a r))
    at r true s = kept r (k.bottle r) s
    at r false s = stays r (first_bottle p a r) s

message_seen : (h : ℕ → Bool) (p : PlanValue) (a : ℕ) (link : ℕ → LinkState) (v r : ℕ) (o : Option Value) → h v ≡ true → masked_links h p a (sent link (bottle_message v r o)) ≡ sent (masked_links h p a link) (bottle_message v r o)
message_seen h p a link v r None e = refl
message_seen h p a link v r (Some x) e = sent_seen h p a link v (msg.Bottle r x) e

message_hidden : (h : ℕ → Bool) (p : PlanValue) (a : ℕ) (link : ℕ → LinkState) (v r : ℕ) (o : Option Value) → h v ≡ false → masked_links h p a (sent link (bottle_message v r o)) ≡ masked_links h p a link
message_hidden h p a link v r None e = refl
message_hidden h p a link v r (Some x) e = sent_hidden h p a link v (msg.Bottle r x) e

pub bottle_row_seen : (h : ℕ → Bool) (p : PlanValue) (a : ℕ) (q : Pairs) (rule : BottleRule) → GoesThere h p q.drinker rule → seen h p a (after_bottle_rule q rule) ≡ pair_after (seen h p a q) (shown_bottle h p rule)
bottle_row_seen h p a q (bottles.Start session) g = ap (λ k. made (masked_diner h p a q.diner) k (masked_links h p a q.link)) (start_seen h p a q.drinker session)
bottle_row_seen h p a q (bottles.AskBottle r) g = by (has_honest_ends h p r) refl
  where
    k : Drinker
    k = masked_drinker h p a q.drinker

    by : (b : Bool) → has_honest_ends h p r ≡ b → seen h p a (after_bottle_rule q (bottles.AskBottle r)) ≡ pair_after (seen h p a q) (shown_if b (ByBottle (bottles.AskBottle r)))
    by true e = same_parts _ _ _ _ _ _ refl (ap (λ t. record k { token = t }) (cond_put (has_honest_ends h p) (first_token p a) q.drinker.token r false e)) (sent_seen h p a q.link (q.drinker.peer r) (msg.AskBottle r) (g ∙ e))
    by false e = same_parts _ _ _ _ _ _ refl (ap (λ t. record k { token = t }) (cond_hidden (has_honest_ends h p) (first_token p a) q.drinker.token r false e)) (sent_hidden h p a q.link (q.drinker.peer r) (msg.AskBottle r) (g ∙ e))
bottle_row_seen h p a q (bottles.GiveBottle r held) g = by (has_honest_ends h p r) refl
  where
    k : Drinker
    k = masked_drinker h p a q.drinker

    by : (b : Bool) → has_honest_ends h p r ≡ b → seen h p a (after_bottle_rule q (bottles.GiveBottle r held)) ≡ pair_after (seen h p a q) (shown_if b (ByBottle (bottles.GiveBottle r held)))
    by true e = same_parts _ _ _ _ _ _ refl (ap (λ o. record k { bottle = o }) (cond_put (has_honest_ends h p) (first_bottle p a) q.drinker.bottle r None e))
        (message_seen h p a q.link (q.drinker.peer r) r (q.drinker.bottle r) (g ∙ e) ∙ ap (λ o. sent (masked_links h p a q.link) (bottle_message (q.drinker.peer r) r o)) (sym (ap (λ b. cond b (q.drinker.bottle r) (first_bottle p a r)) e)))
    by false e = same_parts _ _ _ _ _ _ refl (ap (λ o. record k { bottle = o }) (cond_hidden (has_honest_ends h p) (first_bottle p a) q.drinker.bottle r None e)) (message_hidden h p a q.link (q.drinker.peer r) r (q.drinker.bottle r) (g ∙ e))
bottle_row_seen h p a q bottles.Drink g = refl
bottle_row_seen h p a q (bottles.Finish writes) g = ap (λ k. made (masked_diner h p a q.diner) k (masked_links h p a q.link)) (finish_seen h p a q.drinker writes)
bottle_row_seen h p a q bottles.Withdraw g = ap (λ n. made (masked_diner h p a q.diner) (record (masked_drinker h p a q.drinker) { phase = drinking.Tranquil; needed = n }) (masked_links h p a q.link)) (none_needed h p)

-- ---- what comes

-- what comes is of a record whose ends are so
abbrev pub IsOfSuch : (ℕ → Bool) → PlanValue → Bool → Option Msg → Type 0
IsOfSuch h p b None = Unit {0}
IsOfSuch h p b (Some msg.AskFork) = Unit {0}
IsOfSuch h p b (Some msg.Fork) = Unit {0}
IsOfSuch h p b (Some (msg.AskBottle r)) = has_honest_ends h p r ≡ b
IsOfSuch h p b (Some (msg.Bottle r x)) = has_honest_ends h p r ≡ b

abbrev came : Pairs → ℕ → LinkState → Option Msg → Pairs
came q v l m = made (diner_with q.diner v m) (drinker_with q.drinker m) (put q.link v l)

arrived_is : (q : Pairs) (v : ℕ) (l : LinkState) (x : Arrival) → arrived q v l x ≡ came q v l (brought x)
arrived_is q v l x = same_parts _ _ _ _ _ _ (diner_after_is q.diner v x) (drinker_after_is q.drinker x) refl

came_seen : (h : ℕ → Bool) (p : PlanValue) (a : ℕ) (q : Pairs) (v : ℕ) (l : LinkState) (m : Option Msg) → h v ≡ true → IsOfSuch h p true m → seen h p a (came q v l m) ≡ came (seen h p a q) v l m
came_seen h p a q v l m e s = same_parts _ _ _ _ _ _ (diner m) (drinker m s) (cond_put h (first_link p a) q.link v l e)
  where
    d : Diner
    d = q.diner

    k : Drinker
    k = q.drinker

    diner : (m : Option Msg) → masked_diner h p a (diner_with d v m) ≡ diner_with (masked_diner h p a d) v m
    diner None = refl
    diner (Some msg.AskFork) = ap (λ t. record (masked_diner h p a d) { token = t }) (shown_put h d.token v true e)
    diner (Some msg.Fork) = ap (λ t. record (masked_diner h p a d) { held = t; clean = λ x. h x && put d.clean v true x }) (shown_put h d.held v true e)
        ∙ ap (λ t. record (masked_diner h p a d) { held = put (λ x. h x && d.held x) v true; clean = t }) (shown_put h d.clean v true e)
    diner (Some (msg.AskBottle r)) = refl
    diner (Some (msg.Bottle r x)) = refl

    drinker : (m : Option Msg) → IsOfSuch h p true m → masked_drinker h p a (drinker_with k m) ≡ drinker_with (masked_drinker h p a k) m
    drinker None s = refl
    drinker (Some msg.AskFork) s = refl
    drinker (Some msg.Fork) s = refl
    drinker (Some (msg.AskBottle r)) s = ap (λ t. record (masked_drinker h p a k) { token = t }) (cond_put (has_honest_ends h p) (first_token p a) k.token r true s)
    drinker (Some (msg.Bottle r x)) s = ap (λ o. record (masked_drinker h p a k) { bottle = o }) (cond_put (has_honest_ends h p) (first_bottle p a) k.bottle r (Some x) s)

came_hidden : (h : ℕ → Bool) (p : PlanValue) (a : ℕ) (q : Pairs) (v : ℕ) (l : LinkState) (m : Option Msg) → h v ≡ false → IsOfSuch h p false m → seen h p a (came q v l m) ≡ seen h p a q
came_hidden h p a q v l m e s = same_parts _ _ _ _ _ _ (diner m) (drinker m s) (cond_hidden h (first_link p a) q.link v l e)
  where
    d : Diner
    d = q.diner

    k : Drinker
    k = q.drinker

    diner : (m : Option Msg) → masked_diner h p a (diner_with d v m) ≡ masked_diner h p a d
    diner None = refl
    diner (Some msg.AskFork) = ap (λ t. record (masked_diner h p a d) { token = t }) (shown_hidden h d.token v true e)
    diner (Some msg.Fork) = ap (λ t. record (masked_diner h p a d) { held = t; clean = λ x. h x && put d.clean v true x }) (shown_hidden h d.held v true e)
        ∙ ap (λ t. record (masked_diner h p a d) { clean = t }) (shown_hidden h d.clean v true e)
    diner (Some (msg.AskBottle r)) = refl
    diner (Some (msg.Bottle r x)) = refl

    drinker : (m : Option Msg) → IsOfSuch h p false m → masked_drinker h p a (drinker_with k m) ≡ masked_drinker h p a k
    drinker None s = refl
    drinker (Some msg.AskFork) s = refl
    drinker (Some msg.Fork) s = refl
    drinker (Some (msg.AskBottle r)) s = ap (λ t. record (masked_drinker h p a k) { token = t }) (cond_hidden (has_honest_ends h p) (first_token p a) k.token r true s)
    drinker (Some (msg.Bottle r x)) s = ap (λ o. record (masked_drinker h p a k) { bottle = o }) (cond_hidden (has_honest_ends h p) (first_bottle p a) k.bottle r (Some x) s)

pub arrived_seen : (h : ℕ → Bool) (p : PlanValue) (a : ℕ) (q : Pairs) (v : ℕ) (l : LinkState) (x : Arrival) → h v ≡ true → IsOfSuch h p true (brought x) → seen h p a (arrived q v l x) ≡ arrived (seen h p a q) v l x
arrived_seen h p a q v l x e s = ap (seen h p a) (arrived_is q v l x) ∙ came_seen h p a q v l (brought x) e s ∙ sym (arrived_is (seen h p a q) v l x)

pub arrived_hidden : (h : ℕ → Bool) (p : PlanValue) (a : ℕ) (q : Pairs) (v : ℕ) (l : LinkState) (x : Arrival) → h v ≡ false → IsOfSuch h p false (brought x) → seen h p a (arrived q v l x) ≡ seen h p a q
arrived_hidden h p a q v l x e s = ap (seen h p a) (arrived_is q v l x) ∙ came_hidden h p a q v l (brought x) e s
