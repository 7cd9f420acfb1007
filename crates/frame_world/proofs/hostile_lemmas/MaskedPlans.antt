-- The plan of honest pairs alone is consistent, and what the mask shows at the start is how it starts.
use Rattle.std.proofs.Common.{◌≡◌, ℕ, Bool, true, false, cond, List, [], ◌∷◌, length, Some, refl, sym, ap, ◌∙◌, arith}
use Rattle.std.specs.Prelude.{◌==◌, ◌&&◌, not, find, filter, option_map, IsTrue, ◌≢◌, ◌<◌}
use Rattle.std.specs.Option.{option_map_or}
use Rattle.std.proofs.lemmas.List.Elements.{All-nil, All-filter}
use Rattle.std.proofs.lemmas.List.Kept.{AllPairs-filter}
use mathlib.Core.Path.{fun_ext}
use Rattle.bottle_values.specs.declared.Value.{Value}
use Rattle.bottle_values.specs.Versions.{admits}
use Rattle.office_map.specs.declared.entries.PairEntry.{PairEntry}
use Rattle.office_map.specs.declared.entries.RecordEntry.{RecordEntry}
use Rattle.office_map.specs.PlanValue.{PlanValue, joins, are_neighbours, fork_end, fork_starts_at}
use Rattle.office_map.specs.Consistency.{IsConsistent}
use Rattle.text_lines.specs.Text.{is_name}
use Rattle.window_link.specs.Links.{LinkState, resumed}
use Rattle.token_channel.specs.Things.{count_carrying}
use Rattle.token_channel.specs.declared.thing.Thing.TheVariants as thing
use Rattle.dining_core.specs.Diners.{Diner, diner_at_start}
use Rattle.dining_core.specs.Worlds as tables
use Rattle.drinking_core.specs.Drinkers.{Drinker}
use Rattle.drinking_core.specs.Drinkers as bottles
use Rattle.drinking_core.specs.Worlds as bars
use Rattle.site_core.specs.neighbours.Pairs.{Pairs}
use Rattle.site_core.specs.neighbours.Pairs as pairs
use Rattle.frame_world.specs.Ways.{untaken, between, bottles_in, tables_of, bars_of}
use Rattle.frame_world.proofs.Links.{AreLinked, linked_at_start}
use Rattle.frame_world.specs.hostile.Claims.{has_honest_ends}
use Rattle.frame_world.proofs.hostile_lemmas.Masks.{and_no, joined, table_plan, masked_diner, masked_drinker, first_bottle, first_token, first_link, masks, seen, unseen}
use Rattle.frame_world.proofs.hostile_lemmas.MaskedSteps.{near_there}

-- ---- the plan of honest pairs

pub consistent_there : (h : ℕ → Bool) (p : PlanValue) → IsConsistent p → IsConsistent (table_plan h p)
consistent_there h p c = record {
  offices_fit = c.offices_fit;
  offices_are_named = c.offices_are_named;
  office_names = c.office_names;
  offices_have_addresses = c.offices_have_addresses;
  addresses = c.addresses;
  ends_are_offices = All-filter (joined h) (λ (pair : PairEntry). (pair.first < length p.offices) × (pair.second < length p.offices)) p.pairs c.ends_are_offices;
  ends_differ = All-filter (joined h) (λ (pair : PairEntry). pair.first ≢ pair.second) p.pairs c.ends_differ;
  pairs_once = AllPairs-filter (λ (a b : PairEntry). joins b.first b.second a ≡ false) (joined h) p.pairs c.pairs_once;
  records_are_named = All-nil (λ (r : RecordEntry). IsTrue (is_name r.name));
  record_names = λ i j d lt within. absurd (omega (arith, within));
  records_have_pairs = All-nil (λ (r : RecordEntry). IsTrue (are_neighbours (table_plan h p) r.first r.second));
  records_fit = λ a b. omega arith;
  values_are_admitted = All-nil (λ (r : RecordEntry). IsTrue (admits p.version r.value));
}

-- ---- where forks start

-- the first that joins two honest offices is honest, so it is found among those
found_there : (h : ℕ → Bool) (a v : ℕ) (ps : List PairEntry) → ((e : PairEntry) → joins a v e ≡ true → joined h e ≡ true) → find (joins a v) (filter (joined h) ps) ≡ find (joins a v) ps
found_there h a v [] such = refl
found_there h a v (e ∷ ps) such = by (joins a v e) refl (joined h e) refl (found_there h a v ps such)
  where
    by : (b : Bool) → joins a v e ≡ b → (k : Bool) → joined h e ≡ k → find (joins a v) (filter (joined h) ps) ≡ find (joins a v) ps → find (joins a v) (cond k (e ∷ filter (joined h) ps) (filter (joined h) ps)) ≡ cond b (Some e) (find (joins a v) ps)
    by true j true k later = ap (λ b. cond b (Some e) (find (joins a v) (filter (joined h) ps))) j
    by true j false k later = let no : true ≡ false = sym (such e j) ∙ k in absurd cc
    by false j true k later = ap (λ b. cond b (Some e) (find (joins a v) (filter (joined h) ps))) j ∙ later
    by false j false k later = later

-- what starts at an honest office of the forks that it shares with honest ones
starts_there : (h : ℕ → Bool) (p : PlanValue) (a v : ℕ) (g : Bool → Bool) → h a ≡ true → ((e : PairEntry) → joins a v e ≡ true → joined h e ≡ (h a && h v)) →
    (h v && (are_neighbours p a v && g (fork_starts_at p a v a))) ≡ (are_neighbours (table_plan h p) a v && g (fork_starts_at (table_plan h p) a v a))
starts_there h p a v g ea such = by (h v) refl
  where
    by : (b : Bool) → h v ≡ b → (b && (are_neighbours p a v && g (fork_starts_at p a v a))) ≡ (are_neighbours (table_plan h p) a v && g (fork_starts_at (table_plan h p) a v a))
    by true ev =
        let both : (h a && h v) ≡ true = ap (λ x. x && h v) ea ∙ ev in
        ap (λ x. x && g (fork_starts_at p a v a)) (sym (near_there h p a v ∙ ap (λ x. x && are_neighbours p a v) both))
        ∙ ap (λ o. are_neighbours (table_plan h p) a v && g (option_map_or (λ e. e == a) (option_map fork_end o) false)) (sym (found_there h a v p.pairs (λ e j. such e j ∙ both)))
    by false ev =
        let both : (h a && h v) ≡ false = ap (λ x. x && h v) ea ∙ ev in
        sym (ap (λ x. x && g (fork_starts_at (table_plan h p) a v a)) (near_there h p a v ∙ ap (λ x. x && are_neighbours p a v) both))

-- ---- the start

diner_starts : (h : ℕ → Bool) (p : PlanValue) (a : ℕ) → h a ≡ true → ((v : ℕ) (e : PairEntry) → joins a v e ≡ true → joined h e ≡ (h a && h v)) → masked_diner h p a (diner_at_start p a) ≡ diner_at_start (table_plan h p) a
diner_starts h p a ea such =
    ap (λ x. record (masked_diner h p a (diner_at_start p a)) { held = x }) (fun_ext (λ v. starts_there h p a v (λ b. b) ea (such v)))
    ∙ ap (λ x. record (diner_at_start (table_plan h p) a) { clean = x; token = λ v. h v && (are_neighbours p a v && not (fork_starts_at p a v a)) }) (fun_ext (λ v. and_no (h v)))
    ∙ ap (λ x. record (diner_at_start (table_plan h p) a) { token = x }) (fun_ext (λ v. starts_there h p a v not ea (such v)))

same_either : {A : Type 0} (b : Bool) (x : A) → cond b x x ≡ x
same_either true x = refl
same_either false x = refl

drinker_starts : (h : ℕ → Bool) (p : PlanValue) (a : ℕ) → masked_drinker h p a (bottles.opened p a) ≡ bottles.opened p a
drinker_starts h p a =
    ap (λ x. record (masked_drinker h p a (bottles.opened p a)) { needed = x }) (fun_ext (λ r. and_no (has_honest_ends h p r)))
    ∙ ap (λ x. record (bottles.opened p a) { bottle = x; token = λ r. cond (has_honest_ends h p r) (first_token p a r) (first_token p a r) }) (fun_ext (λ r. same_either (has_honest_ends h p r) (first_bottle p a r)))
    ∙ ap (λ x. record (bottles.opened p a) { token = x }) (fun_ext (λ r. same_either (has_honest_ends h p r) (first_token p a r)))

abbrev started : PlanValue → ℕ → Pairs
started p = pairs.opened p

-- each link is as it starts, be it shown or not
pub links_start : (h : ℕ → Bool) (p : PlanValue) (a v : ℕ) → (masks h p (started p) a).link v ≡ resumed p.run a v 0 0 p.version
links_start h p a v = by (h a)
  where
    by : (b : Bool) → (cond b (seen h p a (started p a)) (unseen h p a)).link v ≡ first_link p a v
    by true = same_either (h v) (first_link p a v)
    by false = refl

pub diners_start : (h : ℕ → Bool) (p : PlanValue) (a : ℕ) → ((a v : ℕ) (e : PairEntry) → joins a v e ≡ true → joined h e ≡ (h a && h v)) → (masks h p (started p) a).diner ≡ diner_at_start (table_plan h p) a
diners_start h p a such = by (h a) refl
  where
    by : (b : Bool) → h a ≡ b → (cond b (seen h p a (started p a)) (unseen h p a)).diner ≡ diner_at_start (table_plan h p) a
    by true e = diner_starts h p a e (such a)
    by false e = refl

pub drinkers_start : (h : ℕ → Bool) (p : PlanValue) (a : ℕ) → (masks h p (started p) a).drinker ≡ bottles.opened p a
drinkers_start h p a = by (h a)
  where
    by : (b : Bool) → (cond b (seen h p a (started p a)) (unseen h p a)).drinker ≡ bottles.opened p a
    by true = drinker_starts h p a
    by false = refl

-- nothing is on the way
nothing_between : (h : ℕ → Bool) (p : PlanValue) (x y : ℕ) → between (masks h p (started p)) x y ≡ []
nothing_between h p x y = ap (λ (l : LinkState). untaken l.sending ((masks h p (started p) y).link x).receiving.taken) (links_start h p x y) ∙ ap (λ (l : LinkState). untaken (first_link p x y).sending l.receiving.taken) (links_start h p y x)

pub tables_start : (h : ℕ → Bool) (p : PlanValue) → ((a v : ℕ) (e : PairEntry) → joins a v e ≡ true → joined h e ≡ (h a && h v)) → tables_of (masks h p (started p)) ≡ tables.opening (table_plan h p)
tables_start h p such =
    ap (λ d. world d (λ x y. count_carrying thing.Fork (between (masks h p (started p)) x y)) (λ x y. count_carrying thing.ForkToken (between (masks h p (started p)) x y))) (fun_ext (λ a. diners_start h p a such))
    ∙ ap (λ f. world (diner_at_start (table_plan h p)) f (λ x y. count_carrying thing.ForkToken (between (masks h p (started p)) x y))) (fun_ext (λ x. fun_ext (λ y. ap (count_carrying thing.Fork) (nothing_between h p x y))))
    ∙ ap (world (diner_at_start (table_plan h p)) (λ a v. 0)) (fun_ext (λ x. fun_ext (λ y. ap (count_carrying thing.ForkToken) (nothing_between h p x y))))
  where
    world : (ℕ → Diner) → (ℕ → ℕ → ℕ) → (ℕ → ℕ → ℕ) → tables.World
    world d f t = record { diner = d; forks_on_way = f; tokens_on_way = t }

pub bars_start : (h : ℕ → Bool) (p : PlanValue) → bars_of (masks h p (started p)) ≡ bars.opening p
bars_start h p =
    ap (λ d. world d (λ r x y. bottles_in r (between (masks h p (started p)) x y)) (λ r x y. count_carrying (thing.BottleToken r) (between (masks h p (started p)) x y))) (fun_ext (λ a. drinkers_start h p a))
    ∙ ap (λ b. world (bottles.opened p) b (λ r x y. count_carrying (thing.BottleToken r) (between (masks h p (started p)) x y))) (fun_ext (λ r. fun_ext (λ x. fun_ext (λ y. ap (bottles_in r) (nothing_between h p x y)))))
    ∙ ap (world (bottles.opened p) (λ r a v. [])) (fun_ext (λ r. fun_ext (λ x. fun_ext (λ y. ap (count_carrying (thing.BottleToken r)) (nothing_between h p x y)))))
  where
    world : (ℕ → Drinker) → (ℕ → ℕ → ℕ → List Value) → (ℕ → ℕ → ℕ → ℕ) → bars.World
    world d b t = record { drinker = d; bottles_on_way = b; tokens_on_way = t }

pub linked_start : (h : ℕ → Bool) (p : PlanValue) → AreLinked (masks h p (started p))
linked_start h p = linked_at_start p.run p.version (masks h p (started p)) (links_start h p)
