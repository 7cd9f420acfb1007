-- What the parts' laws say of the world: places, who eats, and that precedence has no ring.
use Rattle.std.proofs.Common.{◌≡◌, ℕ, ◌+◌, Bool, true, false, cond, List, [], ◌∷◌, length, refl, sym, ap, subst, ◌∙◌, arith, ⊎_elim}
use Rattle.std.specs.Prelude.{◌==◌, ◌&&◌}
use Rattle.std.specs.List.{list_all}
use Rattle.std.proofs.lemmas.Bool.{and_parts, or_cases, eqb-true}
use Rattle.bottle_values.specs.Lists.{num, is_among}
use Rattle.frame_codec.specs.declared.message.Msg.{Msg}
use Rattle.frame_codec.specs.Frame.{Fields}
use Rattle.frame_codec.specs.declared.message.Msg.TheVariants as msg
use Rattle.office_map.specs.PlanValue.{PlanValue, are_neighbours, neighbours_of}
use Rattle.office_map.specs.Consistency.{IsConsistent}
use Rattle.token_channel.specs.declared.thing.Thing.{Thing}
use Rattle.token_channel.specs.declared.thing.Thing.TheVariants as thing
use Rattle.token_channel.specs.Things.{count_carrying}
use Rattle.token_channel.specs.Ends.{is_shared}
use Rattle.dining_core.specs.Diners.{is_eating}
use Rattle.dining_core.specs.Worlds as tables
use Rattle.drinking_core.specs.Worlds as bars
use Rattle.site_core.specs.Pairs.{Pairs, held}
use Rattle.office_map.specs.NeighbourLaws.{among_neighbours}
use Rattle.frame_world.specs.Worlds.{World, opening, run_of}
use Rattle.frame_world.specs.Ways.{pairs_at, between, bottles_in, tables_of, bars_of}
use Rattle.frame_world.specs.Headline.{Always, HasOnePlaceEach, NeighboursEatApart, EatersHaveTheirForks, PrecedenceHasNoRing}
use Rattle.frame_world.specs.WorldLaws.{seated}
use Rattle.frame_world.proofs.Following.{Follow, follows}

-- as many bottles as messages that carry them
pub counted : (r : ℕ) (ms : List Msg) → length (bottles_in r ms) ≡ count_carrying (thing.Bottle r) ms
counted r [] = refl
counted r (msg.Bottle q x ∷ ms) = at (r == q) (counted r ms)
  where
    at : (b : Bool) → length (bottles_in r ms) ≡ count_carrying (thing.Bottle r) ms → length (cond b (x ∷ bottles_in r ms) (bottles_in r ms)) ≡ num b + count_carrying (thing.Bottle r) ms
    at true e = omega (arith, e)
    at false e = omega (arith, e)
counted r (msg.AskBottle q ∷ ms) = omega (arith, counted r ms)
counted r (msg.Fork ∷ ms) = omega (arith, counted r ms)
counted r (msg.AskFork ∷ ms) = omega (arith, counted r ms)

-- every element of a list has what all have
pub all_at : (f : ℕ → Bool) (xs : List ℕ) (v : ℕ) → list_all f xs ≡ true → is_among xs v ≡ true → f v ≡ true
all_at f [] v h e = absurd cc
all_at f (x ∷ xs) v h e =
    let parts : (f x ≡ true) × (list_all f xs ≡ true) = and_parts (f x) (list_all f xs) h in
    ⊎_elim (λ i. ap f (sym (eqb-true x v i)) ∙ parts.0) (λ i. all_at f xs v parts.1 i) (or_cases (x == v) (is_among xs v) e)

-- how often a thing of two offices is there: held at either, or on the way
abbrev pub places_of : (ℕ → Pairs) → ℕ → ℕ → Thing → ℕ
places_of pairs a b t = num (held (pairs a) b t) + (num (held (pairs b) a t) + (count_carrying t (between pairs a b) + count_carrying t (between pairs b a)))

pub each_is_placed : tables.EachHasOnePlace → bars.EachHasOnePlace → (plan : PlanValue) (frames : List Fields) (pairs : ℕ → Pairs) → IsConsistent plan → Follow plan frames pairs → (a b : ℕ) (t : Thing) → places_of pairs a b t ≡ num (is_shared plan a b t)
each_is_placed forks bottles plan frames pairs c f a b t = of t
  where
    tables_placed : tables.HasOnePlaceEach plan (tables_of pairs)
    tables_placed = subst (tables.HasOnePlaceEach plan) (sym f.tables.led) (forks plan f.tables.events c)

    bars_placed : bars.HasOnePlaceEach plan (bars_of pairs)
    bars_placed = subst (bars.HasOnePlaceEach plan) (sym f.bars.led) (bottles plan f.bars.events c)

    of : (t : Thing) → places_of pairs a b t ≡ num (is_shared plan a b t)
    of thing.Fork = tables_placed.fork a b
    of thing.ForkToken = tables_placed.token a b
    of (thing.Bottle r) = omega (arith, bars_placed.bottle r a b, counted r (between pairs a b), counted r (between pairs b a))
    of (thing.BottleToken r) = bars_placed.token r a b

pub things_have_one_place : tables.EachHasOnePlace → bars.EachHasOnePlace → Always HasOnePlaceEach
things_have_one_place forks bottles plan es c a b t =
    let w : World = run_of (opening plan) es in
    each_is_placed forks bottles plan w.frames (pairs_at w) c (follows plan es) a b t ∙ ap (λ (p : PlanValue). num (is_shared p a b t)) (sym (seated plan es).planned)

pub neighbours_eat_apart : tables.NeighboursEatApart → Always NeighboursEatApart
neighbours_eat_apart law plan es c a b near =
    let o = (follows plan es).tables in
    let w : World = run_of (opening plan) es in
    subst (λ (d : tables.World). (is_eating (d.diner a).phase && is_eating (d.diner b).phase) ≡ false) (sym o.led)
    (law plan o.events a b c (ap (λ (p : PlanValue). are_neighbours p a b) (sym (seated plan es).planned) ∙ near))

pub who_eats_has_its_forks : tables.NeighboursStay → tables.EatersHaveTheirForks → Always EatersHaveTheirForks
who_eats_has_its_forks stay law plan es c a b eats near =
    let o = (follows plan es).tables in
    let w : World = run_of (opening plan) es in
    let here : list_all (pairs_at w a).diner.held (pairs_at w a).diner.neighbours ≡ true = subst (λ (d : tables.World). tables.HasItsForks (d.diner a)) (sym o.led) (law plan o.events a) eats in
    let same : (pairs_at w a).diner.neighbours ≡ neighbours_of plan a = subst (λ (d : tables.World). (d.diner a).neighbours ≡ neighbours_of plan a) (sym o.led) (stay plan o.events a) in
    all_at (pairs_at w a).diner.held (neighbours_of plan a) b (ap (list_all (pairs_at w a).diner.held) (sym same) ∙ here) (among_neighbours plan a b c (ap (λ (p : PlanValue). are_neighbours p a b) (sym (seated plan es).planned) ∙ near))

pub precedence_has_no_ring : tables.NoRingFromAnAcceptedPlan → PrecedenceHasNoRing
precedence_has_no_ring law plan es accepted = let o = (follows plan es).tables in subst (tables.HasNoRing plan) (sym o.led) (law plan o.events accepted)
