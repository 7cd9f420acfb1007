-- The headline: finished sessions, bottles, and who drinks.
use Rattle.std.proofs.Common.{◌≡◌, ℕ, ◌+◌, ◌<◌, Bool, true, false, cond, [], ◌∷◌, ◌++◌, length, map, None, Some, refl, sym, ap, subst, ◌∙◌, arith, ⊎_elim}
use Rattle.std.specs.Prelude.{slice_get, ◌==◌, ◌&&◌, ◌||◌, option_map}
use Rattle.std.specs.Option.{option_map_or}
use Rattle.std.proofs.lemmas.Bool.{and_parts, or_cases, eqb-true, ne_eqb}
use Rattle.bottle_values.specs.declared.Value.{Value}
use Rattle.bottle_values.specs.Lists.{num}
use Rattle.office_map.specs.declared.entries.RecordEntry.{RecordEntry}
use Rattle.office_map.specs.PlanValue.{PlanValue, ends_of, has_end, lies_between}
use Rattle.office_map.specs.NeighbourLaws.{entry_of, entry_apart}
use Rattle.serial_replay.specs.Serial.{start_map, map_of, outcomes_of}
use Rattle.drinking_core.specs.Worlds.{Spot, With, Toward, is_with, is_toward, is_at_ends}
use Rattle.drinking_core.specs.Worlds as bars
use Rattle.frame_world.specs.Worlds.{World, opening, run_of, office_at}
use Rattle.frame_world.specs.Ways.{pairs_at, toward, bottles_in, listed, bottles_between, bars_of}
use Rattle.frame_world.specs.Headline.{programs, office_and_ending, Always, HasSerialSessions, HasSerialValues, DrinkersHaveTheirBottles}
use Rattle.frame_world.specs.refinement.PartsLaws.{PartsLaws}
use Rattle.frame_world.specs.WorldStates.{state_of}
use Rattle.frame_world.specs.WorldLaws.{seated}
use Rattle.frame_world.proofs.Sessions.{drinks_where_it_works, has_its_bottles}
use Rattle.frame_world.proofs.SerialSessions.{IsKept, kept}

pub sessions_are_serial : PartsLaws → Always HasSerialSessions
sessions_are_serial laws plan es c = (kept plan laws es).serial.outcomes ∙ ap (λ (p : PlanValue). map office_and_ending (outcomes_of (start_map p) (programs (run_of (opening plan) es)))) (sym (seated plan es).planned)

pub who_drinks_has_its_bottles : PartsLaws → Always DrinkersHaveTheirBottles
who_drinks_has_its_bottles laws plan es c = record {
  drinks = λ a. drinks_where_it_works plan a (office_at w a).agenda.current (pairs_at w a).drinker ((kept plan laws es).sane a).current;
  bottles = λ a s reads done e. has_its_bottles plan a (office_at w a) s reads done ((kept plan laws es).sane a) e;
}
  where
    w : World
    w = run_of (opening plan) es

-- ---- one bottle

-- at one of four places, it is the only one
pub only_one : (v : Value) (a b c d : Bool) → num a + (num b + (num c + num d)) ≡ 1 →
    listed (cond a (Some v) None) ++ (listed (cond b (Some v) None) ++ (cond c (v ∷ []) [] ++ cond d (v ∷ []) [])) ≡ v ∷ []
only_one v true false false false e = refl
only_one v false true false false e = refl
only_one v false false true false e = refl
only_one v false false false true e = refl
only_one v false false false false e = absurd (omega (arith, e))
only_one v true true c d e = absurd (omega (arith, e))
only_one v true false true d e = absurd (omega (arith, e))
only_one v true false false true e = absurd (omega (arith, e))
only_one v false true true d e = absurd (omega (arith, e))
only_one v false true false true e = absurd (omega (arith, e))
only_one v false false true true e = absurd (omega (arith, e))

-- with one of these, or on the way from one to the other
abbrev pub at_ends : ℕ → ℕ → Spot → Bool
at_ends x y (With a) = x == a || y == a
at_ends x y (Toward a v) = (x == a && y == v) || (x == v && y == a)

both : (a b : Bool) → a ≡ true → b ≡ true → (a && b) ≡ true
both true b h k = k
both false b h k = absurd cc

-- the spot is one of the four
pub one_spot : (x y : ℕ) → (x ≡ y → ⊥) → (spot : Spot) → at_ends x y spot ≡ true → num (is_with spot x) + (num (is_with spot y) + (num (is_toward spot x y) + num (is_toward spot y x))) ≡ 1
one_spot x y ne (With a) e = ⊎_elim
    (λ i. let other : (y == a) ≡ false = ne_eqb y a (λ k. ne (eqb-true x a i ∙ sym k)) in omega (arith, ap num i, ap num other))
    (λ i. let other : (x == a) ≡ false = ne_eqb x a (λ k. ne (k ∙ sym (eqb-true y a i))) in omega (arith, ap num i, ap num other))
    (or_cases (x == a) (y == a) e)
one_spot x y ne (Toward a v) e = ⊎_elim
    (λ i.
    let parts : ((x == a) ≡ true) × ((y == v) ≡ true) = and_parts (x == a) (y == v) i in
    let other : (y == a && x == v) ≡ false = ap (λ b. b && x == v) (ne_eqb y a (λ k. ne (eqb-true x a parts.0 ∙ sym k))) in
    omega (arith, ap num i, ap num other))
    (λ i.
    let parts : ((x == v) ≡ true) × ((y == a) ≡ true) = and_parts (x == v) (y == a) i in
    let here : (y == a && x == v) ≡ true = both (y == a) (x == v) parts.1 parts.0 in
    let other : (x == a && y == v) ≡ false = ap (λ b. b && y == v) (ne_eqb x a (λ k. ne (k ∙ sym (eqb-true y a parts.1)))) in
    omega (arith, ap num here, ap num other))
    (or_cases (x == a && y == v) (x == v && y == a) e)

pub ends_at : (plan : PlanValue) (r : ℕ) (x : RecordEntry) (spot : Spot) → slice_get plan.records r ≡ Some x → is_at_ends plan r spot ≡ true → at_ends x.first x.second spot ≡ true
ends_at plan r x (With a) e h = ap (λ o. option_map_or (λ (y : RecordEntry). has_end y a) o false) (sym e) ∙ h
ends_at plan r x (Toward a v) e h = ap (λ o. option_map_or (lies_between a v) o false) (sym e) ∙ h

-- a bottle that is at a spot between two offices is the only one there
only_there : (w : World) (r x y : ℕ) (spot : Spot) (v : Value) → (x ≡ y → ⊥) → at_ends x y spot ≡ true → bars.IsBottleAt (bars_of (pairs_at w)) r spot v → bottles_between w r (x, y) ≡ v ∷ []
only_there w r x y spot v ne e at =
    ap (λ l. listed l ++ (listed ((pairs_at w y).drinker.bottle r) ++ (bottles_in r (toward w x y) ++ bottles_in r (toward w y x)))) (at.here x)
    ∙ ap (λ l. listed (cond (is_with spot x) (Some v) None) ++ (listed l ++ (bottles_in r (toward w x y) ++ bottles_in r (toward w y x)))) (at.here y)
    ∙ ap (λ l. listed (cond (is_with spot x) (Some v) None) ++ (listed (cond (is_with spot y) (Some v) None) ++ (l ++ bottles_in r (toward w y x)))) (at.sent x y)
    ∙ ap (λ l. listed (cond (is_with spot x) (Some v) None) ++ (listed (cond (is_with spot y) (Some v) None) ++ (cond (is_toward spot x y) (v ∷ []) [] ++ l))) (at.sent y x)
    ∙ only_one v (is_with spot x) (is_with spot y) (is_toward spot x y) (is_toward spot y x) (one_spot x y ne spot e)

pub bottles_are_serial : PartsLaws → bars.EachHasItsSpots → bars.NoOtherSpot → Always HasSerialValues
bottles_are_serial laws spots other plan es c r lt =
    ap (λ (p : PlanValue). option_map_or (bottles_between w r) (ends_of p r) []) same ∙ found ∙ ap (λ (p : PlanValue). map_of (start_map p) (programs w) r ∷ []) (sym same)
  where
    w : World
    w = run_of (opening plan) es

    k : IsKept plan (state_of w)
    k = kept plan laws es

    same : w.plan ≡ plan
    same = (seated plan es).planned

    inside : r < length plan.records
    inside = subst (λ (p : PlanValue). r < length p.records) same lt

    entry : (x : RecordEntry) × (slice_get plan.records r ≡ Some x)
    entry = entry_of plan r inside

    m : ℕ → Value
    m = map_of (start_map plan) (programs w)

    placed : bars.HasItsSpots plan (bars_of (pairs_at w)) r
    placed = subst (λ (b : bars.World). bars.HasItsSpots plan b r) (sym k.follows.bars.led) (spots plan k.follows.bars.events r inside)

    valued : bars.HasValue (bars_of (pairs_at w)) r (m r)
    valued = k.serial.values r inside

    at : bars.IsBottleAt (bars_of (pairs_at w)) r placed.spot (m r)
    at = subst (bars.IsBottleAt (bars_of (pairs_at w)) r placed.spot) (other (bars_of (pairs_at w)) r placed.spot valued.spot placed.value (m r) placed.bottle valued.at).1 placed.bottle

    found : option_map_or (bottles_between w r) (ends_of plan r) [] ≡ m r ∷ []
    found = ap (λ o. option_map_or (bottles_between w r) (option_map (λ (e : RecordEntry). (e.first, e.second)) o) []) entry.1
        ∙ only_there w r entry.0.first entry.0.second placed.spot (m r) (entry_apart plan r entry.0 c entry.1) (ends_at plan r entry.0 placed.spot entry.1 placed.bottle_end) at
