-- Over every list of events, with frames that are made up: what is in the bottles between offices that keep to the rules, and what sessions there read.
use Rattle.std.proofs.Common.{◌≡◌, ℕ, ◌<◌, Bool, true, false, cond, List, [], ◌∷◌, ◌++◌, length, None, Some, sym, ap, subst, ◌∙◌}
use Rattle.std.specs.Prelude.{slice_get, ◌&&◌, option_map, All}
use Rattle.std.specs.Option.{option_map_or}
use Rattle.std.proofs.lemmas.Bool.{and_parts}
use Rattle.bottle_values.specs.declared.Value.{Value}
use Rattle.office_map.specs.declared.entries.RecordEntry.{RecordEntry}
use Rattle.office_map.specs.PlanValue.{PlanValue, ends_of}
use Rattle.office_map.specs.Consistency.{IsConsistent}
use Rattle.office_map.specs.NeighbourLaws.{entry_of, entry_apart}
use Rattle.serial_replay.specs.Serial.{start_map}
use Rattle.drinking_core.specs.Worlds.{Spot, is_with, is_toward}
use Rattle.drinking_core.specs.Worlds as bars
use Rattle.site_core.specs.neighbours.Pairs.{Pairs}
use Rattle.frame_world.specs.Worlds.{World, opening}
use Rattle.frame_world.specs.Ways.{pairs_at, between, bottles_in, listed, bottles_between, bars_of}
use Rattle.frame_world.specs.WorldStates.{state_of, IsSeated}
use Rattle.frame_world.specs.WorldLaws.{seated_opening, state_opening}
use Rattle.frame_world.proofs.Following.{pairs_in}
use Rattle.frame_world.proofs.HeadlineLaws.{only_one, one_spot, at_ends, ends_at}
use Rattle.frame_world.specs.hostile.Hostile.{HostileEvent, goes_on}
use Rattle.frame_world.specs.hostile.Claims.{Always, has_honest_ends, written, finished_there, BottlesKeepTheirValues, SessionsReadWhatWasLeft}
use Rattle.frame_world.proofs.hostile_lemmas.Masks.{masks}
use Rattle.frame_world.proofs.hostile_lemmas.MaskedWorlds.{Laws, with_made_up, through_such}
use Rattle.frame_world.proofs.hostile_lemmas.HonestThings.{between_there}
use Rattle.frame_world.proofs.hostile_lemmas.HonestValues.{ValueLaws, Keeps, there, bottle_there, ends_within, keeps_on, keeps_start}

kept : (p : PlanValue) (h : ℕ → Bool) (es : List HostileEvent) → Laws → ValueLaws → IsConsistent p → IsSeated p (goes_on h (opening p) es) × Keeps p h (state_of (goes_on h (opening p) es))
kept p h es laws more c = through_such p h (Keeps p h) (λ s s' x i. keeps_on p h s s' laws more c x i)
    (λ s f e x. record { shows = with_made_up p h s.frames (pairs_in s) f e x.shows; sane = x.sane; told = record { values = x.told.values; reads = x.told.reads } })
    (opening p) es (seated_opening p) (subst (Keeps p h) (sym (state_opening p)) (keeps_start p h more))

-- ---- one bottle

abbrev bottles_at : (ℕ → Pairs) → ℕ → ℕ → ℕ → List Value
bottles_at qs r x y = listed ((qs x).drinker.bottle r) ++ (listed ((qs y).drinker.bottle r) ++ (bottles_in r (between qs x y) ++ bottles_in r (between qs y x)))

-- a bottle that is at a spot between two offices is the only one there
only_there : (qs : ℕ → Pairs) (r x y : ℕ) (spot : Spot) (v : Value) → (x ≡ y → ⊥) → at_ends x y spot ≡ true → bars.IsBottleAt (bars_of qs) r spot v → bottles_at qs r x y ≡ v ∷ []
only_there qs r x y spot v ne e at =
    ap (λ l. listed l ++ (listed ((qs y).drinker.bottle r) ++ (bottles_in r (between qs x y) ++ bottles_in r (between qs y x)))) (at.here x)
    ∙ ap (λ l. listed (cond (is_with spot x) (Some v) None) ++ (listed l ++ (bottles_in r (between qs x y) ++ bottles_in r (between qs y x)))) (at.here y)
    ∙ ap (λ l. listed (cond (is_with spot x) (Some v) None) ++ (listed (cond (is_with spot y) (Some v) None) ++ (l ++ bottles_in r (between qs y x)))) (at.sent x y)
    ∙ ap (λ l. listed (cond (is_with spot x) (Some v) None) ++ (listed (cond (is_with spot y) (Some v) None) ++ (cond (is_toward spot x y) (v ∷ []) [] ++ l))) (at.sent y x)
    ∙ only_one v (is_with spot x) (is_with spot y) (is_toward spot x y) (is_toward spot y x) (one_spot x y ne spot e)

-- between offices that keep to the rules the mask shows the bottles as they are
bottles_shown : (p : PlanValue) (h : ℕ → Bool) (qs : ℕ → Pairs) (r x y : ℕ) → has_honest_ends h p r ≡ true → h x ≡ true → h y ≡ true → bottles_at (masks h p qs) r x y ≡ bottles_at qs r x y
bottles_shown p h qs r x y t ex ey =
    ap (λ o. listed o ++ (listed ((masks h p qs y).drinker.bottle r) ++ (bottles_in r (between (masks h p qs) x y) ++ bottles_in r (between (masks h p qs) y x)))) (bottle_there p h qs x r ex t)
    ∙ ap (λ o. listed ((qs x).drinker.bottle r) ++ (listed o ++ (bottles_in r (between (masks h p qs) x y) ++ bottles_in r (between (masks h p qs) y x)))) (bottle_there p h qs y r ey t)
    ∙ ap (λ l. listed ((qs x).drinker.bottle r) ++ (listed ((qs y).drinker.bottle r) ++ (bottles_in r l ++ bottles_in r (between (masks h p qs) y x)))) (between_there h p qs x y ex ey)
    ∙ ap (λ l. listed ((qs x).drinker.bottle r) ++ (listed ((qs y).drinker.bottle r) ++ (bottles_in r (between qs x y) ++ bottles_in r l))) (between_there h p qs y x ey ex)

pub bottles_keep_their_values : bars.EachHasItsSpots → bars.NoOtherSpot → Laws → ValueLaws → Always BottlesKeepTheirValues
bottles_keep_their_values spots other laws more plan h es c r ends =
    ap (λ (p : PlanValue). option_map_or (bottles_between w r) (ends_of p r) []) same ∙ found ∙ ap (λ (p : PlanValue). written r (start_map p r) (finished_there h w) ∷ []) (sym same)
  where
    w : World
    w = goes_on h (opening plan) es

    all : IsSeated plan w × Keeps plan h (state_of w)
    all = kept plan h es laws more c

    k : Keeps plan h (state_of w)
    k = all.1

    same : w.plan ≡ plan
    same = all.0.planned

    t : has_honest_ends h plan r ≡ true
    t = ap (λ (p : PlanValue). has_honest_ends h p r) (sym same) ∙ ends

    inside : r < length plan.records
    inside = ends_within h plan r t

    entry : (x : RecordEntry) × (slice_get plan.records r ≡ Some x)
    entry = entry_of plan r inside

    honest : (h entry.0.first ≡ true) × (h entry.0.second ≡ true)
    honest = and_parts (h entry.0.first) (h entry.0.second) (ap (λ o. option_map_or (λ (x : RecordEntry). h x.first && h x.second) o false) (sym entry.1) ∙ t)

    shown : ℕ → Pairs
    shown = masks h plan (pairs_at w)

    v : Value
    v = written r (start_map plan r) (there h w.finished)

    placed : bars.HasItsSpots plan (bars_of shown) r
    placed = subst (λ (b : bars.World). bars.HasItsSpots plan b r) (sym k.shows.bars.led) (spots plan k.shows.bars.events r inside)

    valued : bars.HasValue (bars_of shown) r v
    valued = k.told.values r t

    at : bars.IsBottleAt (bars_of shown) r placed.spot v
    at = subst (bars.IsBottleAt (bars_of shown) r placed.spot) (other (bars_of shown) r placed.spot valued.spot placed.value v placed.bottle valued.at).1 placed.bottle

    found : option_map_or (bottles_between w r) (ends_of plan r) [] ≡ v ∷ []
    found = ap (λ o. option_map_or (bottles_between w r) (option_map (λ (e : RecordEntry). (e.first, e.second)) o) []) entry.1
        ∙ sym (bottles_shown plan h (pairs_at w) r entry.0.first entry.0.second t honest.0 honest.1)
        ∙ only_there shown r entry.0.first entry.0.second placed.spot v (entry_apart plan r entry.0 c entry.1) (ends_at plan r entry.0 placed.spot entry.1 placed.bottle_end) at

-- ---- what sessions read

pub sessions_read_what_was_left : Laws → ValueLaws → Always SessionsReadWhatWasLeft
sessions_read_what_was_left laws more plan h es c before later f is =
    let x = kept plan h es laws more c in
    subst (λ (p : PlanValue). All (λ (y : ℕ × Value). has_honest_ends h p y.0 ≡ true → y.1 ≡ written y.0 (start_map p y.0) before) f.outcome.ending.reads) (sym x.0.planned) (x.1.told.reads before later f is)
