-- The bar of an opening is the office that the plan opens.
use Rattle.std.proofs.Common.{◌≡◌, ℕ, ◌<◌, Bool, true, false, cond, List, [], ◌∷◌, length, map, Option, None, Some, is_some, sym, ap, ◌∙◌, subst, arith, ⊎_elim}
use Rattle.std.specs.Prelude.{◌==◌, option_map, All}
use Rattle.std.specs.List.{range_with_len}
use Rattle.std.proofs.lemmas.Bool.{ne_eqb, eq-eqb, eqb-true, cases_lt, or_cases}
use Rattle.std.proofs.lemmas.Option.{slice_get_past}
use Rattle.std.proofs.lemmas.List.Elements.{All-head, All-tail}
use Rattle.std.proofs.lemmas.List.{get_or_past}
use Rattle.std.proofs.lemmas.List.FromFn.{length-map-range_with_len, get_or-map-range_with_len}
use mathlib.Core.Path.{fun_ext}
use Rattle.dining_core.specs.declared.masks.mask128.Mask128.{Mask128}
use Rattle.office_map.specs.declared.entries.RecordEntry.{RecordEntry}
use Rattle.office_map.specs.PlanValue.{PlanValue, start_end, records_of, other_end}
use Rattle.drinking_core.specs.declared.phase.Phase.TheVariants.{Tranquil}
use Rattle.drinking_core.specs.declared.shared_bottle.SharedBottle.{SharedBottle}
use Rattle.drinking_core.specs.Drinkers.{start_bottle, start_token, opened}
use Rattle.drinking_core.specs.refinement.Bars.{start_place, place_at, nothing, drinker_of, bottle_in, IsBarOf}
use Rattle.drinking_core.specs.refinement.Masks.{AreSpots, Tells}
use Rattle.drinking_core.proofs.BarUpdates.{made_same}
use Rattle.drinking_core.proofs.MaskUpdates.{IsEmpty, none_in}
use Rattle.bottle_values.specs.Lists.{is_among}
use Rattle.std.specs.Option.{option_map_or}

-- what starts at an office, where the record's ends are known
abbrev ends : Option RecordEntry → Option (ℕ × ℕ)
ends o = option_map (λ (e : RecordEntry). (e.first, e.second)) o

from_ends : (b : Bool) (x y at : ℕ) → (x ≡ y → ⊥) → cond b x y ≡ at → cond b y x ≡ cond (at == x) y x
from_ends true x y at ne e = ap (λ c. cond c y x) (sym (eq-eqb at x (sym e)))
from_ends false x y at ne e = ap (λ c. cond c y x) (sym (ne_eqb at x (λ s. ne (sym (e ∙ s)))))

pub token_starts : (a : ℕ) (o : Option RecordEntry) (p : ℕ × ℕ) (at : ℕ) → ends o ≡ Some p → option_map start_end o ≡ Some at → (p.0 ≡ p.1 → ⊥) → start_token a o ≡ (a == cond (at == p.0) p.1 p.0)
token_starts a None p at s e ne = cc
token_starts a (Some r) p at s e ne =
    let fst : r.first ≡ p.0 = cc in
    let snd : r.second ≡ p.1 = cc in
    let starts : cond r.starts_at_first r.first r.second ≡ at = cc in
    go r.starts_at_first r.first r.second p at fst snd starts ne
  where
    go : (b : Bool) (x y : ℕ) (p : ℕ × ℕ) (at : ℕ) → x ≡ p.0 → y ≡ p.1 → cond b x y ≡ at → (p.0 ≡ p.1 → ⊥) → (a == cond b y x) ≡ (a == cond (at == p.0) p.1 p.0)
    go b x y p at ex ey e ne =
        ap (λ z. a == z) (from_ends b x y at (λ s. ne (sym ex ∙ s ∙ ey)) e ∙ ap (λ z. cond (at == z) y z) ex ∙ ap (λ z. cond (at == p.0) z p.0) ey)

-- ---- what the bar of an opening means

start_at : (plan : PlanValue) (a r : ℕ) → place_at (map (start_place plan a) (range_with_len 0 (length plan.records))) r ≡ start_place plan a r
start_at plan a r = ⊎_elim
    (λ lt. get_or-map-range_with_len (start_place plan a) 0 (length plan.records) r r nothing lt (omega arith))
    (λ ge. get_or_past (map (start_place plan a) (range_with_len 0 (length plan.records))) r nothing (omega (arith, ge, length-map-range_with_len (start_place plan a) 0 (length plan.records)))
    ∙ ap (λ (o : Option RecordEntry). none a o) (sym (slice_get_past plan.records r ge)))
    (cases_lt r (length plan.records))
  where
    none : ℕ → Option RecordEntry → SharedBottle
    none a o = record { bottle = start_bottle a o; token = start_token a o; peer = option_map_or (other_end a) o 0 }

pub bar_starts : (plan : PlanValue) (a : ℕ) (rs ss : List ℕ) (n : Mask128) (ps : List SharedBottle) → rs ≡ records_of plan a → IsEmpty n → ps ≡ map (start_place plan a) (range_with_len 0 (length plan.records)) →
    drinker_of (record { records = rs; spots = ss; phase = Tranquil; needed = n; places = ps }) ≡ opened plan a
bar_starts plan a rs ss n ps ours empty places =
    ap (λ l. drinker_of (record { records = l; spots = ss; phase = Tranquil; needed = n; places = ps })) ours
    ∙ ap (λ l. drinker_of (record { records = records_of plan a; spots = ss; phase = Tranquil; needed = n; places = l })) places
    ∙ made_same (records_of plan a) Tranquil _ _ _ _ _ _ _ _
    (fun_ext (none_in ss n empty))
    (fun_ext (λ r. ap (λ (p : SharedBottle). p.bottle) (start_at plan a r)))
    (fun_ext (λ r. ap (λ (p : SharedBottle). p.token) (start_at plan a r)))
    (fun_ext (λ r. ap (λ (p : SharedBottle). p.peer) (start_at plan a r)))

among_within : (n : ℕ) (rs : List ℕ) (q : ℕ) → All (λ r. r < n) rs → is_among rs q ≡ true → q < n
among_within n [] q h e = cc
among_within n (r ∷ rs) q h e = ⊎_elim
    (λ s. omega (arith, All-head (λ k. k < n) r rs h, eqb-true r q s))
    (λ s. among_within n rs q (All-tail (λ k. k < n) r rs h) s)
    (or_cases (r == q) (is_among rs q) e)

pub kept_opening : (plan : PlanValue) (a : ℕ) (rs own ss : List ℕ) (n h : Mask128) (ps : List SharedBottle) → rs ≡ own → AreSpots own ss → All (λ r. r < length plan.records) own → IsEmpty n → Tells own h (λ r. is_some (bottle_in ps r)) →
    ps ≡ map (start_place plan a) (range_with_len 0 (length plan.records)) → IsBarOf rs ss n h ps
kept_opening plan a rs own ss n h ps copied spots known empty tells places = subst (λ l. IsBarOf l ss n h ps) (sym copied) (record {
  spotted = spots;
  within = λ q e. omega (arith, among_within (length plan.records) own q known e, ap length places, length-map-range_with_len (start_place plan a) 0 (length plan.records));
  ours = λ k low e. absurd (no (sym (empty k) ∙ e));
  here = tells;
})
  where
    no : false ≡ true → ⊥
    no e = absurd cc
