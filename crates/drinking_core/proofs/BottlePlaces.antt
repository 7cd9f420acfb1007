-- How many places there are between two offices, where something of a record is at one spot.
use Rattle.std.proofs.Common.{◌≡◌, ℕ, ◌+◌, ◌≤◌, Bool, true, false, ◌&&◌, cond, List, [], ◌∷◌, length, None, Some, is_some, refl, sym, ap, ◌∙◌, subst, arith, ⊎_elim}
use Rattle.std.specs.Prelude.{◌==◌}
use Rattle.std.specs.Option.{option_map_or}
use Rattle.std.proofs.lemmas.Option.{slice_get_past}
use Rattle.std.proofs.lemmas.Bool.{eq-eqb, ne_eqb, cases_eq, cases_Bool, cases_lt}
use Rattle.bottle_values.specs.declared.Value.{Value}
use Rattle.bottle_values.specs.Lists.{num}
use Rattle.office_map.specs.PlanValue.{PlanValue, are_neighbours, is_end, has_ends, lies_between, peer}
use Rattle.office_map.specs.Consistency.{IsConsistent}
use Rattle.office_map.specs.NeighbourLaws.{has_ends_both, peer_is, peer_apart, peer_near, has_peer, ends_are, is_first_end}
use Rattle.dining_core.specs.Worlds.{places}
use Rattle.drinking_core.specs.Worlds.{World, Event, opening, run, Spot, With, Toward, is_with, is_toward, is_at_ends, IsBottleAt, IsTokenAt, HasItsSpots, bottle_places, token_places, HasOnePlaceEach, ShareNothing, IsNowhere}
use Rattle.drinking_core.proofs.BottleLaws.{each_has_its_spots}
use Rattle.drinking_core.proofs.StayingParts.{peers_run}
use Rattle.drinking_core.proofs.UnknownRecords.{unknown_records_are_nowhere}

no_true : false ≡ true → ⊥
no_true e = absurd cc

is_false : (b : Bool) → (b ≡ true → ⊥) → b ≡ false
is_false b never = ⊎_elim (λ e. absurd (never e)) (λ e. e) (cases_Bool b)

-- of an end, who the other is
ends_of_end : (plan : PlanValue) (r u v : ℕ) → is_end plan r u ≡ true → has_ends plan r u v ≡ (peer plan u r == v)
ends_of_end plan r u v e = ⊎_elim
    (λ s. subst (λ z. has_ends plan r u z ≡ true) s (has_peer plan r u e) ∙ sym (eq-eqb (peer plan u r) v s))
    (λ ne. is_false (has_ends plan r u v) (λ h. ne (peer_is plan r u v h)) ∙ sym (ne_eqb (peer plan u r) v ne))
    (cases_eq (peer plan u r) v)

-- where an office has it, for the other end
abbrev with_peer : PlanValue → ℕ → ℕ → ℕ → ℕ → Bool
with_peer plan r s u v = peer plan u r == v && u == s

both_false : (b c : Bool) → c ≡ false → num (b && c) ≡ 0
both_false true c e = ap num e
both_false false c e = refl

both_true : (b c : Bool) → c ≡ true → num (b && c) ≡ num b
both_true true c e = ap num e
both_true false c e = refl

-- the end that has it isn't its own other end, so it is counted once
here_once : (plan : PlanValue) (r s u v : ℕ) → IsConsistent plan → is_end plan r s ≡ true → u ≡ s → num (with_peer plan r s u v) + num (with_peer plan r s v u) ≡ num (has_ends plan r u v)
here_once plan r s u v h e is =
    let end : is_end plan r u ≡ true = ap (is_end plan r) is ∙ e in
    omega (arith, both_true (peer plan u r == v) (u == s) (eq-eqb u s is), other, ap num (ends_of_end plan r u v end))
  where
    other : num (with_peer plan r s v u) ≡ 0
    other = ⊎_elim
        (λ same. both_none (peer plan v r == u) (v == s) (ne_eqb (peer plan v r) u (λ back. peer_apart plan r v h (ap (is_end plan r) same ∙ e) (same ∙ sym is ∙ sym back))))
        (λ ne. both_false (peer plan v r == u) (v == s) (ne_eqb v s ne))
        (cases_eq v s)
      where
        both_none : (b c : Bool) → b ≡ false → num (b && c) ≡ 0
        both_none true c f = absurd (no_true (sym f))
        both_none false c f = refl

with_an_office : (plan : PlanValue) (r s u v : ℕ) → IsConsistent plan → is_end plan r s ≡ true → num (with_peer plan r s u v) + num (with_peer plan r s v u) ≡ num (has_ends plan r u v)
with_an_office plan r s u v h e = ⊎_elim
    (λ is. here_once plan r s u v h e is)
    (λ nu. ⊎_elim
    (λ is. omega (arith, here_once plan r s v u h e is, ap num (has_ends_both plan r u v)))
    (λ nv. omega (
      arith,
      both_false (peer plan u r == v) (u == s) (ne_eqb u s nu),
      both_false (peer plan v r == u) (v == s) (ne_eqb v s nv),
      ap num (is_false (has_ends plan r u v) (λ k. ends_are plan r s u v e k nu nv)),
    ))
    (cases_eq v s))
    (cases_eq u s)

-- on the way from an end to the other, it is counted once
abbrev between : ℕ → ℕ → ℕ → ℕ → Bool
between s t u v = u == s && v == t

from_first : (plan : PlanValue) (r s t u v : ℕ) → IsConsistent plan → has_ends plan r s t ≡ true → u ≡ s → num (between s t u v) + num (between s t v u) ≡ num (has_ends plan r u v)
from_first plan r s t u v h e is =
    let end : is_end plan r u ≡ true = ap (is_end plan r) is ∙ is_first_end plan r s t e in
    let its : peer plan u r ≡ t = ap (λ z. peer plan z r) is ∙ peer_is plan r s t e in
    omega (
      arith,
      first (u == s) (v == t) (eq-eqb u s is),
      both_false (v == s) (u == t) (ne_eqb u t (λ k. peer_apart plan r u h end (k ∙ sym its))),
      ap num (ends_of_end plan r u v end ∙ ap (λ z. z == v) its ∙ turned t v),
    )
  where
    first : (b c : Bool) → b ≡ true → num (b && c) ≡ num c
    first true c k = refl
    first false c k = absurd (no_true k)

    turned : (x y : ℕ) → (x == y) ≡ (y == x)
    turned x y = ⊎_elim (λ k. eq-eqb x y k ∙ sym (eq-eqb y x (sym k))) (λ ne. ne_eqb x y ne ∙ sym (ne_eqb y x (λ k. ne (sym k)))) (cases_eq x y)

on_a_way : (plan : PlanValue) (r s t u v : ℕ) → IsConsistent plan → has_ends plan r s t ≡ true → num (between s t u v) + num (between s t v u) ≡ num (has_ends plan r u v)
on_a_way plan r s t u v h e = ⊎_elim
    (λ is. from_first plan r s t u v h e is)
    (λ nu. ⊎_elim
    (λ is. omega (arith, from_first plan r s t v u h e is, ap num (has_ends_both plan r u v)))
    (λ nv. omega (
      arith,
      none (u == s) (v == t) (ne_eqb u s nu),
      none (v == s) (u == t) (ne_eqb v s nv),
      ap num (is_false (has_ends plan r u v) (λ k. ends_are plan r s u v (is_first_end plan r s t e) k nu nv)),
    ))
    (cases_eq v s))
    (cases_eq u s)
  where
    none : (b c : Bool) → b ≡ false → num (b && c) ≡ 0
    none true c k = absurd (no_true (sym k))
    none false c k = refl

-- what is at a spot of the ends is at one place between them
one_of_spot : (plan : PlanValue) (r : ℕ) (held : ℕ → ℕ → Bool) (way : ℕ → ℕ → ℕ) (spot : Spot) → IsConsistent plan → is_at_ends plan r spot ≡ true →
    ((u v : ℕ) → held u v ≡ (peer plan u r == v && is_with spot u)) → ((u v : ℕ) → way u v ≡ num (is_toward spot u v)) → (u v : ℕ) → places held way u v ≡ num (has_ends plan r u v)
one_of_spot plan r held way (With s) h e here sent u v = omega (arith, ap num (here u v), ap num (here v u), sent u v, sent v u, with_an_office plan r s u v h e)
one_of_spot plan r held way (Toward s t) h e here sent u v =
    omega (
      arith,
      ap num (here u v),
      ap num (here v u),
      both_false (peer plan u r == v) false refl,
      both_false (peer plan v r == u) false refl,
      sent u v,
      sent v u,
      on_a_way plan r s t u v h e,
    )

bottle_once : (plan : PlanValue) (w : World) (r : ℕ) (spot : Spot) (x : Value) → IsConsistent plan → ((a : ℕ) → (w.drinker a).peer ≡ peer plan a) → is_at_ends plan r spot ≡ true → IsBottleAt w r spot x → (u v : ℕ) →
    places (λ a b. (w.drinker a).peer r == b && is_some ((w.drinker a).bottle r)) (λ a b. length (w.bottles_on_way r a b)) u v ≡ num (has_ends plan r u v)
bottle_once plan w r spot x h peers e at =
    one_of_spot plan r (λ a b. (w.drinker a).peer r == b && is_some ((w.drinker a).bottle r)) (λ a b. length (w.bottles_on_way r a b)) spot h e
    (λ u v. ap (λ (f : ℕ → ℕ). f r == v && is_some ((w.drinker u).bottle r)) (peers u) ∙ ap (λ o. peer plan u r == v && is_some o) (at.here u) ∙ ap (λ b. peer plan u r == v && b) (some (is_with spot u)))
    (λ u v. ap length (at.sent u v) ∙ one (is_toward spot u v))
  where
    some : (b : Bool) → is_some (cond b (Some x) None) ≡ b
    some true = refl
    some false = refl

    one : (b : Bool) → length (cond b (x ∷ []) []) ≡ num b
    one true = refl
    one false = refl

token_once : (plan : PlanValue) (w : World) (r : ℕ) (spot : Spot) → IsConsistent plan → ((a : ℕ) → (w.drinker a).peer ≡ peer plan a) → is_at_ends plan r spot ≡ true → IsTokenAt w r spot → (u v : ℕ) →
    places (λ a b. (w.drinker a).peer r == b && (w.drinker a).token r) (w.tokens_on_way r) u v ≡ num (has_ends plan r u v)
token_once plan w r spot h peers e at =
    one_of_spot plan r (λ a b. (w.drinker a).peer r == b && (w.drinker a).token r) (w.tokens_on_way r) spot h e
    (λ u v. ap (λ (f : ℕ → ℕ). f r == v && (w.drinker u).token r) (peers u) ∙ ap (λ b. peer plan u r == v && b) (at.here u ∙ plain (is_with spot u)))
    (λ u v. at.sent u v ∙ one (is_toward spot u v))
  where
    plain : (b : Bool) → cond b true false ≡ b
    plain true = refl
    plain false = refl

    one : (b : Bool) → cond b 1 0 ≡ num b
    one true = refl
    one false = refl

-- what is nowhere has no place
none_between : (plan : PlanValue) (w : World) (r : ℕ) → length plan.records ≤ r → IsNowhere w r → (u v : ℕ) → (bottle_places w r u v ≡ num (has_ends plan r u v)) × (token_places w r u v ≡ num (has_ends plan r u v))
none_between plan w r past h u v = (
  omega (arith, absent, no_bottle u v, no_bottle v u, ap length (h.bottles_on_way u v), ap length (h.bottles_on_way v u)),
  omega (arith, absent, both_false ((w.drinker u).peer r == v) ((w.drinker u).token r) (h.token u), both_false ((w.drinker v).peer r == u) ((w.drinker v).token r) (h.token v), h.tokens_on_way u v, h.tokens_on_way v u),
)
  where
    absent : num (has_ends plan r u v) ≡ 0
    absent = ap (λ o. num (option_map_or (lies_between u v) o false)) (slice_get_past plan.records r past)

    no_bottle : (a b : ℕ) → num ((w.drinker a).peer r == b && is_some ((w.drinker a).bottle r)) ≡ 0
    no_bottle a b = both_false ((w.drinker a).peer r == b) (is_some ((w.drinker a).bottle r)) (ap (λ o. is_some o) (h.bottle a))

of_spots : (plan : PlanValue) (w : World) (r : ℕ) → IsConsistent plan → ((a : ℕ) → (w.drinker a).peer ≡ peer plan a) → HasItsSpots plan w r → (u v : ℕ) → (bottle_places w r u v ≡ num (has_ends plan r u v)) × (token_places w r u v ≡ num (has_ends plan r u v))
of_spots plan w r h peers s u v = (bottle_once plan w r s.spot s.value h peers s.bottle_end s.bottle u v, token_once plan w r s.token_spot h peers s.token_at_end s.token u v)

each_at : (plan : PlanValue) (es : List Event) (r u v : ℕ) → IsConsistent plan →
    (bottle_places (run plan (opening plan) es) r u v ≡ num (has_ends plan r u v)) × (token_places (run plan (opening plan) es) r u v ≡ num (has_ends plan r u v))
each_at plan es r u v h = ⊎_elim
    (λ lt. of_spots plan (run plan (opening plan) es) r h (peers_run plan es) (each_has_its_spots plan es r lt) u v)
    (λ past. none_between plan (run plan (opening plan) es) r past (unknown_records_are_nowhere plan es r past) u v)
    (cases_lt r (length plan.records))

pub each_has_one_place : (plan : PlanValue) (es : List Event) → IsConsistent plan → HasOnePlaceEach plan (run plan (opening plan) es)
each_has_one_place plan es h = record { bottle = λ r u v. (each_at plan es r u v h).0; token = λ r u v. (each_at plan es r u v h).1 }

-- the ends of a record are neighbours
pub strangers_share_nothing : (plan : PlanValue) (es : List Event) (u v : ℕ) → IsConsistent plan → are_neighbours plan u v ≡ false → ShareNothing (run plan (opening plan) es) u v
strangers_share_nothing plan es u v h far r =
    let none : num (has_ends plan r u v) ≡ 0 = ap num (is_false (has_ends plan r u v) near) in
    ((each_at plan es r u v h).0 ∙ none, (each_at plan es r u v h).1 ∙ none)
  where
    near : has_ends plan r u v ≡ true → ⊥
    near e = no_true (sym far ∙ ap (are_neighbours plan u) (sym (peer_is plan r u v e)) ∙ peer_near plan r u h (is_first_end plan r u v e))
