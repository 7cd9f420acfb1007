-- Circles and rings of offices.
use Rattle.std.proofs.Common.{◌≡◌, ℕ, zero, suc, ◌+◌, ◌<◌, ◌≤◌, true, false, List, [], ◌∷◌, ◌++◌, length, get_or, take, drop, refl, sym, ap, ◌∙◌, subst, arith, ⊎_elim, length-append}
use Rattle.std.specs.Prelude.{◌==◌, nat_lt, map}
use Rattle.std.specs.List.{All}
use Rattle.std.proofs.lemmas.Bool.{ne_eqb, cases_eq}
use Rattle.std.proofs.lemmas.List.{take-append-drop, get_or-drop, length-take-le, map-append, take_more}
use Rattle.std.proofs.lemmas.List.Elements.{All-append, All-take, All-drop}
use Rattle.office_map.specs.PlanValue.{PlanValue}
use Rattle.office_map.specs.OrderLaws.{placed_before}
use Rattle.office_map.specs.Precedence.{starts_before, occurrences, place, first_or, LeadTo, IsCircle, IsRing, IsOrder}
use Rattle.office_map.proofs.LeastFirstOrders.{few, occurrences_append, occurrences_of_none}
use Rattle.bottle_values.specs.Lists.{is_among, num}
use Rattle.bottle_values.specs.ListLaws.{num_one}

-- ---- a way from an office to one that precedes it, and on, whose last step is written first
abbrev pub Follows : PlanValue → ℕ → List ℕ → Type 0
Follows p x [] = Unit {0}
Follows p x (y ∷ ys) = (starts_before p x y ≡ true) × Follows p y ys

pub record IsPath (p : PlanValue) (placed xs : List ℕ) (office : ℕ) : Type 0 where
  pub offices : All (λ x. x < length p.offices) xs
  pub once : (a : ℕ) → occurrences a xs ≤ 1
  pub here : office < length p.offices
  pub unplaced : is_among placed office ≡ false
  pub follows : Follows p office xs

pub path_empty : (p : PlanValue) (placed : List ℕ) (start : ℕ) → start < length p.offices → is_among placed start ≡ false → IsPath p placed [] start
path_empty p placed start lt new = record { offices = λ k d l. absurd (omega arith); once = λ a. omega arith; here = lt; unplaced = new; follows = tt }

first_once : (xs : List ℕ) (v : ℕ) → is_among xs v ≡ false → ((a : ℕ) → occurrences a xs ≤ 1) → (a : ℕ) → occurrences a (v ∷ xs) ≤ 1
first_once xs v new once a = ⊎_elim
    (λ e. omega (arith, ap (λ x. occurrences x xs) (sym e) ∙ occurrences_of_none v xs new, num_one (v == a)))
    (λ ne. omega (arith, once a, ap num (ne_eqb v a ne)))
    (cases_eq v a)

pub path_more : (p : PlanValue) (placed xs : List ℕ) (office before : ℕ) → IsPath p placed xs office → is_among xs office ≡ false → starts_before p before office ≡ true → before < length p.offices → is_among placed before ≡ false → IsPath p placed (office ∷ xs) before
path_more p placed xs office before i new precedes lt unplaced = record {
  offices = All-append (λ x. x < length p.offices) (office ∷ []) xs (λ k d l. one k d l) i.offices;
  once = first_once xs office new i.once;
  here = lt;
  unplaced = unplaced;
  follows = (precedes, i.follows);
}
  where
    one : (k d : ℕ) → k < 1 → get_or (office ∷ []) k d < length p.offices
    one zero d l = i.here
    one (suc k) d l = absurd (omega (arith, l))

pub path_fits : (p : PlanValue) (placed xs : List ℕ) (office : ℕ) → IsPath p placed xs office → length xs ≤ length p.offices
path_fits p placed xs office i = few (length p.offices) xs i.offices i.once

-- ---- where it comes back to an office that it passed, it is a circle up to there
around_to : (p : PlanValue) (x : ℕ) (xs : List ℕ) (k d z : ℕ) → Follows p x xs → k < length xs → starts_before p (get_or xs k d) z ≡ true → (starts_before p x (first_or (take (suc k) xs) z) ≡ true) × LeadTo p (take (suc k) xs) z
around_to p x [] k d z f lt h = absurd (omega (arith, lt))
around_to p x (y ∷ ys) zero d z f lt h = (f.0, (h, tt))
around_to p x (y ∷ ys) (suc k) d z f lt h = let more = around_to p y ys k d z f.1 (omega (arith, lt)) h in (f.0, more)

occurrences_taken : (a k : ℕ) (xs : List ℕ) → occurrences a (take k xs) ≤ occurrences a xs
occurrences_taken a k xs = omega (arith, occurrences_append a (take k xs) (drop k xs), ap (occurrences a) (take-append-drop k xs))

first_follows : (p : PlanValue) (x z : ℕ) (xs : List ℕ) (k : ℕ) → Follows p x xs → k < length xs → (starts_before p x (first_or (take (suc k) xs) z) ≡ true)
first_follows p x z [] k f lt = absurd (omega (arith, lt))
first_follows p x z (y ∷ ys) k f lt = f.0

pub circle_closed : (p : PlanValue) (placed xs : List ℕ) (office k : ℕ) → IsPath p placed xs office → k < length xs → get_or xs k office ≡ office → IsCircle p (take (k + 1) xs)
circle_closed p placed xs office k i lt there =
    let suc_is : suc k ≡ k + 1 = omega arith in
    let z : ℕ = first_or (take (suc k) xs) 0 in
    let last : starts_before p (get_or xs k office) z ≡ true = subst (λ o. starts_before p o z ≡ true) (sym there) (first_follows p office 0 xs k i.follows lt) in
    record {
      some = omega (arith, lt, length-take-le (k + 1) xs (omega (arith, lt)));
      offices = All-take (λ x. x < length p.offices) (k + 1) xs i.offices;
      around = subst (λ j. LeadTo p (take j xs) (first_or (take j xs) 0)) suc_is (around_to p office xs k office z i.follows lt last).1;
      once = λ a. omega (arith, i.once a, occurrences_taken a (k + 1) xs);
    }

-- ---- the same circle, begun elsewhere
first_both : (xs ys : List ℕ) (z : ℕ) → first_or (xs ++ ys) z ≡ first_or xs (first_or ys z)
first_both [] ys z = refl
first_both (x ∷ xs) ys z = refl

first_any : (xs : List ℕ) (y z : ℕ) → 0 < length xs → first_or xs y ≡ first_or xs z
first_any [] y z some = absurd (omega (arith, some))
first_any (x ∷ xs) y z some = refl

lead_parts : (p : PlanValue) (xs ys : List ℕ) (z : ℕ) → LeadTo p (xs ++ ys) z → LeadTo p xs (first_or ys z) × LeadTo p ys z
lead_parts p [] ys z h = (tt, h)
lead_parts p (x ∷ xs) ys z h = let more = lead_parts p xs ys z h.1 in ((subst (λ v. starts_before p x v ≡ true) (first_both xs ys z) h.0, more.0), more.1)

lead_both : (p : PlanValue) (xs ys : List ℕ) (z : ℕ) → LeadTo p xs (first_or ys z) → LeadTo p ys z → LeadTo p (xs ++ ys) z
lead_both p [] ys z f g = g
lead_both p (x ∷ xs) ys z f g = (subst (λ v. starts_before p x v ≡ true) (sym (first_both xs ys z)) f.0, lead_both p xs ys z f.1 g)

turned_around : (p : PlanValue) (xs ys : List ℕ) → 0 < length ys → LeadTo p (xs ++ ys) (first_or (xs ++ ys) 0) → LeadTo p (ys ++ xs) (first_or (ys ++ xs) 0)
turned_around p xs ys some h =
    let f : ℕ = first_or (xs ++ ys) 0 in
    let g : ℕ = first_or (ys ++ xs) 0 in
    let parts : LeadTo p xs (first_or ys f) × LeadTo p ys f = lead_parts p xs ys f h in
    let begin : first_or ys f ≡ g = first_any ys f (first_or xs 0) some ∙ sym (first_both ys xs 0) in
    let back : f ≡ first_or xs g = first_both xs ys 0 ∙ ap (first_or xs) (first_any ys 0 (first_or xs 0) some ∙ sym (first_both ys xs 0)) in
    lead_both p ys xs g (subst (LeadTo p ys) back parts.1) (subst (LeadTo p xs) begin parts.0)

first_there : (xs : List ℕ) (z : ℕ) → 0 < length xs → first_or xs z ≡ get_or xs 0 z
first_there [] z some = absurd (omega (arith, some))
first_there (x ∷ xs) z some = refl

pub turned_ring : (p : PlanValue) (xs : List ℕ) (k : ℕ) → IsCircle p xs → k < length xs → All (λ x. get_or xs k 0 ≤ x) xs → IsRing p (drop k xs ++ take k xs)
turned_ring p xs k c lt least =
    let a : List ℕ = take k xs in
    let b : List ℕ = drop k xs in
    let whole : a ++ b ≡ xs = take-append-drop k xs in
    let some : 0 < length b = omega (arith, lt, ap length whole, length-append a b, length-take-le k xs (omega (arith, lt))) in
    let at : first_or (b ++ a) 0 ≡ get_or xs k 0 = first_both b a 0 ∙ first_any b (first_or a 0) 0 some ∙ first_there b 0 some ∙ get_or-drop k xs 0 0 ∙ ap (λ j. get_or xs j 0) (plus_none k) in
    record {
      circle = record {
        some = omega (arith, some, length-append b a);
        offices = All-append (λ x. x < length p.offices) b a (All-drop (λ x. x < length p.offices) k xs c.offices) (All-take (λ x. x < length p.offices) k xs c.offices);
        around = turned_around p a b some (subst (λ l. LeadTo p l (first_or l 0)) (sym whole) c.around);
        once = λ n. omega (arith, c.once n, occurrences_append n b a, occurrences_append n a b, ap (occurrences n) whole);
      };
      least = subst (λ z. All (λ x. z ≤ x) (b ++ a)) (sym at) (All-append (λ x. get_or xs k 0 ≤ x) b a (All-drop (λ x. get_or xs k 0 ≤ x) k xs least) (All-take (λ x. get_or xs k 0 ≤ x) k xs least));
    }
  where
    plus_none : (n : ℕ) → n + 0 ≡ n
    plus_none n = omega arith

-- ---- names
pub mapped_more : {X Y Z : Type 0} (f : X → Z) (g : Y → Z) (xs : List X) (ys : List Y) (i : ℕ) (x : X) (y : Y) → map f (take i xs) ≡ map g ys → i < length xs → x ≡ get_or xs i x → f x ≡ g y → map f (take (i + 1) xs) ≡ map g (ys ++ y ∷ [])
mapped_more f g xs ys i x y same lt read alike =
    ap (map f) (take_more xs i x lt) ∙ map-append f (take i xs) (get_or xs i x ∷ []) ∙ ap (λ l. l ++ f (get_or xs i x) ∷ []) same ∙ ap (λ z. map g ys ++ z ∷ []) (ap f (sym read) ∙ alike) ∙ sym (map-append g ys (y ∷ []))

-- ---- an order has no ring
earlier_place : (p : PlanValue) (order : List ℕ) → IsOrder p order → (u v : ℕ) → starts_before p u v ≡ true → place u order < place v order
earlier_place p order is u v h = placed_before order u v (λ a. omega (arith, is.once a, num_one (nat_lt a (length p.offices)))) (is.earlier u v h)

-- each of them stands before the one to which they lead
led_before : (p : PlanValue) (order : List ℕ) → IsOrder p order → (x : ℕ) (xs : List ℕ) (z : ℕ) → LeadTo p (x ∷ xs) z → place x order < place z order
led_before p order is x [] z h = earlier_place p order is x z h.0
led_before p order is x (y ∷ ys) z h = omega (arith, earlier_place p order is x y h.0, led_before p order is y ys z h.1)

pub no_ring : (p : PlanValue) (order ring : List ℕ) → IsOrder p order → IsRing p ring → ⊥
no_ring p order [] is r = absurd (omega (arith, r.circle.some))
no_ring p order (x ∷ xs) is r = omega (arith, led_before p order is x xs x r.circle.around)
