-- Who precedes whom at the start, rings, and orders.
-- The fork of a pair is dirty at the start, so the end that hasn't it precedes the end that has it.
use Rattle.std.specs.Prelude.{◌≡◌, ℕ, ◌+◌, ◌<◌, ◌≤◌, List, [], ◌∷◌, length, map, take, get_or, Bool, true, false, ◌&&◌, ◌||◌, ◌==◌, nat_lt, Some, if◌then◌else◌, All}
use Rattle.std.specs.List.{list_any}
use Rattle.std.specs.String.{string_bytes}
use Rattle.office_map.specs.declared.entries.PairEntry.{PairEntry}
use Rattle.office_map.specs.declared.ring.Ring.{Ring}
use Rattle.office_map.specs.PlanValue.{PlanValue, fork_end, office_name_of}
use Rattle.bottle_values.specs.Lists.{num, is_among}

-- where a pair's fork doesn't start
abbrev pub preceding_end : PairEntry → ℕ
preceding_end pair = if pair.fork_at_first then pair.second else pair.first

-- u precedes v: of a pair, u is the end without the fork, and v the end with it
abbrev pub starts_before : PlanValue → ℕ → ℕ → Bool
starts_before p u v = list_any (λ pair. preceding_end pair == u && fork_end pair == v) p.pairs

-- ---- lists of offices

-- u stands in the list, and v behind it
abbrev pub comes_before : List ℕ → ℕ → ℕ → Bool
comes_before [] u v = false
comes_before (x ∷ xs) u v = (x == u && list_any (λ y. y == v) xs) || comes_before xs u v

-- how often it stands in the list
abbrev pub occurrences : ℕ → List ℕ → ℕ
occurrences a [] = 0
occurrences a (x ∷ xs) = num (x == a) + occurrences a xs

-- where it stands first, or the length
abbrev pub place : ℕ → List ℕ → ℕ
place u [] = 0
place u (x ∷ xs) = if x == u then 0 else 1 + place u xs

-- ---- orders

-- all offices, each once, in which one that precedes another comes earlier
pub record IsOrder (p : PlanValue) (order : List ℕ) : Type 0 where
  pub once : (a : ℕ) → occurrences a order ≡ num (nat_lt a (length p.offices))
  pub earlier : (u v : ℕ) → starts_before p u v ≡ true → comes_before order u v ≡ true

-- an office may come after these: it isn't one of them, and all that precede it are
pub record MayCome (p : PlanValue) (placed : List ℕ) (v : ℕ) : Type 0 where
  pub office : v < length p.offices
  pub unplaced : is_among placed v ≡ false
  pub after_all : (u : ℕ) → starts_before p u v ≡ true → is_among placed u ≡ true

-- and none with a smaller number may
pub record IsNext (p : PlanValue) (placed : List ℕ) (v : ℕ) : Type 0 where
  pub may_come : MayCome p placed v
  pub least : (w : ℕ) → w < v → MayCome p placed w → ⊥

-- an order in which at each place stands the least of the offices that may come: that aren't placed yet, while all that
-- precede them are
pub record IsLeastFirst (p : PlanValue) (order : List ℕ) : Type 0 where
  pub is_order : IsOrder p order
  pub next : (k d : ℕ) → k < length order → IsNext p (take k order) (get_or order k d)

-- there is an order: precedence has no ring at the start
pub record HasOrder (p : PlanValue) : Type 0 where
  pub order : List ℕ
  pub is : IsOrder p order

-- ---- rings

-- the first of the list, or this one behind an empty list
abbrev pub first_or : List ℕ → ℕ → ℕ
first_or [] z = z
first_or (x ∷ xs) z = x

-- each precedes the next, and the last precedes z
abbrev pub LeadTo : PlanValue → List ℕ → ℕ → Type 0
LeadTo p [] z = Unit {0}
LeadTo p (x ∷ xs) z = (starts_before p x (first_or xs z) ≡ true) × LeadTo p xs z

-- offices, each once, of which each precedes the next and the last the first
pub record IsCircle (p : PlanValue) (ring : List ℕ) : Type 0 where
  pub some : 0 < length ring
  pub offices : All (λ x. x < length p.offices) ring
  pub around : LeadTo p ring (first_or ring 0)
  pub once : (a : ℕ) → occurrences a ring ≤ 1

-- a circle that begins with its least number
pub record IsRing (p : PlanValue) (ring : List ℕ) : Type 0 where
  pub circle : IsCircle p ring
  pub least : All (λ x. first_or ring 0 ≤ x) ring

-- a ring with the offices' names
pub record IsNamedRing (p : PlanValue) (r : Ring) : Type 0 where
  pub ring : IsRing p r.offices.items
  pub named : map (office_name_of p) r.offices.items ≡ map (λ name. Some (string_bytes name)) r.names.items

-- ---- laws

-- where there is an order, there is no ring
abbrev pub AnOrderHasNoRing : Type 0
AnOrderHasNoRing = (p : PlanValue) (order ring : List ℕ) → IsOrder p order → IsRing p ring → ⊥

-- there is one order that is least first: no two lists are
abbrev pub OneOrderIsLeastFirst : Type 0
OneOrderIsLeastFirst = (p : PlanValue) (a b : List ℕ) → IsLeastFirst p a → IsLeastFirst p b → a ≡ b
