-- Sessions that finished, of which each office tells its own.
use Rattle.std.proofs.Common.{◌≡◌, ℕ, zero, suc, ◌+◌, ◌<◌, ◌≤◌, Bool, true, false, cond, List, [], ◌∷◌, ◌++◌, length, map, take, get_or, set, Some, refl, sym, ap, subst, ◌∙◌, arith, ⊎_elim}
use Rattle.std.specs.Prelude.{◌==◌, All, filter, slice_get, if◌then◌else◌}
use Rattle.std.proofs.lemmas.Bool.{eq-eqb, ne_eqb, cases_eq}
use Rattle.std.proofs.lemmas.List.{get_or-map, get_or-set_same, get_or-set_other, length-append, length-map, map-append, take_more}
use Rattle.std.proofs.lemmas.Option.{get_or_from_slice_get}
use Rattle.std.proofs.lemmas.List.Elements.{filter-append}
use Rattle.session_meaning.specs.declared.ending.Outcome.{Outcome}
use Rattle.site_core.specs.Journals.{Site, office_of}
use Rattle.world_schedule.specs.declared.finished.Finished as mark
use Rattle.world_schedule.specs.Readers.{mark_of}
use Rattle.world_schedule.specs.refinement.Orders.{TellInOrder}

abbrev pub is_of : ℕ → Outcome → Bool
is_of a o = o.office == a

-- how many of the first n are of the office
abbrev pub seen_of : ℕ → ℕ → List ℕ → ℕ
seen_of a n order = length (filter (λ b. b == a) (take n order))

-- the next one of its office is the one at that place
pub next_of : (os : List Outcome) (n : ℕ) (o : Outcome) → slice_get os n ≡ Some o → slice_get (filter (is_of o.office) os) (seen_of o.office n (map (λ (x : Outcome). x.office) os)) ≡ Some o
next_of [] n o at = cc
next_of (x ∷ os) zero o at =
    let same : x ≡ o = cc in
    let mine : is_of o.office x ≡ true = ap (is_of o.office) same ∙ eq-eqb o.office o.office refl in
    ap (λ b. slice_get (cond b (x ∷ filter (is_of o.office) os) (filter (is_of o.office) os)) 0) mine ∙ ap Some same
next_of (x ∷ os) (suc n) o at = by (is_of o.office x) (next_of os n o at)
  where
    offices : List ℕ
    offices = map (λ (y : Outcome). y.office) os

    by : (b : Bool) → slice_get (filter (is_of o.office) os) (seen_of o.office n offices) ≡ Some o →
        slice_get (cond b (x ∷ filter (is_of o.office) os) (filter (is_of o.office) os)) (length (cond b (x.office ∷ filter (λ c. c == o.office) (take n offices)) (filter (λ c. c == o.office) (take n offices)))) ≡ Some o
    by true rest = rest
    by false rest = rest

-- ---- one more of them

-- the one at that place, of the office there
pub next_there : (sites : List Site) (os : List Outcome) (order : List ℕ) (t : TellInOrder sites os order) (i a : ℕ) (s : Site) → i < length order → a ≡ get_or order i a → a < length sites → s ≡ get_or sites a s
    → (o : Outcome) × (slice_get os i ≡ Some o) × (slice_get (office_of s).agenda.outcomes (seen_of a i order) ≡ Some o)
next_there sites os order t i a s lt is inside there =
    let size : length os ≡ length order = sym (length-map os (λ (o : Outcome). o.office)) ∙ ap length t.where_each in
    let o = nth os i (omega (arith, lt, size)) in
    let office : o.0.office ≡ a = sym (get_or-map (λ (x : Outcome). x.office) os i o.0 a (omega (arith, lt, size)) ∙ ap (λ (x : Outcome). x.office) (o.2)) ∙ ap (λ l. get_or l i a) t.where_each ∙ sym is in
    let next : slice_get (filter (is_of a) os) (seen_of a i order) ≡ Some o.0 =
    ap (λ b. slice_get (filter (is_of b) os) (seen_of b i order)) (sym office) ∙ ap (λ l. slice_get (filter (is_of o.0.office) os) (seen_of o.0.office i l)) (sym t.where_each) ∙ next_of os i o.0 o.1 in
    (o.0, o.1, ap (λ l. slice_get l (seen_of a i order)) (sym (t.told a s inside there)) ∙ next)
  where
    nth : (xs : List Outcome) (k : ℕ) → k < length xs → (x : Outcome) × (slice_get xs k ≡ Some x) × (get_or xs k x ≡ x)
    nth [] k lt = absurd (omega (arith, lt))
    nth (x ∷ xs) zero lt = (x, refl, refl)
    nth (x ∷ xs) (suc k) lt = nth xs k (omega (arith, lt))

pub seen_none : (a : ℕ) (order : List ℕ) → seen_of a 0 order ≡ 0
seen_none a order = refl

pub seen_few : (a n : ℕ) (order : List ℕ) → seen_of a n order ≤ n
seen_few a zero order = omega arith
seen_few a (suc n) [] = omega arith
seen_few a (suc n) (b ∷ order) = by (b == a) (seen_few a n order)
  where
    by : (x : Bool) → seen_of a n order ≤ n → length (cond x (b ∷ filter (λ c. c == a) (take n order)) (filter (λ c. c == a) (take n order))) ≤ suc n
    by true h = omega (arith, h)
    by false h = omega (arith, h)

pub seen_more : (b i a : ℕ) (order : List ℕ) → i < length order → a ≡ get_or order i a → seen_of b (i + 1) order ≡ seen_of b i order + (if a == b then 1 else 0)
seen_more b i a order lt is =
    ap (λ l. length (filter (λ c. c == b) l)) (take_more order i a lt ∙ ap (λ x. take i order ++ x ∷ []) (sym is)) ∙ ap length (filter-append (λ c. c == b) (take i order) (a ∷ [])) ∙ length-append (filter (λ c. c == b) (take i order)) _
    ∙ ap (λ n. seen_of b i order + n) (one (a == b))
  where
    one : (x : Bool) → length (cond x (a ∷ []) []) ≡ (if x then 1 else 0)
    one true = refl
    one false = refl

pub within_some : (os : List Outcome) (i : ℕ) (o : Outcome) → slice_get os i ≡ Some o → i < length os
within_some [] i o at = cc
within_some (x ∷ os) zero o at = omega arith
within_some (x ∷ os) (suc i) o at = omega (arith, within_some os i o at)

-- how many were seen of each office, with one more
pub seen_next : (seen order : List ℕ) (i a n b : ℕ) → length seen ≡ 16 → a < 16 → n ≡ get_or seen a 0 → i < length order → a ≡ get_or order i a → ((k : ℕ) → k < 16 → ◌≡◌ {A = ℕ} (get_or seen k 0) (seen_of k i order)) → b < 16
    → ◌≡◌ {A = ℕ} (get_or (set seen a (n + 1)) b 0) (seen_of b (i + 1) order)
seen_next seen order i a n b places within is lt there before inside = ⊎_elim here elsewhere (cases_eq b a)
  where
    counts : (x : Bool) → (a == b) ≡ x → seen_of b (i + 1) order ≡ seen_of b i order + (if x then 1 else 0)
    counts x e = seen_more b i a order lt there ∙ ap (λ y. seen_of b i order + (if y then 1 else 0)) e

    here : b ≡ a → ◌≡◌ {A = ℕ} (get_or (set seen a (n + 1)) b 0) (seen_of b (i + 1) order)
    here e =
        let one = counts true (eq-eqb a b (sym e)) in
        ap (λ k. get_or (set seen a (n + 1)) k 0) e ∙ get_or-set_same seen a (n + 1) 0 (omega (arith, within, places)) ∙ ap (λ k. k + 1) (is ∙ ap (λ k. get_or seen k 0) (sym e) ∙ before b inside) ∙ sym one

    elsewhere : (b ≡ a → ⊥) → ◌≡◌ {A = ℕ} (get_or (set seen a (n + 1)) b 0) (seen_of b (i + 1) order)
    elsewhere ne =
        let none = counts false (ne_eqb a b (λ e. ne (sym e))) in
        omega (arith, get_or-set_other seen a b (n + 1) 0 ne, before b inside, none)

-- and one more is listed
pub listed_next : (os : List Outcome) (i : ℕ) (o : Outcome) (marks marks' : List mark.Finished) → slice_get os i ≡ Some o → marks' ≡ marks ++ mark_of o ∷ [] → marks ≡ map mark_of (take i os) → marks' ≡ map mark_of (take (i + 1) os)
listed_next os i o marks marks' at more so =
    more ∙ ap (λ l. l ++ mark_of o ∷ []) so
    ∙ sym (ap (map mark_of) (take_more os i o (within_some os i o at) ∙ ap (λ x. take i os ++ x ∷ []) (get_or_from_slice_get os i o o at)) ∙ map-append mark_of (take i os) (o ∷ []))

pub inside_at : (order : List ℕ) (n i a : ℕ) → All (λ b. b < n) order → i < length order → a ≡ get_or order i a → a < n
inside_at order n i a all lt is = subst (λ b. b < n) (sym is) (all i a lt)
