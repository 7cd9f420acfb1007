-- What is put of a neighbour is put at its bit.
use Rattle.std.proofs.Common.{◌≡◌, ℕ, ◌<◌, Bool, true, false, cond, List, [], ◌∷◌, Option, None, Some, refl, sym, ap, ◌∙◌, arith, not, ⊎_elim}
use Rattle.std.specs.Prelude.{◌==◌, ◌&&◌, is_some}
use Rattle.std.specs.List.{list_all}
use Rattle.std.proofs.lemmas.Bool.{eqb-true, cases_Bool, or_cases, and_parts, not-true, not-false}
use Rattle.dining_core.specs.masks.Sets.{is_in16, IsLeast}
use Rattle.dining_core.specs.declared.masks.mask16.Mask16.{Mask16}
use Rattle.bottle_values.specs.Maps.{put}
use Rattle.bottle_values.specs.Lists.{is_among}
use Rattle.bottle_values.specs.ListLaws.{one_fails}
use Rattle.dining_core.specs.Diners.{Diner, BecomeHungry, AskFork, GiveFork, Eat, Leave, is_hungry, is_eating, may, act, with_token, with_fork}
use Rattle.dining_core.specs.refinement.Masks.{Tells, AreMasks}
use Rattle.dining_core.proofs.TableUpdates.{among_within}

abbrev pub IsPut : Mask16 → Mask16 → ℕ → Bool → Type 0
IsPut m m' v x = (i : ℕ) → i < 16 → is_in16 m' i ≡ put (is_in16 m) v x i

bit_put : (m m' : Mask16) (f : ℕ → Bool) (v : ℕ) (x : Bool) → Tells m f → IsPut m m' v x → Tells m' (put f v x)
bit_put m m' f v x tells set = λ i low. set i low ∙ ap (λ b. cond (i == v) x b) (tells i low)

pub hungered : (d : Diner) (n h k t : Mask16) (thirsty : Bool) → AreMasks d n h k t → AreMasks (act d (BecomeHungry thirsty)) n h k t
hungered d n h k t thirsty m = record { few = m.few; neighbours = m.neighbours; forks = m.forks; unused = m.unused; requests = m.requests }

pub left : (d : Diner) (n h k t : Mask16) (thirsty : Bool) → AreMasks d n h k t → AreMasks (act d (Leave thirsty)) n h k t
left d n h k t thirsty m = record { few = m.few; neighbours = m.neighbours; forks = m.forks; unused = m.unused; requests = m.requests }

pub eaten : (d : Diner) (n h k t k' : Mask16) → AreMasks d n h k t → ((i : ℕ) → is_in16 k' i ≡ false) → AreMasks (act d Eat) n h k' t
eaten d n h k t k' m empty = record { few = m.few; neighbours = m.neighbours; forks = m.forks; unused = λ i low. empty i; requests = m.requests }

pub asked : (d : Diner) (n h k t t' : Mask16) (v : ℕ) → AreMasks d n h k t → IsPut t t' v false → AreMasks (act d (AskFork v)) n h k t'
asked d n h k t t' v m set = record { few = m.few; neighbours = m.neighbours; forks = m.forks; unused = m.unused; requests = bit_put t t' d.token v false m.requests set }

pub given : (d : Diner) (n h k t h' : Mask16) (v : ℕ) → AreMasks d n h k t → IsPut h h' v false → AreMasks (act d (GiveFork v)) n h' k t
given d n h k t h' v m set = record { few = m.few; neighbours = m.neighbours; forks = bit_put h h' d.held v false m.forks set; unused = m.unused; requests = m.requests }

pub token_came : (d : Diner) (n h k t t' : Mask16) (v : ℕ) → AreMasks d n h k t → IsPut t t' v true → AreMasks (with_token d v) n h k t'
token_came d n h k t t' v m set = record { few = m.few; neighbours = m.neighbours; forks = m.forks; unused = m.unused; requests = bit_put t t' d.token v true m.requests set }

pub fork_came : (d : Diner) (n h k t h' k' : Mask16) (v : ℕ) → AreMasks d n h k t → IsPut h h' v true → IsPut k k' v true → AreMasks (with_fork d v) n h' k' t
fork_came d n h k t h' k' v m held clean = record { few = m.few; neighbours = m.neighbours; forks = bit_put h h' d.held v true m.forks held; unused = bit_put k k' d.clean v true m.unused clean; requests = m.requests }

-- ---- the least neighbour

pub least_same : (n : ℕ) (p q : ℕ → Bool) (o : Option ℕ) → ((v : ℕ) → v < n → p v ≡ q v) → IsLeast n p o → IsLeast n q o
least_same n p q None same least = λ i low. sym (same i low) ∙ least i low
least_same n p q (Some k) same least = (least.0, sym (same k least.0) ∙ least.1, λ j below. sym (same j (omega (arith, below, least.0))) ∙ least.2 j below)

turned : (t h : Bool) → (t && not h) ≡ (not h && t)
turned true true = refl
turned true false = refl
turned false true = refl
turned false false = refl

pub given_bits : (d : Diner) (n h k t m : Mask16) → AreMasks d n h k t → is_eating d.phase ≡ false →
    ((i : ℕ) → i < 16 → is_in16 m i ≡ (is_in16 n i && (is_in16 t i && (is_in16 h i && not (is_in16 k i))))) → (v : ℕ) → v < 16 → is_in16 m v ≡ (is_among d.neighbours v && may d (GiveFork v))
given_bits d n h k t m masks awake bits v low =
    bits v low
    ∙ ap (λ b. b && (is_in16 t v && (is_in16 h v && not (is_in16 k v)))) (masks.neighbours v low)
    ∙ ap (λ b. is_among d.neighbours v && (b && (is_in16 h v && not (is_in16 k v)))) (masks.requests v low)
    ∙ ap (λ b. is_among d.neighbours v && (d.token v && (b && not (is_in16 k v)))) (masks.forks v low)
    ∙ ap (λ b. is_among d.neighbours v && (d.token v && (d.held v && not b))) (masks.unused v low)
    ∙ ap (λ b. is_among d.neighbours v && (not b && (d.token v && (d.held v && not (d.clean v))))) (sym awake)

pub asked_bits : (d : Diner) (n h k t m : Mask16) → AreMasks d n h k t → is_hungry d.phase ≡ true →
    ((i : ℕ) → i < 16 → is_in16 m i ≡ (is_in16 n i && (is_in16 t i && not (is_in16 h i)))) → (v : ℕ) → v < 16 → is_in16 m v ≡ (is_among d.neighbours v && may d (AskFork v))
asked_bits d n h k t m masks hungry bits v low =
    bits v low
    ∙ ap (λ b. b && (is_in16 t v && not (is_in16 h v))) (masks.neighbours v low)
    ∙ ap (λ b. is_among d.neighbours v && (b && not (is_in16 h v))) (masks.requests v low)
    ∙ ap (λ b. is_among d.neighbours v && (d.token v && not b)) (masks.forks v low)
    ∙ ap (λ b. is_among d.neighbours v && b) (turned (d.token v) (d.held v))
    ∙ ap (λ b. is_among d.neighbours v && (b && (not (d.held v) && d.token v))) (sym hungry)

barred : (a b c : Bool) → b ≡ false → (a && (b && c)) ≡ false
barred true true c e = absurd cc
barred true false c e = refl
barred false b c e = refl

pub none_given : (d : Diner) → is_eating d.phase ≡ true → IsLeast 16 (λ v. is_among d.neighbours v && may d (GiveFork v)) None
none_given d eats = λ v low. barred (is_among d.neighbours v) (not (is_eating d.phase)) _ (ap not eats)

pub none_asked : (d : Diner) → is_hungry d.phase ≡ false → IsLeast 16 (λ v. is_among d.neighbours v && may d (AskFork v)) None
none_asked d sated = λ v low. barred (is_among d.neighbours v) (is_hungry d.phase) _ sated

-- ---- whether each neighbour's fork is here

-- what has no bit among those that are near and away is here
no_bit : (n h : Bool) → (n && not h) ≡ false → n ≡ true → h ≡ true
no_bit true true e f = refl
no_bit true false e f = absurd cc
no_bit false h e f = absurd cc

away_bit : (n h : Bool) → (n && not h) ≡ true → (n ≡ true) × (h ≡ false)
away_bit true true e = absurd cc
away_bit true false e = (refl, refl)
away_bit false h e = absurd cc

both_ways : (b : Bool) → b ≡ true → b ≡ false → ⊥
both_ways true e f = cc
both_ways false e f = cc

of_all : (f : ℕ → Bool) (xs : List ℕ) (v : ℕ) → list_all f xs ≡ true → is_among xs v ≡ true → f v ≡ true
of_all f [] v all among = absurd cc
of_all f (x ∷ xs) v all among = ⊎_elim
    (λ s. ap f (sym (eqb-true x v s)) ∙ (and_parts (f x) (list_all f xs) all).0)
    (λ s. of_all f xs v (and_parts (f x) (list_all f xs) all).1 s)
    (or_cases (x == v) (is_among xs v) among)

pub all_here : (d : Diner) (n h k t m : Mask16) (o : Option ℕ) (b : Bool) → AreMasks d n h k t → ((i : ℕ) → i < 16 → is_in16 m i ≡ (is_in16 n i && not (is_in16 h i))) → IsLeast 16 (is_in16 m) o → is_some o ≡ not b → b ≡ list_all d.held d.neighbours
all_here d n h k t m None b masks bits none is = not-false b (sym is) ∙ ⊎_elim
    (λ all. sym all)
    (λ fails.
    let lack : (v : ℕ) × (is_among d.neighbours v ≡ true) × (d.held v ≡ false) = one_fails d.held d.neighbours fails in
    let low : lack.0 < 16 = among_within 16 d.neighbours lack.0 masks.few lack.1 in
    absurd (both_ways (d.held lack.0) (sym (masks.forks lack.0 low) ∙ no_bit (is_in16 n lack.0) (is_in16 h lack.0) (sym (bits lack.0 low) ∙ none lack.0 low) (masks.neighbours lack.0 low ∙ lack.1)) lack.2))
    (cases_Bool (list_all d.held d.neighbours))
all_here d n h k t m (Some v) b masks bits least is = not-true b (sym is) ∙ ⊎_elim
    (λ all. absurd (both_ways (d.held v) (of_all d.held d.neighbours v all (sym (masks.neighbours v least.0) ∙ away.0)) (sym (masks.forks v least.0) ∙ away.1)))
    (λ fails. sym fails)
    (cases_Bool (list_all d.held d.neighbours))
  where
    away : (is_in16 n v ≡ true) × (is_in16 h v ≡ false)
    away = away_bit (is_in16 n v) (is_in16 h v) (sym (bits v least.0) ∙ least.1)
