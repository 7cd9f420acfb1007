-- What two offices share starts at one of them.
use Rattle.std.proofs.Common.{◌≡◌, ℕ, ◌+◌, Bool, true, false, not, ◌&&◌, List, [], ◌∷◌, Option, None, Some, refl, sym, ap, ◌∙◌, arith, inl, inr, ◌⊎◌, ⊎_elim}
use Rattle.std.specs.Prelude.{slice_get, ◌==◌, find, option_map}
use Rattle.std.specs.Option.{option_map_or}
use Rattle.std.specs.List.{list_any}
use Rattle.std.proofs.lemmas.Bool.{cond_both, eqb-true, ne_eqb, eq-eqb, or_cases, and_parts, and_from}
use Rattle.office_map.specs.declared.entries.PairEntry.{PairEntry}
use Rattle.office_map.specs.declared.entries.RecordEntry.{RecordEntry}
use Rattle.office_map.specs.PlanValue.{PlanValue, joins, fork_end, lies_between, start_end, has_ends, fork_starts_at, bottle_starts_at}
use Rattle.bottle_values.specs.Lists.{num}
use Rattle.token_channel.specs.declared.thing.Thing.{Thing}
use Rattle.token_channel.specs.declared.thing.Thing.TheVariants.{Fork, ForkToken, Bottle, BottleToken}
use Rattle.token_channel.specs.Ends.{is_shared}
use Rattle.office_map.specs.NeighbourLaws.{joins_swap, near_both, has_ends_both, between_cases}
use Rattle.bottle_values.specs.ListLaws.{find_same}

pub shared_both : (p : PlanValue) (a b : ℕ) (t : Thing) → is_shared p a b t ≡ is_shared p b a t
shared_both p a b Fork = near_both p a b
shared_both p a b ForkToken = near_both p a b
shared_both p a b (Bottle r) = has_ends_both p r a b
shared_both p a b (BottleToken r) = has_ends_both p r a b

-- exactly one of two different numbers is k
one_is : (k a b : ℕ) → (a ≡ b → ⊥) → (k ≡ a) ⊎ (k ≡ b) → (((k == a) ≡ true) × ((k == b) ≡ false)) ⊎ (((k == a) ≡ false) × ((k == b) ≡ true))
one_is k a b ne e = ⊎_elim (λ x. inl (eq-eqb k a x, ne_eqb k b (λ y. ne (sym x ∙ y)))) (λ x. inr (ne_eqb k a (λ y. ne (sym y ∙ x)), eq-eqb k b x)) e

one_not : (x y : Bool) → ((x ≡ true) × (y ≡ false)) ⊎ ((x ≡ false) × (y ≡ true)) → ((not x ≡ true) × (not y ≡ false)) ⊎ ((not x ≡ false) × (not y ≡ true))
one_not x y e = ⊎_elim (λ k. inr (ap not k.0, ap not k.1)) (λ k. inl (ap not k.0, ap not k.1)) e

-- a bottle starts at one of its ends
bottle_starts : (p : PlanValue) (r a b : ℕ) → (a ≡ b → ⊥) → has_ends p r a b ≡ true →
    ((bottle_starts_at p r a ≡ true) × (bottle_starts_at p r b ≡ false)) ⊎ ((bottle_starts_at p r a ≡ false) × (bottle_starts_at p r b ≡ true))
bottle_starts p r a b ne h = go (slice_get p.records r) h
  where
    either : (e : RecordEntry) → lies_between a b e ≡ true → (start_end e ≡ a) ⊎ (start_end e ≡ b)
    either e k =
        cond_both e.starts_at_first e.first e.second (λ z. (z ≡ a) ⊎ (z ≡ b))
        (λ t. ⊎_elim (λ x. inl x.0) (λ x. inr x.0) (between_cases e a b k))
        (λ t. ⊎_elim (λ x. inr x.1) (λ x. inl x.1) (between_cases e a b k))

    go : (o : Option RecordEntry) → option_map_or (lies_between a b) o false ≡ true →
        ((option_map_or (λ e. start_end e == a) o false ≡ true) × (option_map_or (λ e. start_end e == b) o false ≡ false))
        ⊎ ((option_map_or (λ e. start_end e == a) o false ≡ false) × (option_map_or (λ e. start_end e == b) o false ≡ true))
    go None k = cc
    go (Some e) k = one_is (start_end e) a b ne (either e k)

-- and so does a fork
fork_starts : (pairs : List PairEntry) (a b : ℕ) → (a ≡ b → ⊥) → list_any (joins a b) pairs ≡ true →
    ((option_map_or (λ e. e == a) (option_map fork_end (find (joins a b) pairs)) false ≡ true) × (option_map_or (λ e. e == b) (option_map fork_end (find (joins a b) pairs)) false ≡ false))
    ⊎ ((option_map_or (λ e. e == a) (option_map fork_end (find (joins a b) pairs)) false ≡ false) × (option_map_or (λ e. e == b) (option_map fork_end (find (joins a b) pairs)) false ≡ true))
fork_starts [] a b ne h = cc
fork_starts (x ∷ xs) a b ne h =
    cond_both (joins a b x) (Some x) (find (joins a b) xs)
    (λ o. ((option_map_or (λ e. e == a) (option_map fork_end o) false ≡ true) × (option_map_or (λ e. e == b) (option_map fork_end o) false ≡ false))
    ⊎ ((option_map_or (λ e. e == a) (option_map fork_end o) false ≡ false) × (option_map_or (λ e. e == b) (option_map fork_end o) false ≡ true)))
    (λ t. one_is (fork_end x) a b ne (either t))
    (λ t. fork_starts xs a b ne (rest t))
  where
    either : joins a b x ≡ true → (fork_end x ≡ a) ⊎ (fork_end x ≡ b)
    either k =
        let j : ((x.first ≡ a) × (x.second ≡ b)) ⊎ ((x.first ≡ b) × (x.second ≡ a)) =
        ⊎_elim
        (λ s. let q : ((x.first == a) ≡ true) × ((x.second == b) ≡ true) = and_parts _ _ s in inl (eqb-true _ _ q.0, eqb-true _ _ q.1))
        (λ s. let q : ((x.first == b) ≡ true) × ((x.second == a) ≡ true) = and_parts _ _ s in inr (eqb-true _ _ q.0, eqb-true _ _ q.1))
        (or_cases (x.first == a && x.second == b) (x.first == b && x.second == a) k) in
        cond_both x.fork_at_first x.first x.second (λ z. (z ≡ a) ⊎ (z ≡ b))
        (λ t. ⊎_elim (λ y. inl y.0) (λ y. inr y.0) j)
        (λ t. ⊎_elim (λ y. inr y.1) (λ y. inl y.1) j)

    apart : false ≡ true → ⊥
    apart e = cc

    rest : joins a b x ≡ false → list_any (joins a b) xs ≡ true
    rest t = ⊎_elim (λ k. absurd (apart (sym t ∙ k))) (λ k. k) (or_cases (joins a b x) (list_any (joins a b) xs) h)

-- one of two ends has it
one_of : (s s' h h' : Bool) → s ≡ s' → (s ≡ true → ((h ≡ true) × (h' ≡ false)) ⊎ ((h ≡ false) × (h' ≡ true))) → num (s && h) + num (s' && h') ≡ num s
one_of true s' h h' e f =
    ⊎_elim (λ k. omega (arith, one k.0, two (s' && h') (ap (λ b. b && h') (sym e) ∙ k.1))) (λ k. omega (arith, two h k.0, one' s' h' (sym e) k.1)) (f refl)
  where
    one : h ≡ true → num h ≡ 1
    one k = ap num k

    two : (b : Bool) → b ≡ false → num b ≡ 0
    two b k = ap num k

    one' : (b c : Bool) → b ≡ true → c ≡ true → num (b && c) ≡ 1
    one' b c k j = ap num (and_from b c k j)
one_of false s' h h' e f = omega (arith, none s' h' (sym e))
  where
    none : (b c : Bool) → b ≡ false → num (b && c) ≡ 0
    none b c k = ap (λ x. num (x && c)) k

-- the fork's end is the same from both sides
fork_swap : (p : PlanValue) (a b x : ℕ) → fork_starts_at p b a x ≡ fork_starts_at p a b x
fork_swap p a b x = ap (λ o. option_map_or (λ e. e == x) (option_map fork_end o) false) (find_same (joins b a) (joins a b) (joins_swap b a) p.pairs)
