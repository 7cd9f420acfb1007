-- What a channel begins with is what its two offices share.
use Rattle.std.proofs.Common.{◌≡◌, ◌≢◌, ℕ, zero, suc, ◌+◌, ◌<◌, ◌≤◌, Bool, true, false, not, ◌&&◌, ◌||◌, cond, List, [], ◌∷◌, ◌++◌, length, Option, None, Some, refl, sym, ap, ◌∙◌, arith, inl, inr, ◌⊎◌}
use Rattle.std.specs.Prelude.{slice_get, ◌==◌, filter, option_map}
use Rattle.std.specs.Option.{option_map_or}
use Rattle.std.specs.List.{list_any, flat_map, range_with_len}
use Rattle.std.proofs.lemmas.Bool.{cond_both, eqb-true, eq-eqb, ne_eqb, cases_lt}
use Rattle.std.proofs.lemmas.Option.{slice_get_past}
use Rattle.office_map.specs.declared.entries.RecordEntry.{RecordEntry}
use Rattle.office_map.specs.PlanValue.{PlanValue, is_end, has_end, has_ends, lies_between, are_neighbours, fork_end_of, start_end, start_end_of}
use Rattle.token_channel.specs.declared.thing.Thing.{Thing}
use Rattle.token_channel.specs.declared.thing.Thing.TheVariants.{Fork as TheFork, ForkToken, Bottle as TheBottle, BottleToken}
use Rattle.token_channel.specs.declared.thing.SharedThing.{SharedThing}
use Rattle.token_channel.specs.Things.{same}
use Rattle.token_channel.specs.Places.{shares, with_token, starts_at, bottle_places, places_of}
use Rattle.token_channel.specs.Ends.{starts_here}
use Rattle.token_channel.specs.Opening.{OpensAsThePlanStarts}
use Rattle.token_channel.specs.PlaceLaws.{neighbours_differ, between_from_ends}

-- ---- a thing with a property of whether it is held

abbrev has : (Bool → Bool) → Thing → List SharedThing → Bool
has q t places = list_any (λ (p : SharedThing). same p.thing t && q p.held) places

and_yes : (x : Bool) → (x && true) ≡ x
and_yes true = refl
and_yes false = refl

or_no : (x : Bool) → (x || false) ≡ x
or_no true = refl
or_no false = refl

or_assoc : (x y z : Bool) → ((x || y) || z) ≡ (x || (y || z))
or_assoc true y z = refl
or_assoc false y z = refl

shares_has : (t : Thing) (places : List SharedThing) → shares places t ≡ has (λ b. true) t places
shares_has t [] = refl
shares_has t (p ∷ places) = ap (λ x. x || shares places t) (sym (and_yes (same p.thing t))) ∙ ap (λ x. (same p.thing t && true) || x) (shares_has t places)

has_append : (q : Bool → Bool) (t : Thing) (xs ys : List SharedThing) → has q t (xs ++ ys) ≡ (has q t xs || has q t ys)
has_append q t [] ys = refl
has_append q t (x ∷ xs) ys = ap (λ b. (same x.thing t && q x.held) || b) (has_append q t xs ys) ∙ sym (or_assoc (same x.thing t && q x.held) (has q t xs) (has q t ys))

-- ---- bottles, record by record

-- whether this one of the records gives the thing
abbrev gives : PlanValue → ℕ → ℕ → (ℕ → Bool) → ℕ → Bool
gives p me peer w k = is_end p k me && (is_end p k peer && w k)

one_record : (p : PlanValue) (me peer : ℕ) (q : Bool → Bool) (t : Thing) (w : ℕ → Bool) (r k : ℕ)
    → has q t (with_token (TheBottle k) (BottleToken k) (starts_at (start_end_of p k) me)) ≡ ((k == r) && w k)
    → has q t (bottle_places p me peer k) ≡ (is_end p k peer && ((k == r) && w k))
one_record p me peer q t w r k h =
    cond_both {A = List SharedThing} (is_end p k peer) (with_token (TheBottle k) (BottleToken k) (starts_at (start_end_of p k) me)) []
    (λ ps. has q t ps ≡ (is_end p k peer && ((k == r) && w k)))
    (λ yes. h ∙ sym (ap (λ b. b && ((k == r) && w k)) yes)) (λ no. sym (ap (λ b. b && ((k == r) && w k)) no))

turned : (a b c d : Bool) → (a && (b && (c && d))) ≡ (c && (a && (b && d)))
turned true true c d = refl
turned true false true d = refl
turned true false false d = refl
turned false b true d = refl
turned false b false d = refl

of_records : (p : PlanValue) (me peer : ℕ) (q : Bool → Bool) (t : Thing) (w : ℕ → Bool) (r : ℕ)
    → ((k : ℕ) → has q t (bottle_places p me peer k) ≡ (is_end p k peer && ((k == r) && w k))) → (ks : List ℕ)
    → has q t (flat_map (bottle_places p me peer) (filter (λ k. is_end p k me) ks)) ≡ list_any (λ k. (k == r) && gives p me peer w k) ks
of_records p me peer q t w r h [] = refl
of_records p me peer q t w r h (k ∷ ks) = go (is_end p k me) refl (of_records p me peer q t w r h ks)
  where
    rest : List ℕ
    rest = filter (λ k. is_end p k me) ks

    go : (b : Bool) → is_end p k me ≡ b → has q t (flat_map (bottle_places p me peer) rest) ≡ list_any (λ k. (k == r) && gives p me peer w k) ks
        → has q t (flat_map (bottle_places p me peer) (cond b (k ∷ rest) rest)) ≡ (((k == r) && (b && (is_end p k peer && w k))) || list_any (λ k. (k == r) && gives p me peer w k) ks)
    go true e ih =
        has_append q t (bottle_places p me peer k) (flat_map (bottle_places p me peer) rest)
        ∙ ap (λ b. b || has q t (flat_map (bottle_places p me peer) rest)) (h k ∙ turned true (is_end p k peer) (k == r) (w k))
        ∙ ap (λ b. ((k == r) && (is_end p k peer && w k)) || b) ih
    go false e ih = ih ∙ ap (λ b. b || list_any (λ k. (k == r) && gives p me peer w k) ks) (sym (and_no (k == r)))
      where
        and_no : (x : Bool) → (x && false) ≡ false
        and_no true = refl
        and_no false = refl

-- of the numbers from one on, one that is passed isn't met again
none_met : (v : ℕ → Bool) (r from n : ℕ) → r < from → list_any (λ k. (k == r) && v k) (range_with_len from n) ≡ false
none_met v r from zero h = refl
none_met v r from (suc n) h =
    ap (λ b. (b && v from) || list_any (λ k. (k == r) && v k) (range_with_len (from + 1) n)) (ne_eqb from r (λ e. absurd (omega (arith, h, e))))
    ∙ none_met v r (from + 1) n (omega (arith, h))

-- one that isn't there is not met, where it has nothing
met_once : (v : ℕ → Bool) (r from n : ℕ) → from ≤ r → (from + n ≤ r → v r ≡ false) → list_any (λ k. (k == r) && v k) (range_with_len from n) ≡ v r
met_once v r from zero le past = sym (past (omega (arith, le)))
met_once v r from (suc n) le past = go (from == r) refl (λ later. met_once v r (from + 1) n later (λ h. past (omega (arith, h))))
  where
    go : (b : Bool) → (from == r) ≡ b → (from + 1 ≤ r → list_any (λ k. (k == r) && v k) (range_with_len (from + 1) n) ≡ v r)
        → ((b && v from) || list_any (λ k. (k == r) && v k) (range_with_len (from + 1) n)) ≡ v r
    go true e more =
        let same_one : from ≡ r = eqb-true from r e in
        ap (λ b. v from || b) (none_met v r (from + 1) n (omega (arith, same_one))) ∙ or_no (v from) ∙ ap v same_one
    go false e more = more (cases (cases_lt from r))
      where
        differ : from ≢ r
        differ x = let y : (from == r) ≡ true = eq-eqb from r x in absurd cc

        cases : (from < r) ⊎ (r ≤ from) → from + 1 ≤ r
        cases (inl lt) = omega (arith, lt)
        cases (inr ge) = absurd (differ (omega (arith, le, ge)))

-- the ends of an entry, one by one and both together
ends_both : (me peer : ℕ) (o : Option RecordEntry) (x : Bool) → me ≢ peer
    → (option_map_or (λ e. has_end e me) o false && (option_map_or (λ e. has_end e peer) o false && x)) ≡ (option_map_or (lies_between me peer) o false && x)
ends_both me peer None x ne = refl
ends_both me peer (Some e) x ne = go (has_end e me) (has_end e peer) (lies_between me peer e) refl refl refl
  where
    from_between : lies_between me peer e ≡ true → (has_end e me ≡ true) × (has_end e peer ≡ true)
    from_between h = parts (e.first == me) (e.second == peer) (e.first == peer) (e.second == me) h
      where
        parts : (a b c d : Bool) → ((a && b) || (c && d)) ≡ true → ((a || d) ≡ true) × ((c || b) ≡ true)
        parts true true true d k = (refl, refl)
        parts true true false d k = (refl, refl)
        parts true false true true k = (refl, refl)
        parts true false true false k = absurd cc
        parts true false false d k = absurd cc
        parts false b true true k = (refl, refl)
        parts false b true false k = absurd cc
        parts false b false d k = absurd cc

    go : (a b c : Bool) → has_end e me ≡ a → has_end e peer ≡ b → lies_between me peer e ≡ c → (a && (b && x)) ≡ (c && x)
    go true true true f g h = refl
    go true true false f g h = let y = between_from_ends me peer e ne f g in absurd cc
    go true false true f g h = let y = (from_between h).1 in absurd cc
    go true false false f g h = refl
    go false b true f g h = let y = (from_between h).0 in absurd cc
    go false b false f g h = refl

-- ---- all places

module _ (p : PlanValue) (me peer : ℕ) (ne : me ≢ peer) (q : Bool → Bool) where
  abbrev fork_here : Bool
  fork_here = starts_at (fork_end_of p me peer) me

  abbrev bottles : List SharedThing
  bottles = flat_map (bottle_places p me peer) (filter (λ k. is_end p k me) (range_with_len 0 (length p.records)))

  -- a thing of a record
  of_record : (t : Thing) (w : ℕ → Bool) (r : ℕ) → ((k : ℕ) → has q t (bottle_places p me peer k) ≡ (is_end p k peer && ((k == r) && w k)))
      → has q t bottles ≡ (has_ends p r me peer && w r)
  of_record t w r h =
      of_records p me peer q t w r h (range_with_len 0 (length p.records))
      ∙ met_once (gives p me peer w) r 0 (length p.records) (omega arith) past ∙ ends_both me peer (slice_get p.records r) (w r) ne
    where
      past : 0 + length p.records ≤ r → gives p me peer w r ≡ false
      past h = ap (λ o. option_map_or (λ e. has_end e me) o false && (is_end p r peer && w r)) (slice_get_past p.records r (omega (arith, h)))

  -- no bottle is a fork or its token
  no_fork : (t : Thing) → ((k : ℕ) → has q t (bottle_places p me peer k) ≡ false) → (ks : List ℕ) → has q t (flat_map (bottle_places p me peer) ks) ≡ false
  no_fork t h [] = refl
  no_fork t h (k ∷ ks) = has_append q t (bottle_places p me peer k) (flat_map (bottle_places p me peer) ks) ∙ ap (λ b. b || has q t (flat_map (bottle_places p me peer) ks)) (h k) ∙ no_fork t h ks

  no_bottle : (t : Thing) (k : ℕ) → has q t (with_token (TheBottle k) (BottleToken k) (starts_at (start_end_of p k) me)) ≡ false → has q t (bottle_places p me peer k) ≡ false
  no_bottle t k h =
      cond_both {A = List SharedThing} (is_end p k peer) (with_token (TheBottle k) (BottleToken k) (starts_at (start_end_of p k) me)) [] (λ ps. has q t ps ≡ false)
      (λ yes. h) (λ no. refl)

  has_fork : has q TheFork (places_of p me peer) ≡ q fork_here
  has_fork = ap (λ b. q fork_here || b) (no_fork TheFork (λ k. no_bottle TheFork k refl) _) ∙ or_no (q fork_here)

  has_fork_token : has q ForkToken (places_of p me peer) ≡ q (not fork_here)
  has_fork_token = ap (λ b. q (not fork_here) || b) (no_fork ForkToken (λ k. no_bottle ForkToken k refl) _) ∙ or_no (q (not fork_here))

  has_bottle : (r : ℕ) → has q (TheBottle r) (places_of p me peer) ≡ (has_ends p r me peer && q (starts_at (start_end_of p r) me))
  has_bottle r = of_record (TheBottle r) (λ k. q (starts_at (start_end_of p k) me)) r
      (λ k. one_record p me peer q (TheBottle r) (λ k. q (starts_at (start_end_of p k) me)) r k (or_no ((k == r) && q (starts_at (start_end_of p k) me))))

  has_bottle_token : (r : ℕ) → has q (BottleToken r) (places_of p me peer) ≡ (has_ends p r me peer && q (not (starts_at (start_end_of p r) me)))
  has_bottle_token r = of_record (BottleToken r) (λ k. q (not (starts_at (start_end_of p k) me))) r
      (λ k. one_record p me peer q (BottleToken r) (λ k. q (not (starts_at (start_end_of p k) me))) r k (or_no ((k == r) && q (not (starts_at (start_end_of p k) me)))))

-- a record's start, by either name
starts_same : (me : ℕ) (o : Option RecordEntry) → starts_at (option_map start_end o) me ≡ option_map_or (λ e. start_end e == me) o false
starts_same me None = refl
starts_same me (Some e) = refl

pub opens : OpensAsThePlanStarts
opens p me peer TheFork good near =
    let ne = neighbours_differ p me peer good near in
    let yes : are_neighbours p me peer ≡ true = near in record {
      shared = shares_has TheFork (places_of p me peer) ∙ has_fork p me peer ne (λ b. true) ∙ sym yes;
      held = has_fork p me peer ne (λ b. b) ∙ ap (λ b. b && starts_here p me peer TheFork) (sym yes);
    }
opens p me peer ForkToken good near =
    let ne = neighbours_differ p me peer good near in
    let yes : are_neighbours p me peer ≡ true = near in record {
      shared = shares_has ForkToken (places_of p me peer) ∙ has_fork_token p me peer ne (λ b. true) ∙ sym yes;
      held = has_fork_token p me peer ne (λ b. b) ∙ ap (λ b. b && starts_here p me peer ForkToken) (sym yes);
    }
opens p me peer (TheBottle r) good near =
    let ne = neighbours_differ p me peer good near in record {
      shared = shares_has (TheBottle r) (places_of p me peer) ∙ has_bottle p me peer ne (λ b. true) r ∙ and_yes (has_ends p r me peer);
      held = has_bottle p me peer ne (λ b. b) r ∙ ap (λ b. has_ends p r me peer && b) (starts_same me (slice_get p.records r));
    }
opens p me peer (BottleToken r) good near =
    let ne = neighbours_differ p me peer good near in record {
      shared = shares_has (BottleToken r) (places_of p me peer) ∙ has_bottle_token p me peer ne (λ b. true) r ∙ and_yes (has_ends p r me peer);
      held = has_bottle_token p me peer ne (λ b. b) r ∙ ap (λ b. has_ends p r me peer && not b) (starts_same me (slice_get p.records r));
    }
