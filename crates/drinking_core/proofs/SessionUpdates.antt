-- What a bar means once a session starts or ends.
use Rattle.std.proofs.Common.{◌≡◌, ℕ, zero, suc, ◌<◌, ◌≤◌, Bool, true, false, not, ◌&&◌, ◌||◌, cond, List, [], ◌∷◌, length, Option, None, Some, is_some, refl, sym, ap, ◌∙◌, arith, ⊎_elim, set}
use Rattle.std.specs.Prelude.{◌==◌, option_map}
use Rattle.std.specs.List.{list_all}
use Rattle.std.proofs.lemmas.Bool.{eq-eqb, ne_eqb, cases_eq, cases_lt, and_from, not-true, not-false}
use Rattle.std.proofs.lemmas.List.{get_or-set_same, get_or-set_other, get_or_past, length-set, set_past}
use mathlib.Core.Path.{fun_ext}
use Rattle.dining_core.specs.masks.Sets.{is_in128, IsLeast}
use Rattle.dining_core.specs.declared.masks.mask128.Mask128.{Mask128}
use Rattle.bottle_values.specs.declared.Value.{Value}
use Rattle.bottle_values.specs.Maps.{put, write_all}
use Rattle.drinking_core.specs.declared.phase.Phase.TheVariants.{Tranquil, Thirsty}
use Rattle.drinking_core.specs.declared.shared_bottle.SharedBottle.{SharedBottle}
use Rattle.drinking_core.specs.Drinkers.{value_after}
use Rattle.drinking_core.specs.refinement.Bars.{drinker_of, place_at, nothing, bottle_in, token_in, peer_in, IsBarOf, written_place, with_writes}
use Rattle.drinking_core.specs.refinement.Masks.{record_at, AreSpots, bit_in}
use Rattle.drinking_core.proofs.MaskUpdates.{AreOwn, AreBitsOf, IsEmpty, bits_tell, bits_own, none_in, told_bit, Tells_written}
use Rattle.drinking_core.proofs.BarUpdates.{made_same}
use Rattle.bottle_values.specs.Lists.{is_among}

-- one place that is changed by a function, if the bar has it
pub changed : (g : SharedBottle → SharedBottle) (ps : List SharedBottle) (r q : ℕ) → g nothing ≡ nothing → place_at (set ps r (g (place_at ps r))) q ≡ cond (q == r) (g (place_at ps q)) (place_at ps q)
changed g ps r q none = ⊎_elim
    (λ e. ⊎_elim
    (λ lt. ap (λ k. place_at (set ps r (g (place_at ps r))) k) e ∙ get_or-set_same ps r (g (place_at ps r)) nothing lt ∙ ap (λ k. g (place_at ps k)) (sym e))
    (λ ge. ap (λ (l : List SharedBottle). place_at l q) (set_past ps r (g (place_at ps r)) ge) ∙ past ge e)
    (cases_lt r (length ps))
    ∙ sym (ap (λ b. cond b (g (place_at ps q)) (place_at ps q)) (eq-eqb q r e)))
    (λ ne. get_or-set_other ps r q (g (place_at ps r)) nothing ne ∙ sym (ap (λ b. cond b (g (place_at ps q)) (place_at ps q)) (ne_eqb q r ne)))
    (cases_eq q r)
  where
    past : length ps ≤ r → q ≡ r → place_at ps q ≡ g (place_at ps q)
    past ge e =
        let away : place_at ps q ≡ nothing = get_or_past ps q nothing (omega (arith, ge, e)) in
        away ∙ sym none ∙ ap g (sym away)

-- what a change leaves
left : {X : Type 0} (f : SharedBottle → X) (g : SharedBottle → SharedBottle) (ps : List SharedBottle) (r q : ℕ) → g nothing ≡ nothing → ((p : SharedBottle) → f (g p) ≡ f p) → f (place_at (set ps r (g (place_at ps r))) q) ≡ f (place_at ps q)
left f g ps r q none same = ap f (changed g ps r q none) ∙ either (q == r)
  where
    either : (b : Bool) → f (cond b (g (place_at ps q)) (place_at ps q)) ≡ f (place_at ps q)
    either true = same (place_at ps q)
    either false = refl

-- ---- a session starts

pub session_starts : (records ss rs : List ℕ) (n : Mask128) (ps : List SharedBottle) → AreSpots records ss → AreOwn records rs → AreBitsOf ss rs n →
    drinker_of (record { records = records; spots = ss; phase = Thirsty; needed = n; places = ps }) ≡ record { records = records; phase = Thirsty; needed = λ r. is_among rs r; bottle = bottle_in ps; token = token_in ps; peer = peer_in ps }
session_starts records ss rs n ps spots own bits =
    made_same records Thirsty _ _ _ _ _ _ _ _ (fun_ext (bits_tell records ss rs n spots own bits)) refl refl refl

pub kept_start : (records ss rs : List ℕ) (n n' h : Mask128) (ps : List SharedBottle) → IsBarOf records ss n h ps → AreOwn records rs → AreBitsOf ss rs n' → IsBarOf records ss n' h ps
kept_start records ss rs n n' h ps k own bits = record {
  spotted = k.spotted;
  within = k.within;
  ours = λ j low e. bits_own records ss rs j k.spotted own (sym (bits j low) ∙ e);
  here = k.here;
}

-- ---- a session ends

pub length_written : (ws : List (ℕ × Value)) (ps : List SharedBottle) → length (with_writes ws ps) ≡ length ps
length_written [] ps = refl
length_written (w ∷ ws) ps = length_written ws (set ps w.0 (written_place w.1 (place_at ps w.0))) ∙ length-set ps w.0 (written_place w.1 (place_at ps w.0))

pub kept_written : {X : Type 0} (f : SharedBottle → X) → ((v : Value) (p : SharedBottle) → f (written_place v p) ≡ f p) → (ws : List (ℕ × Value)) (ps : List SharedBottle) (q : ℕ) → f (place_at (with_writes ws ps) q) ≡ f (place_at ps q)
kept_written f same [] ps q = refl
kept_written f same (w ∷ ws) ps q =
    kept_written f same ws (set ps w.0 (written_place w.1 (place_at ps w.0))) q
    ∙ left f (written_place w.1) ps w.0 q refl (same w.1)

-- writes look at each record alone
write_all_at : (ws : List (ℕ × Value)) (m n : ℕ → Value) (q : ℕ) → m q ≡ n q → write_all ws m q ≡ write_all ws n q
write_all_at [] m n q e = e
write_all_at (w ∷ ws) m n q e = write_all_at ws (put m w.0 w.1) (put n w.0 w.1) q (ap (λ x. cond (q == w.0) w.1 x) e)

value_more : (w : ℕ × Value) (ws : List (ℕ × Value)) (q : ℕ) (b : Bool) → (q == w.0) ≡ b → (o : Option Value) →
    option_map (value_after ws q) (cond b (option_map (λ old. w.1) o) o) ≡ option_map (value_after (w ∷ ws) q) o
value_more w ws q true e None = refl
value_more w ws q false e None = refl
value_more w ws q true e (Some v) = ap Some (write_all_at ws (λ k. w.1) (put (λ k. v) w.0 w.1) q (sym (ap (λ b. cond b w.1 v) e)))
value_more w ws q false e (Some v) = ap Some (write_all_at ws (λ k. v) (put (λ k. v) w.0 w.1) q (sym (ap (λ b. cond b w.1 v) e)))

bottle_of_either : (b : Bool) (v : Value) (p : SharedBottle) → (cond b (written_place v p) p).bottle ≡ cond b (option_map (λ old. v) p.bottle) p.bottle
bottle_of_either true v p = refl
bottle_of_either false v p = refl

written_bottle : (ws : List (ℕ × Value)) (ps : List SharedBottle) (q : ℕ) → bottle_in (with_writes ws ps) q ≡ option_map (value_after ws q) (bottle_in ps q)
written_bottle [] ps q = unchanged (bottle_in ps q)
  where
    unchanged : (o : Option Value) → o ≡ option_map (value_after [] q) o
    unchanged None = refl
    unchanged (Some v) = refl
written_bottle (w ∷ ws) ps q =
    written_bottle ws (set ps w.0 (written_place w.1 (place_at ps w.0))) q
    ∙ ap (λ (p : SharedBottle). option_map (value_after ws q) p.bottle) (changed (written_place w.1) ps w.0 q refl)
    ∙ ap (option_map (value_after ws q)) (bottle_of_either (q == w.0) w.1 (place_at ps q))
    ∙ value_more w ws q (q == w.0) refl (bottle_in ps q)

-- a bar that needs nothing any more
pub session_is_withdrawn : (records ss : List ℕ) (n : Mask128) (ps : List SharedBottle) → IsEmpty n →
    drinker_of (record { records = records; spots = ss; phase = Tranquil; needed = n; places = ps }) ≡ record { records = records; phase = Tranquil; needed = λ r. false; bottle = bottle_in ps; token = token_in ps; peer = peer_in ps }
session_is_withdrawn records ss n ps empty =
    made_same records Tranquil _ _ _ _ _ _ _ _ (fun_ext (none_in ss n empty)) refl refl refl

pub session_ends : (records ss : List ℕ) (n : Mask128) (ws : List (ℕ × Value)) (ps : List SharedBottle) → IsEmpty n →
    drinker_of (record { records = records; spots = ss; phase = Tranquil; needed = n; places = with_writes ws ps }) ≡ record { records = records; phase = Tranquil; needed = λ r. false; bottle = λ r. option_map (value_after ws r) (bottle_in ps r); token = token_in ps; peer = peer_in ps }
session_ends records ss n ws ps empty =
    session_is_withdrawn records ss n (with_writes ws ps) empty
    ∙ made_same records Tranquil _ _ _ _ _ _ _ _
    refl
    (fun_ext (written_bottle ws ps))
    (fun_ext (kept_written (λ (p : SharedBottle). p.token) (λ v p. refl) ws ps))
    (fun_ext (kept_written (λ (p : SharedBottle). p.peer) (λ v p. refl) ws ps))

pub kept_end : (records ss : List ℕ) (n n' h : Mask128) (ps : List SharedBottle) (ws : List (ℕ × Value)) → IsBarOf records ss n h ps → IsEmpty n' → IsBarOf records ss n' h (with_writes ws ps)
kept_end records ss n n' h ps ws k empty = record {
  spotted = k.spotted;
  within = λ q a. omega (arith, k.within q a, length_written ws ps);
  ours = λ j low e. absurd (no (sym (empty j) ∙ e));
  here = λ j lt. Tells_written records h (bottle_in ps) (value_after ws) k.here j lt ∙ ap is_some (sym (written_bottle ws ps (record_at records j)));
}
  where
    no : false ≡ true → ⊥
    no e = absurd cc

-- ---- no bottle is missing

all_at : (f : ℕ → Bool) (xs : List ℕ) → ((k : ℕ) → k < length xs → f (record_at xs k) ≡ true) → list_all f xs ≡ true
all_at f [] h = refl
all_at f (x ∷ xs) h = and_from (f x) (list_all f xs) (h 0 (omega arith)) (all_at f xs (λ k lt. h (suc k) (omega (arith, lt))))

not_all : (f : ℕ → Bool) (xs : List ℕ) (k : ℕ) → k < length xs → f (record_at xs k) ≡ false → list_all f xs ≡ false
not_all f [] k lt e = absurd (omega (arith, lt))
not_all f (x ∷ xs) zero lt e = ap (λ b. b && list_all f xs) e
not_all f (x ∷ xs) (suc k) lt e = ap (λ b. f x && b) (not_all f xs k (omega (arith, lt)) e) ∙ barred (f x)
  where
    barred : (b : Bool) → (b && false) ≡ false
    barred true = refl
    barred false = refl

-- what is needed and away has a bit among those that are missing
no_bit : (n h : Bool) → (n && not h) ≡ false → (not n || h) ≡ true
no_bit true true e = refl
no_bit true false e = absurd cc
no_bit false h e = refl

missing_bit : (n h : Bool) → (n && not h) ≡ true → (n ≡ true) × ((not n || h) ≡ false)
missing_bit true true e = absurd cc
missing_bit true false e = (refl, refl)
missing_bit false h e = absurd cc

pub has_needed_is : (records ss : List ℕ) (n h m : Mask128) (ps : List SharedBottle) (o : Option ℕ) (b : Bool) → IsBarOf records ss n h ps → ((i : ℕ) → i < 128 → is_in128 m i ≡ (is_in128 n i && not (is_in128 h i))) → IsLeast 128 (is_in128 m) o → is_some o ≡ not b →
    b ≡ list_all (λ r. not (bit_in ss n r) || is_some (bottle_in ps r)) records
has_needed_is records ss n h m ps o b k bits least is = go o least is
  where
    -- the bits of a record tell whether it is served
    told : (j : ℕ) → j < length records → (not (is_in128 n j) || is_in128 h j) ≡ (not (bit_in ss n (record_at records j)) || is_some (bottle_in ps (record_at records j)))
    told j lt = ap (λ b. not b || is_in128 h j) (sym (told_bit records ss k.spotted n j lt)) ∙ ap (λ b. not (bit_in ss n (record_at records j)) || b) (k.here j lt)

    go : (x : Option ℕ) → IsLeast 128 (is_in128 m) x → is_some x ≡ not b → b ≡ list_all (λ r. not (bit_in ss n r) || is_some (bottle_in ps r)) records
    go None none same = not-false b (sym same) ∙ sym (all_at (λ r. not (bit_in ss n r) || is_some (bottle_in ps r)) records (λ j lt.
        let low : j < 128 = omega (arith, lt, k.spotted.few) in
        sym (told j lt) ∙ no_bit (is_in128 n j) (is_in128 h j) (sym (bits j low) ∙ none j low)))
    go (Some j) found same =
        let away : (is_in128 n j ≡ true) × ((not (is_in128 n j) || is_in128 h j) ≡ false) = missing_bit (is_in128 n j) (is_in128 h j) (sym (bits j found.0) ∙ found.1) in
        let lt : j < length records = k.ours j found.0 away.0 in
        not-true b (sym same) ∙ sym (not_all (λ r. not (bit_in ss n r) || is_some (bottle_in ps r)) records j lt (sym (told j lt) ∙ away.1))
