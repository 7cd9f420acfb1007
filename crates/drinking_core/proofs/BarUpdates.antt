-- What a changed bar means, and that it stays kept.
use Rattle.std.proofs.Common.{◌≡◌, ℕ, zero, suc, ◌<◌, Bool, true, false, ◌&&◌, cond, List, [], ◌∷◌, length, Option, is_some, refl, sym, ap, ◌∙◌, subst, arith, ⊎_elim, set}
use Rattle.std.proofs.lemmas.Bool.{eq-eqb, ne_eqb, cases_eq}
use Rattle.std.proofs.lemmas.List.{get_or-set_same, get_or-set_other, length-set}
use mathlib.Core.Path.{fun_ext}
use Rattle.dining_core.specs.declared.masks.mask128.Mask128.{Mask128}
use Rattle.bottle_values.specs.declared.Value.{Value}
use Rattle.bottle_values.specs.Maps.{put}
use Rattle.drinking_core.specs.declared.phase.Phase.{Phase}
use Rattle.drinking_core.specs.declared.shared_bottle.SharedBottle.{SharedBottle}
use Rattle.drinking_core.specs.Drinkers.{Drinker}
use Rattle.drinking_core.specs.refinement.Bars.{drinker_of, place_at, nothing, bottle_in, token_in, peer_in, IsBarOf}
use Rattle.drinking_core.specs.refinement.Masks.{spot_in, bit_in, Tells}
use Rattle.drinking_core.proofs.MaskUpdates.{IsPut, bit_put, same_place, Tells_held}
use Rattle.bottle_values.specs.Lists.{is_among}

-- one place changed, and what is asked of it
pub seen_put : {X : Type 0} (f : SharedBottle → X) (ps : List SharedBottle) (v : ℕ) (p : SharedBottle) → v < length ps → ◌≡◌ {A = ℕ → X} (λ u. f (place_at (set ps v p) u)) (put (λ u. f (place_at ps u)) v (f p))
seen_put f ps v p lt = fun_ext (λ u.
    ⊎_elim
    (λ e. ap (λ k. f (place_at (set ps v p) k)) e ∙ ap f (get_or-set_same ps v p nothing lt) ∙ sym (ap (λ b. cond b (f p) (f (place_at ps u))) (eq-eqb u v e)))
    (λ ne. ap f (get_or-set_other ps v u p nothing ne) ∙ sym (ap (λ b. cond b (f p) (f (place_at ps u))) (ne_eqb u v ne)))
    (cases_eq u v))

-- putting what is there changes nothing
put_kept : {X : Type 0} (f : ℕ → X) (v : ℕ) (x : X) → f v ≡ x → put f v x ≡ f
put_kept f v x e = fun_ext (λ u. ⊎_elim
    (λ s. ap (λ b. cond b x (f u)) (eq-eqb u v s) ∙ sym e ∙ ap f (sym s))
    (λ ne. ap (λ b. cond b x (f u)) (ne_eqb u v ne))
    (cases_eq u v))

pub kept_put : {X : Type 0} (f : SharedBottle → X) (ps : List SharedBottle) (v : ℕ) (p : SharedBottle) → v < length ps → f (place_at ps v) ≡ f p → ◌≡◌ {A = ℕ → X} (λ u. f (place_at (set ps v p) u)) (λ u. f (place_at ps u))
kept_put f ps v p lt e = seen_put f ps v p lt ∙ put_kept (λ u. f (place_at ps u)) v (f p) e

abbrev made : List ℕ → Phase → (ℕ → Bool) → (ℕ → Option Value) → (ℕ → Bool) → (ℕ → ℕ) → Drinker
made rs ph n b t p = record { records = rs; phase = ph; needed = n; bottle = b; token = t; peer = p }

pub made_same : (rs : List ℕ) (ph : Phase) (n n' : ℕ → Bool) (b b' : ℕ → Option Value) (t t' : ℕ → Bool) (p p' : ℕ → ℕ) → n ≡ n' → b ≡ b' → t ≡ t' → p ≡ p' →
    ◌≡◌ {A = Drinker} (record { records = rs; phase = ph; needed = n; bottle = b; token = t; peer = p }) (record { records = rs; phase = ph; needed = n'; bottle = b'; token = t'; peer = p' })
made_same rs ph n n' b b' t t' p p' en eb et ep =
    (ap (λ x. made rs ph x b t p) en ∙ ap (λ x. made rs ph n' x t p) eb ∙ ap (λ x. made rs ph n' b' x p) et ∙ ap (λ x. made rs ph n' b' t' x) ep)

-- a request token came or went
pub token_put : (rs ss : List ℕ) (ph : Phase) (n : Mask128) (ps : List SharedBottle) (r : ℕ) (p : SharedBottle) (x : Bool) → r < length ps → p ≡ place_at ps r →
    drinker_of (record { records = rs; spots = ss; phase = ph; needed = n; places = set ps r (record { bottle = p.bottle; token = x; peer = p.peer }) }) ≡ record { records = rs; phase = ph; needed = bit_in ss n; bottle = bottle_in ps; token = put (token_in ps) r x; peer = peer_in ps }
token_put rs ss ph n ps r p x lt is =
    let q : SharedBottle = record { bottle = p.bottle; token = x; peer = p.peer } in
    made_same rs ph _ _ _ _ _ _ _ _
    refl
    (kept_put (λ (y : SharedBottle). y.bottle) ps r q lt (ap (λ (y : SharedBottle). y.bottle) (sym is)))
    (seen_put (λ (y : SharedBottle). y.token) ps r q lt)
    (kept_put (λ (y : SharedBottle). y.peer) ps r q lt (ap (λ (y : SharedBottle). y.peer) (sym is)))

-- a bottle came or went
pub bottle_put : (rs ss : List ℕ) (ph : Phase) (n : Mask128) (ps : List SharedBottle) (r : ℕ) (p : SharedBottle) (x : Option Value) → r < length ps → p ≡ place_at ps r →
    drinker_of (record { records = rs; spots = ss; phase = ph; needed = n; places = set ps r (record { bottle = x; token = p.token; peer = p.peer }) }) ≡ record { records = rs; phase = ph; needed = bit_in ss n; bottle = put (bottle_in ps) r x; token = token_in ps; peer = peer_in ps }
bottle_put rs ss ph n ps r p x lt is =
    let q : SharedBottle = record { bottle = x; token = p.token; peer = p.peer } in
    made_same rs ph _ _ _ _ _ _ _ _
    refl
    (seen_put (λ (y : SharedBottle). y.bottle) ps r q lt)
    (kept_put (λ (y : SharedBottle). y.token) ps r q lt (ap (λ (y : SharedBottle). y.token) (sym is)))
    (kept_put (λ (y : SharedBottle). y.peer) ps r q lt (ap (λ (y : SharedBottle). y.peer) (sym is)))

-- a place that has a token is one of the bar
pub token_within : (ps : List SharedBottle) (r : ℕ) → (place_at ps r).token ≡ true → r < length ps
token_within [] r e = cc
token_within (p ∷ ps) zero e = omega arith
token_within (p ∷ ps) (suc r) e = omega (arith, token_within ps r e)

-- a place that may be asked for, or is owed
pub asked_token : (h t : Bool) → (h && t) ≡ true → t ≡ true
asked_token true t e = e
asked_token false t e = cc

pub owed_parts : (t h : Bool) → (t && h) ≡ true → (t ≡ true) × (h ≡ true)
owed_parts true h e = (refl, e)
owed_parts false h e = cc

-- ---- the bar stays kept

within_set : (rs : List ℕ) (ps : List SharedBottle) (r : ℕ) (p : SharedBottle) → ((q : ℕ) → is_among rs q ≡ true → q < length ps) → (q : ℕ) → is_among rs q ≡ true → q < length (set ps r p)
within_set rs ps r p within q a = omega (arith, within q a, length-set ps r p)

-- where a request token came or went
pub kept_token : (rs ss : List ℕ) (n h : Mask128) (ps : List SharedBottle) (r : ℕ) (p : SharedBottle) (x : Bool) → IsBarOf rs ss n h ps → r < length ps → p ≡ place_at ps r →
    IsBarOf rs ss n h (set ps r (record { bottle = p.bottle; token = x; peer = p.peer }))
kept_token rs ss n h ps r p x k lt is = record {
  spotted = k.spotted;
  within = within_set rs ps r (record { bottle = p.bottle; token = x; peer = p.peer }) k.within;
  ours = k.ours;
  here = subst (λ (f : ℕ → Option Value). Tells rs h (λ q. is_some (f q))) (sym same) k.here;
}
  where
    same : bottle_in (set ps r (record { bottle = p.bottle; token = x; peer = p.peer })) ≡ bottle_in ps
    same = kept_put (λ (y : SharedBottle). y.bottle) ps r (record { bottle = p.bottle; token = x; peer = p.peer }) lt (ap (λ (y : SharedBottle). y.bottle) (sym is))

-- where a bottle came or went, and its bit with it
pub kept_bottle : (rs ss : List ℕ) (n h h' : Mask128) (ps : List SharedBottle) (r : ℕ) (p : SharedBottle) (x : Option Value) → IsBarOf rs ss n h ps → r < length ps → IsPut h h' (spot_in ss r) (is_some x) →
    IsBarOf rs ss n h' (set ps r (record { bottle = x; token = p.token; peer = p.peer }))
kept_bottle rs ss n h h' ps r p x k lt put_there = record {
  spotted = k.spotted;
  within = within_set rs ps r (record { bottle = x; token = p.token; peer = p.peer }) k.within;
  ours = k.ours;
  here = subst (λ (f : ℕ → Option Value). Tells rs h' (λ q. is_some (f q))) (sym same) told;
}
  where
    same : bottle_in (set ps r (record { bottle = x; token = p.token; peer = p.peer })) ≡ put (bottle_in ps) r x
    same = seen_put (λ (y : SharedBottle). y.bottle) ps r (record { bottle = x; token = p.token; peer = p.peer }) lt

    told : Tells rs h' (λ q. is_some (put (bottle_in ps) r x q))
    told = Tells_held rs h' (bottle_in ps) r x (bit_put rs r (spot_in ss r) k.spotted.few (λ j low. same_place rs ss k.spotted j r low) h h' (λ q. is_some (bottle_in ps q)) (is_some x) k.here put_there)
