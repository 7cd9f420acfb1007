-- The places that the code keeps, and the office that they mean.
use Rattle.std.specs.Prelude.{◌≡◌, ℕ, ◌<◌, Bool, true, false, List, [], ◌∷◌, length, get_or, Option, None, is_some, option_map, slice_get, ◌↔◌, Result, IsErr, OnOk, OnErr}
use Rattle.std.proofs.Math.ListN.{set}
use Rattle.dining_core.specs.declared.masks.mask128.Mask128.{Mask128}
use Rattle.dining_core.specs.masks.Sets.{is_in128}
use Rattle.bottle_values.specs.declared.Value.{Value}
use Rattle.office_map.specs.PlanValue.{PlanValue, peer}
use Rattle.drinking_core.specs.declared.phase.Phase.{Phase}
use Rattle.drinking_core.specs.declared.shared_bottle.SharedBottle.{SharedBottle}
use Rattle.drinking_core.specs.Drinkers.{Drinker, BottleRule, may, act, start_bottle, start_token}
use Rattle.drinking_core.specs.refinement.Masks.{AreSpots, Tells, bit_in}
use Rattle.bottle_values.specs.Lists.{is_among}

-- what a contract sees of a bar: the records of the office, where each stands among them, the bits of those that the
-- session needs, and a place for each record of the plan
pub record BarValue : Type 0 where
  pub records : List ℕ
  pub spots : List ℕ
  pub phase : Phase
  pub needed : Mask128
  pub places : List SharedBottle

-- of a record that the plan doesn't have
abbrev pub nothing : SharedBottle
nothing = record { bottle = None; token = false; peer = 0 }

abbrev pub place_at : List SharedBottle → ℕ → SharedBottle
place_at ps r = get_or ps r nothing

abbrev pub bottle_in : List SharedBottle → ℕ → Option Value
bottle_in ps r = (place_at ps r).bottle

abbrev pub token_in : List SharedBottle → ℕ → Bool
token_in ps r = (place_at ps r).token

abbrev pub peer_in : List SharedBottle → ℕ → ℕ
peer_in ps r = (place_at ps r).peer

-- the office that a bar means
abbrev pub drinker_of : BarValue → Drinker
drinker_of b = record { records = b.records; phase = b.phase; needed = bit_in b.spots b.needed; bottle = bottle_in b.places; token = token_in b.places; peer = peer_in b.places }

-- what a call answers that does a rule: it is refused just where the rule may not be done, and then nothing changed
pub record DoesRule {T E : Type 0} (rule : BottleRule) (result : Result T E) (old new : BarValue) : Type 0 where
  pub not_now : IsErr result ↔ (may (drinker_of old) rule ≡ false)
  pub done : OnOk result (drinker_of new ≡ act (drinker_of old) rule)
  pub unchanged : OnErr result (new ≡ old)

-- the office's records have bits and places, no other bit is one of a needed record, and the bits of held tell whose
-- bottles are here
pub record IsBarOf (records spots : List ℕ) (needed held : Mask128) (places : List SharedBottle) : Type 0 where
  pub spotted : AreSpots records spots
  pub within : (r : ℕ) → is_among records r ≡ true → r < length places
  pub ours : (k : ℕ) → k < 128 → is_in128 needed k ≡ true → k < length records
  pub here : Tells records held (λ r. is_some (bottle_in places r))

-- what starts at an office of a record
abbrev pub start_place : PlanValue → ℕ → ℕ → SharedBottle
start_place plan a r = record {
  bottle = start_bottle a (slice_get plan.records r);
  token = start_token a (slice_get plan.records r);
  peer = peer plan a r;
}

-- a value goes into a bottle that is here
abbrev pub written_place : Value → SharedBottle → SharedBottle
written_place v p = record p { bottle = option_map (λ old. v) p.bottle }

abbrev pub with_writes : List (ℕ × Value) → List SharedBottle → List SharedBottle
with_writes [] ps = ps
with_writes (w ∷ ws) ps = with_writes ws (set ps w.0 (written_place w.1 (place_at ps w.0)))
