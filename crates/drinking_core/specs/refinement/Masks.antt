-- The masks that the code keeps beside an office's places: a bit for each of the office's own records.
use Rattle.std.specs.Prelude.{◌≡◌, ℕ, ◌<◌, ◌≤◌, Bool, ◌==◌, ◌&&◌, nat_lt, List, length, get_or}
use Rattle.dining_core.specs.declared.masks.mask128.Mask128.{Mask128}
use Rattle.dining_core.specs.masks.Sets.{is_in128}
use Rattle.drinking_core.specs.Drinkers.{Drinker}

-- where a record stands among the office's own
abbrev pub spot_in : List ℕ → ℕ → ℕ
spot_in spots r = get_or spots r 255

abbrev pub record_at : List ℕ → ℕ → ℕ
record_at records k = get_or records k 0

-- a bit for each of them, and each has a spot of its own, which no other record has
pub record AreSpots (records spots : List ℕ) : Type 0 where
  pub few : length records ≤ 128
  pub of_place : (k : ℕ) → k < length records → spot_in spots (record_at records k) ≡ k
  pub of_spot : (r : ℕ) → spot_in spots r < length records → record_at records (spot_in spots r) ≡ r

-- the place is the record's, if the record stands among these
abbrev pub IsSpot : List ℕ → ℕ → ℕ → Type 0
IsSpot records r spot = (k : ℕ) → k < length records → (k == spot) ≡ (record_at records k == r)

-- whether the record's bit is set
abbrev pub bit_in : List ℕ → Mask128 → ℕ → Bool
bit_in spots m r = nat_lt (spot_in spots r) 128 && is_in128 m (spot_in spots r)

-- the bits of the office's records tell what holds of them
abbrev pub Tells : List ℕ → Mask128 → (ℕ → Bool) → Type 0
Tells records m f = (k : ℕ) → k < length records → is_in128 m k ≡ f (record_at records k)

-- each record has a bit, and the bits tell whose request token is here
pub record AreMasks (d : Drinker) (tokens : Mask128) : Type 0 where
  pub few : length d.records ≤ 128
  pub requests : Tells d.records tokens d.token
