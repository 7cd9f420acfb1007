-- The masks that the code keeps beside a table: a bit for each office number below 16.
use Rattle.std.specs.Prelude.{◌≡◌, ℕ, ◌<◌, Bool, All}
use Rattle.dining_core.specs.declared.masks.mask16.Mask16.{Mask16}
use Rattle.dining_core.specs.masks.Sets.{is_in16}
use Rattle.bottle_values.specs.Lists.{is_among}
use Rattle.dining_core.specs.Diners.{Diner}

abbrev pub Tells : Mask16 → (ℕ → Bool) → Type 0
Tells m f = (v : ℕ) → v < 16 → is_in16 m v ≡ f v

-- each neighbour has a bit, and the bits tell which are neighbours, and what is here of them
pub record AreMasks (d : Diner) (near held clean tokens : Mask16) : Type 0 where
  pub few : All (λ v. v < 16) d.neighbours
  pub neighbours : Tells near (is_among d.neighbours)
  pub forks : Tells held d.held
  pub unused : Tells clean d.clean
  pub requests : Tells tokens d.token
