-- The bottles of a record between two offices.
use Rattle.std.specs.Prelude.{◌≡◌, ℕ, true, List, ◌++◌}
use Rattle.bottle_values.specs.declared.Value.{Value}
use Rattle.office_map.specs.PlanValue.{are_neighbours, is_end, peer}
use Rattle.site_core.specs.Journals.{Site, office_of}
use Rattle.frame_world.specs.Ways.{untaken, bottles_in, listed}

-- those on the way from one to the other
abbrev pub bottles_toward : Site → Site → ℕ → List Value
bottles_toward s t r = bottles_in r (untaken ((office_of s).pairs.link t.me).sending ((office_of t).pairs.link s.me).receiving.taken)

-- those that are held at either, or on the way
abbrev pub bottles_at : Site → Site → ℕ → List Value
bottles_at s t r = listed ((office_of s).pairs.drinker.bottle r) ++ (listed ((office_of t).pairs.drinker.bottle r) ++ (bottles_toward s t r ++ bottles_toward t s r))

-- the record lies between these two
pub record LiesBetween (r : ℕ) (s t : Site) : Type 0 where
  pub end : is_end s.plan r s.me ≡ true
  pub other : peer s.plan s.me r ≡ t.me
  pub near : are_neighbours t.plan t.me s.me ≡ true
