-- Sessions that finished, office by office.
use Rattle.std.specs.Prelude.{◌≡◌, ◌==◌, ℕ, ◌<◌, List, length, map, get_or, filter, All}
use Rattle.session_meaning.specs.declared.ending.Outcome.{Outcome}
use Rattle.site_core.specs.Journals.{Site, office_of}

-- these finished at these offices, in order, and each office tells of its own in that order
pub record TellInOrder (sites : List Site) (os : List Outcome) (order : List ℕ) : Type 0 where
  pub where_each : map (λ (o : Outcome). o.office) os ≡ order
  pub inside : All (λ a. a < length sites) order
  pub told : (a : ℕ) (s : Site) → a < length sites → s ≡ get_or sites a s → filter (λ (o : Outcome). o.office == a) os ≡ (office_of s).agenda.outcomes
