-- Orders and rings of consistent plans.
use Rattle.std.specs.Prelude.{ℕ, List, ◌⊎◌}
use Rattle.office_map.specs.PlanValue.{PlanValue}
use Rattle.office_map.specs.Precedence.{HasOrder, IsRing}
use Rattle.office_map.specs.Consistency.{IsConsistent}

-- Every consistent plan has an order or a ring. Where there is an order there is no ring (AnOrderHasNoRing), so it
-- has exactly one of the two.
abbrev pub AnOrderOrARing : Type 0
AnOrderOrARing = (p : PlanValue) → IsConsistent p → HasOrder p ⊎ ((ring : List ℕ) × IsRing p ring)
