-- Neighbours under an equal plan.
use Rattle.std.proofs.Common.{◌≡◌, ℕ, Bool, ap}
use Rattle.office_map.specs.PlanValue.{PlanValue, are_neighbours}
use Rattle.locked_office.specs.Calls.{Key}

pub near_as : (k : Key) (plan same : PlanValue) (me self v n : ℕ) (b : Bool) → k ≡ (plan, me) → same ≡ plan → self ≡ me → v ≡ n → b ≡ are_neighbours same self v → are_neighbours k.0 k.1 n ≡ b
near_as k plan same me self v n b key p m w is =
    let one : k.0 ≡ plan = ap (λ (x : Key). x.0) key in
    let two : k.1 ≡ me = ap (λ (x : Key). x.1) key in
    cc
