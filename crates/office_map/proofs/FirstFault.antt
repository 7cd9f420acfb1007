-- The first faulty line is the one that is refused.
use Rattle.std.proofs.Common.{◌≡◌, ℕ, List, [], ◌∷◌, Result, Ok, Err, refl, ap}
use Rattle.std.specs.Result.{MatchResult}
use Rattle.office_map.specs.declared.fault.PlanRefusal.{PlanRefusal}
use Rattle.office_map.specs.PlanValue.{PlanValue}
use Rattle.office_map.specs.PlanText.{◌>>=◌, read_line, read_lines, Lead, IsFirstFault, ReadsInOrder}

one_more : (p : PlanValue) (l : ℕ × List ℕ) (ls : List (ℕ × List ℕ)) (q : PlanValue) → read_line p l ≡ Ok q → (r : Result PlanValue PlanRefusal) → MatchResult r (Lead q ls) (IsFirstFault q ls) → MatchResult r (Lead p (l ∷ ls)) (IsFirstFault p (l ∷ ls))
one_more p l ls q h (Ok x) d = (q, h, d)
one_more p l ls q h (Err f) d = record { before = l ∷ d.before; line = d.line; after = d.after; split = ap (λ us. l ∷ us) d.split; reached = d.reached; accepted = (q, h, d.accepted); refused = d.refused }

at_line : (p : PlanValue) (l : ℕ × List ℕ) (ls : List (ℕ × List ℕ)) (r : Result PlanValue PlanRefusal) → read_line p l ≡ r → ((q : PlanValue) → MatchResult (read_lines q ls) (Lead q ls) (IsFirstFault q ls))
    → MatchResult (r >>= λ q. read_lines q ls) (Lead p (l ∷ ls)) (IsFirstFault p (l ∷ ls))
at_line p l ls (Ok q) h others = one_more p l ls q h (read_lines q ls) (others q)
at_line p l ls (Err f) h others = record { before = []; line = l; after = ls; split = refl; reached = p; accepted = refl; refused = h }

pub in_order : ReadsInOrder
in_order p [] = refl
in_order p (l ∷ ls) = at_line p l ls (read_line p l) refl (λ q. in_order q ls)
