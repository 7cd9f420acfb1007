use Rattle.std.proofs.Common.{◌≡◌, ◌∙◌, ◌++◌, ◌<◌, ◌≤◌, All, length, get_or, take, drop, sym, ap, subst, arith, List, ℕ, map}
use Rattle.office_map.specs.PlanValue.{office_name_of}
use Rattle.office_map.specs.Precedence.{IsRing}
use Rattle.office_map.proofs.Rings.{turned_ring}
use Rattle.office_map.proofs.ring_search.ring_from.Goals as goal

pub returns : goal.returns
returns c =
    let xs : List ℕ = c.in_ok-circle.circle.items in
    let k : ℕ = c.place_of_least.result in
    let lt : k < length xs = omega (arith, c.place_of_least.ensures.within, ap length c.deref-2.ensures.value) in
    let least : All (λ x. get_or xs k 0 ≤ x) xs = subst (λ (l : List ℕ). All (λ x. get_or l k 0 ≤ x) l) c.deref-2.ensures.value c.place_of_least.ensures.least in
    let turned : c.in_ok-offices.offices.items ≡ drop k xs ++ take k xs = c.in_ok-offices.ensures ∙ ap (λ l. drop k l ++ take k l) c.deref.ensures.value in
    record {
      ring = subst (λ (l : List ℕ). IsRing c.args.tables.now l) (sym turned) (turned_ring c.args.tables.now xs k c.in_ok-circle.ensures lt least);
      named = ap (λ l. map (office_name_of c.args.tables.now) l) (sym c.deref-3.ensures.value) ∙ c.in_ok-names.ensures;
    }
