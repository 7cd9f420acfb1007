use Rattle.std.proofs.Common.{◌≡◌, ◌∙◌, ◌∷◌, length, get_or, sym, ap, subst, arith, List, ℕ, false}
use Rattle.office_map.specs.Precedence.{IsCircle}
use Rattle.office_map.proofs.Rings.{IsPath, path_more, path_fits, circle_closed}
use Rattle.office_map.proofs.ring_search.circle.Goals as goal
use Rattle.bottle_values.specs.Lists.{is_among}

pub loop-path-smaller : goal.loop-path-smaller
loop-path-smaller c =
    let new : is_among c.loop-path.path.items c.loop-path.office ≡ false = ap (λ l. is_among l c.loop-path.office) (sym c.deref.ensures.value) ∙ sym c.is_among.ensures ∙ c.loop-path-test.true in
    let longer : IsPath c.args.tables.now c.args.placed.now (c.loop-path.office ∷ c.loop-path.path.items) c.predecessor-office.result = path_more c.args.tables.now c.args.placed.now c.loop-path.path.items c.loop-path.office c.predecessor-office.result c.loop-path.invariant new c.predecessor-office.ensures.before c.predecessor-office.ensures.office c.predecessor-office.ensures.unplaced in
    omega (arith, path_fits c.args.tables.now c.args.placed.now (c.loop-path.office ∷ c.loop-path.path.items) c.predecessor-office.result longer, ap length c.in_ok-insert.ensures.items)

pub loop-path-preserved : goal.loop-path-preserved
loop-path-preserved c =
    let new : is_among c.loop-path.path.items c.loop-path.office ≡ false = ap (λ l. is_among l c.loop-path.office) (sym c.deref.ensures.value) ∙ sym c.is_among.ensures ∙ c.loop-path-test.true in
    subst (λ (l : List ℕ). IsPath c.args.tables.now c.args.placed.now l c.predecessor-office.result) (sym {A = List ℕ} c.in_ok-insert.ensures.items) (path_more c.args.tables.now c.args.placed.now c.loop-path.path.items c.loop-path.office c.predecessor-office.result c.loop-path.invariant new c.predecessor-office.ensures.before c.predecessor-office.ensures.office c.predecessor-office.ensures.unplaced)

pub returns : goal.returns
returns c =
    let xs : List ℕ = c.loop-path.path.items in
    subst (λ (l : List ℕ). IsCircle c.args.tables.now l) (sym c.truncate.ensures.items)
    (circle_closed c.args.tables.now c.args.placed.now xs c.loop-path.office c.place_of-place.result c.loop-path.invariant
    (omega (arith, c.place_of-place.ensures.within, ap length c.deref-2.ensures.value))
    (ap (λ l. get_or l c.place_of-place.result c.loop-path.office) (sym c.deref-2.ensures.value) ∙ c.place_of-place.ensures.there))
