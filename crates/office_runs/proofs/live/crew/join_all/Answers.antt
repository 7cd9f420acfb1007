use Rattle.std.proofs.Common.{◌≡◌, [], ◌++◌, map, sym, ap, ◌∙◌}
use Rattle.std.proofs.lemmas.List.{append-nil, nil_from_length}
use Rattle.std.specs.Vec.Iter.{into_iter_items}
use Rattle.office_runs.specs.live.refinement.Ends.{duty_of}
use Rattle.office_runs.proofs.live.crew.join_all.Goals as goal

pub returns : goal.returns
returns g c =
    let none : into_iter_items c.loop-one.one-iterator ≡ [] = nil_from_length (into_iter_items c.loop-one.one-iterator) (sym c.loop-one.invariant.size ∙ c.in-None.ensures.steps.0) in
    sym (append-nil (map duty_of c.loop-one.ended.items)) ∙ ap (λ l. map duty_of c.loop-one.ended.items ++ l) (sym none) ∙ c.loop-one.invariant.all
