use Rattle.std.proofs.Common.{◌≡◌, ◌∙◌, length, ap}
use Rattle.std.specs.List.{range_with_len}
use Rattle.std.proofs.lemmas.List.Elements.{filter_passes}
use Rattle.office_map.specs.PlanValue.{are_neighbours, neighbours_of}
use Rattle.office_map.proofs.FilteredRanges.{kept_below}
use Rattle.office_map.proofs.plan.Plan.neighbours.Goals as goal

pub returns-clause-all : goal.returns-clause-all
returns-clause-all c = c.neighbours.ensures ∙ ap (λ e. e.0) c.office_index.ensures.lists

pub returns-clause-each : goal.returns-clause-each
returns-clause-each c =
    let own : c.neighbours.result.now ≡ neighbours_of c.args.self.now c.args.id = c.neighbours.ensures ∙ ap (λ e. e.0) c.office_index.ensures.lists in
    rw own (filter_passes (are_neighbours c.args.self.now c.args.id) (range_with_len 0 (length c.args.self.now.offices)))

pub returns-clause-offices : goal.returns-clause-offices
returns-clause-offices c =
    let own : c.neighbours.result.now ≡ neighbours_of c.args.self.now c.args.id = c.neighbours.ensures ∙ ap (λ e. e.0) c.office_index.ensures.lists in
    rw own (kept_below (are_neighbours c.args.self.now c.args.id) (length c.args.self.now.offices))
