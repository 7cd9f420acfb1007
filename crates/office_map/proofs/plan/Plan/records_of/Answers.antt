use Rattle.std.proofs.Common.{◌≡◌, ◌<◌, ◌≤◌, ◌*◌, ◌∙◌, List, ℕ, length, ap, subst, sym}
use Rattle.std.specs.Prelude.{AllPairs}
use Rattle.std.specs.List.{range_with_len}
use Rattle.std.proofs.lemmas.List.Elements.{filter_passes}
use Rattle.office_map.specs.PlanValue.{is_end, records_of}
use Rattle.office_map.proofs.FilteredRanges.{kept_below}
use Rattle.office_map.proofs.OwnRecords.{few_own, own_increase}
use Rattle.office_map.proofs.plan.Plan.records_of.Goals as goal

pub returns-clause-all : goal.returns-clause-all
returns-clause-all c = c.records.ensures ∙ ap (λ e. e.1) c.office_index.ensures.lists

pub returns-clause-each : goal.returns-clause-each
returns-clause-each c =
    let own : c.records.result.now ≡ records_of c.args.self.now c.args.id = c.records.ensures ∙ ap (λ e. e.1) c.office_index.ensures.lists in
    rw own (filter_passes (λ r. is_end c.args.self.now r c.args.id) (range_with_len 0 (length c.args.self.now.records)))

pub returns-clause-records : goal.returns-clause-records
returns-clause-records c =
    let own : c.records.result.now ≡ records_of c.args.self.now c.args.id = c.records.ensures ∙ ap (λ e. e.1) c.office_index.ensures.lists in
    rw own (kept_below (λ r. is_end c.args.self.now r c.args.id) (length c.args.self.now.records))

pub returns-clause-few : goal.returns-clause-few
returns-clause-few c =
    let own : c.records.result.now ≡ records_of c.args.self.now c.args.id = c.records.ensures ∙ ap (λ e. e.1) c.office_index.ensures.lists in
    subst (λ (rs : List ℕ). length rs ≤ 16 * 8) (sym own) (few_own c.args.self.now c.office_index.ensures.consistent c.args.id)

pub returns-clause-increase : goal.returns-clause-increase
returns-clause-increase c =
    let own : c.records.result.now ≡ records_of c.args.self.now c.args.id = c.records.ensures ∙ ap (λ e. e.1) c.office_index.ensures.lists in
    subst (λ (rs : List ℕ). AllPairs (λ r s. r < s) rs) (sym own) (own_increase c.args.self.now c.args.id)
