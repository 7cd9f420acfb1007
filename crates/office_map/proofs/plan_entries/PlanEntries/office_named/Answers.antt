use Rattle.std.proofs.Common.{rules, tests, ◌∙◌, Some, sym, ap}
use Rattle.std.specs.Str.{bytes_eq}
use Rattle.std.proofs.lemmas.Iterator.{YieldsList-from_slice}
use Rattle.std.proofs.lemmas.Iterator.Search.{position_from_yields_List}
use Rattle.office_map.specs.declared.entries.OfficeEntry.{OfficeEntry}
use Rattle.office_map.proofs.plan_entries.PlanEntries.office_named.Goals as goal

pub returns-in_err-place : goal.returns-in_err-place
returns-in_err-place c =
    let found = position_from_yields_List (λ (o : OfficeEntry). bytes_eq o.name c.args.name.now) _ _ c.position.result c.position.ensures.ran (YieldsList-from_slice c.self.inside.offices.items (cc)) (λ x b q k. search (rules, tests)) in
    rw (← c.self.view_is) (c.from_residual.ensures ∙ sym c.in_err-place.was ∙ found)

pub returns : goal.returns
returns c =
    let found = position_from_yields_List (λ (o : OfficeEntry). bytes_eq o.name c.args.name.now) _ _ c.position.result c.position.ensures.ran (YieldsList-from_slice c.self.inside.offices.items (cc)) (λ x b q k. search (rules, tests)) in
    rw (← c.self.view_is) (ap Some c.new.ensures ∙ sym c.in_ok-place.was ∙ found)
