use Rattle.std.proofs.Common.{◌∙◌, ap, sym, map, Some}
use Rattle.std.specs.String.{string_bytes}
use Rattle.office_map.specs.PlanValue.{office_name_of}
use Rattle.office_map.proofs.Rings.{mapped_more}
use Rattle.office_map.proofs.ring_search.names.Goals as goal

pub loop-office-preserved : goal.loop-office-preserved
loop-office-preserved c =
    mapped_more (office_name_of c.args.tables.now) (λ name. Some (string_bytes name)) c.args.offices.now c.loop-office.names.items c.loop-office.office-index c.office-item.result c.in_ok-from_str.field-0 c.loop-office.invariant c.loop-office-test.true c.office-item.is (c.office_name.ensures ∙ ap Some (sym c.in_ok-from_str.ensures.ok))
    ∙ ap (map (λ name. Some (string_bytes name))) (sym c.in_ok-push.ensures.items)
