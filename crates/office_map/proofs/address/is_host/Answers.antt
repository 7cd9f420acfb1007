use Rattle.office_map.proofs.AsciiAddresses.{five_parts}
use Rattle.office_map.proofs.address.is_host.Goals as goal

pub returns-in-Some-cut-3 : goal.returns-in-Some-cut-3
returns-in-Some-cut-3 c =
    five_parts c.args.host.now c.in-Some.rest.now c.in-Some-cut.rest.now c.in-Some-cut-2.d.now c.in-Some-cut-3.field-0.1.now c.in-Some.a.now c.in-Some-cut.b.now c.in-Some-cut-2.c.now c.in-Some-cut-3.field-0.0.now c.in-Some.ensures c.in-Some-cut.ensures c.in-Some-cut-2.ensures c.in-Some-cut-3.ensures
