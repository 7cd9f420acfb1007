use Rattle.office_map.proofs.AsciiAddresses.{three_parts}
use Rattle.office_map.proofs.address.is_host_and_port.Goals as goal

pub returns-in-Some-cut : goal.returns-in-Some-cut
returns-in-Some-cut c =
    three_parts c.args.word.now c.in-Some.port.now c.in-Some-cut.field-0.1.now c.in-Some.host.now c.in-Some-cut.field-0.0.now c.in-Some.ensures c.in-Some-cut.ensures
