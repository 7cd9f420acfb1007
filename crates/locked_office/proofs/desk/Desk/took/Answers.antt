use Rattle.locked_office.proofs.Giving.{read_received}
use Rattle.locked_office.proofs.desk.Desk.took.Goals as goal

pub returns-clause-taken : goal.returns-clause-taken
returns-clause-taken g c =
    read_received c.what_is_read_is_received.ensures c.args.self.now.key c.args.pass.now c.take_read.new.pass c.args.bytes.now c.decode-read.result c.take_read.result
    (record { found = c.decode-read.ensures.found; only = c.decode-read.ensures.only; fault = c.decode-read.ensures.fault }) c.take_read.ensures.taken
