use Rattle.std.proofs.Common.{rules}
use Rattle.site_core.specs.Journals.{TakesRead}
use Rattle.locked_office.specs.Calls.{Does}
use Rattle.locked_office.proofs.Giving.{read_received}
use Rattle.locked_office.proofs.desk.Desk.try_took.Goals as goal

pub returns-clause-taken : goal.returns-clause-taken
returns-clause-taken c =
    let taken : Does (λ s s'. TakesRead s c.args.pass.now.tag c.decode-read.result c.take_read.result s') c.args.self.now.key c.args.pass.now c.take_read.new.pass = search rules in
    read_received c.what_is_read_is_received.ensures c.args.self.now.key c.args.pass.now c.take_read.new.pass c.args.bytes.now c.decode-read.result c.take_read.result
    (record { found = c.decode-read.ensures.found; only = c.decode-read.ensures.only; fault = c.decode-read.ensures.fault }) taken
