use Rattle.std.proofs.Common.{rules}
use Rattle.stored_runs.proofs.durable_lemmas.Mailing.{fetched_fewer}
use Rattle.stored_runs.proofs.durable.posting.fetch.Goals as goal

pub returns-in-Ok-false-clause-fetches : goal.returns-in-Ok-false-clause-fetches
returns-in-Ok-false-clause-fetches g c =
    fetched_fewer g.W.Wire.tells (g.W.Wire.account c.args.wire.now) (g.W.Wire.account c.loop-i.wire) (g.W.Wire.account c.fetch_one.new.wire) c.loop-i.mail.came c.fetch_one.new.mail c.in-Ok-false.field-0 c.in-Ok-false.field-0-test (search rules) c.loop-i.invariant.gives c.in-Ok-false.ensures.one
