use Rattle.std.proofs.Common.{ap}
use Rattle.stored_runs.specs.durable.refinement.Mailed.{Mailed}
use Rattle.stored_runs.proofs.durable_lemmas.Mailing.{account_next}
use Rattle.stored_runs.proofs.durable.mail.MailWire.receive.Goals as goal

pub returns-in-Some-clause-account : goal.returns-in-Some-clause-account
returns-in-Some-clause-account c =
    (ap (λ (m : Mailed). m.failures) c.in-Some.ensures.handed, λ t. account_next c.args.self.now c.next.new.self _ c.in-Some.ensures.next c.in-Some.ensures.handed c.in-Some.ensures.goes_on)
