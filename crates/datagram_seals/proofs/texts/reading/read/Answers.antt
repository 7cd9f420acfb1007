use Rattle.datagram_seals.proofs.texts_lemmas.SharedSecrets.{all_have}
use Rattle.datagram_seals.proofs.texts.reading.read.Goals as goal

pub returns-clause-neighbours : goal.returns-clause-neighbours
returns-clause-neighbours c =
    all_have (λ v. v.items) c.args.plan.now c.args.office c.args.text.now c.deref.result.now c.of_office.result c.offices.ensures.consistent (rw c.deref.ensures.value c.in_ok-keys.ensures) c.of_office.ensures
