use Rattle.office_journal.proofs.KeptEntries.{part_is}
use Rattle.office_journal.proofs.journal.places.Goals as goal

pub returns-clause-part : goal.returns-clause-part
returns-clause-part c = λ es is. part_is es c.args.all c.args.from c.min-first.result c.args.most c.min-count.result is c.min-first.ensures c.min-count.ensures
