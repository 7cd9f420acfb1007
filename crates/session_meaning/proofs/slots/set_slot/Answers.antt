use Rattle.std.proofs.Common.{rules}
use Rattle.session_meaning.proofs.working_copies.RecordLookup.{set_at, set_none}
use Rattle.session_meaning.proofs.slots.set_slot.Goals as goal

pub returns-in-Some-clause-set : goal.returns-in-Some-clause-set
returns-in-Some-clause-set c = set_at c.args.slots.now.items c.args.id c.in-Some.place c.args.value (search rules)

pub returns-in_default-clause-set : goal.returns-in_default-clause-set
returns-in_default-clause-set c = set_none c.args.slots.now.items c.args.id c.args.value (search rules)
