use Rattle.std.proofs.Common.{sym, ◌∙◌}
use Rattle.session_meaning.proofs.working_copies.RecordLookup.{value_absent}
use Rattle.session_meaning.proofs.working_copy.WorkingCopy.number.Goals as goal

pub number_at-requires : goal.number_at-requires
number_at-requires c = (c.args.id, sym c.place.ensures ∙ c.in-Some.is)

pub returns-in-None-clause-some : goal.returns-in-None-clause-some
returns-in-None-clause-some c = value_absent c.args.self.now c.args.id (sym c.place.ensures ∙ c.in-None.is)
