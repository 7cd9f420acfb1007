use Rattle.std.proofs.Common.{map, ap, ◌∙◌, arith}
use Rattle.std.specs.List.{position}
use Rattle.session_meaning.specs.refinement.CopiedSlots.{slot_of}
use Rattle.session_meaning.proofs.working_copies.RecordLookup.{is_in, position_kept}
use Rattle.session_meaning.proofs.working_copies.SortedSlots.{order_kept}
use Rattle.session_meaning.proofs.working_copy.WorkingCopy.set.Goals as goal

pub invariant_of-self : goal.invariant_of-self
invariant_of-self c =
    (λ is_sorted. order_kept c.self.inside.slots.items c.set_slot.new.slots.items c.args.id c.args.value c.set_slot.ensures.set (c.self.invariant.0 is_sorted), c.self.invariant.1, omega (arith, c.self.invariant.2, c.set_slot.ensures.len))

pub returns-clause-set : goal.returns-clause-set
returns-clause-set c = cc

pub returns-clause-places : goal.returns-clause-places
returns-clause-places c = λ r. ap (position (is_in r)) c.set_slot.ensures.set ∙ position_kept (map slot_of c.self.inside.slots.items) c.args.id r c.args.value ∙ ap (position (is_in r)) c.self.view_is
