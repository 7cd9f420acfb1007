use Rattle.std.proofs.Common.{◌≡◌, ◌∷◌, [], ◌++◌, rules}
use Rattle.bottle_values.specs.ListLaws.{mapped_more}
use Rattle.site_core.specs.neighbours.refinement.Slots.{slot_at_start}
use Rattle.site_core.proofs.neighbours.channels.slots_at_start.Goals as goal

pub loop-v-preserved : goal.loop-v-preserved
loop-v-preserved c =
    let same : c.new.result ≡ c.loop-v.v = search rules in
    let is : c.in_ok-slot.slot ≡ slot_at_start c.args.plan.now c.args.me c.new.result = search rules in
    let grown : c.push.new.self.items ≡ c.loop-v.slots.items ++ c.in_ok-slot.slot ∷ [] = search rules in
    mapped_more (slot_at_start c.args.plan.now c.args.me) c.loop-v.v c.new.result c.loop-v.slots.items c.push.new.self.items c.in_ok-slot.slot same c.loop-v.invariant is grown
