use Rattle.std.proofs.Common.{ap, ◌∙◌}
use Rattle.day_audits.specs.ends.DayEnds.{end_map}
use Rattle.day_audits.proofs.ends_lemmas.Offices.{value_more}
use Rattle.day_audits.proofs.ends.worlds.values_of.Goals as goal

pub loop-i-preserved : goal.loop-i-preserved
loop-i-preserved c =
    let w = c.args.world.now in
    value_more c.loop-i.values.items c.loop-i.i (end_map w) c.value_of.result _ c.loop-i.invariant (c.value_of.ensures.serial ∙ ap (end_map w) c.new.ensures) c.in_ok-push.ensures.items
