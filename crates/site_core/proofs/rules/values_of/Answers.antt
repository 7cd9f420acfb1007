use Rattle.drinking_core.specs.refinement.Bars.{drinker_of}
use Rattle.site_core.specs.Offices.{value_in}
use Rattle.site_core.proofs.SessionsAreOurs.{one_read_more}
use Rattle.site_core.proofs.rules.values_of.Goals as goal

pub loop-r-preserved : goal.loop-r-preserved
loop-r-preserved c =
    one_read_more (value_in (drinker_of c.args.bar.now)) c.args.needs.now c.loop-r.r-index c.r-item.result c.r-item.result c.loop-r.reads c.push.new.self c.value_of-value.result c.loop-r-test.true c.r-item.is c.value_of-value.ensures c.loop-r.invariant c.in_ok-push.ensures.pushed
