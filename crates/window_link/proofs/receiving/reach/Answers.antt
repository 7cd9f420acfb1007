use Rattle.std.proofs.Common.{ap, ◌∙◌, arith}
use Rattle.window_link.specs.Limits.{most_kept}
use Rattle.window_link.specs.refinement.Places.{filled}
use Rattle.window_link.proofs.KeptPlaces.{filled-push}
use Rattle.window_link.proofs.receiving.reach.Goals as goal

pub loop-preserved : goal.loop-preserved
loop-preserved c =
    let ks = c.loop.ahead.items in (
      ap (filled most_kept) c.push.ensures.items ∙ filled-push most_kept ks (omega (arith, c.loop.invariant.1, c.loop-test.true, c.requires.near)) ∙ c.loop.invariant.0,
      omega (arith, c.push.ensures.len, c.loop.invariant.1),
      omega (arith, c.loop.invariant.2),
      omega (arith, c.loop-test.true, c.loop.invariant.3),
    )
