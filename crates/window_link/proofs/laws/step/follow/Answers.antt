use Rattle.std.proofs.Common.{◌≡◌, suc, ◌+◌, ◌-◌, not, is_some, true, sym, ap, ◌∙◌, arith}
use Rattle.window_link.specs.Windows.{next_kept}
use Rattle.window_link.specs.Links.{LinkState}
use Rattle.window_link.specs.Limits.{most_kept}
use Rattle.window_link.specs.refinement.TwoLinksStep.{followed, with_receiving}
use Rattle.window_link.proofs.KeptFollowing.{follow_one, follow_all}
use Rattle.window_link.proofs.laws.step.follow.Goals as goal

pub loop-preserved : goal.loop-preserved
loop-preserved c =
    let l = c.loop.link in
    let there : is_some (next_kept l.receiving) ≡ true = ap is_some (sym c.kept.ensures) ∙ c.is_none.ensures ∙ ap not c.if-is_none.false in
    let more : most_kept - c.loop.counter ≡ suc (most_kept - (c.loop.counter + 1)) = omega (arith, c.loop-test.true) in
    c.loop.invariant
    ∙ ap (with_receiving l) (follow_one l.receiving (most_kept - c.loop.counter) (most_kept - (c.loop.counter + 1)) more there)
    ∙ ap (λ (k : LinkState). with_receiving k (followed (next_kept k.receiving) (most_kept - (c.loop.counter + 1)) k.receiving)) (sym c.accept_kept.ensures)

pub returns : goal.returns
returns c =
    let l = c.loop.link in
    sym (c.loop.invariant ∙ ap (with_receiving l) (follow_all l.receiving (most_kept - c.loop.counter) (omega (arith, c.loop-test.false))))
