use Rattle.std.proofs.Common.{◌≡◌, false, true, get_or, sym, ap, subst, ◌∙◌}
use Rattle.journal_weave.specs.ReplayValue.{ReplayValue}
use Rattle.journal_weave.specs.refinement.Standing.{IsLeft}
use Rattle.journal_weave.proofs.Naming.{same_at}
use Rattle.journal_weave.proofs.standing.left_at.Goals as goal

pub returns-then-is_left-clause-stands : goal.returns-then-is_left-clause-stands
returns-then-is_left-clause-stands c =
    let r = c.index-replays-index.result in
    let there : r ≡ get_or c.args.replays.now c.args.a r = c.index-replays-index.is ∙ ap (λ n. get_or c.args.replays.now n r) c.index.ensures in
    (r, (c.requires.office, there), subst (IsLeft r) c.done-done.ensures.count (c.is_left.ensures.0 c.if-is_left.true))

pub returns-clause-none : goal.returns-clause-none
returns-clause-none c stands =
    let r = c.index-replays-index.result in
    let there : r ≡ get_or c.args.replays.now c.args.a r = c.index-replays-index.is ∙ ap (λ n. get_or c.args.replays.now n r) c.index.ensures in
    let at = get_or c.args.merge.now.at.items c.args.a 0 in
    let same = same_at c.args.replays.now c.args.a stands.0 r c.requires.office stands.1.1 there in
    let left = subst (IsLeft r) (sym c.done-done.ensures.count) (subst (λ (x : ReplayValue). IsLeft x at) same stands.2) in
    let bad : false ≡ true = sym c.if-is_left.false ∙ c.is_left.ensures.1 left in
    absurd (cc)
