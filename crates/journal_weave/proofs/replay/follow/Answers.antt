use Rattle.std.proofs.Common.{◌≡◌, ℕ, ◌+◌, true, ◌++◌, ◌∷◌, [], take, sym, ap, subst, ◌∙◌, arith}
use Rattle.std.proofs.lemmas.List.{take_more, take_all}
use Rattle.journal_weave.specs.Replays.{IsReplay}
use Rattle.journal_weave.proofs.replay.follow.Goals as goal

pub loop-entry-init : goal.loop-entry-init
loop-entry-init c plan a h = h

pub loop-entry-preserved : goal.loop-entry-preserved
loop-entry-preserved c plan a h =
    let es = c.args.entries.now in
    let i : ℕ = c.loop-entry.entry-index in
    let x = c.entry-item.result in
    let next : take (i + 1) es ≡ take i es ++ x ∷ [] = take_more es i x c.loop-entry-test.true ∙ ap (λ y. take i es ++ y ∷ []) (sym c.entry-item.is) in
    subst (λ l. IsReplay plan a l true c.add.new.self) (sym next) (c.in_ok-add.ensures plan a (take i es) (c.loop-entry.invariant plan a h))

pub returns : goal.returns
returns c plan a h =
    let es = c.args.entries.now in
    let i : ℕ = c.loop-entry.entry-index in
    let all : take i es ≡ es = take_all i es (omega (arith, c.loop-entry-test.false)) in
    subst (λ l. IsReplay plan a l true c.loop-entry.replay) all (c.loop-entry.invariant plan a h)
