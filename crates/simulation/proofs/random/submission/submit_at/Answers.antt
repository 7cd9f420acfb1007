use Rattle.std.proofs.Common.{Ok, map, take, sym, ap, subst}
use Rattle.std.specs.Prelude.{All}
use Rattle.simulation.specs.random.Runs.{IsRefused, Leads}
use Rattle.simulation.proofs.random_lemmas.Running.{submits, stays, still_before, one_more_refused}
use Rattle.simulation.proofs.random_lemmas.Refusals.{after_submission}
use Rattle.simulation.proofs.random.submission.submit_at.Goals as goal

pub returns-then-branch-clause-leads : goal.returns-then-branch-clause-leads
returns-then-branch-clause-leads c = λ loss.
    let xs = c.args.waiting.now.items in
    let here = ap (λ p. p.now) c.index.ensures in
    subst (λ ys. Leads loss 0 c.args.world.now c.is_taken.new.world (map (λ p. p.now) xs) (map (λ p. p.now) ys)) (sym c.remove.ensures.items)
    (submits (λ p. p.now) c.args.world.now c.is_taken.new.world xs c.args.place c.index.result.now c.index.result.now.now c.requires here
    (c.in_ok-is_taken.ensures.accepted (ap Ok c.if-branch.true)) (c.in_ok-is_taken.ensures.taken (ap Ok c.if-branch.true)) loss)

pub returns-then-branch-clause-refused : goal.returns-then-branch-clause-refused
returns-then-branch-clause-refused c = λ before.
    let xs = c.args.waiting.now.items in
    let p = c.index.result.now.now in
    let w = c.is_taken.new.world in
    let still = subst (λ v. All (IsRefused v) (map (λ q. q.now) (take c.args.place xs))) (sym (c.in_ok-is_taken.ensures.taken (ap Ok c.if-branch.true))) (after_submission c.args.world.now p.office p (map (λ q. q.now) (take c.args.place xs)) before) in
    subst (λ ys. All (IsRefused w) (map (λ q. q.now) (take c.args.place ys))) (sym c.remove.ensures.items) (still_before (λ q. q.now) w xs c.args.place still)

pub returns-clause-leads : goal.returns-clause-leads
returns-clause-leads c = λ loss.
    let w = c.args.world.now in
    let xs = map (λ p. p.now) c.args.waiting.now.items in
    subst (λ v. Leads loss 0 w v xs xs) (sym (c.in_ok-is_taken.ensures.unchanged (ap Ok c.if-branch.false))) (stays loss w xs)

pub returns-clause-refused : goal.returns-clause-refused
returns-clause-refused c = λ before.
    let xs = c.args.waiting.now.items in
    let w = c.is_taken.new.world in
    let here = ap (λ p. p.now) c.index.ensures in
    let still = subst (λ v. All (IsRefused v) (map (λ p. p.now) (take c.args.place xs))) (sym (c.in_ok-is_taken.ensures.unchanged (ap Ok c.if-branch.false))) before in
    one_more_refused (λ p. p.now) w xs c.args.place c.index.result.now c.requires still (subst (IsRefused w) here (c.in_ok-is_taken.ensures.refused (ap Ok c.if-branch.false)))
