use Rattle.std.proofs.Common.{◌++◌, ◌∷◌, [], map, sym, ap, subst, ◌∙◌, arith}
use Rattle.journal_weave.specs.contracts.key.FrameKeyOrd.TheImpl.{cmp-value}
use Rattle.journal_weave.specs.Replays.{given}
use Rattle.journal_weave.specs.refinement.Finishers.{finishes_at}
use Rattle.journal_weave.specs.refinement.Merging.{IsAtEnd}
use Rattle.journal_weave.proofs.Ending.{sum_le}
use Rattle.journal_weave.proofs.Finishing.{finishers_more}
use Rattle.journal_weave.proofs.weaving.finishes.Goals as goal

pub loop-merge-init : goal.loop-merge-init
loop-merge-init c = record {
  size = c.in_ok-merge.ensures.size ∙ c.offices.ensures.count ∙ sym c.requires.one_each;
  turn = omega (arith, c.in_ok-merge.ensures.turn, c.offices.ensures.count, c.requires.one_each);
  within = c.in_ok-merge.ensures.within c.args.replays.now;
  events = [];
  noted = sym c.requires.empty;
  merged = λ told follow. c.in_ok-merge.ensures.merged c.args.replays.now c.args.plan.now told;
}

pub next-requires-clause-few : goal.next-requires-clause-few
next-requires-clause-few c = omega (arith, c.requires.one_each, c.offices.ensures.count, c.offices.ensures.few)

pub loop-merge-preserved : goal.loop-merge-preserved
loop-merge-preserved c =
    let k = c.loop-merge.invariant in
    let e = c.in_ok-event.ensures in
    let x = c.in-Some.event in
    let goes = rw c.in-Some.is at e.event in
    record {
      size = e.size ∙ k.size;
      turn = e.turn;
      within = e.within;
      events = k.events ++ x ∷ [];
      noted = finishers_more k.events x ∙ ap (λ l. l ++ finishes_at x) k.noted ∙ sym c.in_ok-note.ensures;
      merged = λ told follow. goes c.args.plan.now told k.events c.requires.one_each follow (k.merged told follow);
    }

pub loop-merge-smaller : goal.loop-merge-smaller
loop-merge-smaller c =
    let longer = rw c.in-Some.is at c.in_ok-event.ensures.longer in
    let most = sum_le c.next.new.self.at.items (map given c.args.replays.now) c.in_ok-event.ensures.within in
    omega (arith, longer, most)

pub returns-clause-end : goal.returns-clause-end
returns-clause-end c =
    let k = c.loop-merge.invariant in
    let same = rw c.in_default.is at c.in_ok-event.ensures.same in
    let stuck = rw c.in_default.is at c.in_ok-event.ensures.stuck in (
      k.events,
      k.noted,
      subst (λ m. IsAtEnd cmp-value.it c.args.replays.now c.args.plan.now m k.events) (sym same) (record { within = k.within; merged = k.merged; stuck = stuck }),
    )
