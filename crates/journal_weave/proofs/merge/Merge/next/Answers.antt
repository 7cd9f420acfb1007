use Rattle.std.proofs.Common.{◌≡◌, ◌+◌, length, sum, sym, subst}
use Rattle.std.specs.Prelude.{IfOk, IfSome, IfNone}
use Rattle.journal_weave.specs.contracts.key.FrameKeyOrd.TheImpl.{cmp-value}
use Rattle.journal_weave.specs.declared.merge.Merge.{Merge}
use Rattle.journal_weave.specs.refinement.Merging.{AddsEvent, IsWithin}
use Rattle.journal_weave.proofs.Turns.{StuckBetween, stuck_all, all_none}
use Rattle.journal_weave.proofs.merge.Merge.next.Goals.{After-next_among-2}
use Rattle.journal_weave.proofs.merge.Merge.next.Goals as goal

-- none of the first of them goes on: so the merge is as it was
as_it_was : (c : After-next_among-2) → c.next_among.new.self ≡ c.args.self.now
as_it_was c = rw c.in_default.is at c.in_ok-event.ensures.same

pub next_among-requires-2-clause-within : goal.next_among-requires-2-clause-within
next_among-requires-2-clause-within c = subst (IsWithin c.args.replays.now) (sym (rw c.in_default.is at c.in_ok-event.ensures.same)) c.requires.within

pub returns-clause-event : goal.returns-clause-event
returns-clause-event c = subst (λ (m : Merge). IfOk c.next_among-2.result (λ o. IfSome o (AddsEvent cmp-value.it c.args.replays.now m c.next_among-2.new.self))) (as_it_was c) c.next_among-2.ensures.event

pub returns-clause-longer : goal.returns-clause-longer
returns-clause-longer c = subst (λ (m : Merge). IfOk c.next_among-2.result (λ o. IfSome o (λ _. sum c.next_among-2.new.self.at.items ≡ sum m.at.items + 1))) (as_it_was c) c.next_among-2.ensures.longer

pub returns-clause-same : goal.returns-clause-same
returns-clause-same c = subst (λ (m : Merge). IfOk c.next_among-2.result (λ o. IfNone o (c.next_among-2.new.self ≡ m))) (as_it_was c) c.next_among-2.ensures.same

pub returns-clause-stuck : goal.returns-clause-stuck
returns-clause-stuck c =
    let rs = c.args.replays.now in
    let m : Merge = c.args.self.now in
    let after : StuckBetween cmp-value.it rs m c.args.self.now.turn (length rs) = rw c.in_default.is at c.in_ok-event.ensures.stuck in
    all_none c.next_among-2.result (λ before. stuck_all cmp-value.it rs m c.args.self.now.turn after before)
    (subst (λ (x : Merge). IfOk c.next_among-2.result (λ o. IfNone o (StuckBetween cmp-value.it rs x 0 c.args.self.now.turn))) (as_it_was c) c.next_among-2.ensures.stuck)
