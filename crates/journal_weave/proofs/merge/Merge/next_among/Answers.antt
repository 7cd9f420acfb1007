use Rattle.std.proofs.Common.{◌<◌, refl, length, sym, ap, subst, ◌∙◌, arith}
use Rattle.journal_weave.specs.contracts.key.FrameKeyOrd.TheImpl.{cmp-value}
use Rattle.journal_weave.specs.declared.merge.Merge.{Merge}
use Rattle.journal_weave.specs.refinement.Merging.{IsStuck, IsWithin}
use Rattle.journal_weave.proofs.Turns.{stuck_none, stuck_next, goes_as, event_added, kept_within, longer_by_one}
use Rattle.journal_weave.proofs.merge.Merge.next_among.Goals as goal

pub loop-a-init : goal.loop-a-init
loop-a-init c = record { same = refl; stuck = stuck_none cmp-value.it c.args.replays.now c.args.self.now c.args.first c.args.first (omega arith) }

pub next_of-requires : goal.next_of-requires
next_of-requires c = omega (arith, c.new.ensures, c.loop-a-test.true, c.requires.last, c.requires.size, ap (λ (m : Merge). length m.at.items) c.loop-a.invariant.same)

pub loop-a-preserved : goal.loop-a-preserved
loop-a-preserved c =
    let k = c.loop-a.invariant in
    let m : Merge = c.args.self.now in
    let rs = c.args.replays.now in
    let r = c.index-replays-a.result in
    let e = c.in_ok-event.ensures in
    let none = rw c.in_default.is at e.stuck in
    let still = rw c.in_default.is at e.same in
    let lt : c.loop-a.a < length rs = omega (arith, c.loop-a-test.true, c.requires.last) in
    let stuck : IsStuck cmp-value.it rs m c.loop-a.a r = subst (λ n. IsStuck cmp-value.it rs m n r) c.new.ensures (subst (λ (x : Merge). IsStuck cmp-value.it rs x c.new.result r) k.same none) in
    record {
      same = still ∙ k.same;
      stuck = stuck_next cmp-value.it rs m c.args.first c.loop-a.a r lt c.index-replays-a.is stuck k.stuck;
    }

-- ---- the office at that place goes on

pub returns-in-Some-clause-within : goal.returns-in-Some-clause-within
returns-in-Some-clause-within c =
    let rs = c.args.replays.now in
    let m : Merge = c.args.self.now in
    let r = c.index-replays-a.result in
    let g = goes_as cmp-value.it rs _ m c.next_of.new.self _ c.loop-a.a r c.in-Some.event c.loop-a.invariant.same c.new.ensures (rw c.in-Some.is at c.in_ok-event.ensures.goes) in
    kept_within cmp-value.it rs m c.next_of.new.self c.loop-a.a r c.in-Some.event c.requires.size (omega (arith, c.loop-a-test.true, c.requires.last)) c.index-replays-a.is g c.requires.within

pub returns-in-Some-clause-event : goal.returns-in-Some-clause-event
returns-in-Some-clause-event c =
    let rs = c.args.replays.now in
    let m : Merge = c.args.self.now in
    let m' : Merge = record { at = c.next_of.new.self.at; sent = c.next_of.new.self.sent; turn = c.loop-a.a } in
    let r = c.index-replays-a.result in
    let g = goes_as cmp-value.it rs _ m c.next_of.new.self _ c.loop-a.a r c.in-Some.event c.loop-a.invariant.same c.new.ensures (rw c.in-Some.is at c.in_ok-event.ensures.goes) in
    event_added cmp-value.it rs m m' c.loop-a.a r c.in-Some.event c.requires.size (omega (arith, c.loop-a-test.true, c.requires.last)) c.index-replays-a.is (g.0, g.1, g.2, record { at = g.3.at; sent = g.3.sent; is = g.3.is })

pub returns-in-Some-clause-longer : goal.returns-in-Some-clause-longer
returns-in-Some-clause-longer c =
    let rs = c.args.replays.now in
    let m : Merge = c.args.self.now in
    let r = c.index-replays-a.result in
    let g = goes_as cmp-value.it rs _ m c.next_of.new.self _ c.loop-a.a r c.in-Some.event c.loop-a.invariant.same c.new.ensures (rw c.in-Some.is at c.in_ok-event.ensures.goes) in
    longer_by_one cmp-value.it rs m c.next_of.new.self c.loop-a.a r c.in-Some.event c.requires.size (omega (arith, c.loop-a-test.true, c.requires.last)) c.index-replays-a.is g

-- ---- none does

pub returns-clause-same : goal.returns-clause-same
returns-clause-same c = c.loop-a.invariant.same

pub returns-clause-stuck : goal.returns-clause-stuck
returns-clause-stuck c a from to = c.loop-a.invariant.stuck a from (omega (arith, to, c.loop-a-test.false))

pub returns-clause-within : goal.returns-clause-within
returns-clause-within c = subst (IsWithin c.args.replays.now) (sym c.loop-a.invariant.same) c.requires.within
