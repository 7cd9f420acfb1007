use Rattle.std.proofs.Common.{◌≡◌, ◌≤◌, false, true, length, sym, ◌∙◌, arith}
use Rattle.journal_weave.specs.refinement.Standing.{WaitsIn}
use Rattle.journal_weave.proofs.Naming.{named_first, named_waiting, first_none, passed, chosen, wait_more}
use Rattle.journal_weave.proofs.standing.first_left.Goals as goal

pub loop-a-init : goal.loop-a-init
loop-a-init c = record { first = first_none c.args.replays.now c.args.merge.now.at.items; wait = λ b lt. absurd (omega (arith, lt)) }

-- it doesn't stand
pub loop-a-preserved-in_default : goal.loop-a-preserved-in_default
loop-a-preserved-in_default c =
    let k = c.loop-a.invariant in
    let rs = c.args.replays.now in
    let at = c.args.merge.now.at.items in
    let free = c.in_default.ensures.none in
    record {
      first = passed rs at c.loop-a.first c.loop-a.a c.new-office.result c.new-office.ensures free k.first;
      wait = wait_more rs at c.loop-a.a c.new-office.result c.new-office.ensures (λ s. absurd (free s)) k.wait;
    }

-- it stands, and waits
pub loop-a-preserved : goal.loop-a-preserved
loop-a-preserved c =
    let k = c.loop-a.invariant in
    let rs = c.args.replays.now in
    let at = c.args.merge.now.at.items in
    record {
      first = chosen rs at c.loop-a.first c.or-first.result c.loop-a.a c.new-office.result c.in-Some.entry c.new-office.ensures c.in-Some.ensures.stands c.in-Some.ensures.next c.or-first.ensures k.first;
      wait = wait_more rs at c.loop-a.a c.new-office.result c.new-office.ensures (λ s. c.waits.ensures.0 c.if-not-waits.false) k.wait;
    }

pub returns-then-not-waits : goal.returns-then-not-waits
returns-then-not-waits c =
    let k = c.loop-a.invariant in
    let rs = c.args.replays.now in
    let at = c.args.merge.now.at.items in
    let free : WaitsIn rs at c.new-office.result → ⊥ = λ w. let bad : false ≡ true = sym c.if-not-waits.true ∙ c.waits.ensures.1 w in absurd (cc) in
    named_first rs at c.new-office.result c.in-Some.entry c.in-Some.ensures.stands c.in-Some.ensures.next free (λ b lt s. k.wait b (omega (arith, lt, c.new-office.ensures)) s)

pub returns : goal.returns
returns c =
    let k = c.loop-a.invariant in
    let all : length c.args.replays.now ≤ c.loop-a.a = omega (arith, c.loop-a-test.false) in
    named_waiting c.args.replays.now c.args.merge.now.at.items c.loop-a.first c.loop-a.a all k.first.none k.first.stands k.first.next k.wait k.first.least
