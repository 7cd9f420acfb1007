use Rattle.std.proofs.Common.{◌≡◌, ℕ, ◌+◌, ◌*◌, subst, arith}
use Rattle.socket_pump.specs.Last.{last_of}
use Rattle.socket_pump.proofs.Marking.{MarkedBelow, all_marked, others_stay}
use Rattle.socket_pump.proofs.last.Lasts.mark.Goals as goal

pub returns-clause-this : goal.returns-clause-this
unfolding last_of
returns-clause-this c =
    let l = c.loop-i in
    let end : l.i ≡ c.args.v * 18 + 18 = omega arith in
    λ n. all_marked c.args.self.now.slots l.self.slots c.args.v n (subst (λ (i : ℕ). MarkedBelow c.args.self.now.slots l.self.slots c.args.v i) end l.invariant.marked)

pub returns-clause-others : goal.returns-clause-others
unfolding last_of
returns-clause-others c =
    let l = c.loop-i in
    let end : l.i ≡ c.args.v * 18 + 18 = omega arith in
    λ u n ne. others_stay c.args.self.now.slots l.self.slots c.args.v u n ne (subst (λ (i : ℕ). MarkedBelow c.args.self.now.slots l.self.slots c.args.v i) end l.invariant.marked)
