use Rattle.std.proofs.Common.{◌≡◌, ℕ, ◌+◌, length, map, ap, ◌∙◌, arith}
use Rattle.std.specs.List.{range_with_len}
use Rattle.bottle_values.specs.ListLaws.{mapped_more}
use Rattle.locked_office.specs.Calls.{Key}
use Rattle.office_runs.proofs.live.live.open_all.Goals as goal

pub loop-k-preserved : goal.loop-k-preserved
loop-k-preserved g c =
    let fewer : length c.first_socket.new.sockets.items + 1 ≡ length c.loop-k.sockets.items = c.in-Some.ensures.some in
    let left : length c.loop-k.sockets.items + c.loop-k.k ≡ length c.args.plan.now.offices = c.loop-k.invariant.left in
    let of : ℕ → Key = λ me. (c.args.plan.now, me) in
    record {
      left = omega (arith, fewer, left);
      keys = mapped_more of c.loop-k.k c.new-me.result c.loop-k.crews.items c.push.new.self.items c.in_ok-crew.crew c.new-me.ensures c.loop-k.invariant.keys c.in_ok-crew.ensures.key c.in_ok-push.ensures.items;
    }

pub returns : goal.returns
returns g c =
    let left : length c.loop-k.sockets.items + c.loop-k.k ≡ length c.args.plan.now.offices = c.loop-k.invariant.left in
    let end : c.offices-k-end.result ≡ length c.args.plan.now.offices = c.offices-k-end.ensures.count in
    let test = c.loop-k-test.false in
    let all : c.loop-k.k ≡ length c.args.plan.now.offices = omega (arith, left, end, test) in
    let of : ℕ → Key = λ me. (c.args.plan.now, me) in
    record { keys = c.loop-k.invariant.keys ∙ ap (λ n. map of (range_with_len 0 n)) all }
