use Rattle.std.proofs.Common.{◌≡◌, ◌-◌}
use Rattle.own_lock.specs.Passes.{AreFresh}
use Rattle.own_lock.proofs.Dealing.{dealing}
use Rattle.own_lock.proofs.lock.OwnLock.open.Given as goal

abbrev pub invariant-loop-tag : goal.invariant-loop-tag
invariant-loop-tag g l =
    let state = l.opening.state.value in (
    (l.seat.table_id ≡ l.table.shared.table_id)
    × (l.seat.me ≡ dealing g.S.Kept.tag_of (g.S.Kept.key state) (g.S.Kept.entries state) (l.passes - l.tag) l.tag)
    × AreFresh (record { name = l.table.shared.table_id; key = g.S.Kept.key state }) g.S.Kept.tag_of (g.S.Kept.entries state) l.tag l.all.items
    × (l.waiters ≡ l.tag)
    )
