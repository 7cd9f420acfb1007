use Rattle.std.proofs.Common.{length}
use Rattle.session_programs.specs.measures.Needs.{needs_of}
use Rattle.serial_replay.proofs.replay.ending_on.Goals as goal
use Rattle.serial_replay.proofs.ValueTables as tables

pub returns : goal.returns
returns c = λ m t.
    let g = tables.gathered c.args.values.now (length c.args.values.now) m (needs_of c.args.program.now.body) t c.requires in
    let a = rw c.deref.ensures.value at c.alone.ensures in
    let b = rw c.in_ok-needed.ensures at a in
    let d = rw c.needs.ensures.all at b in
    rw g at d
