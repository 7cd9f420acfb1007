use Rattle.std.proofs.Common.{◌≡◌, length}
use Rattle.std.specs.Vec.Iter.{into_iter_items, into_iter_len}
use Rattle.office_runs.proofs.live_lemmas.Courses.{ToldSoFar}
use Rattle.office_runs.proofs.live.closing.tell_all.Given as goal

-- what came of those before is told
abbrev pub invariant-loop-end : goal.invariant-loop-end
invariant-loop-end g l = ToldSoFar l.form g.S.Wire.tells l.plan l.programs l.journals l.fn.ended.items (into_iter_items l.end-iterator) l.left l.fault l.over l.report
    × (into_iter_len l.end-iterator ≡ length (into_iter_items l.end-iterator))
