use Rattle.journal_weave.proofs.Naming.{IsFirst, AllWait}
use Rattle.journal_weave.proofs.standing.first_left.Given as goal

-- of the offices so far each that stands waits, and none stands, or the least one that does is known
abbrev pub invariant-loop-a : goal.invariant-loop-a
invariant-loop-a l = record {
  first : IsFirst l.replays l.merge.at.items l.first l.a;
  wait : AllWait l.replays l.merge.at.items l.a;
}
