use Rattle.locked_office.proofs.Walk.{HasDone}
use Rattle.locked_office.proofs.advance.do_rules.Given as goal

abbrev pub invariant-loop-done : goal.invariant-loop-done
invariant-loop-done l = HasDone l.tag l.done l.initial.office l.office
