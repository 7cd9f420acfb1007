use Rattle.std.proofs.Common.{length}
use Rattle.std.specs.String.{string_bytes}
use Rattle.locked_office.specs.Calls.{Stays}
use Rattle.serving.proofs.Answering.{Given}
use Rattle.serving.proofs.asking.answer_some.Given as goal

-- the first were answered so far
abbrev pub invariant-loop-first : goal.invariant-loop-first
invariant-loop-first g l = record {
  stays : Stays l.desk l.fn.pass l.pass;
  given : Given l.form l.fn.pass.tag l.desk.key l.fn.pass l.pass l.fn.waiting.items l.waiting.items (string_bytes l.fn.text) (string_bytes l.text);
}

abbrev pub decreases-loop-first : goal.decreases-loop-first
decreases-loop-first g l = length l.waiting.items
