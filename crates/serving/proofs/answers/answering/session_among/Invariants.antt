use Rattle.std.proofs.Common.{◌≡◌, drop, take}
use Rattle.serving.specs.answers.Answers.{session_in}
use Rattle.serving.proofs.answers.answering.session_among.Given as goal

-- no entry before has it
abbrev pub invariant-loop-place : goal.invariant-loop-place
invariant-loop-place l = session_in l.ticket (drop l.place (take l.end l.journal.entries)) ≡ session_in l.ticket (drop l.first (take l.end l.journal.entries))
