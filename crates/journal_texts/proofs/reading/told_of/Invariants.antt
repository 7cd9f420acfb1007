use Rattle.std.proofs.Common.{◌+◌, ◌<◌, ◌^◌, length}
use Rattle.text_lines.specs.Text.{statements_from, lines}
use Rattle.journal_texts.proofs.Receiving.{ToldSoFar}
use Rattle.journal_texts.proofs.reading.told_of.Given as goal

abbrev pub invariant-loop-line : goal.invariant-loop-line
invariant-loop-line g l = record {
  fits : l.left.number + length l.left.rest.now < 2 ^ 64;
  told : ToldSoFar l.plan (statements_from l.fn.statements.number (lines l.fn.statements.rest.now)) (statements_from l.left.number (lines l.left.rest.now)) (length l.fn.statements.rest.now) (length l.left.rest.now) l.goes_on
      (g.E.Entries.holds l.told l.plan l.fn.office);
}

abbrev pub decreases-loop-line : goal.decreases-loop-line
decreases-loop-line g l = length l.left.rest.now
