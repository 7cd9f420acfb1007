use Rattle.std.proofs.Common.{◌≡◌, ◌≤◌, ◌-◌, ◌++◌, length, take, drop, All}
use Rattle.std.specs.String.{string_bytes}
use Rattle.journal_texts.specs.Written.{lines_of}
use Rattle.journal_texts.specs.refinement.WrittenValues.{EntryReadsBack}
use Rattle.journal_texts.proofs.writing.add_lines.Given as goal

-- the entries so far are written, and read back
abbrev pub invariant-loop-entry : goal.invariant-loop-entry
invariant-loop-entry l = record {
  within : l.fn.from ≤ l.place;
  written : string_bytes l.text ≡ string_bytes l.initial.text ++ lines_of l.plan (take (l.place - l.fn.from) (drop l.fn.from l.journal.entries));
  reads_back : All (EntryReadsBack l.plan) (take (l.place - l.fn.from) (drop l.fn.from l.journal.entries));
}

abbrev pub decreases-loop-entry : goal.decreases-loop-entry
decreases-loop-entry l = length l.journal.entries - l.place
