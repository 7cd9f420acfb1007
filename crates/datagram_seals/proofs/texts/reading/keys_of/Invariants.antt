use Rattle.std.proofs.Common.{◌≡◌, ◌+◌, ◌<◌, ◌^◌, ℕ, List, length, Result}
use Rattle.text_lines.specs.Text.{statements_from, lines}
use Rattle.datagram_seals.specs.declared.texts.fault.SecretRefusal.{SecretRefusal}
use Rattle.datagram_seals.specs.declared.texts.shared.SharedKey.{SharedKey}
use Rattle.datagram_seals.specs.texts.SecretText.{keys_of, read_lines}
use Rattle.datagram_seals.proofs.texts.reading.keys_of.Given as goal

-- what is left, read on the keys so far, is what all of the text is
pub record Reads (left all : Result (List SharedKey) SecretRefusal) (room : ℕ) : Type 0 where
  pub same : left ≡ all
  pub fits : room < 2 ^ 64

abbrev pub invariant-loop-number : goal.invariant-loop-number
invariant-loop-number l = Reads (read_lines l.plan l.keys.items (statements_from l.left.number (lines l.left.rest.now))) (keys_of l.plan l.text) (l.left.number + length l.left.rest.now)

abbrev pub decreases-loop-number : goal.decreases-loop-number
decreases-loop-number l = length l.left.rest.now
