use Rattle.std.proofs.Common.{◌≡◌, ◌*◌, true, false, length}
use Rattle.std.specs.List.{list_all}
use Rattle.hex.specs.Hex.{is_hex_digit}
use Rattle.journal_texts.proofs.wording_lemmas.HexBlocks.{AreFirst}
use Rattle.journal_texts.proofs.wording.blocks.bytes_by_blocks.Given as goal

-- the blocks so far are digits, and their bytes are written; or they aren't all
abbrev pub invariant-loop-k : goal.invariant-loop-k
invariant-loop-k l = record {
  size : length l.bytes ≡ length l.initial.bytes;
  good : l.all ≡ true → AreFirst l.word l.bytes (8 * l.k);
  bad : l.all ≡ false → list_all is_hex_digit l.word ≡ false;
}
