use Rattle.std.proofs.Common.{◌≡◌, ◌*◌, ◌-◌, ◌/◌, ◌≤◌, ◌+◌, ℕ, length, sym, ap, ◌∙◌, arith}
use Rattle.hex.specs.Hex.{is_hex_digit}
use Rattle.journal_texts.proofs.wording_lemmas.HexBlocks.{bytes_of_pairs, good_more, not_all_more}
use Rattle.journal_texts.proofs.wording.blocks.bytes_by_blocks.Goals as goal

pub loop-k-preserved : goal.loop-k-preserved
loop-k-preserved c =
    let k : ℕ = c.loop-k.k in
    let word = c.args.word.now in
    record {
      size = c.block-all.ensures.written.size ∙ c.loop-k.invariant.size;
      good = good_more word c.loop-k.bytes c.block-all.new.bytes (16 * k / 2) (8 * k) (8 * (k + 1)) c.loop-k.all c.block-all.result (omega arith) (omega arith) c.block-all.ensures.written c.loop-k.invariant.good;
      bad = not_all_more is_hex_digit word (16 * k) c.loop-k.all c.block-all.result c.loop-k.invariant.bad c.block-all.ensures.digits;
    }

pub returns-clause-bytes : goal.returns-clause-bytes
returns-clause-bytes c = λ h.
    let k : ℕ = c.loop-k.k in
    let word = c.args.word.now in
    let n : ℕ = length word in
    let many : n / 16 ≤ k = omega (arith, c.loop-k-test.false) in
    let size : length c.block.new.bytes ≡ length c.args.bytes.now = c.block.ensures.written.size ∙ c.loop-k.invariant.size in
    bytes_of_pairs word c.block.new.bytes (omega (arith, c.requires.twice, size))
    (good_more word c.loop-k.bytes c.block.new.bytes ((n - 16) / 2) (8 * k) (length c.block.new.bytes) c.loop-k.all c.block.result (omega (arith, many, c.requires.twice, c.requires.long)) (omega (arith, size, c.requires.twice, c.requires.long)) c.block.ensures.written
    c.loop-k.invariant.good h)

pub returns-clause-none : goal.returns-clause-none
returns-clause-none c = not_all_more is_hex_digit c.args.word.now (length c.args.word.now - 16) c.loop-k.all c.block.result c.loop-k.invariant.bad c.block.ensures.digits
