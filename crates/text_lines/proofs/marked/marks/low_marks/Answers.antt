use Rattle.std.proofs.Common.{arith, ltb, w8}
use Rattle.std.proofs.lemmas.Simd.{bitmask_splat, length-chunk}
use Rattle.std.specs.Simd.Lanes.{chunk}
use Rattle.text_lines.proofs.marked.marks.low_marks.Goals as goal

-- the chunk at the start is what is taken from it
pub returns : goal.returns
returns c = bitmask_splat w8 ltb (chunk 0 64 c.args.text.now) 64 33 (length-chunk 0 64 c.args.text.now (omega (arith, c.requires))) (omega arith)
