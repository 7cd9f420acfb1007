use Rattle.std.proofs.Common.{rules}
use Rattle.host_files.proofs.inputs_lemmas.CutAtLine.{walked_further, cut_here, cut_at_end, uncut}
use Rattle.host_files.proofs.inputs.cut.cut.Goals as goal

pub returns-then-is_cut_line : goal.returns-then-is_cut_line
returns-then-is_cut_line c =
    cut_here c.args.text.now c.loop-line.rest.now c.in-Some.line.now c.in-Some.after.now (search rules) (search rules) c.loop-line.invariant

pub loop-line-preserved : goal.loop-line-preserved
loop-line-preserved c =
    walked_further c.args.text.now c.loop-line.rest.now c.in-Some.line.now c.in-Some.after.now (search rules) (search rules) (search rules) c.loop-line.invariant

pub returns-then-eq : goal.returns-then-eq
returns-then-eq c = cut_at_end c.args.text.now c.loop-line.rest.now (search rules) c.loop-line.invariant

pub returns : goal.returns
returns c = uncut c.args.text.now c.loop-line.rest.now (search rules) (search rules) c.loop-line.invariant
