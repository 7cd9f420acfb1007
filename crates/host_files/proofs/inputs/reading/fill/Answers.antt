use Rattle.std.proofs.Common.{rules}
use Rattle.host_files.proofs.inputs_lemmas.ReadOn.{grows_on}
use Rattle.host_files.proofs.inputs.reading.fill.Goals as goal

pub loop-preserved : goal.loop-preserved
loop-preserved g c =
    let k = c.loop.invariant in (
      grows_on (g.R.Read.remaining c.args.reader.now) (g.R.Read.remaining c.loop.reader) (g.R.Read.remaining c.is_end.new.reader) c.args.bytes.now.items c.loop.bytes.items c.is_end.new.bytes.items k.0 c.in_ok-is_end.ensures.grown,
      search rules,
    )
