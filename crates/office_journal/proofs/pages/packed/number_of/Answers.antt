use Rattle.std.proofs.Common.{subst}
use Rattle.frame_codec.specs.Frame.{IsNumbered}
use Rattle.office_journal.proofs.pages_lemmas.PackedFrames.{numbered_below}
use Rattle.office_journal.proofs.pages.packed.number_of.Goals as goal

pub returns-clause-numbered : goal.returns-clause-numbered
returns-clause-numbered c = subst (IsNumbered c.args.frame.now.msg) c.number.ensures.value c.number.ensures.range

pub returns-clause-range : goal.returns-clause-range
returns-clause-range c = numbered_below c.args.frame.now.msg c.number.result c.number.ensures.range
