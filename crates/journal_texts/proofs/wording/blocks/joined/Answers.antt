use Rattle.journal_texts.proofs.wording_lemmas.Lanes.{joins}
use Rattle.journal_texts.proofs.wording.blocks.joined.Goals as goal

pub returns : goal.returns
returns c = joins c.args.values c.fits-values.0
