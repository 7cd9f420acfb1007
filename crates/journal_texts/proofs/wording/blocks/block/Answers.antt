use Rattle.journal_texts.proofs.wording_lemmas.Lanes.{written}
use Rattle.journal_texts.proofs.wording.blocks.block.Goals as goal

pub returns-clause-written : goal.returns-clause-written
returns-clause-written c =
    written c.args.word.now c.args.bytes.now _ c.joined.result c.args.at c.values_of-all.result.1 c.requires.within c.requires.even c.requires.twice c.values_of-all.ensures.values c.values_of-all.ensures.all c.joined.ensures
