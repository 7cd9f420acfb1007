use Rattle.journal_weave.proofs.Pushing.{starts, starts_within}
use Rattle.journal_weave.proofs.merge.Merge.new.Goals as goal

pub returns-clause-merged : goal.returns-clause-merged
returns-clause-merged c rs = starts _ rs _ c.args.offices (c.in_ok-vec.ensures.items_if_clones_equal (λ y same. same)) (c.new.ensures rs)

pub returns-clause-within : goal.returns-clause-within
returns-clause-within c = starts_within _ c.args.offices (c.in_ok-vec.ensures.items_if_clones_equal (λ y same. same))
