use Rattle.std.proofs.Common.{refl}
use Rattle.journal_texts.proofs.wording_lemmas.Lanes.{are_digits, are_worth}
use Rattle.journal_texts.proofs.wording.blocks.values_of.Goals as goal

pub returns-clause-values : goal.returns-clause-values
returns-clause-values c = are_worth _ _ _ _ c.args.digits c.fits-digits.0 c.fits-digits.1 refl

pub returns-clause-all : goal.returns-clause-all
returns-clause-all c = are_digits _ _ (λ x y. x) _ _ c.args.digits c.fits-digits.0 c.fits-digits.1 refl
