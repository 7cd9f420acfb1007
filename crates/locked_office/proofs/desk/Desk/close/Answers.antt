use Rattle.std.proofs.Common.{◌≡◌, ap, subst}
use Rattle.std.specs.Prelude.{IfSome}
use Rattle.locked_office.specs.Calls.{Key}
use Rattle.locked_office.proofs.desk.Desk.close.Goals as goal

pub returns-clause-mine : goal.returns-clause-mine
returns-clause-mine c = c.close.ensures.mine

pub returns-clause-begins : goal.returns-clause-begins
returns-clause-begins c = c.close.ensures.begins

pub returns-clause-legal : goal.returns-clause-legal
returns-clause-legal c = c.close.ensures.fits

pub returns-clause-key : goal.returns-clause-key
returns-clause-key c = subst (λ (k : Key). IfSome c.close.result (λ o. (o.plan, o.me) ≡ k)) (ap (λ d. d.key) c.self.view_is) c.close.ensures.key
