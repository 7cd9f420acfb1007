use Rattle.std.proofs.Common.{rules}
use Rattle.drinking_core.proofs.bar.Bar.drink.Goals as goal

pub returns : goal.returns
returns c = record { not_now = search rules; done = search rules; unchanged = search rules }

pub returns-then-not-may_drink : goal.returns-then-not-may_drink
returns-then-not-may_drink c = record { not_now = search rules; done = search rules; unchanged = search rules }
