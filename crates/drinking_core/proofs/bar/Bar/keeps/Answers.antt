use Rattle.std.proofs.Common.{rules}
use Rattle.drinking_core.proofs.bar.Bar.keeps.Goals as goal

pub returns-then-is_drinking : goal.returns-then-is_drinking
returns-then-is_drinking c = search rules
