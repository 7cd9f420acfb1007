use Rattle.std.proofs.Common.{rules}
use Rattle.session_language.proofs.spoken.judge.Goals as goal

pub returns : goal.returns
returns c = search rules

pub returns-then-not-summary : goal.returns-then-not-summary
returns-then-not-summary c = cc
