use Rattle.std.proofs.Common.{map, take}
use Rattle.std.specs.String.{string_bytes}
use Rattle.day_audits.specs.audit.Following.{Gathers}
use Rattle.day_audits.proofs.audit.texts.gathered.Given as goal

abbrev pub invariant-loop-text : goal.invariant-loop-text
invariant-loop-text l = Gathers l.plan (map string_bytes (take l.text-index l.texts)) l.journals
