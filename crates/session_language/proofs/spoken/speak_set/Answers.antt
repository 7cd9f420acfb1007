use Rattle.std.proofs.Common.{rules}
use Rattle.session_language.proofs.spoken.speak_set.Goals as goal

pub returns-in_default-record_of : goal.returns-in_default-record_of
returns-in_default-record_of c = search rules
