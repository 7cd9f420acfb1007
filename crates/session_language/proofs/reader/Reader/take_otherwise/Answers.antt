use Rattle.std.proofs.Common.{rules}
use Rattle.session_language.proofs.reader.Reader.take_otherwise.Goals as goal

pub returns : goal.returns
returns c = search rules
