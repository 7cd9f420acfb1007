use Rattle.std.proofs.Common.{rules}
use Rattle.text_lines.proofs.names.is_longer_name.Goals as goal

pub returns-then-has_name_bytes : goal.returns-then-has_name_bytes
returns-then-has_name_bytes c = search rules
