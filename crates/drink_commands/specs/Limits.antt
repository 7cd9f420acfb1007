-- How long the texts of the inputs may be.
use Rattle.std.specs.Prelude.{ℕ}
use Rattle.office_map.specs.Limits as plans
use Rattle.session_language.specs.Limits as sessions
use Rattle.simulation.specs.scripts.Limits as scripts
use Rattle.serial_command.specs.declared.reading.input.Input.{Input}
use Rattle.serial_command.specs.declared.reading.input.Input.TheVariants.{Plan, Sessions, Script, Journal}

-- the longest text of a journal, in bytes
abbrev pub most_journal : ℕ
most_journal = 4294967295

-- the longest text that each may have, in bytes
abbrev pub limit_of : Input → ℕ
limit_of Plan = plans.most_text
limit_of Sessions = sessions.most_text
limit_of Script = scripts.most_bytes
limit_of (Journal k) = most_journal
