use Rattle.std.specs.Option.{option_copied}
use Rattle.drink_commands.proofs.commands.run.run.Given as goal

-- the secrets of the office's socket are those that are handed on
abbrev pub ghosts-run_at : goal.ghosts-run_at
ghosts-run_at g a = record { secrets = option_copied a.secrets }
