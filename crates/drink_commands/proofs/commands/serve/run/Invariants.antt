use Rattle.std.specs.Option.{option_copied}
use Rattle.drink_commands.proofs.commands.serve.run.Given as goal

-- the secrets of the office's socket are those that are handed on
abbrev pub ghosts-go_on : goal.ghosts-go_on
ghosts-go_on g a = record { secrets = option_copied a.secrets }
