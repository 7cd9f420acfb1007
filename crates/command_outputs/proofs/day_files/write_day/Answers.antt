use Rattle.std.proofs.Common.{map, is_some, OnOk, sym, ap, subst, ◌∙◌}
use Rattle.std.specs.Option.{option_copied}
use Rattle.std.specs.String.{string_bytes}
use Rattle.command_outputs.specs.Days.{WritesDay}
use Rattle.command_outputs.proofs.DayFiles.{keeps}
use Rattle.command_outputs.proofs.day_files.write_day.Goals as goal

pub returns-in-Some-clause-written : goal.returns-in-Some-clause-written
returns-in-Some-clause-written g c =
    subst (λ b. OnOk c.write_recorded.result (WritesDay b c.args.plan.now c.args.programs.now (map string_bytes c.args.journals.now) (option_copied c.args.next) (option_copied c.args.left) (g.T.Targets.written c.args.targets.now) (g.T.Targets.written c.write_recorded.new.targets)))
    (sym (ap is_some c.in-Some.is) ∙ c.first_of.ensures) c.write_recorded.ensures.written

pub returns-in-None-clause-written : goal.returns-in-None-clause-written
returns-in-None-clause-written g c =
    subst (λ b. WritesDay b c.args.plan.now c.args.programs.now (map string_bytes c.args.journals.now) (option_copied c.args.next) (option_copied c.args.left) (g.T.Targets.written c.args.targets.now) (g.T.Targets.written c.args.targets.now))
    (sym (ap is_some c.in-None.is) ∙ c.first_of.ensures) (keeps (g.T.Targets.written c.args.targets.now))
