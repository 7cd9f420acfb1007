use Rattle.std.proofs.Common.{◌≡◌, ◌∙◌, ap, rules}
use Rattle.clap.specs.Words.{App, app_of, with_subcommand}
use Rattle.command_words.specs.CommandLine.{program, some_command, serial_command, sim_command, random_command, run_command, serve_command, live_command, audit_command}
use Rattle.command_words.proofs.Arguments.{both_of, with_command_last}
use Rattle.command_words.proofs.command_line.program.Goals as goal

pub returns : goal.returns
returns c =
    let some_is : app_of c.subcommand_required-program.result ≡ some_command = search rules in
    let serial_is = c.in_ok-program.ensures serial_command (both_of serial_command c.serial.result c.serial.ensures.command c.serial.ensures.local) ∙ ap (λ (a : App). with_subcommand a serial_command.top) some_is in
    let sim_is = c.in_ok-program-2.ensures sim_command (both_of sim_command c.sim.result c.sim.ensures.command c.sim.ensures.local) ∙ ap (λ (a : App). with_subcommand a sim_command.top) serial_is in
    let random_is = c.in_ok-program-3.ensures random_command (both_of random_command c.random.result c.random.ensures.command c.random.ensures.local) ∙ ap (λ (a : App). with_subcommand a random_command.top) sim_is in
    let run_is = c.in_ok-program-4.ensures run_command (both_of run_command c.run.result c.run.ensures.command c.run.ensures.local) ∙ ap (λ (a : App). with_subcommand a run_command.top) random_is in
    let serve_is = c.in_ok-program-5.ensures serve_command (both_of serve_command c.serve.result c.serve.ensures.command c.serve.ensures.local) ∙ ap (λ (a : App). with_subcommand a serve_command.top) run_is in
    let live_is = c.in_ok-program-6.ensures live_command (both_of live_command c.live.result c.live.ensures.command c.live.ensures.local) ∙ ap (λ (a : App). with_subcommand a live_command.top) serve_is in
    with_command_last (app_of c.in_ok-program-6.program) audit_command program c.with_command-7.result c.audit.result c.with_command-7.ensures (both_of audit_command c.audit.result c.audit.ensures.command c.audit.ensures.local)
    (ap (λ (a : App). with_subcommand a audit_command.top) live_is)
