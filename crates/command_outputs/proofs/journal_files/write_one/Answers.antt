use Rattle.std.proofs.Common.{◌≡◌}
use Rattle.std.specs.String.{string_bytes}
use Rattle.command_outputs.specs.Journals.{file_name}
use Rattle.command_outputs.proofs.JournalFiles.{adds_named, named_is}
use Rattle.command_outputs.proofs.journal_files.write_one.Goals as goal

pub returns-clause-written : goal.returns-clause-written
returns-clause-written g c =
    let name : string_bytes c.in_ok-name.name ≡ file_name c.args.folder.now c.args.plan.now c.args.office =
    named_is c.file_name.result c.in_ok-name.name (λ n. string_bytes n ≡ file_name c.args.folder.now c.args.plan.now c.args.office) c.in_ok-name.ensures.name c.file_name.ensures in
    adds_named c.write_file.result _ _ _ _ c.args.text.now name c.write_file.ensures.written
