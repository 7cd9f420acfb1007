use Rattle.std.proofs.Common.{◌≡◌, rules}
use Rattle.std.specs.String.{string_bytes}
use Rattle.command_outputs.specs.Journals.{file_name, text_at}
use Rattle.command_outputs.proofs.JournalFiles.{adds_both, named_is}
use Rattle.command_outputs.proofs.journal_files.write_office.Goals as goal

pub returns-in-Ok-clause-written : goal.returns-in-Ok-clause-written
returns-in-Ok-clause-written g c =
    let meant = file_name c.args.folder.now c.args.world.now.plan c.args.office in
    let name : string_bytes c.in_ok-name.name ≡ meant = named_is c.file_name.result c.in_ok-name.name (λ n. string_bytes n ≡ meant) c.in_ok-name.ensures.name (search rules) in
    let text : c.deref.result.now ≡ text_at c.args.world.now c.args.office = search rules in
    adds_both c.write_file.result _ _ _ meant _ (text_at c.args.world.now c.args.office) name text c.write_file.ensures.written
