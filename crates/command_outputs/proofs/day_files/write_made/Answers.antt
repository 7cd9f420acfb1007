use Rattle.std.proofs.Common.{◌≡◌, rules}
use Rattle.std.specs.String.{string_bytes}
use Rattle.command_outputs.proofs.JournalFiles.{adds_both, named_is}
use Rattle.command_outputs.proofs.day_files.write_made.Goals as goal

pub returns-in-Ok-clause-written : goal.returns-in-Ok-clause-written
returns-in-Ok-clause-written g c =
    let meant = c.args.name.now in
    let name : string_bytes c.in_ok-name.name ≡ meant = named_is c.from_str.result c.in_ok-name.name (λ n. string_bytes n ≡ meant) c.in_ok-name.ensures.name (search rules) in
    let text : c.deref.result.now ≡ string_bytes c.in-Ok.text = search rules in
    rw c.in-Ok.is (adds_both c.write_file.result _ _ _ meant _ (string_bytes c.in-Ok.text) name text c.write_file.ensures.written)
