use Rattle.std.specs.String.{string_bytes}
use Rattle.std.specs.Io.KnownBytes.{append_known}
use Rattle.std.proofs.KnownBytes.{Keeps-refl}
use Rattle.host_files.proofs.outputs.outgoing.Outgoing.write_part.Goals as goal

pub returns-clause-bytes : goal.returns-clause-bytes
returns-clause-bytes g c = Keeps-refl (append_known (g.W.Write.contents c.args.writer.now) (string_bytes c.args.self.now.text))
